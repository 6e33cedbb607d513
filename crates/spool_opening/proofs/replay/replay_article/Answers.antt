use Rattle.std.proofs.Common.{◌≡◌, ◌+◌, ℕ, List, ap, arith, length, refl, sym, ◌∙◌}
use Rattle.model.specs.Article.{id}
use Rattle.model.specs.Files.{table}
use Rattle.model.specs.declared.change.Filing.{Filing}
use Rattle.spool_index.specs.Kept.{lengths_of}
use Rattle.spool_index.proofs.Callers.{few_groups}
use Rattle.spool_opening.proofs.Filed.{all_of_text, article_replayed, bounded, ends_below, filed_here, may_of_text}
use Rattle.spool_opening.proofs.Filed.{no_cause_there, same_groups, sizes_of_text}
use Rattle.spool_opening.proofs.replay.replay_article.Goals as goal

pub returns-in-Err-Bad-clause-damaged : goal.returns-in-Err-Bad-clause-damaged
returns-in-Err-Bad-clause-damaged g c =
    λ e S is may all. no_cause_there _ _ may.carried (c.in-Err-Bad.ensures.bad c.in-Err-Bad.field-0-0 c.in-Err-Bad.field-0-is)

pub line_sizes-requires-clause-bounded : goal.line_sizes-requires-clause-bounded
line_sizes-requires-clause-bounded g c =
    let its = c.requires.replayed in
    bounded c.args.host.now c.args.inodes (g.B.Blocks.blocks c.args.blocks.now) c.args.replay.now.index c.args.replay.now.places its.changes
    c.requires.room c.requires.rule its.replayed (omega (arith, its.few))

pub returns-in_default-clause-damaged : goal.returns-in_default-clause-damaged
returns-in_default-clause-damaged g c = λ e S is may all.
    let f : Filing = record { text = c.in-Ok.article; envelope = c.args.envelope } in
    let text : c.in-Ok.article ≡ c.args.text.now = c.in-Ok.ensures.ok in
    let filed = c.as_slice-filed.ensures.value ∙ c.in_ok-here.ensures.here S is in
    let same = same_groups c.args.host.now S f c.as_slice-filed.result.now filed
    (may_of_text c.args.host.now S c.args.text.now c.in-Ok.article c.args.envelope (sym text) may) in
    let none = rw c.in_default.is at c.in_ok-sizes.ensures.lines in
    none S is (ap (λ (n : ℕ). n + 1) (c.len-count.ensures S is)) (filed_here S c.in-Ok.article c.as_slice-filed.result.now filed)
    (all_of_text (table c.args.inodes (g.B.Blocks.blocks c.args.blocks.now)) S c.args.text.now c.in-Ok.article c.args.envelope.groups
    c.as_slice-filed.result.now (sym text) (sym same) all)

pub push_article-requires-clause-few : goal.push_article-requires-clause-few
push_article-requires-clause-few g c =
    let its = c.requires.replayed in
    let S = its.changes in
    let is = its.replayed.indexed in
    let filed = c.as_slice-filed.ensures.value ∙ c.in_ok-here.ensures.here S is in
    let may = c.in_ok-here.ensures.ok S is (ap (λ (n : ℕ). n + 1) (c.len-count.ensures S is)) in
    few_groups c.args.host.now S (record { text = c.in-Ok.article; envelope = c.args.envelope }) may

pub push_article-requires-clause-sizes : goal.push_article-requires-clause-sizes
push_article-requires-clause-sizes g c =
    let its = c.requires.replayed in
    let S = its.changes in
    let is = its.replayed.indexed in
    let filed = c.as_slice-filed.ensures.value ∙ c.in_ok-here.ensures.here S is in
    let may = c.in_ok-here.ensures.ok S is (ap (λ (n : ℕ). n + 1) (c.len-count.ensures S is)) in
    let same = same_groups c.args.host.now S (record { text = c.in-Ok.article; envelope = c.args.envelope })
    c.as_slice-filed.result.now filed may in
    let small = rw c.in-Some.is at c.in_ok-sizes.ensures.small in
    omega (
      arith,
      ap (λ (ns : List ℕ). length ns) c.as_slice-lines.ensures.value,
      small.0,
      ap (λ (gs : List (List ℕ)). length gs) same,
    )

pub push_article-requires-clause-fits : goal.push_article-requires-clause-fits
push_article-requires-clause-fits g c =
    let its = c.requires.replayed in
    ends_below c.args.replay.now.index
    (bounded c.args.host.now c.args.inodes (g.B.Blocks.blocks c.args.blocks.now) c.args.replay.now.index c.args.replay.now.places
    its.changes c.requires.room c.requires.rule its.replayed (omega (arith, its.few)))

pub returns-clause-ok : goal.returns-clause-ok
returns-clause-ok g c = λ R replayed its.
    let blocks = g.B.Blocks.blocks c.args.blocks.now in
    let is = replayed.indexed in
    let e = c.args.envelope in
    let text : c.in-Ok.article ≡ c.args.text.now = c.in-Ok.ensures.ok in
    let serial = ap (λ (n : ℕ). n + 1) (c.len-count.ensures R is) in
    let filed = c.as_slice-filed.ensures.value ∙ c.in_ok-here.ensures.here R is in
    let may = c.in_ok-here.ensures.ok R is serial in
    let same = same_groups c.args.host.now R (record { text = c.in-Ok.article; envelope = e }) c.as_slice-filed.result.now filed may in
    let may_text = may_of_text c.args.host.now R c.in-Ok.article c.args.text.now e text may in
    let lines = rw c.in-Some.is at c.in_ok-sizes.ensures.lines in
    let both = lines R is serial (filed_here R c.in-Ok.article c.as_slice-filed.result.now filed) in
    let indexed = c.in_ok-push_article.ensures.ok c.args.host.now R c.args.text.now may_text (c.id_of-id.ensures ∙ ap id text)
    (c.lengths_of-lengths.ensures ∙ ap lengths_of text)
    (sizes_of_text R c.in-Ok.article c.args.text.now c.as_slice-filed.result.now e.groups c.in-Some.sizes.items
    c.as_slice-lines.result.now text same c.as_slice-lines.ensures.value both.1) is in
    article_replayed c.args.host.now c.args.inodes blocks R c.args.replay.now.index c.push_article.new.self c.args.replay.now.places
    c.push_change.new.self c.args.place (record { text = c.args.text.now; envelope = e }) c.requires.rule replayed its may_text
    (all_of_text (table c.args.inodes blocks) R c.in-Ok.article c.args.text.now c.as_slice-filed.result.now e.groups text same both.0)
    indexed c.in_ok-push_change.ensures.ok
