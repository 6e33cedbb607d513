use Rattle.std.proofs.Common.{◌≡◌, ℕ, ◌+◌, List, [], ◌∷◌, ◌++◌, get_or, length, ◌∙◌, sym, subst, ap, arith, refl}
use Rattle.std.proofs.lemmas.List.{get_or_default}
use Rattle.model.specs.Stream.{Octets}
use Rattle.model.specs.Lawful.{MayFile}
use Rattle.model.specs.Records.{article_record}
use Rattle.model.specs.Files.{table}
use Rattle.model.specs.Spool.{news_article}
use Rattle.model.specs.SpoolFiles.{article_name}
use Rattle.model.specs.declared.change.Change.{Change}
use Rattle.model.specs.declared.change.Change.TheVariants.{Article}
use Rattle.model.specs.declared.change.Envelope.{Envelope}
use Rattle.model.specs.declared.change.Filing.{Filing}
use Rattle.model.proofs.Asking.{here_short}
use Rattle.model.proofs.HoldsOne.{carried_size}
use Rattle.fs.specs.Calls.{IsThere}
use Rattle.spool_groups.specs.Filing.{AreLineSizes}
use Rattle.spool_index.specs.View.{Indexes}
use Rattle.spool_index.specs.Viewed.{place_of}
use Rattle.spool_index.proofs.Callers.{few_groups, overviews_end}
use Rattle.spool_growing.specs.Articles.{CanFile}
use Rattle.spool_growing.proofs.Adding.{filed_here, none_for_pack, pieces_count, pieces_may_grow}
use Rattle.spool_growing.proofs.Filed.{article_staged, lacks_article}
use Rattle.spool_growing.proofs.Ready.{few_changes, free_seen, held_seen, known_seen, pieces_seen, room_seen, short_record}
use Rattle.spool_growing.proofs.Touched.{article_touches}
use Rattle.spool_growing.proofs.growing.stage_article.Goals as goal

pub overflow_add-serial : goal.overflow_add-serial
overflow_add-serial c = omega (arith, c.len-serial.ensures c.requires.changes c.requires.kept.indexed, few_changes c.requires)

pub article_record-requires-clause-text : goal.article_record-requires-clause-text
article_record-requires-clause-text c =
    omega (arith, carried_size c.args.article.now c.requires.may.carried, ap (λ (o : Octets). length o) c.text-text.ensures)

pub article_record-requires-clause-count : goal.article_record-requires-clause-count
article_record-requires-clause-count c =
    omega (arith, few_groups c.requires.host c.requires.changes _ c.requires.may)

pub article_record-requires-clause-names : goal.article_record-requires-clause-names
article_record-requires-clause-names c = λ k d low.
    let ready = c.requires in
    let groups = c.args.envelope.now.groups in
    let g = get_or groups k d in
    let here = filed_here ready.host ready.changes _ g ready.may (k, low, get_or_default groups k g d low) in
    omega (arith, here_short ready.host ready.changes g ready.kept.is.held.lawful here)

pub lines_of-requires : goal.lines_of-requires
lines_of-requires c =
    let ready = c.requires in
    let k = c.args.kept.now in
    subst (λ (gs : List Octets). CanFile k.index k.places c.args.article.now gs) (sym c.as_slice-groups.ensures)
    (record {
      host = ready.host;
      inodes = k.inodes;
      blocks = k.volume.cache;
      changes = ready.changes;
      envelope = c.args.envelope.now;
      is = ready.kept.is;
      indexed = ready.kept.indexed;
      placed = ready.kept.placed;
      may = ready.may;
    })

pub file_article-requires-clause-room : goal.file_article-requires-clause-room
file_article-requires-clause-room c = (held_seen c.requires).room

pub file_article-requires-clause-rule : goal.file_article-requires-clause-rule
file_article-requires-clause-rule c = (held_seen c.requires).held.held.rule

pub file_article-requires-clause-short : goal.file_article-requires-clause-short
file_article-requires-clause-short c =
    let serial : c.len-serial.result ≡ length c.requires.changes = c.len-serial.ensures c.requires.changes c.requires.kept.indexed in
    short_record c.requires c.deref.result.now (c.deref.ensures.value ∙ c.in_ok-octets.ensures
    ∙ (λ i. article_record (news_article (serial i + 1) (record { text = c.text-text.ensures i; envelope = c.args.envelope.now }))))

pub file_article-requires-clause-lacks : goal.file_article-requires-clause-lacks
file_article-requires-clause-lacks c =
    let k = c.args.kept.now in
    subst (λ (n : ℕ). ¬ (IsThere (table k.inodes k.volume.seen) (article_name (n + 1))))
    (sym (c.len-serial.ensures c.requires.changes c.requires.kept.indexed))
    (lacks_article c.requires.host k.inodes k.volume.seen c.requires.changes (held_seen c.requires))

pub file_article-requires-clause-free : goal.file_article-requires-clause-free
file_article-requires-clause-free c = free_seen c.requires

pub file_article-requires-clause-known : goal.file_article-requires-clause-known
file_article-requires-clause-known c = known_seen c.requires

pub file_article-requires-clause-grow : goal.file_article-requires-clause-grow
file_article-requires-clause-grow c =
    let ready = c.requires in
    let k = c.args.kept.now in
    let filing : Filing = record { text = c.args.article.now; envelope = c.args.envelope.now } in
    pieces_may_grow ready.host k.inodes k.volume.seen ready.changes filing c.deref-2.result.now (held_seen ready) ready.may
    (room_seen ready) (pieces_seen ready.kept filing c.len-serial.result c.as_slice-groups.result.now _ c.deref-2.result.now
    c.len-serial.ensures c.as_slice-groups.ensures c.deref-2.ensures.value c.in_ok-lines.ensures.pieces)

pub file_article-requires-clause-apart : goal.file_article-requires-clause-apart
file_article-requires-clause-apart c =
    let ready = c.requires in
    let k = c.args.kept.now in
    let filing : Filing = record { text = c.args.article.now; envelope = c.args.envelope.now } in
    none_for_pack (table k.inodes k.volume.seen) ready.changes filing.text filing.envelope.groups c.deref-2.result.now
    (pieces_seen ready.kept filing c.len-serial.result c.as_slice-groups.result.now _ c.deref-2.result.now
    c.len-serial.ensures c.as_slice-groups.ensures c.deref-2.ensures.value c.in_ok-lines.ensures.pieces)

pub file_article-requires-clause-few : goal.file_article-requires-clause-few
file_article-requires-clause-few c =
    let ready = c.requires in
    let k = c.args.kept.now in
    let filing : Filing = record { text = c.args.article.now; envelope = c.args.envelope.now } in
    omega (
      arith,
      pieces_count (table k.inodes k.volume.seen) ready.changes filing.text filing.envelope.groups c.deref-2.result.now
          (pieces_seen ready.kept filing c.len-serial.result c.as_slice-groups.result.now _ c.deref-2.result.now
          c.len-serial.ensures c.as_slice-groups.ensures c.deref-2.ensures.value c.in_ok-lines.ensures.pieces),
      few_groups ready.host ready.changes filing ready.may,
    )

pub push_article-requires-clause-few : goal.push_article-requires-clause-few
push_article-requires-clause-few c =
    omega (
      arith,
      few_groups c.requires.host c.requires.changes _ c.requires.may,
      ap (λ (e : Envelope). length e.groups) c.in_ok-stored.ensures,
    )

pub push_article-requires-clause-sizes : goal.push_article-requires-clause-sizes
push_article-requires-clause-sizes c =
    omega (
      arith,
      ap (λ (ns : List ℕ). length ns) c.deref-3.ensures.value,
      c.in_ok-lines.ensures.count,
      ap (λ (gs : List Octets). length gs) c.as_slice-groups.ensures,
      ap (λ (e : Envelope). length e.groups) c.in_ok-stored.ensures,
    )

pub push_article-requires-clause-fits : goal.push_article-requires-clause-fits
push_article-requires-clause-fits c =
    let ready = c.requires in
    let k = c.args.kept.now in
    overviews_end ready.host k.inodes k.volume.cache ready.changes k.index ready.kept.is.held ready.kept.indexed

pub lengths_of-lengths-requires : goal.lengths_of-lengths-requires
lengths_of-lengths-requires c = c.requires.may.carried

pub returns-clause-staged : goal.returns-clause-staged
returns-clause-staged c =
    let ready = c.requires in
    let k = c.args.kept.now in
    let its = c.in_ok-at.ensures in
    let filing : Filing = record { text = c.args.article.now; envelope = c.args.envelope.now } in
    let serial = c.len-serial.result + 1 in
    let serials = λ (S : List Change) (indexed : Indexes S k.index). ap (λ (n : ℕ). n + 1) (c.len-serial.ensures S indexed) in
    let says : c.deref.result.now ≡ article_record (news_article serial filing) =
    c.deref.ensures.value ∙ c.in_ok-octets.ensures
    ∙ ap (λ (o : Octets). article_record (news_article serial (record { text = o; envelope = c.args.envelope.now }))) c.text-text.ensures in
    let touches = article_touches ready.host k.inodes k.volume.seen ready.changes filing (held_seen ready) ready.may serial
    c.deref.result.now c.deref-2.result.now c.file_article.new.blocks.seen
    (serials ready.changes ready.kept.indexed) says
    (pieces_seen ready.kept filing c.len-serial.result c.as_slice-groups.result.now _ c.deref-2.result.now
    c.len-serial.ensures c.as_slice-groups.ensures c.deref-2.ensures.value c.in_ok-lines.ensures.pieces) its.touches in
    article_staged k _ c.file_article.new.free filing (place_of c.in_ok-at.at) serial c.deref.result.now c.deref-2.result.now
    (record {
      inodes = refl;
      volume = its.kept;
      count = its.filed.calls.count ∙ its.filed.puts.made.count;
      touches = touches;
      known = its.known;
    }) its.filed c.in_ok-push_change.ensures.ok
    (λ host S may kept.
    let sizes : AreLineSizes S filing.text filing.envelope.groups c.deref-3.result.now =
    subst (λ (x : List Octets × List ℕ). AreLineSizes S filing.text x.0 x.1)
    (λ i. (c.as_slice-groups.ensures i, sym c.deref-3.ensures.value i))
    (c.in_ok-lines.ensures.sizes S kept.indexed (serials S kept.indexed) k.inodes k.volume.cache kept.placed) in
    subst (λ (e : Envelope). Indexes (S ++ Article (record { text = filing.text; envelope = e }) ∷ []) c.push_article.new.self)
    c.in_ok-stored.ensures
    (c.in-Ok.ensures.ok host S filing.text
    (subst (λ (e : Envelope). MayFile host S (record { text = filing.text; envelope = e })) (sym c.in_ok-stored.ensures) may)
    c.id_of.ensures c.lengths_of-lengths.ensures
    (subst (λ (e : Envelope). AreLineSizes S filing.text e.groups c.deref-3.result.now) (sym c.in_ok-stored.ensures) sizes) kept.indexed))
    serials says
    (λ host S kept. pieces_seen kept filing c.len-serial.result c.as_slice-groups.result.now _ c.deref-2.result.now
    c.len-serial.ensures c.as_slice-groups.ensures c.deref-2.ensures.value c.in_ok-lines.ensures.pieces)
