use Rattle.std.proofs.Common.{sym, ◌∙◌, ap, subst, map, length, Bor, List, ℕ}
use Rattle.std.proofs.lemmas.Bool.{ltb-true}
use Rattle.text_article.specs.Causes.{field_cause, front_for}
use Rattle.text_article.specs.Origins.{origin_of}
use Rattle.text_article.specs.Parts.{AreFaults}
use Rattle.text_article.proofs.ReadLaws.{cause-parts, shape-ends}
use Rattle.text_article.proofs.article_of.Goals as goal

pub field_cause-requires : goal.field_cause-requires
field_cause-requires c =
    let all = λ (fs : List (Bor (List ℕ))). map (λ (f : Bor (List ℕ)). f.now) fs in
    subst (AreFaults c.args.parts.faults) (sym (ap all c.deref-2.ensures.value ∙ c.requires.parts.fields)) c.requires.parts.faults

pub returns-in-Some-clause-bad : goal.returns-in-Some-clause-bad
returns-in-Some-clause-bad c =
    let origin = origin_of c.args.origin in
    let text = c.args.text.now in
    let parts = c.args.parts in
    let all = λ (fs : List (Bor (List ℕ))). map (λ (f : Bor (List ℕ)). f.now) fs in
    let short = c.is_short-short.result in
    let size = c.front_length-added.ensures.length
    ∙ ap (λ fs. length (front_for origin fs)) (ap all c.deref.ensures.value ∙ c.requires.parts.fields) in
    let found = c.field_cause.ensures
    ∙ ap (λ fs. field_cause origin fs parts.faults.good_groups short) (ap all c.deref-2.ensures.value ∙ c.requires.parts.fields) in
    sym (found ∙ cause-parts origin text parts c.args.header c.front_length-added.result short c.requires.host
    c.front_length-added.ensures.small c.requires.parts c.requires.header size c.is_short-short.ensures) ∙ c.in-Some.is

pub returns-clause-no_cause : goal.returns-clause-no_cause
returns-clause-no_cause c =
    let origin = origin_of c.args.origin in
    let text = c.args.text.now in
    let parts = c.args.parts in
    let all = λ (fs : List (Bor (List ℕ))). map (λ (f : Bor (List ℕ)). f.now) fs in
    let short = c.is_short-short.result in
    let size = c.front_length-added.ensures.length
    ∙ ap (λ fs. length (front_for origin fs)) (ap all c.deref.ensures.value ∙ c.requires.parts.fields) in
    let found = c.field_cause.ensures
    ∙ ap (λ fs. field_cause origin fs parts.faults.good_groups short) (ap all c.deref-2.ensures.value ∙ c.requires.parts.fields) in
    sym (found ∙ cause-parts origin text parts c.args.header c.front_length-added.result short c.requires.host
    c.front_length-added.ensures.small c.requires.parts c.requires.header size c.is_short-short.ensures) ∙ c.in_default.is

pub invariant_of-result : goal.invariant_of-result
invariant_of-result c =
    let at = c.requires.header in
    record {
      header = at;
      room = at.room (ltb-true _ _ (sym at.ends ∙ shape-ends c.args.text.now c.requires.parts.shape));
      fields = c.requires.parts.fields;
      newsgroups = c.requires.parts.newsgroups;
    }
