use Rattle.std.proofs.Common.{◌∙◌, map, Bor, List, ℕ}
use Rattle.text_article.specs.Causes.{first_of}
use Rattle.text_article.specs.Origins.{origin_of}
use Rattle.text_article.proofs.FaultLaws.{good_id-same, lacks-same}
use Rattle.text_article.proofs.causes.field_cause.Goals as goal

pub returns : goal.returns
returns c =
    let origin = origin_of c.args.origin in
    let all = map (λ (f : Bor (List ℕ)). f.now) c.args.fields.now in
    let faults = c.args.faults in
    let lacking = c.lacks_field-lacking.ensures ∙ lacks-same origin faults all c.requires in
    let good_id = c.has_good_id-good_id.ensures ∙ good_id-same origin faults.valid_id all c.requires.id in
    c.first_cause.ensures
    ∙ (λ i. first_of (c.requires.twice i) (lacking i) (good_id i) faults.good_groups c.args.is_short)
