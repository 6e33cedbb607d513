use Rattle.std.proofs.Common.{◌∙◌, ap}
use Rattle.std.proofs.lemmas.Result.{IfOk-weaker}
use Rattle.serde_json.specs.Written.{compact_text, has_float}
use Rattle.volume_states.proofs.Floats.{no_float}
use Rattle.volume_states.proofs.json.json_text.Goals as goal

pub returns : goal.returns
returns c =
    let is = c.in_ok-status_value.ensures in
    IfOk-weaker c.to_string.result _ _ (λ text its. its (ap has_float is ∙ no_float c.args.status.now) ∙ ap compact_text is)
    c.to_string.ensures.text
