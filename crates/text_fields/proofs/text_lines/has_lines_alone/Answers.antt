use Rattle.std.proofs.Common.{◌&&◌, ◌==◌, Bool, sym, ◌∙◌, ap, arith}
use Rattle.text_fields.proofs.WholeLaws.{whole-end, whole-step}
use Rattle.text_fields.proofs.text_lines.has_lines_alone.Goals as goal

pub loop-octet-preserved : goal.loop-octet-preserved
loop-octet-preserved c =
    whole-step c.loop-octet.is_whole c.loop-octet.before c.loop-octet.octet-index c.args.text.now (omega arith) ∙ c.loop-octet.invariant

pub returns-then-is_whole : goal.returns-then-is_whole
returns-then-is_whole c =
    sym (ap (λ (b : Bool). b && (c.loop-octet.before == 10)) c.if-is_whole.true)
    ∙ whole-end c.loop-octet.is_whole c.loop-octet.before c.loop-octet.octet-index c.args.text.now (omega arith) c.loop-octet.invariant

pub returns-else-is_whole : goal.returns-else-is_whole
returns-else-is_whole c =
    c.if-is_whole.false ∙ sym (ap (λ (b : Bool). b && (c.loop-octet.before == 10)) c.if-is_whole.false)
    ∙ whole-end c.loop-octet.is_whole c.loop-octet.before c.loop-octet.octet-index c.args.text.now (omega arith) c.loop-octet.invariant
