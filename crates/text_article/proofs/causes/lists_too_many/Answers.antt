use Rattle.std.proofs.Common.{◌∙◌, add-one, ap, count_by, nat_le, nat_lt, sym}
use Rattle.std.specs.Prelude.{◌==◌}
use Rattle.std.proofs.Math.Dec.{leb-suc-suc}
use Rattle.std.proofs.lemmas.List.Splits.{length-slice_split}
use Rattle.text_article.proofs.causes.lists_too_many.Goals as goal

pub returns : goal.returns
returns c =
    ap (λ n. nat_le 16 n) c.commas_in.ensures
    ∙ sym (leb-suc-suc 16 (count_by (λ x. x == 44) c.args.content.now))
    ∙ sym (ap (nat_lt 16) (length-slice_split (λ x. x == 44) c.args.content.now ∙ add-one _))
