-- Names in later lives: what a life begins with is a prefix of what all later ones leave.
use Rattle.std.proofs.Common.{◌≡◌, length, take, sym, ◌∙◌, ap}
use Rattle.std.proofs.Math.Seq.{take-append_seam}
use mathlib.Core.List.{IsPrefix}
use Rattle.model.specs.Laws.Expiry.{IdsStay}
use Rattle.model.specs.Laws.Numbers.{NumbersNameOne}
use Rattle.model.specs.News.{service}
use Rattle.model.specs.Spool.{Spool, by_id, by_number}
use Rattle.model_lives.specs.Lives.{spool_after}
use Rattle.model_lives.specs.Names.{IdsOutlive, NumbersOutlive}
use Rattle.model_lives.proofs.ManyLives.{nothing_is_undone}

-- a prefix is the first changes of the longer spool
first_again : (S T : Spool) → IsPrefix S T → take (length S) T ≡ S
first_again S T p = ap (λ (xs : Spool). take (length S) xs) (sym p.1) ∙ take-append_seam S p.0

pub numbers_outlive : NumbersNameOne → NumbersOutlive
numbers_outlive one host S lives g n a b are before after =
    let T : Spool = spool_after (service host) S lives in
    let same = first_again S T (nothing_is_undone (service host) S lives are) in
    one T (length S) g n a b (ap (λ (s : Spool). by_number s g n) same ∙ before) after

pub ids_outlive : IdsStay → IdsOutlive
ids_outlive stay host S lives id a are before =
    let T : Spool = spool_after (service host) S lives in
    let same = first_again S T (nothing_is_undone (service host) S lives are) in
    stay T (length S) id a (ap (λ (s : Spool). by_id s id) same ∙ before)
