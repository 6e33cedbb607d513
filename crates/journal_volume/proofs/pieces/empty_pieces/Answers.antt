use Rattle.std.proofs.Common.{ℕ, List, [], ◌∷◌, ◌++◌, replicate, ◌∙◌, ap, Vec, Global}
use Rattle.std.proofs.lemmas.List.{map_push, replicate_more}
use Rattle.journal_volume.specs.Pieces.{octets_of}
use Rattle.journal_volume.proofs.pieces.empty_pieces.Goals as goal

pub loop-i-preserved : goal.loop-i-preserved
loop-i-preserved c =
    let old = c.loop-i.pieces.items in
    ap (λ (l : List (Vec ℕ Global)). octets_of l) c.in_ok-push.ensures.items
    ∙ map_push (λ (v : Vec ℕ Global). v.items) old c.new.result
    ∙ ap (λ (l : List (List ℕ)). l ++ c.new.result.items ∷ []) c.loop-i.invariant
    ∙ ap (λ (l : List ℕ). replicate {A = List ℕ} c.loop-i._i [] ++ l ∷ []) c.new.ensures.items
    ∙ replicate_more {X = List ℕ} c.loop-i._i []
