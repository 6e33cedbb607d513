-- Reads that change nothing, one after the other.
use Rattle.std.proofs.Common.{◌≡◌, inl, inr, ◌≤◌, ℕ, ◌+◌, ◌*◌, IsTrue, Bool, List, ◌++◌, length, get_or, take, drop, eqb, sym, ◌∙◌, ap}
use Rattle.std.proofs.Common.{subst, arith}
use Rattle.std.proofs.lemmas.List.{drop-drop}
use Rattle.std.proofs.lemmas.Bool.{cases_eq}
use Rattle.disk.specs.Device.{Device}
use Rattle.disk.specs.Image.{part, overwritten}
use Rattle.disk.proofs.Images.{length-part, get_or-part}
use Rattle.journal_segments.specs.Found.{AreLoaded, IsQuiet, IsStill}
use Rattle.model.specs.Volume.{block, epoch_of, gate_place, image_place, is_open}
use Rattle.journal_laws.proofs.Blocks.{overwritten_same, block-overwritten}

pub quiet_then : (a b c : Device) → IsQuiet a b → IsQuiet b c → IsQuiet a c
quiet_then a b c first second = record {
  size = second.size ∙ first.size;
  tells = second.tells ∙ first.tells;
  later = omega (arith, first.later, second.later);
  writes = second.writes ∙ first.writes;
  since = λ t time image before left. first.since t time image before
      (second.since (subst (λ (x : Bool). IsTrue x) (sym first.tells) t) time image (omega (arith, before, first.later)) left);
  crash = λ t image left. first.crash t image (second.crash (subst (λ (x : Bool). IsTrue x) (sym first.tells) t) image left);
}

pub still_then : (a b c : Device) → IsQuiet a b → IsStill a b → IsStill b c → IsStill a c
still_then a b c quiet first second = record {
  content = λ t. second.content (subst (λ (x : Bool). IsTrue x) (sym quiet.tells) t) ∙ first.content t;
  failures = second.failures ∙ first.failures;
  syncs = second.syncs ∙ first.syncs;
}

pub loaded_more : (s i : ℕ) (x octets : List ℕ) → 4096 * image_place s i + 4096 ≤ length x → 4096 * i + 4096 ≤ length octets
    → AreLoaded s i x octets → AreLoaded s (i + 1) x (overwritten (4096 * i) (block (image_place s i) x) octets)
loaded_more s i x octets within room loaded k low = elim (cases_eq k i) [
  | inl is ↦ subst (λ (m : ℕ). block (image_place s m) x ≡ block m (overwritten (4096 * i) (block (image_place s i) x) octets)) (sym is)
      (sym (block-overwritten i (block (image_place s i) x) octets whole fits))
  | inr other ↦ loaded k (omega (arith, low, other))
      ∙ sym ((overwritten_same i (block (image_place s i) x) octets (omega (arith, whole)) fits).same k other)
]
  where
    whole : length (block (image_place s i) x) ≡ 4096
    whole = length-part (4096 * image_place s i) 4096 x within

    fits : 4096 * i + length (block (image_place s i) x) ≤ length octets
    fits = omega (arith, whole, room)

-- one octet and the epoch tell whether a gate is open
pub gate_at : (s epoch : ℕ) (x gate : List ℕ) → epoch_of x ≡ epoch → gate ≡ part (4096 * gate_place s) 1 x
    → eqb (get_or gate 0 0) epoch ≡ is_open s x
gate_at s epoch x gate its is =
    ap (λ (l : List ℕ). eqb (get_or l 0 0) epoch) is
    ∙ ap (λ (n : ℕ). eqb n epoch) (get_or-part (4096 * gate_place s) 1 x 0 0 (omega arith)
    ∙ sym (get_or-part (4096 * gate_place s) 4096 x 0 0 (omega arith)))
    ∙ ap (λ (e : ℕ). eqb (get_or (block (gate_place s) x) 0 0) e) (sym its)

-- a part that was read into its place
pub put_block : (a k : ℕ) (xs ys whole : List ℕ) → ys ≡ whole → a + k ≡ a + length whole
    → take a xs ++ (ys ++ drop k (drop a xs)) ≡ overwritten a whole xs
put_block a k xs ys whole is size =
    ap (λ (l : List ℕ). take a xs ++ (l ++ drop k (drop a xs))) is
    ∙ ap (λ (l : List ℕ). take a xs ++ (whole ++ l)) (drop-drop k a xs ∙ ap (λ (n : ℕ). drop n xs) size)
