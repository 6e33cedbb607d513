-- A piece of a device, of which a block was replaced.
use Rattle.std.proofs.Common.{◌≡◌, ◌≤◌, ◌+◌, ◌*◌, ℕ, List, ◌++◌, length, take, drop, inl, inr, refl, sym, ◌∙◌, ap, arith}
use Rattle.std.proofs.lemmas.Bool.{cases_lt}
use Rattle.disk.specs.Image.{overwritten}
use Rattle.disk.proofs.Images.{length-overwritten, part-overwritten, part-overwritten_apart}
use Rattle.model.specs.Volume.{block}
use Rattle.journal_segments.proofs.Loading.{put_block}

module _ (k n : ℕ) (octets new : List ℕ) (whole : length new ≡ 4096) (size : n ≡ 4096) (there : 4096 * k + 4096 ≤ length octets) where
  abbrev replaced : List ℕ
  replaced = take (4096 * k) octets ++ (new ++ drop n (drop (4096 * k) octets))

  is_overwritten : replaced ≡ overwritten (4096 * k) new octets
  is_overwritten = put_block (4096 * k) n octets new new refl (omega (arith, whole, size))

  pub replaced_size : length replaced ≡ length octets
  replaced_size = ap (λ (l : List ℕ). length l) is_overwritten ∙ length-overwritten (4096 * k) new octets (omega (arith, whole, there))

  pub replaced_here : block k replaced ≡ new
  replaced_here =
      ap (λ (l : List ℕ). block k l) is_overwritten
      ∙ ap (λ (m : ℕ). take m (drop (4096 * k) (overwritten (4096 * k) new octets))) (sym whole)
      ∙ part-overwritten (4096 * k) new octets (omega (arith, whole, there))

  pub replaced_apart : (j : ℕ) → (j ≡ k → ⊥) → block j replaced ≡ block j octets
  replaced_apart j other =
      ap (λ (l : List ℕ). block j l) is_overwritten
      ∙ part-overwritten_apart (4096 * k) new octets (omega (arith, whole, there)) (4096 * j) 4096 (elim (cases_lt j k) [
        | inl low ↦ inl (omega (arith, low))
        | inr high ↦ inr (omega (arith, high, whole, other))
      ])
