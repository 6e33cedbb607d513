-- A block is clean exactly if it is there and none of the dirty ones.
use Rattle.std.proofs.Common.{◌≡◌, ◌⊎◌, ◌↔◌, ⊎_elim, ℕ, ◌<◌, ◌≤◌, Bool, true, false, List, [], length, get_or, refl, ap, sym, ◌∙◌}
use Rattle.std.proofs.Common.{subst, arith}
use Rattle.std.specs.Prelude.{◌&&◌, not, nat_lt, Option, Some, None, IfNone, IfSome, IsSome, IsTrue}
use Rattle.std.specs.List.{Contains}
use Rattle.std.proofs.lemmas.Bool.{and_parts, lt-ltb, ltb-true, true≢false}
use Rattle.model.specs.Stream.{Octets}
use Rattle.spool.specs.View.{IsClean as IsCleanOfSpool, SpoolView}
use Rattle.kernel.specs.Kernel.{IsClean, KernelView, is_clean, is_dirty}
use Rattle.kernel.proofs.TakingLaws.{among, contained}

clean_when : (k : KernelView) (n : ℕ) → n < length k.blocks → (Contains k.dirty n → ⊥) → is_clean k n ≡ true
clean_when k n there other = go (is_dirty k n) refl where
  go : (b : Bool) → is_dirty k n ≡ b → is_clean k n ≡ true
  go true is = absurd (other (contained n k.dirty is))
  go false is = ap (λ (b : Bool). nat_lt n (length k.blocks) && not b) is ∙ ap (λ (b : Bool). b && true) (lt-ltb n (length k.blocks) there)

not_clean : (k : KernelView) (n : ℕ) → (length k.blocks ≤ n) ⊎ Contains k.dirty n → is_clean k n ≡ true → ⊥
not_clean k n none is =
    let parts = and_parts (nat_lt n (length k.blocks)) (not (is_dirty k n)) is in
    ⊎_elim
    (λ (past : length k.blocks ≤ n). absurd (omega (arith, past, ltb-true n (length k.blocks) parts.0)))
    (λ (member : Contains k.dirty n). true≢false (sym parts.1 ∙ ap not (among n k.dirty member)))
    none

-- what the spool says of a block that it gives, or doesn't give
module _ {R : Type 0} (octets : R → Octets) (s : SpoolView) (k : KernelView) (blocks : s.blocks ≡ k.blocks) (dirty : s.dirty ≡ k.dirty)
    (n : ℕ) where
  pub clean_seen : (found : Option R) → IfSome found (λ r. IsCleanOfSpool s n (octets r)) → IfSome found (λ r. IsClean k n (octets r))
  clean_seen None h = tt
  clean_seen (Some r) h = record {
    clean = clean_when k n (subst (λ (bs : List Octets). n < length bs) blocks h.there)
        (λ member. h.clean (subst (λ (ns : List ℕ). Contains ns n) (sym dirty) member));
    octets_are = h.octets_are ∙ ap (λ (bs : List Octets). get_or bs n []) blocks;
    whole = h.whole;
  }

  pub seen_when : (found : Option R) → IfSome found (λ r. IsCleanOfSpool s n (octets r))
      → IfNone found ((length s.blocks ≤ n) ⊎ Contains s.dirty n) → IsSome found ↔ IsTrue (is_clean k n)
  seen_when None clean none =
      let gone : (length k.blocks ≤ n) ⊎ Contains k.dirty n =
      subst (λ (bs : List Octets). (length bs ≤ n) ⊎ Contains k.dirty n) blocks
      (subst (λ (ns : List ℕ). (length s.blocks ≤ n) ⊎ Contains ns n) dirty none) in
      (λ no. absurd (cc no), λ yes. absurd (not_clean k n gone yes))
  seen_when (Some r) clean none = (λ yes. (clean_seen (Some r) clean).clean, λ yes. refl)
