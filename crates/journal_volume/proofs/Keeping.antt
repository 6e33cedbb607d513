-- Parts are kept one by one.
use Rattle.std.proofs.Common.{◌≡◌, ◌⊎◌, inl, inr, ◌<◌, ◌≤◌, ℕ, ◌+◌, ◌*◌, ◌/◌, List, [], ◌∷◌, ◌++◌, length, refl, sym, ◌∙◌, ap, subst, arith}
use Rattle.std.proofs.Common.{length-append}
use Rattle.std.specs.List.{All, Contains}
use Rattle.std.proofs.lemmas.Bool.{cases_eq}
use Rattle.std.proofs.lemmas.List.{length_push}
use Rattle.journal_volume.specs.Numbers.{Numbers, IsNumbers}
use Rattle.journal_volume.specs.Parts.{part_of, parts_in, put_back}
use Rattle.journal_volume.specs.Volume.{before}
use Rattle.journal_volume.proofs.Exchanged.{all_fit}
use Rattle.journal_volume.proofs.PartIndex.{push_new, push_old, pushed}
use Rattle.journal_volume.proofs.PartsIn.{length-parts_in, parts_in-push}
use Rattle.journal_volume.proofs.PutBack.{length-put_back, not_at, put_back_other, put_back_push, put_back_whole}
use Rattle.journal_volume.proofs.WithPart.{with_part_same}

-- as far as part `at`
pub record IsKeeping (first end at : ℕ) (blocks : List (List ℕ)) (was : Numbers) (had : List ℕ) (kept : Numbers) (octets : List ℕ)
    : Type 0 where
  pub bound : kept.bound ≡ was.bound
  pub valid : IsNumbers kept
  pub size : length octets ≡ 256 * length kept.members
  pub same : before blocks kept.members octets ≡ before blocks was.members had
  pub these : (p : ℕ) → Contains kept.members p → Contains was.members p ⊎ ((first ≤ p) × (p < end))
  pub all : (p : ℕ) → first ≤ p → p < at → Contains kept.members p

pub keeping_none : (first end : ℕ) (blocks : List (List ℕ)) (was : Numbers) (had : List ℕ) → IsNumbers was
    → length had ≡ 256 * length was.members → IsKeeping first end first blocks was had was had
keeping_none first end blocks was had valid size = record {
  bound = refl;
  valid = valid;
  size = size;
  same = refl;
  these = λ p c. inl c;
  all = λ p from below. absurd (omega arith);
}

-- parts below 16 times the blocks lie in these
pub there_of : (kept : Numbers) (blocks : List (List ℕ)) → IsNumbers kept → kept.bound ≡ 16 * length blocks
    → All (λ p. p / 16 < length blocks) kept.members
there_of kept blocks valid bound k d low = let below = valid.below k d low in omega arith

module _ (first end at : ℕ) (blocks : List (List ℕ)) (was : Numbers) (had : List ℕ) (kept : Numbers) (octets : List ℕ)
    (so_far : IsKeeping first end at blocks was had kept octets) where
  -- one that is kept already
  pub keeping_same : Contains kept.members at → IsKeeping first end (at + 1) blocks was had kept octets
  keeping_same member = record {
    bound = so_far.bound;
    valid = so_far.valid;
    size = so_far.size;
    same = so_far.same;
    these = so_far.these;
    all = λ p from below. elim (cases_eq p at) [
      | inl is ↦ subst (λ (n : ℕ). Contains kept.members n) (sym is) member
      | inr other ↦ so_far.all p from (omega arith)
    ];
  }

  module _ (whole : All (λ b. length b ≡ 4096) blocks) (bound : kept.bound ≡ 16 * length blocks) (there : at / 16 < length blocks)
      (other : ¬ (Contains kept.members at)) (part : List ℕ) (is : part ≡ part_of blocks at) (part_size : length part ≡ 256) where
    same_before : before blocks (kept.members ++ at ∷ []) (octets ++ part) ≡ before blocks kept.members octets
    same_before =
        let fit = all_fit blocks kept.members octets whole (there_of kept blocks so_far.valid bound) so_far.size in
        let parts = parts_in (length kept.members) octets in
        let in_range : at / 16 < length (put_back blocks kept.members parts) =
        omega (arith, length-put_back blocks kept.members parts fit) in
        ap (λ (n : ℕ). put_back blocks (kept.members ++ at ∷ []) (parts_in n (octets ++ part))) (length_push kept.members at)
        ∙ ap (λ (l : List (List ℕ)). put_back blocks (kept.members ++ at ∷ []) l)
        (parts_in-push (length kept.members) octets part so_far.size part_size)
        ∙ put_back_push blocks kept.members parts at part (sym (length-parts_in (length kept.members) octets))
        ∙ with_part_same (put_back blocks kept.members parts) at part (put_back_whole blocks kept.members parts fit) in_range
        (put_back_other blocks kept.members parts fit at (not_at kept.members at other) ∙ sym is)

    -- one more
    pub keeping_more : (more : Numbers) (longer : List ℕ) → more ≡ record { bound = kept.bound; members = kept.members ++ at ∷ [] }
        → longer ≡ octets ++ part → IsNumbers more → first ≤ at → at < end
        → IsKeeping first end (at + 1) blocks was had more longer
    keeping_more more longer more_is longer_is valid from below = record {
      bound = ap (λ (s : Numbers). s.bound) more_is ∙ so_far.bound;
      valid = valid;
      size = omega (
        arith,
        ap length longer_is,
        length-append octets part,
        so_far.size,
        ap length members_are,
        length_push kept.members at,
      );
      same = ap (λ (l : List ℕ). before blocks l longer) members_are
          ∙ ap (λ (l : List ℕ). before blocks (kept.members ++ at ∷ []) l) longer_is ∙ same_before ∙ so_far.same;
      these = λ p c. elim (pushed kept.members at p (subst (λ (l : List ℕ). Contains l p) members_are c)) [
        | inl old ↦ so_far.these p old
        | inr now ↦ inr (omega arith, omega arith)
      ];
      all = λ p low high. subst (λ (l : List ℕ). Contains l p) (sym members_are) (elim (cases_eq p at) [
        | inl now ↦ subst (λ (n : ℕ). Contains (kept.members ++ at ∷ []) n) (sym now) (push_new kept.members at)
        | inr apart ↦ push_old kept.members at p (so_far.all p low (omega arith))
      ]);
    }
      where
        members_are : more.members ≡ kept.members ++ at ∷ []
        members_are = ap (λ (s : Numbers). s.members) more_is
