-- The blocks whose parts changed are marked.
use Rattle.std.proofs.Common.{◌≡◌, ◌≢◌, ◌⊎◌, ◌↔◌, inl, inr, ◌<◌, ◌≤◌, ℕ, ◌+◌, ◌*◌, ◌/◌, ◌%◌, List, [], length, get_or, take, refl, sym, ◌∙◌}
use Rattle.std.proofs.Common.{ap, subst, arith}
use Rattle.std.specs.List.{All, Contains}
use Rattle.std.proofs.lemmas.Bool.{cases_eq}
use Rattle.std.proofs.lemmas.List.{get_or-set_other, take_all}
use Rattle.model.specs.Volume.{AreDistinct}
use Rattle.disk.specs.Image.{part, overwritten}
use Rattle.journal_volume.specs.Numbers.{Numbers, IsNumbers}
use Rattle.journal_volume.specs.Parts.{part_of, parts_in, put_back, with_part}
use Rattle.journal_volume.specs.Volume.{Differs, before}
use Rattle.journal_volume.proofs.Exchanged.{front_fits, next_other, next_put}
use Rattle.journal_volume.proofs.PartsIn.{length-parts_in}
use Rattle.journal_volume.proofs.PutBack.{length-put_back, put_back_other, put_back_whole}
use Rattle.journal_volume.proofs.WithPart.{part_with, with_part_same}

-- as far as the first `at` parts
pub record IsMarked (at : ℕ) (blocks : List (List ℕ)) (numbers octets : List ℕ) (old dirty : Numbers) : Type 0 where
  pub bound : dirty.bound ≡ old.bound
  pub valid : IsNumbers dirty
  pub marked : (k : ℕ) → Contains dirty.members k
      ↔ (Contains old.members k ⊎ Differs (put_back blocks (take at numbers) (take at (parts_in (length numbers) octets))) blocks k)

pub marked_none : (blocks : List (List ℕ)) (numbers octets : List ℕ) (old : Numbers) → IsNumbers old
    → IsMarked 0 blocks numbers octets old old
marked_none blocks numbers octets old valid = record {
  bound = refl;
  valid = valid;
  marked = λ k. (λ c. inl c, λ either. elim either [ inl c ↦ c | inr d ↦ absurd (d refl) ]);
}

module _ (at : ℕ) (blocks : List (List ℕ)) (numbers octets : List ℕ) (old dirty : Numbers)
    (so_far : IsMarked at blocks numbers octets old dirty) (whole : All (λ b. length b ≡ 4096) blocks)
    (there : All (λ p. p / 16 < length blocks) numbers) (size : length octets ≡ 256 * length numbers)
    (distinct : AreDistinct numbers) (within : at < length numbers) where
  -- the blocks as far as the first parts are put back
  abbrev so_put : List (List ℕ)
  so_put = put_back blocks (take at numbers) (take at (parts_in (length numbers) octets))

  abbrev next : List (List ℕ)
  next = put_back blocks (take (at + 1) numbers) (take (at + 1) (parts_in (length numbers) octets))

  abbrev number : ℕ
  number = get_or numbers at 0

  abbrev octets_before : List ℕ
  octets_before = part (256 * at) 256 octets

  put_whole : All (λ b. length b ≡ 4096) so_put
  put_whole = put_back_whole blocks (take at numbers) (take at (parts_in (length numbers) octets))
      (front_fits at blocks numbers octets whole there size)

  block_there : number / 16 < length so_put
  block_there = omega (
    arith,
    there at 0 within,
    length-put_back blocks (take at numbers) (take at (parts_in (length numbers) octets))
        (front_fits at blocks numbers octets whole there size),
  )

  -- the part has what it has now
  as_now : part_of so_put number ≡ part_of blocks number
  as_now = put_back_other blocks (take at numbers) (take at (parts_in (length numbers) octets))
      (front_fits at blocks numbers octets whole there size) number (next_other at numbers distinct within)

  next_is : next ≡ with_part so_put number octets_before
  next_is = next_put at blocks numbers octets within

  -- the same octets: no block differs in it
  pub marked_same : part_of blocks number ≡ octets_before → IsMarked (at + 1) blocks numbers octets old dirty
  marked_same same =
      let equal : next ≡ so_put = next_is ∙ with_part_same so_put number octets_before put_whole block_there (as_now ∙ same) in
      record {
        bound = so_far.bound;
        valid = so_far.valid;
        marked = λ k. subst (λ (l : List (List ℕ)). Contains dirty.members k ↔ (Contains old.members k ⊎ Differs l blocks k)) (sym equal)
            (so_far.marked k);
      }

  -- other octets: its block is marked
  pub marked_other : (more : Numbers) → part_of blocks number ≢ octets_before → length octets_before ≡ 256 → more.bound ≡ dirty.bound
      → IsNumbers more → ((k : ℕ) → Contains more.members k ↔ (Contains dirty.members k ⊎ (k ≡ number / 16)))
      → IsMarked (at + 1) blocks numbers octets old more
  marked_other more other part_size same_bound valid members = record {
    bound = same_bound ∙ so_far.bound;
    valid = valid;
    marked = λ k. (forth k, back k);
  }
    where
      differs : Differs next blocks (number / 16)
      differs equal =
          other (sym (sym (part_with so_put number octets_before put_whole block_there part_size)
          ∙ ap (λ (l : List (List ℕ)). part_of l number) (sym next_is)
          ∙ ap (λ (b : List ℕ). part (256 * (number % 16)) 256 b) equal))

      elsewhere : (k : ℕ) → k ≢ number / 16 → get_or next k [] ≡ get_or so_put k []
      elsewhere k apart =
          ap (λ (l : List (List ℕ)). get_or l k []) next_is
          ∙ get_or-set_other so_put (number / 16) k
          (overwritten (256 * (number % 16)) octets_before (get_or so_put (number / 16) [])) [] apart

      forth : (k : ℕ) → Contains more.members k → Contains old.members k ⊎ Differs next blocks k
      forth k c = elim (cases_eq k (number / 16)) [
        | inl is ↦ inr (subst (λ (m : ℕ). Differs next blocks m) (sym is) differs)
        | inr apart ↦ elim ((members k).0 c) [
          | inl was ↦ elim ((so_far.marked k).0 was) [
            | inl first ↦ inl first
            | inr d ↦ inr (λ equal. d (sym (elsewhere k apart) ∙ equal))
          ]
          | inr is ↦ absurd (apart is)
        ]
      ]

      back : (k : ℕ) → (Contains old.members k ⊎ Differs next blocks k) → Contains more.members k
      back k either = elim (cases_eq k (number / 16)) [
        | inl is ↦ (members k).1 (inr is)
        | inr apart ↦ (members k).1 (inl ((so_far.marked k).1 (elim either [
          | inl first ↦ inl first
          | inr d ↦ inr (λ equal. d (elsewhere k apart ∙ equal))
        ])))
      ]

-- at the end
pub marked_all : (at : ℕ) (blocks : List (List ℕ)) (numbers octets : List ℕ) (old dirty : Numbers)
    → IsMarked at blocks numbers octets old dirty → length numbers ≤ at
    → (k : ℕ) → Contains dirty.members k ↔ (Contains old.members k ⊎ Differs (before blocks numbers octets) blocks k)
marked_all at blocks numbers octets old dirty so_far ends k =
    let all : put_back blocks (take at numbers) (take at (parts_in (length numbers) octets)) ≡ before blocks numbers octets =
    ap (λ (l : List ℕ). put_back blocks l (take at (parts_in (length numbers) octets))) (take_all at numbers ends)
    ∙ ap (λ (l : List (List ℕ)). put_back blocks numbers l)
    (take_all at (parts_in (length numbers) octets) (omega (arith, length-parts_in (length numbers) octets))) in
    subst (λ (l : List (List ℕ)). Contains dirty.members k ↔ (Contains old.members k ⊎ Differs l blocks k)) all (so_far.marked k)
