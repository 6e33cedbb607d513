-- Parts are exchanged one by one.
use Rattle.std.proofs.Common.{◌≡◌, ◌≢◌, inl, inr, ◌<◌, ◌≤◌, ℕ, ◌+◌, ◌*◌, ◌/◌, List, [], ◌∷◌, ◌++◌, length, get_or, take, refl, sym, ◌∙◌}
use Rattle.std.proofs.Common.{ap, arith}
use Rattle.std.specs.List.{All}
use Rattle.std.proofs.lemmas.Bool.{cases_eq}
use Rattle.std.proofs.lemmas.List.{take_more, take_all, get_or-take, length-take-le}
use Rattle.std.proofs.lemmas.List.Elements.{All-take}
use Rattle.model.specs.Volume.{AreDistinct}
use Rattle.disk.specs.Image.{part}
use Rattle.journal_volume.specs.Chunks.{ChunksView}
use Rattle.journal_volume.specs.Parts.{part_of, parts_in, put_back, with_part}
use Rattle.journal_volume.specs.Volume.{before}
use Rattle.journal_volume.proofs.PartsIn.{length-parts_in, get_or-parts_in, parts_sizes}
use Rattle.journal_volume.proofs.PutBack.{Fit, IsOther, length-put_back, put_back_agree, put_back_done, put_back_other, put_back_push}
use Rattle.journal_volume.proofs.PutBack.{put_back_whole}

-- as far as the first `at` parts
pub record IsExchanged (at : ℕ) (numbers : List ℕ) (start blocks : ChunksView) (was octets : List ℕ) : Type 0 where
  pub blocks_are : blocks
      ≡ record { blocks = put_back start.blocks (take at numbers) (take at (parts_in (length numbers) was)); made = start.made }
  pub size : length octets ≡ length was
  pub done : (i : ℕ) → i < at → i < length numbers → part (256 * i) 256 octets ≡ part_of start.blocks (get_or numbers i 0)
  pub rest : (i : ℕ) → at ≤ i → i < length numbers → part (256 * i) 256 octets ≡ part (256 * i) 256 was

pub exchanged_none : (numbers : List ℕ) (start : ChunksView) (was : List ℕ) → IsExchanged 0 numbers start start was was
exchanged_none numbers start was = record {
  blocks_are = refl;
  size = refl;
  done = λ i low inside. absurd (omega arith);
  rest = λ i low inside. refl;
}

-- the first `at` of the parts fit
pub front_fits : (at : ℕ) (xs : List (List ℕ)) (ps : List ℕ) (octets : List ℕ) → All (λ b. length b ≡ 4096) xs
    → All (λ p. p / 16 < length xs) ps → length octets ≡ 256 * length ps
    → Fit xs (take at ps) (take at (parts_in (length ps) octets))
front_fits at xs ps octets whole there size = record {
  whole = whole;
  there = All-take (λ p. p / 16 < length xs) at ps there;
  sizes = All-take (λ o. length o ≡ 256) at (parts_in (length ps) octets) (parts_sizes (length ps) octets size);
}

pub all_fit : (xs : List (List ℕ)) (ps : List ℕ) (octets : List ℕ) → All (λ b. length b ≡ 4096) xs
    → All (λ p. p / 16 < length xs) ps → length octets ≡ 256 * length ps → Fit xs ps (parts_in (length ps) octets)
all_fit xs ps octets whole there size = record {
  whole = whole;
  there = there;
  sizes = parts_sizes (length ps) octets size;
}

-- the next part has not changed yet
pub next_other : (at : ℕ) (ps : List ℕ) → AreDistinct ps → at < length ps → IsOther (take at ps) (get_or ps at 0)
next_other at ps distinct within i low same =
    let short : i < at = omega (arith, length-take-le at ps (omega arith)) in
    distinct i at short within (sym (get_or-take at ps i 0 short) ∙ sym same)

pub next_put : (at : ℕ) (xs : List (List ℕ)) (ps octets : List ℕ) → at < length ps
    → put_back xs (take (at + 1) ps) (take (at + 1) (parts_in (length ps) octets))
    ≡ with_part (put_back xs (take at ps) (take at (parts_in (length ps) octets))) (get_or ps at 0) (part (256 * at) 256 octets)
next_put at xs ps octets within =
    let many = length-parts_in (length ps) octets in
    let inside : at < length (parts_in (length ps) octets) = omega arith in
    let second : take (at + 1) (parts_in (length ps) octets) ≡ take at (parts_in (length ps) octets) ++ part (256 * at) 256 octets ∷ [] =
    take_more (parts_in (length ps) octets) at [] inside
    ∙ ap (λ (b : List ℕ). take at (parts_in (length ps) octets) ++ b ∷ []) (get_or-parts_in (length ps) at octets within) in
    ap (λ (l : List ℕ). put_back xs l (take (at + 1) (parts_in (length ps) octets))) (take_more ps at 0 within)
    ∙ ap (λ (l : List (List ℕ)). put_back xs (take at ps ++ get_or ps at 0 ∷ []) l) second
    ∙ put_back_push xs (take at ps) (take at (parts_in (length ps) octets)) (get_or ps at 0) (part (256 * at) 256 octets)
    (length-take-le at ps (omega arith) ∙ sym (length-take-le at (parts_in (length ps) octets) (omega arith)))

module _ (at : ℕ) (numbers : List ℕ) (start blocks : ChunksView) (was octets : List ℕ)
    (so_far : IsExchanged at numbers start blocks was octets) (whole : All (λ b. length b ≡ 4096) start.blocks)
    (there : All (λ p. p / 16 < length start.blocks) numbers) (size : length was ≡ 256 * length numbers)
    (distinct : AreDistinct numbers) where
  now_blocks : blocks.blocks ≡ put_back start.blocks (take at numbers) (take at (parts_in (length numbers) was))
  now_blocks = ap (λ (v : ChunksView). v.blocks) so_far.blocks_are

  front : Fit start.blocks (take at numbers) (take at (parts_in (length numbers) was))
  front = front_fits at start.blocks numbers was whole there size

  pub same_count : length blocks.blocks ≡ length start.blocks
  same_count = ap length now_blocks
      ∙ length-put_back start.blocks (take at numbers) (take at (parts_in (length numbers) was)) front

  pub same_made : blocks.made ≡ start.made
  same_made = ap (λ (v : ChunksView). v.made) so_far.blocks_are

  module _ (within : at < length numbers) where
    -- it has what it had at the start
    as_at_start : part_of blocks.blocks (get_or numbers at 0) ≡ part_of start.blocks (get_or numbers at 0)
    as_at_start =
        ap (λ (l : List (List ℕ)). part_of l (get_or numbers at 0)) now_blocks
        ∙ put_back_other start.blocks (take at numbers) (take at (parts_in (length numbers) was)) front (get_or numbers at 0)
        (next_other at numbers distinct within)

    pub exchanged_more : (next : ChunksView) (new given got : List ℕ) → given ≡ part (256 * at) 256 octets
        → next ≡ record { blocks = with_part blocks.blocks (get_or numbers at 0) given; made = blocks.made }
        → got ≡ part_of blocks.blocks (get_or numbers at 0)
        → length new ≡ length octets → part (256 * at) 256 new ≡ got
        → ((i : ℕ) → i ≢ at → i < length numbers → part (256 * i) 256 new ≡ part (256 * i) 256 octets)
        → IsExchanged (at + 1) numbers start next was new
    exchanged_more next new given got read put took same_size here elsewhere = record {
      blocks_are = put
          ∙ ap (λ (o : List ℕ). record { blocks = with_part blocks.blocks (get_or numbers at 0) o; made = blocks.made })
          (read ∙ so_far.rest at (omega arith) within)
          ∙ ap (λ (v : ChunksView). record { blocks = with_part v.blocks (get_or numbers at 0) (part (256 * at) 256 was); made = v.made })
          so_far.blocks_are
          ∙ ap (λ (b : List (List ℕ)). record { blocks = b; made = start.made }) (sym (next_put at start.blocks numbers was within));
      size = same_size ∙ so_far.size;
      done = λ i low inside. elim (cases_eq i at) [
        | inl is ↦
            ap (λ (j : ℕ). part (256 * j) 256 new) is ∙ here ∙ took ∙ as_at_start
            ∙ ap (λ (j : ℕ). part_of start.blocks (get_or numbers j 0)) (sym is)
        | inr other ↦ elsewhere i other inside ∙ so_far.done i (omega arith) inside
      ];
      rest = λ i low inside. elsewhere i (omega arith) inside ∙ so_far.rest i (omega arith) inside;
    }

  module _ (ends : length numbers ≤ at) where
    pub exchanged_all : blocks ≡ record { blocks = before start.blocks numbers was; made = start.made }
    exchanged_all =
        so_far.blocks_are
        ∙ ap (λ (l : List ℕ). record {
          blocks = put_back start.blocks l (take at (parts_in (length numbers) was));
          made = start.made;
        }) (take_all at numbers ends)
        ∙ ap (λ (l : List (List ℕ)). record { blocks = put_back start.blocks numbers l; made = start.made })
        (take_all at (parts_in (length numbers) was) (omega (arith, length-parts_in (length numbers) was)))

    new_fit : (xs : List (List ℕ)) → All (λ b. length b ≡ 4096) xs → length xs ≡ length start.blocks
        → Fit xs numbers (parts_in (length numbers) octets)
    new_fit xs every same = record {
      whole = every;
      there = λ k d low. omega (arith, there k d low);
      sizes = parts_sizes (length numbers) octets (so_far.size ∙ size);
    }

    pub exchanged_back : before blocks.blocks numbers octets ≡ start.blocks
    exchanged_back =
        let old = all_fit start.blocks numbers was whole there size in
        let is = ap (λ (v : ChunksView). v.blocks) exchanged_all in
        let every = put_back_whole start.blocks numbers (parts_in (length numbers) was) old in
        let same = length-put_back start.blocks numbers (parts_in (length numbers) was) old in
        ap (λ (l : List (List ℕ)). before l numbers octets) is
        ∙ put_back_agree numbers (parts_in (length numbers) octets) (before start.blocks numbers was) start.blocks
        (omega (arith, length-parts_in (length numbers) octets))
        (new_fit (before start.blocks numbers was) every same) (new_fit start.blocks whole refl) same
        (λ q low other. put_back_other start.blocks numbers (parts_in (length numbers) was) old q other)
        ∙ put_back_done start.blocks numbers (parts_in (length numbers) octets) (new_fit start.blocks whole refl)
        (λ i low inside. sym (so_far.done i (omega arith) low) ∙ sym (get_or-parts_in (length numbers) i octets low))
