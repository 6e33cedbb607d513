-- A volume whose blocks are written, with what their parts had before.
use Rattle.std.proofs.Common.{◌≡◌, ◌⊎◌, inl, inr, ◌<◌, ◌≤◌, ℕ, ◌+◌, ◌*◌, ◌/◌, ◌%◌, List, [], length, get_or, set, sym, ◌∙◌, ap, subst}
use Rattle.std.proofs.Common.{arith}
use Rattle.std.proofs.Common.{length-set}
use Rattle.std.specs.List.{All, Contains}
use Rattle.std.proofs.lemmas.Bool.{cases_eq, cases_lt}
use Rattle.std.proofs.lemmas.List.{get_or-set_same, get_or-set_other, get_or_default}
use Rattle.std.proofs.lemmas.List.Elements.{All-set}
use Rattle.disk.specs.Image.{part, overwritten}
use Rattle.disk.proofs.Images.{length-overwritten, part-overwritten_apart}
use Rattle.journal_volume.specs.Chunks.{ChunksView, HasOctets}
use Rattle.journal_volume.specs.Numbers.{Numbers, IsNumbers}
use Rattle.journal_volume.specs.Parts.{part_of, parts_in}
use Rattle.journal_volume.specs.Volume.{IsVolume, before}
use Rattle.journal_volume.proofs.Exchanged.{all_fit}
use Rattle.journal_volume.proofs.Keeping.{there_of}
use Rattle.journal_volume.proofs.PartsIn.{length-parts_in}
use Rattle.journal_volume.proofs.PutBack.{Fit, IsOther, length-put_back, put_back_agree, put_back_whole}

module _ (blocks : ChunksView) (octets : List ℕ) (kept dirty : Numbers) (v : IsVolume blocks octets kept dirty) where
  pub fits : Fit blocks.blocks kept.members (parts_in (length kept.members) octets)
  fits = all_fit blocks.blocks kept.members octets v.whole (there_of kept blocks.blocks v.kept_numbers v.count) v.octets_size

  pub length-before : length (before blocks.blocks kept.members octets) ≡ length blocks.blocks
  length-before = length-put_back blocks.blocks kept.members (parts_in (length kept.members) octets) fits

  -- what was and what is, exchanged
  pub exchanged_is : (new : ChunksView) (more : List ℕ)
      → new ≡ record { blocks = before blocks.blocks kept.members octets; made = blocks.made } → length more ≡ length octets
      → IsVolume new more kept dirty
  exchanged_is new more is size = record {
    count = v.count ∙ ap (λ (n : ℕ). 16 * n) (sym length-before ∙ sym (ap (λ (c : ChunksView). length c.blocks) is));
    whole = subst (λ (c : ChunksView). All (λ b. length b ≡ 4096) c.blocks) (sym is)
        (put_back_whole blocks.blocks kept.members (parts_in (length kept.members) octets) fits);
    room = subst (λ (c : ChunksView). All (λ p. HasOctets c.made (p / 16)) kept.members) (sym is) v.room;
    octets_size = size ∙ v.octets_size;
    kept_numbers = v.kept_numbers;
    same_bound = v.same_bound ∙ sym length-before ∙ sym (ap (λ (c : ChunksView). length c.blocks) is);
    dirty_numbers = v.dirty_numbers;
  }

-- a write into parts that are all kept
module _ (xs : List (List ℕ)) (ps : List ℕ) (octets : List ℕ) (n at : ℕ) (octets_new : List ℕ) (whole : All (λ b. length b ≡ 4096) xs)
    (there : All (λ p. p / 16 < length xs) ps) (size : length octets ≡ 256 * length ps) (low : n < length xs)
    (inside : at + length octets_new ≤ 4096)
    (kept : (p : ℕ) → 16 * n + at / 256 ≤ p → p < 16 * n + (at + length octets_new + 255) / 256 → Contains ps p) where
  abbrev written : List (List ℕ)
  written = set xs n (overwritten at octets_new (get_or xs n []))

  block_size : length (get_or xs n []) ≡ 4096
  block_size = whole n [] low

  within : at + length octets_new ≤ length (get_or xs n [])
  within = omega (arith, block_size)

  pub written_whole : All (λ b. length b ≡ 4096) written
  written_whole = All-set (λ b. length b ≡ 4096) xs n (overwritten at octets_new (get_or xs n []))
      (length-overwritten at octets_new (get_or xs n []) within ∙ block_size) whole

  pub length-written_blocks : length written ≡ length xs
  length-written_blocks = length-set xs n (overwritten at octets_new (get_or xs n []))

  -- a part that is not kept has none of what is written
  sides : (q : ℕ) → q / 16 ≡ n → IsOther ps q
      → (256 * (q % 16) + 256 ≤ at) ⊎ (at + length octets_new ≤ 256 * (q % 16))
  sides q is other = elim (cases_lt at (256 * (q % 16) + 256)) [
    | inr before_it ↦ inl before_it
    | inl reaches ↦ elim (cases_lt (256 * (q % 16)) (at + length octets_new)) [
      | inr behind_it ↦ inr behind_it
      | inl touched ↦
          let c = kept q (omega arith) (omega arith) in
          absurd (other c.0 c.1 (sym (sym (get_or_default ps c.0 q 0 c.1) ∙ c.2)))
    ]
  ]

  same_part : (q : ℕ) → q / 16 < length written → IsOther ps q → part_of written q ≡ part_of xs q
  same_part q there_q other = elim (cases_eq (q / 16) n) [
    | inl is ↦
        ap (λ (j : ℕ). part (256 * (q % 16)) 256 (get_or written j [])) is
        ∙ ap (λ (b : List ℕ). part (256 * (q % 16)) 256 b)
        (get_or-set_same xs n (overwritten at octets_new (get_or xs n [])) [] low)
        ∙ part-overwritten_apart at octets_new (get_or xs n []) within (256 * (q % 16)) 256 (sides q is other)
        ∙ ap (λ (j : ℕ). part (256 * (q % 16)) 256 (get_or xs j [])) (sym is)
    | inr apart ↦
        ap (λ (b : List ℕ). part (256 * (q % 16)) 256 b)
        (get_or-set_other xs n (q / 16) (overwritten at octets_new (get_or xs n [])) [] apart)
  ]

  pub written_before : before written ps octets ≡ before xs ps octets
  written_before =
      put_back_agree ps (parts_in (length ps) octets) written xs (omega (arith, length-parts_in (length ps) octets))
      (all_fit written ps octets written_whole (λ k d l. omega (arith, there k d l, length-written_blocks)) size)
      (all_fit xs ps octets whole there size) length-written_blocks same_part

module _ (blocks : ChunksView) (octets : List ℕ) (kept dirty : Numbers) (v : IsVolume blocks octets kept dirty) where
  -- with more parts of a block kept, which has octets now
  pub kept_is : (new : ChunksView) (more : List ℕ) (now : Numbers) (n : ℕ) → new.blocks ≡ blocks.blocks
      → ((m : ℕ) → HasOctets blocks.made m → HasOctets new.made m) → HasOctets new.made n → now.bound ≡ kept.bound → IsNumbers now
      → length more ≡ 256 * length now.members
      → ((p : ℕ) → Contains now.members p → Contains kept.members p ⊎ ((16 * n ≤ p) × (p < 16 * n + 16)))
      → IsVolume new more now dirty
  kept_is new more now n same stays room bound valid size these = record {
    count = bound ∙ v.count ∙ ap (λ (b : List (List ℕ)). 16 * length b) (sym same);
    whole = subst (λ (b : List (List ℕ)). All (λ o. length o ≡ 4096) b) (sym same) v.whole;
    room = λ k d low. each (get_or now.members k d)
        (these (get_or now.members k d) (k, low, get_or_default now.members k (get_or now.members k d) d low));
    octets_size = size;
    kept_numbers = valid;
    same_bound = v.same_bound ∙ ap length (sym same);
    dirty_numbers = v.dirty_numbers;
  }
    where
      each : (p : ℕ) → Contains kept.members p ⊎ ((16 * n ≤ p) × (p < 16 * n + 16)) → HasOctets new.made (p / 16)
      each p (inl (i, low, is)) =
          stays (p / 16) (subst (λ (m : ℕ). HasOctets blocks.made (m / 16)) is (v.room i p low))
      each p (inr (from, to)) =
          let block : n ≡ p / 16 = omega arith in
          subst (λ (m : ℕ). HasOctets new.made m) block room

  -- with another part of a block
  pub written_is : (new : ChunksView) (n at : ℕ) (part : List ℕ) → n < length blocks.blocks → at + length part ≤ 4096
      → new ≡ record { blocks = set blocks.blocks n (overwritten at part (get_or blocks.blocks n [])); made = blocks.made }
      → IsVolume new octets kept dirty
  written_is new n at part low inside is =
      let size : length new.blocks ≡ length blocks.blocks = ap (λ (c : ChunksView). length c.blocks) is
      ∙ length-set blocks.blocks n (overwritten at part (get_or blocks.blocks n [])) in
      let block = v.whole n [] low in
      record {
        count = v.count ∙ ap (λ (m : ℕ). 16 * m) (sym size);
        whole = subst (λ (c : ChunksView). All (λ o. length o ≡ 4096) c.blocks) (sym is)
            (All-set (λ o. length o ≡ 4096) blocks.blocks n (overwritten at part (get_or blocks.blocks n []))
            (length-overwritten at part (get_or blocks.blocks n []) (omega arith) ∙ block) v.whole);
        room = subst (λ (c : ChunksView). All (λ p. HasOctets c.made (p / 16)) kept.members) (sym is) v.room;
        octets_size = v.octets_size;
        kept_numbers = v.kept_numbers;
        same_bound = v.same_bound ∙ sym size;
        dirty_numbers = v.dirty_numbers;
      }
