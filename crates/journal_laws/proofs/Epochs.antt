-- What an image stands for when the other epoch is written.
use Rattle.std.proofs.Common.{◌≡◌, ◌≢◌, inl, inr, ◌<◌, ◌≤◌, ltb, if◌then◌else◌, ℕ, zero, suc, ◌+◌, cond, Bool, true, false, List, []}
use Rattle.std.proofs.Common.{◌∷◌, ◌++◌, ◌⊎◌, length, get_or, map, refl, sym, ◌∙◌, ap, subst, arith}
use Rattle.std.specs.List.{All, filter, range_with_len}
use Rattle.std.proofs.lemmas.Bool.{cases_eq, eqb-true, ne_eqb}
use Rattle.std.proofs.lemmas.List.{length-map}
use Rattle.std.proofs.lemmas.List.Elements.{All-nil}
use Rattle.disk.specs.Image.{Torn}
use Rattle.model.specs.Volume.{Batch, StandsFor, all_laid_over, batch_in, block, epoch_at, epoch_of, format_number, gate_place, home}
use Rattle.model.specs.Volume.{insert, is_open, open_segments, other_epoch, rising, segment_count}
use Rattle.journal_laws.specs.Held.{AreOpen, HeldBatch, batches_of}
use Rattle.journal_laws.specs.Images.{IsCarried, open_batches}
use Rattle.journal_laws.proofs.Formats.{told_by}
use Rattle.journal_laws.proofs.Places.{each_at}
use Rattle.journal_laws.proofs.Standing.{IsSameHead, block_kept, head_kept, home_kept, none_are_open, octet_kept, same_epoch, stands_bare}

-- ---- as many open segments as there are segments

-- a test that as many pass as there are numbers in a range passes them all
filter_few : (f : ℕ → Bool) (a n : ℕ) → length (filter f (range_with_len a n)) ≤ n
filter_few f a zero = omega arith
filter_few f a (suc n) = go (filter_few f (a + 1) n) (f a)
  where
    go : length (filter f (range_with_len (a + 1) n)) ≤ n → (b : Bool)
        → length (cond b (a ∷ filter f (range_with_len (a + 1) n)) (filter f (range_with_len (a + 1) n))) ≤ suc n
    go few true = omega (arith, few)
    go few false = omega (arith, few)

filter_all : (f : ℕ → Bool) (a n s : ℕ) → length (filter f (range_with_len a n)) ≡ n → a ≤ s → s < a + n → f s ≡ true
filter_all f a zero s all low high = absurd (omega (arith, low, high))
filter_all f a (suc n) s all low high =
    go (λ rest other. filter_all f (a + 1) n s rest (omega (arith, low, other)) (omega (arith, high))) (f a) refl all (cases_eq s a)
  where
    go : (length (filter f (range_with_len (a + 1) n)) ≡ n → s ≢ a → f s ≡ true) → (b : Bool) → f a ≡ b
        → length (cond b (a ∷ filter f (range_with_len (a + 1) n)) (filter f (range_with_len (a + 1) n))) ≡ suc n → (s ≡ a) ⊎ (s ≢ a)
        → f s ≡ true
    go more true is count (inl here) = ap f here ∙ is
    go more true is count (inr other) = more (omega (arith, count)) other
    go more false is count where_at = absurd (omega (arith, count, filter_few f (a + 1) n))

length-insert : (b : Batch) (bs : List Batch) → length (insert b bs) ≡ suc (length bs)
length-insert b [] = refl
length-insert b (c ∷ bs) = go (length-insert b bs) (ltb c.number b.number)
  where
    go : length (insert b bs) ≡ suc (length bs) → (t : Bool)
        → length (if t then c ∷ insert b bs else b ∷ c ∷ bs) ≡ suc (suc (length bs))
    go rest true = ap suc rest
    go rest false = refl

length-rising : (bs : List Batch) → length (rising bs) ≡ length bs
length-rising [] = refl
length-rising (b ∷ bs) = length-insert b (rising bs) ∙ ap suc (length-rising bs)

every_open : (x : List ℕ) (held : List HeldBatch) → AreOpen held x → length held ≡ segment_count x → (s : ℕ) → s < segment_count x
    → is_open s x ≡ true
every_open x held are all s there =
    let batches : length (open_batches x) ≡ length (batches_of held) = ap length are.batches in
    let count : length (open_segments x) ≡ segment_count x =
    sym (length-map (open_segments x) (λ s. batch_in s x)) ∙ sym (length-rising (map (λ s. batch_in s x) (open_segments x)))
    ∙ batches ∙ length-map held (λ h. h.batch) ∙ all in
    filter_all (λ s. is_open s x) 0 (segment_count x) s count (omega arith) (omega (arith, there))

-- ---- a write of the epoch, torn or whole

module _ (x c : List ℕ) (tears : Torn epoch_at 1 x c) where
  its_head : IsSameHead x c
  its_head = head_kept x c 150 1 (omega arith) (omega arith) tears

  its_home : home c ≡ home x
  its_home = home_kept x c 150 1 (omega arith) (omega arith) tears

  -- the gates of the format are other octets
  pub epoch_keeps_format : format_number c ≡ format_number x
  epoch_keeps_format =
      ap (λ (second : ℕ). told_by second (get_or (block 0 c) 149 0))
      (octet_kept x c 150 1 (omega arith) (omega arith) tears 148 (inl (omega arith)) (omega arith))
      ∙ ap (λ (third : ℕ). told_by (get_or (block 0 x) 148 0) third)
      (octet_kept x c 150 1 (omega arith) (omega arith) tears 149 (inl (omega arith)) (omega arith))

  -- a gate with the epoch that was doesn't have another
  shut_now : epoch_of c ≢ epoch_of x → (s : ℕ) → is_open s x ≡ true → is_open s c ≡ false
  shut_now other s opened =
      let was : get_or (block (gate_place s) x) 0 0 ≡ epoch_of x = eqb-true (get_or (block (gate_place s) x) 0 0) (epoch_of x) opened in
      let is : get_or (block (gate_place s) c) 0 0 ≡ epoch_of x =
      ap (λ (b : List ℕ). get_or b 0 0) (block_kept x c 150 1 (omega arith) (omega arith) tears (gate_place s) (omega arith)) ∙ was in
      ne_eqb (get_or (block (gate_place s) c) 0 0) (epoch_of c) (λ e. other (sym e ∙ is))

  none_now : ((s : ℕ) → s < segment_count x → is_open s x ≡ true) → epoch_of c ≢ epoch_of x → open_segments c ≡ []
  none_now every other = none_are_open c (λ s there. shut_now other s (every s (omega (arith, there, its_head.count))))

-- ---- rows

-- no segment is open, so that none is carried
none_carried : (x : List ℕ) → open_segments x ≡ [] → IsCarried x
none_carried x none closed left is =
    go closed left (is ∙ ap (λ (ss : List ℕ). rising (map (λ s. batch_in s x) ss)) none)
  where
    go : (closed left : List Batch) → closed ++ left ≡ [] → all_laid_over (home x) left ≡ home x
    go [] left e = ap (all_laid_over (home x)) e
    go (b ∷ closed) left e = absurd (let sizes : length (b ∷ closed ++ left) ≡ 0 = ap length e in omega (arith, sizes))

none_held : (x : List ℕ) → open_segments x ≡ [] → AreOpen [] x
none_held x none = record {
  batches = ap (λ (ss : List ℕ). rising (map (λ s. batch_in s x) ss)) none;
  each = tt;
  all = λ s opened. each_at (λ s. ⊥) (λ s. is_open s x) 0 (segment_count x)
      (subst (λ (ss : List ℕ). All (λ s. ⊥) ss) (sym none) (All-nil (λ s. ⊥))) s (omega arith) (omega (arith, opened.0)) opened.1;
  rise = tt;
}

-- the epoch that was, or the other
pub epoch_or_other : (x c label : List ℕ) (blocks : List (List ℕ)) (held : List HeldBatch) → StandsFor x label blocks → AreOpen held x
    → length held ≡ segment_count x → IsCarried x → Torn epoch_at 1 x c → StandsFor c label blocks × (format_number c ≡ format_number x)
epoch_or_other x c label blocks held stands are all carried tears = (
  elim (cases_eq (epoch_of c) (epoch_of x)) [
    | inl same ↦ same_epoch x c 150 1 (omega arith) (omega arith) tears label blocks stands same
    | inr other ↦ bare (none_now x c tears (every_open x held are all) other)
  ],
  epoch_keeps_format x c tears,
)
  where
    head : IsSameHead x c
    head = its_head x c tears

    bare : open_segments c ≡ [] → StandsFor c label blocks
    bare none =
        subst (λ (bs : List (List ℕ)). StandsFor c label bs)
        (its_home x c tears ∙ sym (carried [] (open_batches x) refl) ∙ stands.has_blocks)
        (subst (λ (l : List ℕ). StandsFor c l (home c)) (head.label ∙ stands.has_label)
        (stands_bare c (head.superblock stands.has_superblock) none))

pub other_closes_all : (x c : List ℕ) (held : List HeldBatch) → AreOpen held x → length held ≡ segment_count x → Torn epoch_at 1 x c
    → epoch_of c ≡ other_epoch (epoch_of x) → AreOpen [] c × IsCarried c
other_closes_all x c held are all tears is =
    let none = none_now x c tears (every_open x held are all) (λ same. absurd (omega (arith, same, is))) in
    (none_held c none, none_carried c none)
