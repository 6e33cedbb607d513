-- What each write leaves of the content.
use Rattle.std.proofs.Common.{◌≡◌, inl, inr, ◌<◌, ◌≤◌, ℕ, ◌+◌, ◌*◌, Bool, true, false, List, [], ◌∷◌, length, get_or, take, drop, refl, sym}
use Rattle.std.proofs.Common.{◌∙◌, ap, subst, arith}
use Rattle.std.proofs.lemmas.Bool.{cases_eq, eq-eqb}
use Rattle.std.proofs.lemmas.List.{drop_more, take_more}
use Rattle.std.proofs.Math.Seq.{take-length}
use Rattle.disk.specs.Image.{overwritten}
use Rattle.model.specs.Volume.{StandsFor, all_laid_over, block, descriptor_place, gate_closed, gate_place, home, home_place, home_size}
use Rattle.model.specs.Volume.{epoch_in, epoch_of, image_place, is_open, logical_blocks, segment_count}
use Rattle.journal_laws.specs.Held.{AreOpen, HeldBatch, IsHomeOfHeld, IsHomeOnTheWay, batches_of}
use Rattle.journal_laws.specs.Images.{IsCarried, IsInside, SameBut}
use Rattle.journal_laws.proofs.Blocks.{block-overwritten, first-overwritten, overwritten_same, same_but_more, same_but_then}
use Rattle.journal_laws.proofs.Carrying.{all_home, none_home, one_home}
use Rattle.journal_laws.proofs.Gates.{carried_home, closed_open, held_kept}
use Rattle.journal_laws.proofs.Standing.{full_open, gate_same, unread_open}
use Rattle.journal_laws.proofs.Writing.{home_of_held, torn_held_open}
use Rattle.journal_segments.specs.Staged.{IsSound}
use Rattle.journal.specs.Flight.{Flight, all_of, are_all, held_at, left_open, none_held, sizes_of}
use Rattle.journal.specs.Inside.{Holds}
use Rattle.journal.specs.Order.{Carried, following}
use Rattle.journal.specs.declared.Next.{Next}
use Rattle.journal.specs.declared.Next.TheVariants.{Image, Commit, Home, Settle, Close, Finish}
use Rattle.journal.proofs.Admitted.{is_shut, shut_by, shut_same}
use Rattle.journal.proofs.Flights.{after_home, after_image, length-sizes, size_at}

-- what is open before the first write that closes
left_first : (b : Bool) (held : List HeldBatch) → left_open b 0 held ≡ held
left_first true held = refl
left_first false held = refl

module _ (f : Flight) (x label : List ℕ) (stands : StandsFor x label (logical_blocks x)) (there : f.batch.place < segment_count x) where
  abbrev m : ℕ
  m = f.batch.place

  size : length x ≡ 4096 * home_place (segment_count x) (home_size x)
  size = stands.has_superblock.exactly

  -- a write inside the closed segment of the batch
  module _ (k : ℕ) (octets : List ℕ) (inside : IsInside m k) (whole : length octets ≡ 4096) where
    abbrev y : List ℕ
    y = overwritten (4096 * k) octets x

    fits_in : 4096 * k + length octets ≤ length x
    fits_in = omega (arith, size, inside.1, there, whole)

    same_in : SameBut (λ n. n ≡ k) x y
    same_in = overwritten_same k octets x (omega (arith, whole)) fits_in

    put_in : block k y ≡ octets
    put_in = block-overwritten k octets x whole fits_in

    shut_in : is_open m x ≡ false → is_open m y ≡ false
    shut_in shut = gate_same m x y (ap epoch_in (same_in.same 0 (λ e. absurd (omega (arith, e, inside.0)))))
        (same_in.same (gate_place m) (λ e. absurd (omega (arith, e, inside.0)))) ∙ shut

    open_in : is_open m x ≡ false → AreOpen f.held x → AreOpen f.held y
    open_in shut are = unread_open x y label (logical_blocks x) m stands shut there
        (same_but_more (λ n. n ≡ k) (IsInside m) x y (λ n e. (omega (arith, e, inside.0), omega (arith, e, inside.1))) same_in) f.held are

  pub holds_descriptor : length f.batch.descriptor ≡ 4096 → Holds f Next.Descriptor x
      → Holds f (Image 0) (overwritten (4096 * descriptor_place m) f.batch.descriptor x)
  holds_descriptor whole holds =
      let inside : IsInside m (descriptor_place m) = (omega arith, omega arith) in (
        open_in (descriptor_place m) f.batch.descriptor inside whole holds.1 holds.0,
        shut_in (descriptor_place m) f.batch.descriptor inside whole holds.1,
        put_in (descriptor_place m) f.batch.descriptor inside whole,
        λ k within. absurd (omega (arith, within)),
      )

  pub holds_image : (n : ℕ) (carried : Carried) (i : ℕ) → n ≡ length f.batch.images → i < n → n ≤ 512
      → length (get_or f.batch.images i []) ≡ 4096 → Holds f (Image i) x
      → Holds f (following n carried (Image i)) (overwritten (4096 * image_place m i) (get_or f.batch.images i []) x)
  holds_image n carried i n_is within few whole holds =
      after_image (λ s. Holds f s (overwritten (4096 * image_place m i) (get_or f.batch.images i []) x)) n carried i
      (λ e. (are, shut, record { descriptor_is = second; images_are = λ k low. images k (omega (arith, low, e, n_is)) }))
      (λ e. (are, shut, second, images))
    where
      inside : IsInside m (image_place m i)
      inside = (omega arith, omega (arith, within, few))

      are : AreOpen f.held (overwritten (4096 * image_place m i) (get_or f.batch.images i []) x)
      are = open_in (image_place m i) (get_or f.batch.images i []) inside whole holds.1 holds.0

      shut : is_open m (overwritten (4096 * image_place m i) (get_or f.batch.images i []) x) ≡ false
      shut = shut_in (image_place m i) (get_or f.batch.images i []) inside whole holds.1

      same : SameBut (λ k. k ≡ image_place m i) x (overwritten (4096 * image_place m i) (get_or f.batch.images i []) x)
      same = same_in (image_place m i) (get_or f.batch.images i []) inside whole

      second : block (descriptor_place m) (overwritten (4096 * image_place m i) (get_or f.batch.images i []) x) ≡ f.batch.descriptor
      second = same.same (descriptor_place m) (λ e. absurd (omega (arith, e))) ∙ holds.2

      images : (k : ℕ) → k < i + 1 → block (image_place m k) (overwritten (4096 * image_place m i) (get_or f.batch.images i []) x)
          ≡ get_or f.batch.images k []
      images k low = elim (cases_eq k i) [
        | inl is ↦
            subst (λ (n : ℕ). block (image_place m n) (overwritten (4096 * image_place m i) (get_or f.batch.images i []) x)
            ≡ get_or f.batch.images n []) (sym is)
            (put_in (image_place m i) (get_or f.batch.images i []) inside whole)
        | inr other ↦ same.same (image_place m k) (λ e. absurd (other (omega (arith, e)))) ∙ holds.3 k (omega (arith, low, other))
      ]

  -- the gate is opened
  pub holds_opened : (epoch : ℕ) → epoch_of x ≡ epoch → Holds f Next.OpenGate x
      → Holds f Commit (overwritten (4096 * gate_place m) (epoch ∷ []) x)
  holds_opened epoch is holds =
      let fits : 4096 * gate_place m + 1 ≤ length x = omega (arith, size, there) in
      let y = overwritten (4096 * gate_place m) (epoch ∷ []) x in
      let same : SameBut (λ k. k ≡ gate_place m) x y = overwritten_same (gate_place m) (epoch ∷ []) x (omega arith) fits in
      let now : epoch_of y ≡ epoch = ap epoch_in (same.same 0 (λ e. absurd (omega (arith, e)))) ∙ is in
      let room : 4096 * gate_place m + 1 ≤ length y = omega (arith, fits, same.size) in
      let z = gate_closed m y in
      let back : SameBut (λ k. k ≡ gate_place m) y z = overwritten_same (gate_place m) (0 ∷ []) y (omega arith) room in
      let shut : is_open m z ≡ false = shut_by m z (first-overwritten (gate_place m) 0 y room) in (
        held_kept x z label (logical_blocks x) m stands there (same_but_then (λ k. k ≡ gate_place m) x y z same back) (shut
            ∙ sym holds.1) f.held holds.0,
        eq-eqb (get_or (block (gate_place m) y) 0 0) (epoch_of y) (first-overwritten (gate_place m) epoch x fits ∙ sym now),
        record {
          descriptor_is = same.same (descriptor_place m) (λ e. absurd (omega (arith, e))) ∙ holds.2.descriptor_is;
          images_are = λ k within. same.same (image_place m k) (λ e. absurd (omega (arith, e))) ∙ holds.2.images_are k within;
        },
      )

module _ (f : Flight) (x label : List ℕ) (stands : StandsFor x label (logical_blocks x)) (count : segment_count x ≡ f.segments) where
  -- what is carried home
  whole_size : length x ≡ 4096 * home_place (segment_count x) (home_size x)
  whole_size = stands.has_superblock.exactly

  pub holds_first : AreOpen (all_of f) x → Holds f (Home 0 0) x
  holds_first are = (are, (home x, refl))

  module _ (n j i : ℕ) (last : f.is_last ≡ true) (here : j < length (all_of f)) (sound : IsSound (home_size x) (held_at (all_of f) j).batch)
      (within : i < length (held_at (all_of f) j).batch.numbers) (holds : Holds f (Home j i) x) where
    abbrev h : HeldBatch
    h = held_at (all_of f) j

    abbrev place : ℕ
    place = home_place f.segments (get_or h.batch.numbers i 0)

    abbrev image : List ℕ
    image = get_or h.batch.images i []

    abbrev z : List ℕ
    z = overwritten (4096 * place) image x

    abbrev first : List (List ℕ)
    first = holds.1.0

    whole : length image ≡ 4096
    whole = sound.whole i (omega (arith, within, sound.images))

    below : get_or h.batch.numbers i 0 < home_size x
    below = sound.below i 0 within

    same : SameBut (λ k. k ≡ place) x z
    same = overwritten_same place image x (omega (arith, whole)) (omega (arith, whole, whole_size, below, count))

    homes : SameBut (IsHomeOfHeld (segment_count x) (all_of f)) x z
    homes =
        subst (λ (k : ℕ). SameBut (IsHomeOfHeld k (all_of f)) x z) (sym count)
        (same_but_more (λ k. k ≡ place) (IsHomeOfHeld f.segments (all_of f)) x z
        (λ k e. subst (IsHomeOfHeld f.segments (all_of f)) (sym e) (home_of_held f.segments (all_of f) j i none_held here within)) same)

    are : AreOpen (all_of f) z
    are = torn_held_open x z label (logical_blocks x) (all_of f) stands holds.0 homes

    more : IsHomeOnTheWay first (take j (all_of f)) h.batch (i + 1) z
    more =
        subst (λ (k : ℕ). IsHomeOnTheWay first (take j (all_of f)) h.batch (i + 1)
        (overwritten (4096 * home_place k (get_or h.batch.numbers i 0)) image x)) count
        (one_home first (take j (all_of f)) h.batch i x within (omega (arith, within, sound.images)) whole below
        (omega (arith, whole_size)) holds.1.1)

    ended : i + 1 ≡ get_or (sizes_of f).counts j 0 → home z ≡ all_laid_over first (batches_of (take (j + 1) (all_of f)))
    ended e =
        all_home first (take j (all_of f)) h z sound.images (subst (λ (k : ℕ). IsHomeOnTheWay first (take j (all_of f)) h.batch k z) (e
        ∙ size_at f j last here) more)
        ∙ ap (λ (hs : List HeldBatch). all_laid_over first (batches_of hs)) (sym (take_more (all_of f) j none_held here))

    pub holds_home : Holds f (following n (sizes_of f) (Home j i)) z
    holds_home =
        after_home (λ s. Holds f s z) n (sizes_of f) j i
        (λ e g. (
          are,
          (
            first,
            ended e ∙ ap (λ (hs : List HeldBatch). all_laid_over first (batches_of hs))
                (ap (λ (k : ℕ). take k (all_of f)) (g ∙ length-sizes f last) ∙ take-length (all_of f)),
          ),
        ))
        (λ e g. (are, (first, none_home first (take (j + 1) (all_of f)) (held_at (all_of f) (j + 1)).batch z (ended e))))
        (λ e. (are, (first, more)))

  -- once all are home, they are carried
  pub holds_settled : Holds f Settle x → Holds f (Close 0) x
  holds_settled holds = (
    subst (λ (hs : List HeldBatch). AreOpen hs x) (sym (left_first (are_all f) (all_of f))) holds.0,
    carried_home x holds.1.0 (full_open x) (holds.1.1 ∙ ap (all_laid_over holds.1.0) (sym holds.0.batches)),
  )

  -- and the first gate is closed
  pub holds_closed : (j : ℕ) → are_all f ≡ false → j < length (all_of f) → AreOpen (drop j (all_of f)) x → IsCarried x
      → Holds f (Finish j) (overwritten (4096 * gate_place (held_at (all_of f) j).place) (0 ∷ []) x)
  holds_closed j each here are_open carried =
      let h = held_at (all_of f) j in
      let are = subst (λ (hs : List HeldBatch). AreOpen hs x) (drop_more (all_of f) j none_held here) are_open in
      let there = are.each.0.0.0 in
      let closed = closed_open x (gate_closed h.place x) label (logical_blocks x) h (drop (j + 1) (all_of f)) stands are carried
      (shut_same x label h.place stands there) (is_shut x label h.place stands there) in (
        subst (λ (b : Bool). AreOpen (left_open b (j + 1) (all_of f)) (gate_closed h.place x)) (sym each) closed.1.1,
        closed.1.0,
      )
