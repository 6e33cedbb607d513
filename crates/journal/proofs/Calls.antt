-- Each call of a batch: what the journal keeps after it, and what a crash within it or after it leaves.
use Rattle.std.proofs.Common.{◌≡◌, ◌≢◌, ◌⊎◌, inl, inr, ⊎_elim, ◌<◌, ◌≤◌, ℕ, ◌+◌, ◌*◌, Bool, true, false, IsTrue, cond, if◌then◌else◌, List}
use Rattle.std.proofs.Common.{[], ◌∷◌, length}
use Rattle.std.proofs.Common.{get_or, drop, refl, sym, ◌∙◌, ap, subst, arith, Result, Ok, Err}
use Rattle.disk.specs.Calls.{Does, Syncs, Writes}
use Rattle.disk.specs.Calls.Call.{Write}
use Rattle.disk.specs.Device.{Device, Elapses, IsTornImage, LeavesNoMore, TearsAt, LeftTornAt}
use Rattle.disk.specs.declared.DiskError.{DiskError}
use Rattle.disk.specs.Image.{Torn, part, overwritten}
use Rattle.journal_laws.specs.Held.{AreOpen, HeldBatch}
use Rattle.journal_laws.specs.Images.{IsCarried, SameBut}
use Rattle.journal_laws.proofs.Blocks.{same_but_back, same_but_then}
use Rattle.journal_laws.proofs.Epochs.{epoch_or_other, other_closes_all}
use Rattle.journal_laws.proofs.Writing.{home_of_held}
use Rattle.journal_segments.specs.Staged.{IsSound, IsStaged, Staged, staged_at}
use Rattle.journal.specs.Flight.{Flight, all_of, are_all, closing_block, flight_in, held_at, left_open, none_held, sizes_of}
use Rattle.journal.specs.Inside.{IsLive, IsOrdered, IsWithin, Holds, Touched, IsAdmitted, IsKept, IsTold, blocks_without, superblock_after}
use Rattle.journal.specs.Calls.{call_at, written_in}
use Rattle.journal.specs.Order.{at_fault, following}
use Rattle.model.specs.Volume.{descriptor_place, format_in, format_number, gate_place, home_place, home_size, image_place, laid_over}
use Rattle.model.specs.Volume.{StandsFor, block, epoch_in, epoch_of, logical_blocks, other_epoch, segment_count}
use Rattle.journal.specs.declared.Next.{Next}
use Rattle.journal.specs.declared.Next.TheVariants.{Idle, Descriptor, Image, Seal, OpenGate, Commit, Home, Settle, Close, Finish}
use Rattle.std.proofs.lemmas.Bool.{eqb-true, true≢false}
use Rattle.journal.proofs.Admitted.{Bears, committed, shut_already}
use Rattle.journal.proofs.Contents.{holds_closed, holds_descriptor, holds_first, holds_home, holds_image, holds_opened, holds_settled}
use Rattle.journal.proofs.Closing.{HasEpoch, epoch_put, epoch_same, epoch_written, left_none, nothing_differs, other_is_epoch, torn_epoch}
use Rattle.journal.proofs.Flights.{after_commit, after_gate, after_home, after_image, closings_all, closings_each, closings_few}
use Rattle.journal.proofs.Flights.{closings_some, last_closing, last_where, left_where, less_before}
use Rattle.journal.proofs.Flights.{size_at, sizes_some, sound_all, there_of, within_commit, within_gate, within_home, within_image}
use Rattle.journal.proofs.Transitions.{sizes_same, admitted_after, told_after, told_failed, untouched_zero, without_same, image_torn}
use Rattle.journal.proofs.Transitions.{images_synced}

-- the logical blocks after a good call, by what they were before
abbrev pub blocks_then : Next → List (List ℕ) → List (List ℕ) → List (List ℕ)
blocks_then Commit before with_batch = with_batch
blocks_then next before with_batch = before

module _ (old new : Device) (blocks : ℕ) (superblock : List ℕ) (room : List Staged) (filled : ℕ) (is_last : Bool) (time : Elapses old new)
    (law : IsTrue new.tells → new.may_leave new.content) where
  abbrev f : Flight
  f = flight_in room filled is_last

  abbrev n : ℕ
  n = length f.batch.numbers

  abbrev m : ℕ
  m = f.batch.place

  abbrev epoch : ℕ
  epoch = epoch_in superblock

  abbrev Was : Next → Type 0
  Was s = IsKept old blocks superblock s false room filled is_last

  abbrev without_at : Next → Device → List (List ℕ)
  without_at s device = blocks_without m s device.content

  -- what stands after a call that leaves this superblock in memory: what is kept, the blocks without the batch, and what a crash since
  -- an earlier time might have left
  pub record IsAfterIn (super : List ℕ) (g : Next) (h : Bool) (without : List (List ℕ)) : Type 0 where
    pub is_kept : IsKept new blocks super g h room filled is_last
    pub is_without : IsTrue old.tells → blocks_without m g new.content ≡ without
    pub is_since : IsTrue old.tells → (t : ℕ) (c : List ℕ) → t ≤ old.clock → new.left_since t c
        → old.left_since t c ⊎ (IsAdmitted g (part 20 128 super) (blocks_without m g new.content)
        (laid_over (blocks_without m g new.content) f.batch.numbers f.batch.images) c × (format_in super ≤ format_number c))

  abbrev pub IsAfter : Next → Bool → List (List ℕ) → Type 0
  IsAfter g h without = IsAfterIn superblock g h without

  -- a write, good or failed
  record HasWritten (at : ℕ) (written : List ℕ) (h : Bool) : Type 0 where
    content : IsTrue old.tells → h ≡ false → new.content ≡ overwritten at written old.content
    crash : TearsAt at (length written) old new
    since : LeftTornAt at (length written) old new

  module _ (s : Next) (was : Was s) (live : IsLive is_last s) where
    staged : (t : ℕ) → t ≤ filled → IsStaged blocks (staged_at room t)
    staged = was.staged live

    staged_in : (t : IsTrue old.tells) → IsStaged (home_size old.content) f.batch
    staged_in t = subst (λ (b : ℕ). IsStaged b f.batch) (sym (was.told t).size) (staged filled (omega arith))

    there : (t : IsTrue old.tells) → m < segment_count old.content
    there t = subst (λ (k : ℕ). m < k) (sym (was.told t).count) was.place

    -- after a call that leaves only images of a kind, which have blocks in common with the content before it
    after_call : (g : Next) (h : Bool) (without : List (List ℕ)) (P : List ℕ → Type 0) → IsWithin n (sizes_of f) g
        → (IsOrdered is_last g → IsOrdered is_last s) → g ≢ Descriptor
        → (IsTrue old.tells → (c : List ℕ) → new.may_leave c → P c)
        → (IsTrue old.tells → (t : ℕ) (c : List ℕ) → t ≤ old.clock → new.left_since t c → old.left_since t c ⊎ P c)
        → (IsTrue old.tells → Bears f g old.content)
        → (IsTrue old.tells → (c : List ℕ) → P c → SameBut (Touched f g) old.content c)
        → (IsTrue old.tells → h ≡ false → Holds f g new.content)
        → (IsTrue old.tells → blocks_without m g old.content ≡ without)
        → IsAfter g h without
    after_call g h without P within ordered other left since bears same holds is = record {
      is_kept = record {
        size = time.size ∙ was.size;
        low = was.low;
        high = was.high;
        superblock_size = was.superblock_size;
        few = was.few;
        there = was.there;
        place = was.place;
        places = λ lives. was.places live;
        left = was.left;
        within = within;
        staged = λ lives. staged;
        order = λ o. was.order (ordered o);
        described = λ e. absurd (other e);
        told = λ tells.
            let t = told_new tells in
            let told = was.told t in
            told_after f old.content (part 20 128 superblock) told.stands (there t) told.count (staged_in t) new blocks g h told.size
            (bears t) (λ c now. same t c (left t c now)) (law tells) (holds t);
        format_is = λ tells runs. format_same (told_new tells) new.content (now (told_new tells));
        epoch_is = λ tells runs. let t = told_new tells in
            ap epoch_in (zeroth t new.content (now t)) ∙ was.epoch_is t refl;
        formats = λ tells c left_now. bound (told_new tells) c (same (told_new tells) c (left (told_new tells) c left_now));
      };
      is_without = λ t. without_same f old.content (part 20 128 superblock) (was.told t).stands (there t) (was.told t).count
          (staged_in t) g new.content (bears t) (now t) ∙ is t;
      is_since = λ t time c before gone.
          ⊎_elim (λ earlier. inl earlier)
          (λ p. inr (
            admitted_after f old.content (part 20 128 superblock) (was.told t).stands (there t) (was.told t).count
                (staged_in t) g new.content (bears t) (now t) c (same t c p),
            bound t c (same t c p),
          ))
          (since t time c before gone);
    }
      where
        told_new : IsTrue new.tells → IsTrue old.tells
        told_new tells = subst (λ (b : Bool). IsTrue b) time.tells tells

        -- the superblock isn't touched
        zeroth : IsTrue old.tells → (c : List ℕ) → SameBut (Touched f g) old.content c → block 0 c ≡ block 0 old.content
        zeroth t c alike = alike.same 0 (untouched_zero f g old.content (bears t))

        format_same : IsTrue old.tells → (c : List ℕ) → SameBut (Touched f g) old.content c → format_number c ≡ format_in superblock
        format_same t c alike = ap format_in (zeroth t c alike) ∙ was.format_is t refl

        bound : IsTrue old.tells → (c : List ℕ) → SameBut (Touched f g) old.content c → format_in superblock ≤ format_number c
        bound t c alike = omega (arith, format_same t c alike)

        now : (t : IsTrue old.tells) → SameBut (Touched f g) old.content new.content
        now t = same t new.content (left t new.content (law (subst (λ (b : Bool). IsTrue b) (sym time.tells) t)))

    -- after a write within block j
    after_write : (g : Next) (h : Bool) (j : ℕ) (written : List ℕ) → HasWritten (4096 * j) written h → length written ≤ 4096
        → IsWithin n (sizes_of f) g → (IsOrdered is_last g → IsOrdered is_last s) → g ≢ Descriptor
        → Touched f g j → ((k : ℕ) → Touched f s k → Touched f g k)
        → (IsTrue old.tells → Bears f g old.content)
        → (IsTrue old.tells → Holds f g (overwritten (4096 * j) written old.content))
        → (IsTrue old.tells → without_at g old ≡ without_at s old)
        → IsAfter g h (without_at s old)
    after_write g h j written did few within ordered other here more bears holds is =
        after_call g h (without_at s old) (IsTornImage (4096 * j) (length written) old) within ordered other did.crash did.since bears
        (λ t. image_torn f old s g j (length written) few ((was.told t).same refl) here more)
        (λ t runs. subst (λ (x : List ℕ). Holds f g x) (sym (did.content t runs)) (holds t))
        is

    -- after a good sync
    after_sync : {grows : Bool} (x : Unit {0}) (g : Next) (without : List (List ℕ)) → Syncs grows (Ok x) old new
        → IsWithin n (sizes_of f) g → (IsOrdered is_last g → IsOrdered is_last s) → g ≢ Descriptor
        → (IsTrue old.tells → Bears f g old.content)
        → (IsTrue old.tells → Holds f g old.content)
        → (IsTrue old.tells → without_at g old ≡ without)
        → IsAfter g false without
    after_sync x g without did within ordered other bears holds is =
        after_call g false without (λ c. new.may_leave c) within ordered other (λ t c left. left)
        (λ t time c before gone. inl (did.since t time c before gone)) bears
        (λ t. images_synced (Touched f g) old new (did.durable t))
        (λ t runs. subst (λ (x : List ℕ). Holds f g x) (sym (did.content t)) (holds t))
        is

  written_ok : {grows : Bool} (x : Unit {0}) (at : ℕ) (written : List ℕ) → Writes grows at written (Ok x) old new
      → HasWritten at written false
  written_ok x at written did = record { content = λ t runs. did.content t; crash = did.crash; since = did.since }

  written_err : {grows : Bool} (e : DiskError) (at : ℕ) (written : List ℕ) → Writes grows at written (Err e) old new
      → HasWritten at written true
  written_err e at written did = record { content = λ t runs. absurd (true≢false runs); crash = did.crash; since = did.since }

  after_descriptor : (h : Bool) → Was Descriptor → HasWritten (4096 * descriptor_place m) f.batch.descriptor h
      → IsAfter (Image 0) h (without_at Descriptor old)
  after_descriptor h was did =
      let staged = was.staged tt filled (omega arith) in
      after_write Descriptor was tt (Image 0) h (descriptor_place m) f.batch.descriptor did (omega (arith, staged.size))
      (omega (arith, staged.sound.some)) (λ o. tt) (λ e. cc) (omega arith, omega arith) (λ k e. absurd e)
      (λ t. ((was.told t).holds refl).1)
      (λ t. holds_descriptor f old.content (part 20 128 superblock) (was.told t).stands (there Descriptor was tt t) staged.size
      ((was.told t).holds refl))
      (λ t. refl)

  after_open_gate : (h : Bool) → Was OpenGate → HasWritten (4096 * gate_place m) (epoch ∷ []) h
      → IsAfter Commit h (without_at OpenGate old)
  after_open_gate h was did =
      after_write OpenGate was tt Commit h (gate_place m) (epoch ∷ []) did (omega arith) tt (λ o. tt) (λ e. cc) refl (λ k e. absurd e)
      (λ t. let holds = (was.told t).holds refl in (holds.1, holds.0, holds.2, less_before room filled is_last was.there (was.order tt)))
      (λ t. holds_opened f old.content (part 20 128 superblock) (was.told t).stands (there OpenGate was tt t) epoch (was.epoch_is t refl)
      ((was.told t).holds refl))
      (λ t. shut_already old.content (part 20 128 superblock) m (was.told t).stands (there OpenGate was tt t) ((was.told t).holds refl).1)

  -- a gate is closed, where another closed segment is left
  after_close_gate : (j : ℕ) (h : Bool) → are_all f ≡ false → Was (Close j)
      → HasWritten (4096 * gate_place (held_at (all_of f) j).place) (0 ∷ []) h → IsAfter (Finish j) h (without_at (Close j) old)
  after_close_gate j h each was did =
      let here = there_of f j (omega (arith, was.within, closings_few (sizes_of f))) in
      let are : (t : IsTrue old.tells) → AreOpen (drop j (all_of f)) old.content =
      λ t. subst (λ (b : Bool). AreOpen (left_open b j (all_of f)) old.content) each ((was.told t).holds refl).0 in
      after_write (Close j) was tt (Finish j) h (gate_place (held_at (all_of f) j).place) (0 ∷ []) did (omega arith) was.within
      (λ o. absurd o) (λ e. cc) (sym (ap (λ (b : Bool). closing_block b j (all_of f)) each)) (λ k e. absurd e)
      (λ t. (each, here, are t, ((was.told t).holds refl).1))
      (λ t. holds_closed f old.content (part 20 128 superblock) (was.told t).stands (was.told t).count j each here (are t)
      ((was.told t).holds refl).1)
      (λ t. refl)

  -- the other epoch closes all at once
  module _ (h : Bool) (all : are_all f ≡ true) (was : Was (Close 0)) (super : List ℕ) (kept : HasEpoch h superblock super)
      (did : HasWritten 150 (other_epoch epoch ∷ []) h) where
    abbrev x : List ℕ
    x = old.content

    abbrev its_label : List ℕ
    its_label = part 20 128 superblock

    told_before : IsTrue new.tells → IsTrue old.tells
    told_before tells = subst (λ (b : Bool). IsTrue b) time.tells tells

    torn : (t : IsTrue old.tells) (c : List ℕ) → IsTornImage 150 1 old c → Torn 150 1 x c
    torn t c from = subst (λ (d : List ℕ). Torn 150 1 d c) (nothing_differs x from.0 ((was.told t).same refl from.0 from.1)) from.2

    are : (t : IsTrue old.tells) → AreOpen (all_of f) x
    are t = subst (λ (b : Bool). AreOpen (left_open b 0 (all_of f)) x) all ((was.told t).holds refl).0

    every : (t : IsTrue old.tells) → length (all_of f) ≡ segment_count x
    every t = eqb-true (length (all_of f)) f.segments all ∙ sym (was.told t).count

    one : (t : IsTrue old.tells) (c : List ℕ) → IsTornImage 150 1 old c
        → StandsFor c its_label (logical_blocks x) × (format_number c ≡ format_number x)
    one t c from = epoch_or_other x c its_label (logical_blocks x) (all_of f) (was.told t).stands (are t) (every t)
        ((was.told t).holds refl).1 (torn t c from)

    -- the content
    there_now : (t : IsTrue old.tells) → IsTornImage 150 1 old new.content
    there_now t = did.crash t new.content (law (subst (λ (b : Bool). IsTrue b) (sym time.tells) t))

    blocks_now : (t : IsTrue old.tells) → logical_blocks new.content ≡ logical_blocks x
    blocks_now t = (one t new.content (there_now t)).0.has_blocks

    other_now : (t : IsTrue old.tells) → h ≡ false → epoch_of new.content ≡ other_epoch epoch
    other_now t runs = ap epoch_of (did.content t runs)
        ∙ epoch_written (other_epoch epoch) x (omega (arith, (was.told t).stands.has_superblock.exactly)) (other_is_epoch superblock)

    closed_now : (t : IsTrue old.tells) → h ≡ false → AreOpen [] new.content × IsCarried new.content
    closed_now t runs = other_closes_all x new.content (all_of f) (are t) (every t) (torn t new.content (there_now t))
        (other_now t runs ∙ ap other_epoch (sym (was.epoch_is t refl)))

    bound_now : (t : IsTrue old.tells) (c : List ℕ) → IsTornImage 150 1 old c → format_in super ≤ format_number c
    bound_now t c from = omega (arith, (one t c from).1, was.format_is t refl, kept.format)

    admitted_now : (t : IsTrue old.tells) (c : List ℕ) → IsTornImage 150 1 old c → StandsFor c its_label (logical_blocks new.content)
    admitted_now t c from = subst (λ (bs : List (List ℕ)). StandsFor c its_label bs) (sym (blocks_now t)) (one t c from).0

    told_now : (t : IsTrue old.tells) → IsTrue new.tells → IsTold new blocks its_label (Finish 0) h f
    told_now t tells =
        let sizes = sizes_same x new.content its_label (logical_blocks x) (was.told t).stands (one t new.content (there_now t)).0
        (torn t new.content (there_now t)).size in
        record {
          stands = admitted_now t new.content (there_now t);
          size = sizes.0 ∙ (was.told t).size;
          count = sizes.1 ∙ (was.told t).count;
          admits = λ c left. inl (admitted_now t c (did.crash t c left));
          holds = λ runs. (
            subst (λ (b : Bool). AreOpen (left_open b 1 (all_of f)) new.content) (sym all) (closed_now t runs).0,
            (closed_now t runs).1,
          );
          same = λ runs c left.
              subst (λ (b : Bool). SameBut (λ k. k ≡ closing_block b 0 (all_of f)) new.content c) (sym all)
              (same_but_then (λ k. k ≡ 0) new.content x c
              (same_but_back (λ k. k ≡ 0) x new.content (torn_epoch x new.content (torn t new.content (there_now t))))
              (torn_epoch x c (torn t c (did.crash t c left))));
        }

    after_epoch : IsAfterIn super (Finish 0) h (without_at (Close 0) old)
    after_epoch = record {
      is_kept = record {
        size = time.size ∙ was.size;
        low = was.low;
        high = was.high;
        superblock_size = kept.size ∙ was.superblock_size;
        few = was.few;
        there = was.there;
        place = was.place;
        places = λ lives. was.places tt;
        left = was.left;
        within = was.within;
        staged = λ lives. was.staged tt;
        order = λ o. absurd o;
        described = λ e. absurd (let both : Finish 0 ≡ Descriptor = e in cc);
        told = λ tells. subst (λ (l : List ℕ). IsTold new blocks l (Finish 0) h f) (sym kept.label) (told_now (told_before tells) tells);
        format_is = λ tells runs. let t = told_before tells in
            (one t new.content (there_now t)).1 ∙ was.format_is t refl ∙ sym kept.format;
        formats = λ tells c left. let t = told_before tells in bound_now t c (did.crash t c left);
        epoch_is = λ tells runs. other_now (told_before tells) runs ∙ sym (kept.epoch runs);
      };
      is_without = λ t. blocks_now t;
      is_since = λ t time c before gone.
          ⊎_elim (λ earlier. inl earlier)
          (λ from. inr (
            inl (subst (λ (l : List ℕ). StandsFor c l (logical_blocks new.content)) (sym kept.label) (admitted_now t c from)),
            bound_now t c from,
          ))
          (did.since t time c before gone);
    }

  after_epoch_at : (j : ℕ) (h : Bool) → are_all f ≡ true → Was (Close j) → (super : List ℕ) → HasEpoch h superblock super
      → HasWritten 150 (other_epoch epoch ∷ []) h → IsAfterIn super (Finish j) h (without_at (Close j) old)
  after_epoch_at j h all was super kept did =
      let none : j ≡ 0 = omega (arith, was.within, closings_all f (last_closing f j was.within) all) in
      subst (λ (k : ℕ). Was (Close k) → IsAfterIn super (Finish k) h (without_at (Close k) old)) (sym none)
      (λ first. after_epoch h all first super kept did) was

  after_an_image : (i : ℕ) (h : Bool) → Was (Image i) → HasWritten (4096 * image_place m i) (get_or f.batch.images i []) h
      → IsAfter (following n (sizes_of f) (Image i)) h (without_at (Image i) old)
  after_an_image i h was did =
      let sound = (was.staged tt filled (omega arith)).sound in
      let whole = sound.whole i (omega (arith, was.within, sound.images)) in
      after_write (Image i) was tt (following n (sizes_of f) (Image i)) h (image_place m i) (get_or f.batch.images i []) did
      (omega (arith, whole))
      (within_image n (sizes_of f) i was.within) (λ o. tt)
      (after_image (λ g. g ≢ Descriptor) n (sizes_of f) i (λ e. λ d. cc) (λ e. λ d. cc))
      (after_image (λ g. Touched f g (image_place m i)) n (sizes_of f) i (λ e. (omega arith, omega (arith, was.within, sound.few)))
      (λ e. (omega arith, omega (arith, was.within, sound.few))))
      (λ k t. after_image (λ g. Touched f g k) n (sizes_of f) i (λ e. t) (λ e. t))
      (λ t. after_image (λ g. Bears f g old.content) n (sizes_of f) i (λ e. ((was.told t).holds refl).1) (λ e. ((was.told t).holds refl).1))
      (λ t. holds_image f old.content (part 20 128 superblock) (was.told t).stands (there (Image i) was tt t) n (sizes_of f) i
      (sym sound.images) was.within sound.few whole ((was.told t).holds refl))
      (λ t. after_image (λ g. without_at g old ≡ without_at (Image i) old) n (sizes_of f) i (λ e. refl) (λ e. refl))

  after_a_home : (j i : ℕ) (h : Bool) → Was (Home j i)
      → HasWritten (4096 * home_place (length room) (get_or (held_at (all_of f) j).batch.numbers i 0))
      (get_or (held_at (all_of f) j).batch.images i []) h
      → IsAfter (following n (sizes_of f) (Home j i)) h (without_at (Home j i) old)
  after_a_home j i h was did =
      let here = there_of f j was.within.0 in
      let last = last_where f (omega (arith, was.within.0)) in
      let sound = sound_all room filled is_last was.there blocks (was.staged tt) j here in
      let within : i < length (held_at (all_of f) j).batch.numbers = omega (arith, was.within.1, size_at f j last here) in
      let whole = sound.whole i (omega (arith, within, sound.images)) in
      let place = home_place (length room) (get_or (held_at (all_of f) j).batch.numbers i 0) in
      let touched : Touched f Settle place = home_of_held (length room) (all_of f) j i none_held here within in
      after_write (Home j i) was tt (following n (sizes_of f) (Home j i)) h place (get_or (held_at (all_of f) j).batch.images i []) did
      (omega (arith, whole))
      (within_home n (sizes_of f) j i (sizes_some room filled is_last was.there blocks (was.staged tt)) was.within)
      (λ o. absurd (after_home (λ g. IsOrdered is_last g → ⊥) n (sizes_of f) j i (λ e d x. x) (λ e d x. x) (λ e x. x) o))
      (after_home (λ g. g ≢ Descriptor) n (sizes_of f) j i (λ e d. λ x. cc) (λ e d. λ x. cc) (λ e. λ x. cc))
      (after_home (λ g. Touched f g place) n (sizes_of f) j i (λ e d. touched) (λ e d. touched) (λ e. touched))
      (λ k t. after_home (λ g. Touched f g k) n (sizes_of f) j i (λ e d. t) (λ e d. t) (λ e. t))
      (λ t. let are = ((was.told t).holds refl).0 in
      after_home (λ g. Bears f g old.content) n (sizes_of f) j i (λ e d. are) (λ e d. are) (λ e. are))
      (λ t. holds_home f old.content (part 20 128 superblock) (was.told t).stands (was.told t).count n j i last here
      (subst (λ (b : ℕ). IsSound b (held_at (all_of f) j).batch) (sym (was.told t).size) sound) within ((was.told t).holds refl))
      (λ t. after_home (λ g. without_at g old ≡ without_at (Home j i) old) n (sizes_of f) j i (λ e d. refl) (λ e d. refl) (λ e. refl))

  -- a failed call that wrote nothing
  no_more : (s : Next) (was : Was s) → LeavesNoMore old new → IsTrue old.tells
      → IsTold new blocks (part 20 128 superblock) s true f × (blocks_without m s new.content ≡ blocks_without m s old.content)
  no_more s was left t = told_failed old new blocks (part 20 128 superblock) s f was.place (was.told t) (left t)
      (law (subst (λ (b : Bool). IsTrue b) (sym time.tells) t))

  pub kept_failed : (s : Next) → s ≢ Descriptor → Was s → LeavesNoMore old new
      → IsKept new blocks superblock s true room filled is_last
  kept_failed s other was left = record {
    size = time.size ∙ was.size;
    low = was.low;
    high = was.high;
    superblock_size = was.superblock_size;
    few = was.few;
    there = was.there;
    place = was.place;
    places = was.places;
    left = was.left;
    within = was.within;
    staged = was.staged;
    order = was.order;
    described = λ e. absurd (other e);
    told = λ tells. (no_more s was left (subst (λ (b : Bool). IsTrue b) time.tells tells)).0;
    format_is = λ tells runs. absurd (true≢false runs);
    epoch_is = λ tells runs. absurd (true≢false runs);
    formats = λ tells c left_now. let t = subst (λ (b : Bool). IsTrue b) time.tells tells in was.formats t c (left t c left_now);
  }

  after_failed_sync : {grows : Bool} (e : DiskError) (s : Next) → s ≢ Descriptor → Was s → Syncs grows (Err e) old new
      → IsAfter s true (without_at s old)
  after_failed_sync e s other was did = record {
    is_kept = kept_failed s other was did.crash;
    is_without = λ t. (no_more s was did.crash t).1;
    is_since = λ t time c before gone. inl (did.since t time c before gone);
  }

  -- the sync that commits lays the batch over
  after_committing : {grows : Bool} (x : Unit {0}) → Was Commit → Syncs grows (Ok x) old new
      → IsAfter (following n (sizes_of f) Commit) false (laid_over (without_at Commit old) f.batch.numbers f.batch.images)
  after_committing x was did =
      after_sync Commit was tt x (following n (sizes_of f) Commit) (laid_over (without_at Commit old) f.batch.numbers f.batch.images) did
      (within_commit n (sizes_of f) (sizes_some room filled is_last was.there blocks (was.staged tt))) (λ o. tt)
      (after_commit (λ g. g ≢ Descriptor) n (sizes_of f) (λ e. λ d. cc) (λ e. λ d. cc))
      (λ t. after_commit (λ g. Bears f g old.content) n (sizes_of f) (λ e. tt) (λ e. (now t).1))
      (λ t. after_commit (λ g. Holds f g old.content) n (sizes_of f)
      (λ e. subst (λ (b : Bool). AreOpen (cond b [] (all_of f)) old.content) (sym (left_where f e)) (now t).1)
      (λ e. holds_first f old.content (part 20 128 superblock) (was.told t).stands (was.told t).count (now t).1))
      (λ t. after_commit (λ g. without_at g old ≡ laid_over (without_at Commit old) f.batch.numbers f.batch.images) n (sizes_of f)
      (λ e. (now t).0) (λ e. (now t).0))
    where
      now : (t : IsTrue old.tells) → (logical_blocks old.content ≡ laid_over (without_at Commit old) f.batch.numbers f.batch.images)
          × AreOpen (all_of f) old.content
      now t =
          let told = was.told t in
          let holds = told.holds refl in
          committed f old.content (part 20 128 superblock) told.stands (there Commit was tt t) told.count
          (staged_in Commit was tt t) holds.0 holds.1 holds.2 (less_before room filled is_last was.there (was.order tt))

  -- the sync after a write that closes
  after_closing : {grows : Bool} (x : Unit {0}) (j : ℕ) → Was (Finish j) → Syncs grows (Ok x) old new
      → IsAfter (following n (sizes_of f) (Finish j)) false (without_at (Finish j) old)
  after_closing x j was did =
      let last = last_closing f j was.within in
      after_sync (Finish j) was tt x (following n (sizes_of f) (Finish j)) (without_at (Finish j) old) did
      (within_gate n (sizes_of f) j was.within)
      (λ o. absurd (after_gate (λ g. IsOrdered is_last g → ⊥) n (sizes_of f) j (λ e y. true≢false (sym last ∙ y)) (λ e y. y) o))
      (after_gate (λ g. g ≢ Descriptor) n (sizes_of f) j (λ e. λ d. cc) (λ e. λ d. cc))
      (λ t. after_gate (λ g. Bears f g old.content) n (sizes_of f) j (λ e. tt) (λ e. tt))
      (λ t. let holds = (was.told t).holds refl in
      after_gate (λ g. Holds f g old.content) n (sizes_of f) j
      (λ e. subst (λ (b : Bool). AreOpen (cond b [] (all_of f)) old.content) (sym last)
      (subst (λ (hs : List HeldBatch). AreOpen hs old.content)
      (left_none (are_all f) (j + 1) (all_of f) (λ all. e ∙ closings_all f last all) (λ each. e ∙ closings_each f last each)) holds.0))
      (λ e. holds))
      (λ t. after_gate (λ g. without_at g old ≡ without_at (Finish j) old) n (sizes_of f) j (λ e. refl) (λ e. refl))

  module _ (write_grows sync_grows : Bool) where
    abbrev Called : Next → Result (Unit {0}) DiskError → Type 0
    Called s result = Does write_grows sync_grows (call_at s (written_in room filled epoch)) result old new

    -- the call that closes
    abbrev Closes : ℕ → Bool → Result (Unit {0}) DiskError → Type 0
    Closes j b result = Does write_grows sync_grows
        (if b then Write 150 (other_epoch epoch ∷ []) else Write (4096 * gate_place (held_at (all_of f) j).place) (0 ∷ [])) result old new

    close_ok : (x : Unit {0}) (j : ℕ) → Was (Close j) → (b : Bool) → are_all f ≡ b → Closes j b (Ok x)
        → IsAfterIn (superblock_after b epoch (Close j) superblock) (Finish j) false (without_at (Close j) old)
    close_ok x j was true all did = after_epoch_at j false all was (superblock_after true epoch (Close j) superblock)
        (epoch_put superblock (omega (arith, was.superblock_size))) (written_ok x 150 (other_epoch epoch ∷ []) did)
    close_ok x j was false each did =
        after_close_gate j false each was (written_ok x (4096 * gate_place (held_at (all_of f) j).place) (0 ∷ []) did)

    close_err : (e : DiskError) (j : ℕ) → Was (Close j) → (b : Bool) → are_all f ≡ b → Closes j b (Err e)
        → IsAfter (Finish j) true (without_at (Close j) old)
    close_err e j was true all did = after_epoch_at j true all was superblock (epoch_same superblock)
        (written_err e 150 (other_epoch epoch ∷ []) did)
    close_err e j was false each did =
        after_close_gate j true each was (written_err e (4096 * gate_place (held_at (all_of f) j).place) (0 ∷ []) did)

    -- after any good call
    pub after_ok : (x : Unit {0}) (s : Next) → s ≢ Idle → Was s → Called s (Ok x)
        → IsAfterIn (superblock_after (are_all f) epoch s superblock) (following n (sizes_of f) s) false
        (blocks_then s (without_at s old) (laid_over (without_at s old) f.batch.numbers f.batch.images))
    after_ok x Idle flies was did = absurd (flies refl)
    after_ok x Descriptor flies was did = after_descriptor false was (written_ok x (4096 * descriptor_place m) f.batch.descriptor did)
    after_ok x (Image i) flies was did =
        after_an_image i false was (written_ok x (4096 * image_place m i) (get_or f.batch.images i []) did)
    after_ok x Seal flies was did =
        after_sync Seal was tt x OpenGate (without_at Seal old) did tt (λ o. tt) (λ e. cc)
        (λ t. tt) (λ t. (was.told t).holds refl) (λ t. refl)
    after_ok x OpenGate flies was did = after_open_gate false was (written_ok x (4096 * gate_place m) (epoch ∷ []) did)
    after_ok x Commit flies was did = after_committing x was did
    after_ok x (Home j i) flies was did =
        after_a_home j i false was (written_ok x (4096 * home_place (length room) (get_or (held_at (all_of f) j).batch.numbers i 0))
        (get_or (held_at (all_of f) j).batch.images i []) did)
    after_ok x Settle flies was did =
        after_sync Settle was tt x (Close 0) (without_at Settle old) did (closings_some (sizes_of f) was.within) (λ o. absurd o) (λ e. cc)
        (λ t. tt) (λ t. holds_settled f old.content (part 20 128 superblock) (was.told t).stands (was.told t).count
        ((was.told t).holds refl))
        (λ t. refl)
    after_ok x (Close j) flies was did = close_ok x j was (are_all f) refl did
    after_ok x (Finish j) flies was did = after_closing x j was did

    -- and after any failed one
    pub after_err : (e : DiskError) (s : Next) → s ≢ Idle → Was s → Called s (Err e)
        → IsAfter (at_fault n (sizes_of f) s) true (without_at s old)
    after_err e Idle flies was did = absurd (flies refl)
    after_err e Descriptor flies was did = after_descriptor true was (written_err e (4096 * descriptor_place m) f.batch.descriptor did)
    after_err e (Image i) flies was did =
        after_an_image i true was (written_err e (4096 * image_place m i) (get_or f.batch.images i []) did)
    after_err e Seal flies was did = after_failed_sync e Seal (λ d. cc) was did
    after_err e OpenGate flies was did = after_open_gate true was (written_err e (4096 * gate_place m) (epoch ∷ []) did)
    after_err e Commit flies was did = after_failed_sync e Commit (λ d. cc) was did
    after_err e (Home j i) flies was did =
        after_a_home j i true was (written_err e (4096 * home_place (length room) (get_or (held_at (all_of f) j).batch.numbers i 0))
        (get_or (held_at (all_of f) j).batch.images i []) did)
    after_err e Settle flies was did = after_failed_sync e Settle (λ d. cc) was did
    after_err e (Close j) flies was did = close_err e j was (are_all f) refl did
    after_err e (Finish j) flies was did = after_failed_sync e (Finish j) (λ d. cc) was did
