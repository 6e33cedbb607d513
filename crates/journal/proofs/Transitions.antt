-- How each device call takes a journal from one call to the next.
use Rattle.std.proofs.Common.{◌≡◌, ◌≢◌, ◌⊎◌, inl, inr, ◌<◌, ◌≤◌, ℕ, ◌*◌, Bool, true, false, List, [], ◌∷◌, length, refl, sym, ◌∙◌, ap}
use Rattle.std.proofs.Common.{subst, arith}
use Rattle.disk.specs.Device.{Device, IsTornImage, LeavesOnly}
use Rattle.journal_laws.specs.Held.{HeldBatch, IsHomeOfHeld}
use Rattle.journal_laws.specs.Images.{SameBut}
use Rattle.journal_segments.specs.Staged.{IsStaged}
use Rattle.journal.specs.Flight.{Flight, all_of, closing_block, held_at}
use Rattle.journal.specs.Inside.{Holds, Touched, IsAdmitted, IsTold, blocks_without}
use Rattle.model.specs.Volume.{gate_place, home_size, number_at, laid_over, logical_blocks, segment_count, StandsFor}
use Rattle.journal.specs.declared.Next.{Next}
use Rattle.journal.specs.declared.Next.TheVariants.{Idle, Descriptor, Image, Seal, OpenGate, Commit, Home, Settle, Close, Finish}
use Rattle.journal.proofs.Admitted.{Bears, images_stand, shut_alike}
use Rattle.journal_laws.proofs.Whole.{stands_length}
use Rattle.journal_laws.proofs.Blocks.{torn_same, same_but_more, same_but_then, same_but_back, same_but_equal}
use Rattle.std.proofs.lemmas.Bool.{true≢false}

-- the superblock isn't touched, but where the epoch is written
no_home : (segments : ℕ) (held : List HeldBatch) → IsHomeOfHeld segments held 0 → ⊥
no_home segments [] e = e
no_home segments (h ∷ held) (inl e) = absurd (omega (arith, e.2))
no_home segments (h ∷ held) (inr e) = no_home segments held e

pub untouched_zero : (f : Flight) (next : Next) (x : List ℕ) → Bears f next x → Touched f next 0 → ⊥
untouched_zero f Idle x bears e = e
untouched_zero f Descriptor x bears e = e
untouched_zero f (Image i) x bears e = absurd (omega (arith, e.0))
untouched_zero f Seal x bears e = absurd (omega (arith, e.0))
untouched_zero f OpenGate x bears e = e
untouched_zero f Commit x bears e = absurd (omega (arith, e))
untouched_zero f (Home j i) x bears e = no_home f.segments (all_of f) e
untouched_zero f Settle x bears e = no_home f.segments (all_of f) e
untouched_zero f (Close j) x bears e = e
untouched_zero f (Finish j) x bears e =
    let gate : 0 ≡ gate_place (held_at (all_of f) j).place = e ∙ ap (λ (b : Bool). closing_block b j (all_of f)) bears.0 in
    absurd (omega (arith, gate))

-- an image that is admitted stands for what it holds
pub stands_itself : (next : Next) (label : List ℕ) (blocks after : List (List ℕ)) (c : List ℕ) → IsAdmitted next label blocks after c
    → StandsFor c label (logical_blocks c)
stands_itself next label blocks after c (inl stands) = subst (λ (bs : List (List ℕ)). StandsFor c label bs) (sym stands.has_blocks) stands
stands_itself next label blocks after c (inr commits) =
    subst (λ (bs : List (List ℕ)). StandsFor c label bs) (sym commits.1.has_blocks) commits.1

pub only_left : (next : Next) (label : List ℕ) (blocks after : List (List ℕ)) (c : List ℕ) → next ≢ Commit
    → IsAdmitted next label blocks after c → StandsFor c label blocks
only_left next label blocks after c other (inl stands) = stands
only_left next label blocks after c other (inr commits) = absurd (other commits.0)

is_commit : (next : Next) → (next ≡ Commit) ⊎ (next ≢ Commit)
is_commit Idle = inr (λ e. cc)
is_commit Descriptor = inr (λ e. cc)
is_commit (Image i) = inr (λ e. cc)
is_commit Seal = inr (λ e. cc)
is_commit OpenGate = inr (λ e. cc)
is_commit Commit = inl refl
is_commit (Home j i) = inr (λ e. cc)
is_commit Settle = inr (λ e. cc)
is_commit (Close j) = inr (λ e. cc)
is_commit (Finish j) = inr (λ e. cc)

without_at : (m : ℕ) (next : Next) (x : List ℕ) → next ≢ Commit → logical_blocks x ≡ blocks_without m next x
without_at m Idle x other = refl
without_at m Descriptor x other = refl
without_at m (Image i) x other = refl
without_at m Seal x other = refl
without_at m OpenGate x other = refl
without_at m Commit x other = absurd (other refl)
without_at m (Home j i) x other = refl
without_at m Settle x other = refl
without_at m (Close j) x other = refl
without_at m (Finish j) x other = refl

-- an image that differs in what is touched has the same blocks without the batch, where it is admitted
pub without_alike : (f : Flight) (next : Next) (x y label : List ℕ) (after : List (List ℕ)) → StandsFor x label (logical_blocks x)
    → f.batch.place < segment_count x → SameBut (Touched f next) x y → IsAdmitted next label (blocks_without f.batch.place next x) after y
    → blocks_without f.batch.place next y ≡ blocks_without f.batch.place next x
without_alike f next x y label after stands there same admitted = elim (is_commit next) [
  | inl commits ↦
      subst (λ (n : Next). blocks_without f.batch.place n y ≡ blocks_without f.batch.place n x) (sym commits)
      (shut_alike x label f.batch.place stands there y (subst (λ (n : Next). SameBut (Touched f n) x y) commits same))
  | inr other ↦
      sym (without_at f.batch.place next y other)
      ∙ (only_left next label (blocks_without f.batch.place next x) after y other admitted).has_blocks
]

-- images of one length that stand for the same blocks have the same sizes
pub sizes_same : (x y label : List ℕ) (bs : List (List ℕ)) → StandsFor x label bs → StandsFor y label bs → length y ≡ length x
    → (home_size y ≡ home_size x) × (segment_count y ≡ segment_count x)
sizes_same x y label bs stands now size =
    let home : home_size y ≡ home_size x = sym (stands_length y label bs now) ∙ stands_length x label bs stands in
    (home, omega (arith, now.has_superblock.exactly, stands.has_superblock.exactly, size, home))

pub sizes_alike : (f : Flight) (next : Next) (x y label : List ℕ) (after : List (List ℕ)) → StandsFor x label (logical_blocks x)
    → SameBut (Touched f next) x y → IsAdmitted next label (blocks_without f.batch.place next x) after y
    → (home_size y ≡ home_size x) × (segment_count y ≡ segment_count x)
sizes_alike f next x y label after stands same admitted = elim (is_commit next) [
  | inl commits ↦
      let here : SameBut (Touched f Commit) x y = subst (λ (n : Next). SameBut (Touched f n) x y) commits same in
      let zeroth = here.same 0 (λ e. absurd (omega (arith, e))) in
      (ap (number_at 12 4) zeroth, ap (number_at 16 4) zeroth)
  | inr other ↦
      sizes_same x y label (logical_blocks x) stands
      (subst (λ (bs : List (List ℕ)). StandsFor y label bs) (sym (without_at f.batch.place next x other))
      (only_left next label (blocks_without f.batch.place next x) after y other admitted)) same.size
]

module _ (f : Flight) (x label : List ℕ) (stands : StandsFor x label (logical_blocks x)) (there : f.batch.place < segment_count x)
    (count : segment_count x ≡ f.segments) (staged : IsStaged (home_size x) f.batch) where
  abbrev m : ℕ
  m = f.batch.place

  -- an image that a crash may leave has the same blocks without the batch
  pub without_same : (next : Next) (y : List ℕ) → Bears f next x → SameBut (Touched f next) x y
      → blocks_without m next y ≡ blocks_without m next x
  without_same next y bears same =
      without_alike f next x y label (laid_over (blocks_without m next x) f.batch.numbers f.batch.images) stands there same
      (images_stand f x label stands there count staged next y bears same)

  -- an image with such blocks is admitted, after a call that left y there
  pub admitted_after : (next : Next) (y : List ℕ) → Bears f next x → SameBut (Touched f next) x y → (c : List ℕ)
      → SameBut (Touched f next) x c
      → IsAdmitted next label (blocks_without m next y) (laid_over (blocks_without m next y) f.batch.numbers f.batch.images) c
  admitted_after next y bears same_now c same =
      subst (λ (bs : List (List ℕ)). IsAdmitted next label bs (laid_over bs f.batch.numbers f.batch.images) c)
      (sym (without_same next y bears same_now))
      (images_stand f x label stands there count staged next c bears same)

  -- after a call, by what the images have in common with the content before it
  pub told_after : (device : Device) (blocks : ℕ) (next : Next) (halted : Bool) → home_size x ≡ blocks → Bears f next x
      → ((c : List ℕ) → device.may_leave c → SameBut (Touched f next) x c) → device.may_leave device.content
      → (halted ≡ false → Holds f next device.content) → IsTold device blocks label next halted f
  told_after device blocks next halted size_is bears same now holds =
      let y = device.content in
      let same_now = same y now in
      let sizes = sizes_alike f next x y label (laid_over (blocks_without m next x) f.batch.numbers f.batch.images) stands same_now
      (images_stand f x label stands there count staged next y bears same_now) in
      record {
        stands = stands_itself next label (blocks_without m next y) (laid_over (blocks_without m next y) f.batch.numbers f.batch.images) y
            (admitted_after next y bears same_now y same_now);
        size = sizes.0 ∙ size_is;
        count = sizes.1 ∙ count;
        admits = λ c left. admitted_after next y bears same_now c (same c left);
        holds = holds;
        same = λ running c left. same_but_then (Touched f next) y x c (same_but_back (Touched f next) x y same_now) (same c left);
      }

-- after a sync that failed: a crash leaves no more than before
pub told_failed : (old new : Device) (blocks : ℕ) (label : List ℕ) (next : Next) (f : Flight) → f.batch.place < f.segments
    → IsTold old blocks label next false f → ((c : List ℕ) → new.may_leave c → old.may_leave c) → new.may_leave new.content
    → IsTold new blocks label next true f × (blocks_without f.batch.place next new.content ≡ blocks_without f.batch.place next old.content)
told_failed old new blocks label next f there told no_more now =
    let m = f.batch.place in
    let same_now = told.same refl new.content (no_more new.content now) in
    let admitted = told.admits new.content (no_more new.content now) in
    let sizes = sizes_alike f next old.content new.content label
    (laid_over (blocks_without m next old.content) f.batch.numbers f.batch.images) told.stands same_now admitted in
    let without = without_alike f next old.content new.content label
    (laid_over (blocks_without m next old.content) f.batch.numbers f.batch.images) told.stands
    (subst (λ (n : ℕ). m < n) (sym told.count) there) same_now admitted in (
      record {
        stands = stands_itself next label (blocks_without m next old.content)
            (laid_over (blocks_without m next old.content) f.batch.numbers f.batch.images) new.content admitted;
        size = sizes.0 ∙ told.size;
        count = sizes.1 ∙ told.count;
        admits = λ c left. subst (λ (bs : List (List ℕ)). IsAdmitted next label bs (laid_over bs f.batch.numbers f.batch.images) c)
            (sym without) (told.admits c (no_more c left));
        holds = λ runs. absurd (true≢false runs);
        same = λ runs. absurd (true≢false runs);
      },
      without,
    )

-- an image that is torn by a write within one block
pub image_torn : (f : Flight) (old : Device) (next following : Next) (j n : ℕ) → n ≤ 4096
    → ((c : List ℕ) → old.may_leave c → SameBut (Touched f next) old.content c) → Touched f following j
    → ((k : ℕ) → Touched f next k → Touched f following k)
    → (c : List ℕ) → IsTornImage (4096 * j) n old c → SameBut (Touched f following) old.content c
image_torn f old next following j n few same here more c from =
    let torn = torn_same j n from.0 c few from.2 in
    let at_here : SameBut (Touched f following) from.0 c =
    same_but_more (λ k. k ≡ j) (Touched f following) from.0 c (λ k is. subst (Touched f following) (sym is) here) torn in
    same_but_then (Touched f following) old.content from.0 c
    (same_but_more (Touched f next) (Touched f following) old.content from.0 more (same from.0 from.1)) at_here

-- and after a sync
pub images_synced : (P : ℕ → Type 0) (old new : Device) → LeavesOnly new old.content → (c : List ℕ) → new.may_leave c
    → SameBut P old.content c
images_synced P old new only c left = same_but_equal P old.content c (only c left)
