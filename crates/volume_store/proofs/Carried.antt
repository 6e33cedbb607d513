-- The calls of a batch, and what a crash between leaves.
use Rattle.std.proofs.Common.{◌≡◌, ◌≢◌, ◌⊎◌, ◌||◌, inl, inr, ⊎_elim, ◌≤◌, ℕ, Bool, true, false, if◌then◌else◌, IsTrue, List, length, refl}
use Rattle.std.proofs.Common.{rules, sym, ◌∙◌, ap, subst, arith, Ok, Err}
use Rattle.std.proofs.lemmas.Bool.{true≢false}
use Rattle.disk.specs.Device.{Device}
use Rattle.journal.specs.Calls.{IsRetried, MakesCall, OnMade, OnRetried}
use Rattle.journal.specs.Inside.{IsAdmitted, IsVolume}
use Rattle.journal.specs.Journal.{Admits, IsReady, IsSameBatch, JournalView, LeavesAdmitted, LeftAdmitted, sizes, with_batch}
use Rattle.journal.specs.Order.{Carried, at_fault, is_growing, is_sync, is_to_commit}
use Rattle.journal.specs.declared.JournalError.{JournalError}
use Rattle.journal.specs.declared.JournalError.TheVariants.{Fault, Memory}
use Rattle.journal.specs.declared.Next.{Next}
use Rattle.journal.specs.declared.Next.TheVariants.{Idle, Descriptor, Image, Seal, OpenGate, Commit, Home, Settle, Close, Finish}
use Rattle.journal.specs.declared.Progress.{Progress}
use Rattle.journal.proofs.During.{same_then}
use Rattle.journal.proofs.Flights.{after_home}
use Rattle.model.specs.Volume.{StandsFor, format_number}
use Rattle.volume_store.proofs.OnTheWay.{IsOnTheWay, one_more, same_batch}
use Rattle.volume_store.specs.Saved.{Carries, IsSameVolume, LeavesOneOf}

-- ---- what the journal admits is one of two

-- an image stands for the blocks before the batch, or for those with it, in no lower format
abbrev pub IsOneOf : {D : Type 0} → JournalView D → List ℕ → Type 0
IsOneOf old image = IsVolume old.format old.label old.blocks image ⊎ IsVolume old.format old.label (with_batch old) image

-- the blocks are the ones before the batch, and those with it are still to come; or they are those with it, and the
-- commit has been made
abbrev pub IsEither : {D : Type 0} → JournalView D → JournalView D → Type 0
IsEither old now = (now.blocks ≡ old.blocks) ⊎ ((now.blocks ≡ with_batch old) × (now.next ≢ Commit))

-- the volume of a later journal, of blocks that were known before
moved_back : {D : Type 0} (old now : JournalView D) (blocks : List (List ℕ)) (image : List ℕ) → IsSameBatch old now
    → now.format ≤ format_number image → StandsFor image now.label blocks → IsVolume old.format old.label blocks image
moved_back old now blocks image same least stands = (
  subst (λ (l : List ℕ). StandsFor image l blocks) same.label stands,
  subst (λ (n : ℕ). n ≤ format_number image) same.format least,
)

pub one_of : {D : Type 0} (old now : JournalView D) (image : List ℕ) → IsSameBatch old now → IsEither old now → Admits now image
    → IsOneOf old image
one_of {D = D} old now image same either admits = by_blocks either admits.0 where
  back : (blocks : List (List ℕ)) → StandsFor image now.label blocks → IsVolume old.format old.label blocks image
  back blocks stands = moved_back old now blocks image same admits.1 stands

  by_blocks : IsEither old now → IsAdmitted now.next now.label now.blocks (with_batch now) image → IsOneOf old image
  by_blocks (inl before) (inl stands) = inl (back old.blocks (subst (λ (bs : List (List ℕ)). StandsFor image now.label bs) before stands))
  by_blocks (inl before) (inr commits) =
      inr (back (with_batch old)
      (subst (λ (bs : List (List ℕ)). StandsFor image now.label bs) (same_batch old now same before) commits.1))
  by_blocks (inr after) (inl stands) =
      inr (back (with_batch old) (subst (λ (bs : List (List ℕ)). StandsFor image now.label bs) after.0 stands))
  by_blocks (inr after) (inr commits) = absurd (after.1 commits.0)

-- which of the two they are is shown by the next call
by_next : {D : Type 0} (old now : JournalView D) (next : Next) → now.next ≡ next
    → now.blocks ≡ (if is_to_commit next then old.blocks else with_batch old) → IsEither old now
by_next old now Idle is blocks = inr (blocks, λ e. let both : Idle ≡ Commit = sym is ∙ e in cc)
by_next old now Descriptor is blocks = inl blocks
by_next old now (Image i) is blocks = inl blocks
by_next old now Seal is blocks = inl blocks
by_next old now OpenGate is blocks = inl blocks
by_next old now Commit is blocks = inl blocks
by_next old now (Home j i) is blocks = inr (blocks, λ e. let both : Home j i ≡ Commit = sym is ∙ e in cc)
by_next old now Settle is blocks = inr (blocks, λ e. let both : Settle ≡ Commit = sym is ∙ e in cc)
by_next old now (Close j) is blocks = inr (blocks, λ e. let both : Close j ≡ Commit = sym is ∙ e in cc)
by_next old now (Finish j) is blocks = inr (blocks, λ e. let both : Finish j ≡ Commit = sym is ∙ e in cc)

-- after the commit a fault leaves a call after the commit
never_back : (n : ℕ) (carried : Carried) (next : Next) → next ≢ Idle → is_to_commit next ≡ false → at_fault n carried next ≢ Commit
never_back n carried Idle flies is = absurd (flies refl)
never_back n carried Descriptor flies is = absurd (true≢false is)
never_back n carried (Image i) flies is = absurd (true≢false is)
never_back n carried Seal flies is = absurd (true≢false is)
never_back n carried OpenGate flies is = absurd (true≢false is)
never_back n carried Commit flies is = absurd (true≢false is)
never_back n carried (Home j i) flies is = after_home (λ g. g ≢ Commit) n carried j i (λ e d. λ f. cc) (λ e d. λ f. cc) (λ e. λ f. cc)
never_back n carried Settle flies is = λ f. cc
never_back n carried (Close j) flies is = λ f. cc
never_back n carried (Finish j) flies is = λ f. cc

-- a device that takes memory for the next call takes it for writes or for syncs
pub takes_memory : (next : Next) (write_grows sync_grows : Bool) → IsTrue (is_growing next write_grows sync_grows)
    → IsTrue (write_grows || sync_grows)
takes_memory next write_grows sync_grows grows = by_call (is_sync next) write_grows sync_grows grows where
  by_call : (syncs write_grows sync_grows : Bool) → IsTrue (if syncs then sync_grows else write_grows)
      → IsTrue (write_grows || sync_grows)
  by_call true true sync_grows grows = search rules
  by_call true false sync_grows grows = grows
  by_call false true sync_grows grows = search rules
  by_call false false sync_grows grows = absurd (cc grows)

-- ---- between two calls

pub record IsCarrying {D : Type 0} (device : D → Device) (old now : JournalView D) : Type 0 where
  pub way : IsOnTheWay device old now
  pub since : LeavesOneOf device old (with_batch old) now

pub begins : {D : Type 0} (device : D → Device) (journal : JournalView D) → IsOnTheWay device journal journal
    → IsCarrying device journal journal
begins device journal way = record { way = way; since = λ t time image before left. inl left }

module _ {D : Type 0} (device : D → Device) (old now new : JournalView D) (so_far : IsCarrying device old now) where
  tells : IsTrue (device old.disk).tells → IsTrue (device now.disk).tells
  tells t = subst (λ (b : Bool). IsTrue b) (sym so_far.way.time.tells) t

  -- one call more, whatever it answered
  since_then : IsSameBatch old new → (IsTrue (device old.disk).tells → IsEither old new) → LeftAdmitted device now new
      → LeavesOneOf device old (with_batch old) new
  since_then same either more t time image before left =
      ⊎_elim
      (λ (was : (device now.disk).left_since time image). so_far.since t time image before was)
      (λ (admits : Admits new image). inr (one_of old new image same (either t) admits))
      (more (tells t) time image (omega (arith, before, so_far.way.time.later)) left)

  pub goes_on : (flies : now.next ≢ Idle) (p : Progress) → MakesCall device now new (Ok p) → LeftAdmitted device now new
      → IsCarrying device old new
  goes_on flies p call more =
      let way = one_more device old now new so_far.way flies p call in
      record { way = way; since = since_then way.same (λ t. by_next old new new.next refl (way.blocks t)) more }

  either_now : IsTrue (device old.disk).tells → IsEither old now
  either_now t = by_next old now now.next refl (so_far.way.blocks t)

  at_a_fault : (flies : now.next ≢ Idle) → MakesCall {D = D} device now new (Err Fault) → IsTrue (device old.disk).tells → IsEither old new
  at_a_fault flies call t = go (is_to_commit now.next) refl (so_far.way.blocks t) where
    blocks : new.blocks ≡ now.blocks
    blocks = call.blocks (tells t)

    go : (b : Bool) → is_to_commit now.next ≡ b → now.blocks ≡ (if is_to_commit now.next then old.blocks else with_batch old)
        → IsEither old new
    go true is here = inl (blocks ∙ here ∙ ap (λ (b : Bool). if b then old.blocks else with_batch old) is)
    go false is here = inr (
      blocks ∙ here ∙ ap (λ (b : Bool). if b then old.blocks else with_batch old) is,
      λ e. never_back (length now.numbers) (sizes now) now.next flies is (sym (call.halts refl).1 ∙ e),
    )

  retried : IsRetried device now new → IsTrue (device old.disk).tells → IsEither old new
  retried call t = by_next old new new.next refl
      (call.blocks (tells t) ∙ so_far.way.blocks t
      ∙ ap (λ (n : Next). if is_to_commit n then old.blocks else with_batch old) (sym call.next))

  -- a call that the device refused
  pub refused : (flies : now.next ≢ Idle) (error : JournalError)
      → OnMade {T = Progress} (Err error) (MakesCall device now new (Err error))
      → OnRetried {T = Progress} (Err error) (IsRetried device now new) → (error ≡ Fault) ⊎ (error ≡ Memory)
      → LeftAdmitted device now new → LeavesOneOf device old (with_batch old) new
  refused flies error made again (inl is) more =
      let call : MakesCall {D = D} device now new (Err Fault) =
      subst (λ (e : JournalError). MakesCall {D = D} device now new (Err e)) is (made is) in
      since_then (same_then old now new so_far.way.same call.same) (at_a_fault flies call) more
  refused flies error made again (inr is) more =
      since_then (same_then old now new so_far.way.same (again is).same) (retried (again is)) more

  volume_then : IsSameBatch now new → IsSameVolume old new
  volume_then same = record {
    label = same.label ∙ so_far.way.same.label;
    format = same.format ∙ so_far.way.same.format;
    size = same.size ∙ so_far.way.same.size;
  }

  -- it leaves a journal that can begin no batch, of the same volume
  pub stops : (flies : now.next ≢ Idle) (error : JournalError)
      → OnMade {T = Progress} (Err error) (MakesCall device now new (Err error))
      → OnRetried {T = Progress} (Err error) (IsRetried device now new) → (error ≡ Fault) ⊎ (error ≡ Memory) → IsReady new → ⊥
  stops flies error made again (inl is) ready = true≢false (sym ((made is).halts is).0 ∙ ready.0)
  stops flies error made again (inr is) ready = flies (sym (again is).next ∙ ready.1)

  pub same_volume : (error : JournalError) → OnMade {T = Progress} (Err error) (MakesCall device now new (Err error))
      → OnRetried {T = Progress} (Err error) (IsRetried device now new) → (error ≡ Fault) ⊎ (error ≡ Memory) → IsSameVolume old new
  same_volume error made again (inl is) = volume_then (made is).same
  same_volume error made again (inr is) = volume_then (again is).same

-- ---- at the end

pub stands : {D : Type 0} (journal : JournalView D) (image : List ℕ) → journal.next ≡ Idle → Admits journal image
    → IsVolume journal.format journal.label journal.blocks image
stands journal image idle admits = (here admits.0, admits.1) where
  here : IsAdmitted journal.next journal.label journal.blocks (with_batch journal) image → StandsFor image journal.label journal.blocks
  here (inl is) = is
  here (inr commits) = absurd (let both : Idle ≡ Commit = sym idle ∙ commits.0 in cc)

pub carries : {D : Type 0} (device : D → Device) (old now : JournalView D) → IsCarrying device old now → IsReady now
    → LeavesAdmitted device now → Carries device old (with_batch old) now
carries device old now so_far ready admitted =
    let blocks : IsTrue (device old.disk).tells → now.blocks ≡ with_batch old =
    λ t. so_far.way.blocks t ∙ ap (λ (g : Next). if is_to_commit g then old.blocks else with_batch old) ready.1 in
    record {
      ready = ready;
      tells = so_far.way.time.tells;
      blocks = blocks;
      failures = so_far.way.failures;
      leaves = λ t image left.
          let told : IsTrue (device now.disk).tells = subst (λ (b : Bool). IsTrue b) (sym so_far.way.time.tells) t in
          let here = stands now image ready.1 (admitted told image left) in
          moved_back old now (with_batch old) image so_far.way.same here.1
          (subst (λ (bs : List (List ℕ)). StandsFor image now.label bs) (blocks t) here.0);
    }
