-- A list of groups goes on, line by line.
use Rattle.std.proofs.Common.{◌≡◌, ◌⊎◌, ⊎_elim, ℕ, ◌+◌, ◌≤◌, ◌<◌, List, [], ◌∷◌, ◌++◌, take, drop, length, get_or, refl, sym, ◌∙◌}
use Rattle.std.proofs.Common.{ap, subst, arith, false}
use Rattle.std.specs.Prelude.{None, Some, Result, Ok, Err, OnErr, if◌then◌else◌, slice_get}
use Rattle.std.specs.Result.{is_err, is_ok}
use Rattle.std.proofs.lemmas.List.{append-nil, take-append-drop, take_all}
use Rattle.std.proofs.lemmas.Option.{slice_get-get_or}
use Rattle.model.proofs.Joined.{front_more}
use Rattle.disk.specs.Device.{Device}
use Rattle.model.specs.declared.change.Change.{Change}
use Rattle.model.specs.declared.change.Change.TheVariants.{Group}
use Rattle.spool.specs.Refusals.{group_refusal}
use Rattle.spool.specs.View.{Adds, SpoolView}
use Rattle.spool.specs.declared.errors.AddError.{AddError}
use Rattle.spool.specs.declared.errors.AddError.TheVariants as add
use Rattle.text_names.specs.Requests.{group_of}
use Rattle.text_names.specs.declared.values.GroupRequest.{GroupRequest}
use Rattle.volume_store.specs.Saved.{GoesOn, StoreView}
use Rattle.volume_store.proofs.GoingOn.{goes_then, stays, without_calls}
use Rattle.program_changes.specs.Listing.{Becomes, BecomesOf, HasAddedAll, HasAddedFirst, IsSame}
use Rattle.program_changes.specs.declared.listed.GroupOutcome.{GroupOutcome}
use Rattle.program_changes.specs.declared.listed.GroupOutcome.TheVariants.{Made, Here, Full, Refused}
use Rattle.program_lists.specs.Lists.{asked}
use Rattle.program_lists.specs.declared.faults.ListFault.{ListFault}
use Rattle.program_lists.specs.declared.reading.Listed.{Listed}

same_then : (a b c : SpoolView) → IsSame a b → IsSame b c → IsSame a c
same_then a b c one more = more ∙ ap (λ (s : SpoolView). record s { dirty = c.dirty }) one

-- more became durable at the end
pub added_same : (old now new : SpoolView) (ls : List Listed) (os : List GroupOutcome) → HasAddedAll old ls os now → IsSame now new
    → HasAddedAll old ls os new
added_same old now new [] [] same more = same_then old now new same more
added_same old now new [] (o ∷ os) none more = absurd none
added_same old now new (l ∷ ls) [] none more = absurd none
added_same old now new (l ∷ ls) (o ∷ os) (mid, later, is, becomes, rest) more =
    (mid, later, is, becomes, added_same later now new ls os rest more)

-- one line more was tried
added_one : (old so_far now later : SpoolView) (ls : List Listed) (os : List GroupOutcome) (l : Listed) (o : GroupOutcome)
    → HasAddedAll old ls os so_far → IsSame so_far now → BecomesOf now later l o → HasAddedAll old (ls ++ l ∷ []) (os ++ o ∷ []) later
added_one old so_far now later [] [] l o same is becomes = (now, later, same_then old so_far now same is, becomes, refl)
added_one old so_far now later [] (first ∷ os) l o none is becomes = absurd none
added_one old so_far now later (first ∷ ls) [] l o none is becomes = absurd none
added_one old so_far now later (first ∷ ls) (one ∷ os) l o (mid, next, same, was, rest) is becomes =
    (mid, next, same, was, added_one next so_far now later ls os l o rest is becomes)

module _ (listed : List Listed) (place : ℕ) where
  -- the line at a place was tried, after those before it
  pub added_at : (old so_far now later : SpoolView) (os : List GroupOutcome) (l : Listed) (o : GroupOutcome)
      → HasAddedAll old (take place listed) os so_far → slice_get listed place ≡ Some l → IsSame so_far now → BecomesOf now later l o
      → HasAddedAll old (take (place + 1) listed) (os ++ o ∷ []) later
  added_at old so_far now later os l o added at is becomes =
      subst (λ (ls : List Listed). HasAddedAll old ls (os ++ o ∷ []) later) (sym (front_more listed place l at))
      (added_one old so_far now later (take place listed) os l o added is becomes)

-- so many lines are the first ones
pub first_added : (listed : List Listed) (place : ℕ) (old new : SpoolView) (os : List GroupOutcome)
    → HasAddedAll old (take place listed) os new → HasAddedFirst old listed new
first_added listed place old new os added = (take place listed, drop place listed, os, sym (take-append-drop place listed), added)

pub all_added : (listed : List Listed) (place : ℕ) (old new : SpoolView) (os : List GroupOutcome) → length listed ≤ place
    → HasAddedAll old (take place listed) os new → HasAddedAll old listed os new
all_added listed place old new os past added =
    subst (λ (ls : List Listed). HasAddedAll old ls os new) (take_all place listed past) added

-- ---- one line

same_still : (old now new : SpoolView) → IsSame old now → new ≡ now → IsSame old new
same_still old now new same still = subst (IsSame old) (sym still) same

module _ (old now new : SpoolView) (same : IsSame old now) (listed : Listed) (request : GroupRequest) (is : listed.asked ≡ Ok request) where
  abbrev pub change : Change
  change = Group (group_of request)

  tried : (outcome : GroupOutcome) → Becomes now new (Ok (group_of request)) outcome
      → (mid : SpoolView) × IsSame old mid × BecomesOf mid new listed outcome
  tried outcome becomes =
      (now, same, subst (λ (a : Result GroupRequest ListFault). Becomes now new (asked a) outcome) (sym is) becomes)

  -- the group is made
  pub made_one : (serial : ℕ) → group_refusal now request.name change ≡ None
      → (serial ≡ length now.changes + 1) × Adds now new change
      → (mid : SpoolView) × IsSame old mid × BecomesOf mid new listed (Made serial)
  made_one serial none adds = tried (Made serial) (none, adds.0, adds.1)

  -- why it isn't made, where memory was there
  why_not : (error found : AddError) → error ≡ found → (found ≡ add.Memory → ⊥)
      → ((error ≡ add.Memory) × (group_refusal now request.name change ≡ None)) ⊎ (group_refusal now request.name change ≡ Some error)
      → group_refusal now request.name change ≡ Some found
  why_not error found is_found other why =
      ⊎_elim
      (λ (no : (error ≡ add.Memory) × (group_refusal now request.name change ≡ None)). absurd (other (sym is_found ∙ no.0)))
      (λ (so : group_refusal now request.name change ≡ Some error). so ∙ ap (λ (e : AddError). Some e) is_found)
      why

  -- the group is there
  pub here_one : (error : AddError) → error ≡ add.Exists
      → ((error ≡ add.Memory) × (group_refusal now request.name change ≡ None)) ⊎ (group_refusal now request.name change ≡ Some error)
      → new ≡ now
      → (mid : SpoolView) × IsSame old mid × BecomesOf mid new listed Here
  here_one error is_exists why still = tried Here (why_not error add.Exists is_exists (λ no. absurd (cc no)) why, still)

  -- there is no room
  pub full_one : (error : AddError) → error ≡ add.Full
      → ((error ≡ add.Memory) × (group_refusal now request.name change ≡ None)) ⊎ (group_refusal now request.name change ≡ Some error)
      → new ≡ now
      → (mid : SpoolView) × IsSame old mid × BecomesOf mid new listed Full
  full_one error is_full why still = tried Full (why_not error add.Full is_full (λ no. absurd (cc no)) why, still)

-- a line without a group
pub refused_one : (old : SpoolView) (listed : Listed) (fault : ListFault) → listed.asked ≡ Err fault
    → (mid : SpoolView) × IsSame old mid × BecomesOf mid old listed (Refused fault)
refused_one old listed fault is =
    (old, refl, subst (λ (a : Result GroupRequest ListFault). Becomes old old (asked a) (Refused fault)) (sym is) (refl, refl))

-- ---- a store

module _ {D : Type 0} (device : D → Device) (old now new : StoreView D) (so_far : GoesOn device old now) where
  -- one change more
  pub goes_added : (c : Change) → new.journal ≡ now.journal → new.durable ≡ now.durable → Adds now.spool new.spool c
      → GoesOn device old new
  goes_added c journal durable adds =
      goes_then device old now new so_far (without_calls device now new journal durable adds.host (c ∷ [], adds.changes))

  -- nothing more
  pub goes_still : new.journal ≡ now.journal → new.durable ≡ now.durable → new.spool ≡ now.spool → GoesOn device old new
  goes_still journal durable spool = goes_then device old now new so_far (stays device now new journal durable spool)

-- ---- all lines

-- no line yet
pub none_added : (old : SpoolView) → HasAddedAll old [] [] old
none_added old = refl

-- before the first line
pub first_none : (listed : List Listed) (old : SpoolView) → HasAddedFirst old listed old
first_none listed old = ([], listed, [], refl, refl)

-- the first lines, of which more became durable
pub first_then : (listed : List Listed) (place : ℕ) (old now new : SpoolView) (os : List GroupOutcome)
    → HasAddedAll old (take place listed) os now → IsSame now new → HasAddedFirst old listed new
first_then listed place old now new os added same =
    first_added listed place old new os (added_same old now new (take place listed) os added same)

pub whole_added : (listed : List Listed) (old now new : SpoolView) (os : List GroupOutcome) → HasAddedAll old listed os now
    → IsSame now new → HasAddedFirst old listed new
whole_added listed old now new os added same =
    (listed, [], os, sym (append-nil listed), added_same old now new listed os added same)

-- the line at a place, found by its index
pub added_next : (listed : List Listed) (place : ℕ) (one : Listed) (old so_far later : SpoolView) (os : List GroupOutcome)
    (o : GroupOutcome) → place < length listed → one ≡ get_or listed place one → HasAddedAll old (take place listed) os so_far
    → ((now : SpoolView) × IsSame so_far now × BecomesOf now later one o)
    → HasAddedAll old (take (place + 1) listed) (os ++ o ∷ []) later
added_next listed place one old so_far later os o within is added (now, same, becomes) =
    added_at listed place old so_far now later os one o added
    (slice_get-get_or listed place one within ∙ ap (λ (l : Listed). Some l) (sym is)) same becomes

-- ---- results

pub on_err : {T E P : Type 0} (result : Result T E) → P → OnErr result P
on_err (Ok value) holds = tt
on_err (Err error) holds = holds

-- what stands there unless the call was refused
pub unless_err : {A T E : Type 0} (result : Result T E) (more same now : A) → is_err result ≡ false
    → now ≡ (if is_ok result then more else same) → now ≡ more
unless_err (Ok value) more same now none is = is
unless_err (Err error) more same now none is = absurd (cc none)
