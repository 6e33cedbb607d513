-- What `admin` and `expire` answer, from what the spool answers.
use Rattle.std.proofs.Common.{◌≡◌, ◌⊎◌, inl, inr, ℕ, ◌+◌, ◌<◌, ◌≤◌, Bool, true, false, List, [], ◌∷◌, length, refl, ap, subst, sym, ◌∙◌}
use Rattle.std.specs.Prelude.{Ok, Option, Some, None, not, nat_le, nat_lt, if◌then◌else◌, option_map}
use Rattle.std.proofs.lemmas.Bool.{leb-false, ltb-false}
use Rattle.model.specs.Stream.{Octets}
use Rattle.model.specs.Spool.{is_here}
use Rattle.model.specs.declared.change.Change.{Change}
use Rattle.model.specs.declared.change.Change.TheVariants.{Expire, Group}
use Rattle.model.specs.declared.change.Expiry.{Expiry}
use Rattle.model.specs.declared.change.NewGroup.{NewGroup}
use Rattle.spool.specs.View.{Adds, IsSpool, SpoolView}
use Rattle.spool.specs.Refusals.{expiry_refusal, group_refusal, has_number, is_full_for}
use Rattle.spool.specs.declared.errors.AddError.{AddError}
use Rattle.spool.specs.declared.errors.AddError.TheVariants as add
use Rattle.spool.specs.declared.errors.ExpireError.{ExpireError}
use Rattle.spool.specs.declared.errors.ExpireError.TheVariants as expire
use Rattle.spool_texts.specs.Parts.{HasLines}
use Rattle.kernel_shared.specs.declared.errors.AdminError.TheVariants as admin
use Rattle.kernel_shared.specs.declared.errors.ExpireError.TheVariants as expired
use Rattle.kernel.specs.Errors.{of_admin, of_expire}
use Rattle.kernel.specs.Kept.{IsKept}
use Rattle.kernel.specs.Kernel.{most_dirty, Administers, Exists, Full, Halted, KernelView, LaterDirty, NotFound, Refusal, TooManySessions}
use Rattle.kernel.specs.Kernel.{admin_refusal_of, early_refusal, expire_refusal_of, first_failing, join_refusal, only_tested}
use Rattle.kernel.specs.Stored.{AreKept, kernel_of, seen_kernel}
use Rattle.kernel.specs.declared.Kernel.TheInside.{Inside}
use Rattle.kernel_seats.specs.Lined.{AllAreLined}
use Rattle.kernel_seats.specs.Seats.{Seat}
use Rattle.kernel.proofs.ExecLaws.{changed_dirties, seen_in}
use Rattle.kernel.proofs.KernelLaws.{kept_grown}
use Rattle.kernel.proofs.Lined.{lined_grown, seen_grown}

-- a call that only tests answers `Ok` where no test fails
pub passed : {E : Type 0} (as_error : Refusal → E) (refusal : Option Refusal) (done : Unit {0}) → Ok done ≡ only_tested as_error refusal
    → refusal ≡ None
passed as_error None done is = refl
passed as_error (Some refusal) done is = absurd (cc is)

-- who may join finds a place
pub few_seats : (k : KernelView) → join_refusal k ≡ None → length k.seats < k.most
few_seats k is = go k.halted refl (nat_le k.most (length k.seats)) refl
  where
    go : (h : Bool) → k.halted ≡ h → (b : Bool) → nat_le k.most (length k.seats) ≡ b → length k.seats < k.most
    go true halted b many = absurd (let some : Some Halted ≡ None = rw halted at is in cc some)
    go false halted true many = absurd (let some : Some TooManySessions ≡ None = rw (halted, many) at is in cc some)
    go false halted false many = leb-false k.most (length k.seats) many

-- where no early test fails, the kernel is not halted, and few blocks are dirty
pub early_none : (k : KernelView) → early_refusal k ≡ None → (k.halted ≡ false)
    × (nat_lt (most_dirty (length k.blocks)) (length k.dirty) ≡ false)
early_none k is = go k.halted refl (nat_lt (most_dirty (length k.blocks)) (length k.dirty)) refl
  where
    go : (h : Bool) → k.halted ≡ h → (b : Bool) → nat_lt (most_dirty (length k.blocks)) (length k.dirty) ≡ b
        → (k.halted ≡ false) × (nat_lt (most_dirty (length k.blocks)) (length k.dirty) ≡ false)
    go true halted b late = absurd (let some : Some Halted ≡ None = rw halted at is in cc some)
    go false halted true late = absurd (let some : Some LaterDirty ≡ None = rw (halted, late) at is in cc some)
    go false halted false late = (halted, late)

pub few_dirty : (k : KernelView) → early_refusal k ≡ None → length k.dirty ≤ most_dirty (length k.blocks)
few_dirty k is = ltb-false (most_dirty (length k.blocks)) (length k.dirty) (early_none k is).1

-- ---- a change of the operator's

-- what the spool tells of a change that it refuses
abbrev Told : {E : Type 0} → E → Option E → E → Type 0
Told memory refusal e = ((e ≡ memory) × (refusal ≡ None)) ⊎ (refusal ≡ Some e)

-- the spool's refusals as the kernel's; that memory is refused is told as one that no test of these calls gives
abbrev pub of_add : AddError → Refusal
of_add add.Exists = Exists
of_add add.Full = Full
of_add add.Memory = TooManySessions

abbrev pub of_expiry : ExpireError → Refusal
of_expiry expire.NotFound = NotFound
of_expiry expire.Full = Full
of_expiry expire.Memory = TooManySessions

refused_so : {E F : Type 0} (as_refusal : E → Refusal) (as_error : Refusal → F) (memory e : E) (refusal : Option E)
    (failing : Option Refusal) → failing ≡ option_map as_refusal refusal → Told memory refusal e
    → ((as_error (as_refusal e) ≡ as_error (as_refusal memory)) × (failing ≡ None))
    ⊎ ((r : Refusal) × (failing ≡ Some r) × (as_error (as_refusal e) ≡ as_error r))
refused_so as_refusal as_error memory e refusal failing is (inl none) =
    inl (ap as_error (ap as_refusal none.0), is ∙ ap (option_map as_refusal) none.1)
refused_so as_refusal as_error memory e refusal failing is (inr told) = inr (as_refusal e, is ∙ ap (option_map as_refusal) told, refl)

-- the kernel as the code keeps it, with this spool
abbrev pub with_spool : Inside → SpoolView → KernelView
with_spool i s = seen_kernel s i.durable i.in_flight i.halted i.most i.joined i.seats.items

module _ (i : Inside) (old : KernelView) (v : with_spool i i.spool ≡ old) (early : early_refusal old ≡ None) where
  early_at : early_refusal (with_spool i i.spool) ≡ None
  early_at = ap early_refusal v ∙ early

  -- the change is made
  pub administers : (s : SpoolView) (c : Change) (serial : ℕ) → AllAreLined (HasLines i.spool.changes) i.seats.items
      → serial ≡ length i.spool.changes + 1 → Adds i.spool s c → Administers old (with_spool i s) c serial
  administers s c serial lined is adds =
      let made : Administers (with_spool i i.spool) (kernel_of s i.durable i.in_flight i.halted i.most i.joined (seen_in i)) c serial =
      record {
        serial_is = is;
        spool = adds.changes;
        blocks = changed_dirties i.spool s i.durable i.in_flight i.halted i.most i.joined (seen_in i) (seen_in i) adds.dirties;
        rest = (adds.host, adds.inodes, refl, refl, refl, refl, refl, refl);
      } in
      subst (λ (k : KernelView). Administers k (with_spool i s) c serial) v (subst (λ (seats : List Seat).
      Administers (with_spool i i.spool) (kernel_of s i.durable i.in_flight i.halted i.most i.joined seats) c serial)
      (sym (seen_grown i.spool s (Some c) i.seats.items adds lined)) made)

  pub kept_made : (s : SpoolView) (c : Change) → AreKept i.spool i.durable i.in_flight i.halted i.most i.joined i.seats.items → IsSpool s
      → Adds i.spool s c → AreKept s i.durable i.in_flight i.halted i.most i.joined i.seats.items
  kept_made s c kept sound adds =
      record {
        seen = subst (λ (seats : List Seat). IsKept (kernel_of s i.durable i.in_flight i.halted i.most i.joined seats))
            (sym (seen_grown i.spool s (Some c) i.seats.items adds kept.lined))
            (kept_grown i.spool s i.durable i.in_flight i.halted i.most i.joined (seen_in i) (Some c)
            (λ _. few_dirty (with_spool i i.spool) early_at) (λ _. sound) adds kept.seen);
        lined = lined_grown i.spool s (Some c) i.seats.items adds kept.lined;
      }

  -- ---- a group

  pub group_tests : (g : NewGroup) → admin_refusal_of old (Group g) ≡ option_map of_add (group_refusal i.spool g.name (Group g))
  group_tests g =
      let now = early_none (with_spool i i.spool) early_at in
      ap (λ (k : KernelView). admin_refusal_of k (Group g)) (sym v)
      ∙ ((λ j. first_failing ((now.0 j, Halted) ∷ (now.1 j, LaterDirty) ∷ (is_here i.spool.changes g.name, Exists)
      ∷ (is_full_for i.spool (Group g), Full) ∷ [])) ∙ chosen (is_here i.spool.changes g.name) (is_full_for i.spool (Group g)))
    where
      chosen : (here full : Bool) → first_failing ((false, Halted) ∷ (false, LaterDirty) ∷ (here, Exists) ∷ (full, Full) ∷ [])
          ≡ option_map of_add (if here then Some add.Exists else if full then Some add.Full else None)
      chosen true full = refl
      chosen false true = refl
      chosen false false = refl

  pub group_refused : (s : SpoolView) (g : NewGroup) (e told : AddError) → e ≡ told
      → Told add.Memory (group_refusal i.spool g.name (Group g)) e × (s ≡ i.spool)
      → (((of_admin (of_add told) ≡ admin.Memory) × (admin_refusal_of old (Group g) ≡ None))
      ⊎ ((r : Refusal) × (admin_refusal_of old (Group g) ≡ Some r) × (of_admin (of_add told) ≡ of_admin r))) × (with_spool i s ≡ old)
  group_refused s g e told is said = (
    refused_so of_add of_admin add.Memory told (group_refusal i.spool g.name (Group g)) (admin_refusal_of old (Group g)) (group_tests g)
        (subst (λ (x : AddError). Told add.Memory (group_refusal i.spool g.name (Group g)) x) is said.0),
    ap (with_spool i) said.1 ∙ v,
  )

  -- ---- an expiry

  pub expiry_tests : (x : Expiry) → expire_refusal_of old (Expire x) ≡ option_map of_expiry (expiry_refusal i.spool x.group x.number)
  expiry_tests x =
      let now = early_none (with_spool i i.spool) early_at in
      ap (λ (k : KernelView). expire_refusal_of k (Expire x)) (sym v)
      ∙ ((λ j. first_failing ((now.0 j, Halted) ∷ (now.1 j, LaterDirty) ∷ (not (has_number i.spool.changes x.group x.number), NotFound)
      ∷ (is_full_for i.spool (Expire x), Full) ∷ []))
      ∙ chosen (has_number i.spool.changes x.group x.number) (is_full_for i.spool (Expire x)))
    where
      chosen : (has full : Bool) → first_failing ((false, Halted) ∷ (false, LaterDirty) ∷ (not has, NotFound) ∷ (full, Full) ∷ [])
          ≡ option_map of_expiry (if has then (if full then Some expire.Full else None) else Some expire.NotFound)
      chosen true true = refl
      chosen true false = refl
      chosen false full = refl

  pub expiry_refused : (s : SpoolView) (x : Expiry) (group : Octets) (e told : ExpireError) → e ≡ told → group ≡ x.group
      → Told expire.Memory (expiry_refusal i.spool group x.number) e × (s ≡ i.spool)
      → (((of_expire (of_expiry told) ≡ expired.Memory) × (expire_refusal_of old (Expire x) ≡ None))
      ⊎ ((r : Refusal) × (expire_refusal_of old (Expire x) ≡ Some r) × (of_expire (of_expiry told) ≡ of_expire r)))
      × (with_spool i s ≡ old)
  expiry_refused s x group e told is same said = (
    refused_so of_expiry of_expire expire.Memory told (expiry_refusal i.spool x.group x.number) (expire_refusal_of old (Expire x))
        (expiry_tests x) (subst (λ (t : Octets × ExpireError). Told expire.Memory (expiry_refusal i.spool t.0 x.number) t.1)
        (λ j. (same j, is j)) said.0),
    ap (with_spool i) said.1 ∙ v,
  )
