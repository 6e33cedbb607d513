-- How many writes and syncs the device counts at each call.
use Rattle.std.proofs.Common.{◌≡◌, ◌≢◌, ℕ, ◌+◌, ◌*◌, ◌%◌, ◌^◌, Bool, true, false, if◌then◌else◌, eqb, [], ◌∷◌, length, sym, ◌∙◌, ap, subst}
use Rattle.std.proofs.Common.{arith, refl, Ok}
use Rattle.std.proofs.Math.Nat.{mod-add-mod, mod-mod}
use Rattle.std.proofs.lemmas.Bool.{cond_both}
use Rattle.disk.specs.Calls.{Call, Does}
use Rattle.disk.specs.Calls.Call.{Write}
use Rattle.disk.specs.Device.{Device, IsSync, IsWrite, one_more}
use Rattle.model.specs.Volume.{gate_place, other_epoch}
use Rattle.journal.specs.Flight.{held_at}
use Rattle.journal.specs.Calls.{Written, call_at}
use Rattle.journal.specs.Order.{Carried, IsMore, following, is_sync, syncs_made, writes_made}
use Rattle.journal.specs.declared.Next.{Next}
use Rattle.journal.specs.declared.Next.TheVariants.{Idle, Descriptor, Image, Seal, OpenGate, Commit, Home, Settle, Close, Finish}
use Rattle.journal.proofs.Order.{one_more_sync, one_more_write}

pub same_count : (n a b c : ℕ) → IsMore n a b → c ≡ b → IsMore n a c
same_count n a b c more is = ap (λ (x : ℕ). x % 2 ^ 64) is ∙ more

pub one_count : (n a b c : ℕ) → IsMore n a b → c ≡ one_more b → IsMore (n + 1) a c
one_count n a b c more is =
    ap (λ (x : ℕ). x % 2 ^ 64) is ∙ mod-mod (b + 1) (2 ^ 64) ∙ sym (mod-add-mod b (2 ^ 64) 1) ∙ ap (λ (x : ℕ). (x + 1) % 2 ^ 64) more
    ∙ mod-add-mod (a + n) (2 ^ 64) 1 ∙ ap (λ (x : ℕ). x % 2 ^ 64) (omega arith)

-- the counts of a call by its kind
abbrev pub Asks : Bool → Device → Device → Type 0
Asks true old new = IsSync old new
Asks false old new = IsWrite old new

pub asks_by : (write_grows sync_grows : Bool) (next : Next) (w : Written) (x : Unit {0}) (old new : Device)
    → Does write_grows sync_grows (call_at next w) (Ok x) old new → next ≢ Idle → Asks (is_sync next) old new
asks_by write_grows sync_grows Idle w x old new did flies = absurd (flies refl)
asks_by write_grows sync_grows Descriptor w x old new did flies = did.call
asks_by write_grows sync_grows (Image i) w x old new did flies = did.call
asks_by write_grows sync_grows Seal w x old new did flies = did.call
asks_by write_grows sync_grows OpenGate w x old new did flies = did.call
asks_by write_grows sync_grows Commit w x old new did flies = did.call
asks_by write_grows sync_grows (Home j i) w x old new did flies = did.call
asks_by write_grows sync_grows Settle w x old new did flies = did.call
asks_by write_grows sync_grows (Close j) w x old new did flies =
    cond_both (eqb (length w.held) w.segments) (Write 150 (other_epoch w.epoch ∷ []))
    (Write (4096 * gate_place (held_at w.held j).place) (0 ∷ []))
    (λ (call : Call). Does write_grows sync_grows call (Ok x) old new → IsWrite old new) (λ e did. did.call) (λ e did. did.call) did
asks_by write_grows sync_grows (Finish j) w x old new did flies = did.call

-- a good call adds to both counts what it adds to those of the batch
pub writes_on : (n : ℕ) (carried : Carried) (next : Next) (first : ℕ) (old new : Device) → next ≢ Idle → Asks (is_sync next) old new
    → IsMore (writes_made n carried next) first old.writes → IsMore (writes_made n carried (following n carried next)) first new.writes
writes_on n carried next first old new flies asks more = go (is_sync next) asks (one_more_write n carried next flies)
  where
    go : (b : Bool) → Asks b old new
        → writes_made n carried (following n carried next) ≡ (if b then writes_made n carried next else writes_made n carried next + 1)
        → IsMore (writes_made n carried (following n carried next)) first new.writes
    go true asked is = subst (λ (m : ℕ). IsMore m first new.writes) (sym is)
        (same_count (writes_made n carried next) first old.writes new.writes more asked.writes)
    go false asked is = subst (λ (m : ℕ). IsMore m first new.writes) (sym is)
        (one_count (writes_made n carried next) first old.writes new.writes more asked.writes)

pub syncs_on : (n : ℕ) (carried : Carried) (next : Next) (first : ℕ) (old new : Device) → next ≢ Idle → Asks (is_sync next) old new
    → IsMore (syncs_made carried next) first old.syncs → IsMore (syncs_made carried (following n carried next)) first new.syncs
syncs_on n carried next first old new flies asks more = go (is_sync next) asks (one_more_sync n carried next flies)
  where
    go : (b : Bool) → Asks b old new
        → syncs_made carried (following n carried next) ≡ (if b then syncs_made carried next + 1 else syncs_made carried next)
        → IsMore (syncs_made carried (following n carried next)) first new.syncs
    go false asked is = subst (λ (m : ℕ). IsMore m first new.syncs) (sym is)
        (same_count (syncs_made carried next) first old.syncs new.syncs more asked.syncs)
    go true asked is = subst (λ (m : ℕ). IsMore m first new.syncs) (sym is)
        (one_count (syncs_made carried next) first old.syncs new.syncs more asked.syncs)
