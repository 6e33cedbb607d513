-- The writes of octets to gates, one after the other.
use Rattle.std.proofs.Common.{◌≡◌, inl, inr, ◌<◌, ◌≤◌, ℕ, ◌+◌, Bool, List, [], ◌∷◌, length, get_or, drop, drop-cons, add-one, Result, Ok}
use Rattle.std.proofs.Common.{Err, refl, sym, ◌∙◌, ap, subst}
use Rattle.std.proofs.lemmas.List.{drop_all}
use Rattle.disk.specs.Calls.{Call, Makes, Writes}
use Rattle.disk.specs.Device.{Device}
use Rattle.disk.specs.declared.DiskError.{DiskError}
use Rattle.journal_gates.specs.Gates.{gate_at, writes_from}

-- the writes from the i-th on
pub writes_at : (octets : List ℕ) (i : ℕ) → i < length octets
    → writes_from i (drop i octets) ≡ Call.Write (gate_at i) (get_or octets i 0 ∷ []) ∷ writes_from (i + 1) (drop (i + 1) octets)
writes_at octets i low = ap (λ (l : List ℕ). writes_from i l) (drop_one octets i low)
  where
    drop_one : (octets : List ℕ) (i : ℕ) → i < length octets → drop i octets ≡ get_or octets i 0 ∷ drop (i + 1) octets
    drop_one octets i low = rw (add-one, drop-cons octets i 0)

module _ {D : Type 0} (device : D → Device) (write_grows sync_grows : Bool) where
  -- whatever the writes from the i-th on do, all of them do
  pub record IsWriting (octets : List ℕ) (i : ℕ) (first now : D) : Type 0 where
    pub continues : (result : Result (Unit {0}) DiskError) (last : D)
        → Makes device write_grows sync_grows (writes_from i (drop i octets)) result now last
        → Makes device write_grows sync_grows (writes_from 0 octets) result first last
    pub size : (device now).size ≡ (device first).size

  pub starts : (octets : List ℕ) (d : D) → IsWriting octets 0 d d
  starts octets d = record { continues = λ result last made. made; size = refl }

  -- one more good write
  pub goes_on : (octets : List ℕ) (i : ℕ) (first now next : D) → i < length octets → IsWriting octets i first now
      → Writes write_grows (gate_at i) (get_or octets i 0 ∷ []) (Ok tt) (device now) (device next) → IsWriting octets (i + 1) first next
  goes_on octets i first now next low so_far did = record {
    continues = λ result last made. so_far.continues result last
        (subst (λ (calls : List Call). Makes device write_grows sync_grows calls result now last) (sym (writes_at octets i low))
        (inl (next, (did, made))));
    size = did.time.size ∙ so_far.size;
  }

  -- a write that was refused
  pub ends_early : (octets : List ℕ) (i : ℕ) (first now next : D) (e : DiskError) → i < length octets → IsWriting octets i first now
      → Writes write_grows (gate_at i) (get_or octets i 0 ∷ []) (Err e) (device now) (device next)
      → Makes device write_grows sync_grows (writes_from 0 octets) (Err e) first next
  ends_early octets i first now next e low so_far did =
      so_far.continues (Err e) next
      (subst (λ (calls : List Call). Makes device write_grows sync_grows calls (Err e) now next) (sym (writes_at octets i low))
      (inr (refl, did)))

  -- all writes, each of which was good
  pub ends : (octets : List ℕ) (i : ℕ) (first now : D) → length octets ≤ i → IsWriting octets i first now
      → Makes device write_grows sync_grows (writes_from 0 octets) (Ok tt) first now
  ends octets i first now past so_far =
      so_far.continues (Ok tt) now (subst (λ (l : List ℕ). Makes device write_grows sync_grows (writes_from i l) (Ok tt) now now)
      (sym (drop_all i octets past))
      (refl, refl))
