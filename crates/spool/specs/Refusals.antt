-- Why a change is refused, apart from memory: the first test that fails.
use Rattle.std.specs.Prelude.{◌≡◌, ℕ, ◌⊎◌, Bool, ◌&&◌, nat_le, if◌then◌else◌, Option, Some, None, Result, MatchResult}
use Rattle.model.specs.Stream.{Octets}
use Rattle.model.specs.Spool.{Spool, high, is_here, low}
use Rattle.model.specs.Room.{is_full}
use Rattle.model.specs.declared.change.Change.{Change}
use Rattle.model.specs.declared.change.Change.TheVariants.{Expire}
use Rattle.session_lookups.specs.declared.change_spool.FilingError.{FilingError}
use Rattle.session_lookups.specs.declared.change_spool.FilingError.TheVariants as file
use Rattle.spool.specs.View.{SpoolView}
use Rattle.spool.specs.declared.errors.AddError.{AddError}
use Rattle.spool.specs.declared.errors.AddError.TheVariants as add
use Rattle.spool.specs.declared.errors.ExpireError.{ExpireError}
use Rattle.spool.specs.declared.errors.ExpireError.TheVariants as expire

-- an answer or `Memory` if no test fails, and otherwise that test's refusal; a refusal leaves the spool as it was
abbrev pub Tested : {T E : Type 0} → E → Option E → SpoolView → SpoolView → Result T E → (T → Type 0) → Type 0
Tested memory refusal old new result done =
    MatchResult result (λ answer. (refusal ≡ None) × done answer) (λ error. (((error ≡ memory) × (refusal ≡ None)) ⊎ (refusal ≡ Some error))
    × (new ≡ old))

abbrev pub is_full_for : SpoolView → Change → Bool
is_full_for s c = is_full s.blocks s.inodes s.changes (Some c)

-- a group: one with its name exists, or there is no room
abbrev pub group_refusal : SpoolView → Octets → Change → Option AddError
group_refusal s name c = if is_here s.changes name then Some add.Exists else if is_full_for s c then Some add.Full else None

-- the number is in the group, from its lowest to its highest
abbrev pub has_number : Spool → Octets → ℕ → Bool
has_number S g n = is_here S g && (nat_le (low S g) n && nat_le n (high S g))

-- an expiry: the group or the number does not exist, or there is no room
abbrev pub expiry_refusal : SpoolView → Octets → ℕ → Option ExpireError
expiry_refusal s g n = if has_number s.changes g n then (if is_full_for s (Expire (record { group = g; number = n }))
    then Some expire.Full else None) else Some expire.NotFound

-- an article that may follow: there is no room
abbrev pub article_refusal : SpoolView → Change → Option FilingError
article_refusal s c = if is_full_for s c then Some file.Full else None
