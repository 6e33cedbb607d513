-- What a call does to the kernel under the lock, and to the caller's buffer.
use Rattle.std.specs.Prelude.{◌≡◌, ℕ, ◌+◌, ◌-◌, Bool, Some, None, List, [], ◌++◌, if◌then◌else◌, filter, length, slice_index_or, take}
use Rattle.std.specs.List.{flat_map}
use Rattle.copy_portions.specs.Copying.{PortionView}
use Rattle.kernel_shared.specs.declared.kern.ExecOutcome.{ExecOutcome}
use Rattle.kernel_shared.specs.declared.kern.KernelCounts.{KernelCounts}
use Rattle.kernel.specs.Kernel.{Execs, KernelView, is_clean, released_of, seat_of}
use Rattle.model.specs.Files.{free_inodes}
use Rattle.model.specs.Lawful.{IsLawful}
use Rattle.model.specs.Spool.{Spool}
use Rattle.model.specs.Stream.{Octets}
use Rattle.model.specs.declared.message.Message.{Message}
use Rattle.kernel_expiring.specs.Ages.{IsAgedGroup}
use Rattle.kernel_expiring.specs.declared.AgedGroup.{AgedGroup}
use Rattle.kernel_outbox.specs.Queue.{ReadyEntry}
use Rattle.kernel_seats.specs.Seats.{holds, ready_of}

-- what is ready of a session is given after the entries of a buffer; and whether the session still holds outputs
pub record Gives (old new : KernelView) (number : ℕ) (before after : List ReadyEntry) (is_held : Bool) : Type 0 where
  pub entries : after ≡ before ++ (ready_of old.durable before number old.seats).entries
  pub kernel : new ≡ released_of old before number
  pub held : is_held ≡ holds (seat_of new number)

-- a message of a session was served, and then what is ready of the same session was given
pub record Answers (old new : KernelView) (number : ℕ) (m : Message) (t : ℕ) (before after : List ReadyEntry)
    (answered : ExecOutcome) : Type 0 where
  pub served : KernelView
  pub has_accepted : Bool
  pub executed : Execs old served number m t
      (record { next = answered.next; mark = answered.mark; refusal = answered.refusal; has_accepted = has_accepted })
  pub accepted : answered.accepted ≡ if has_accepted then Some (length served.spool) else None
  pub given : Gives served new number before after answered.is_held

-- of the blocks with these numbers those that are clean, as many as a portion has room for after its own
abbrev pub copied : KernelView → List ℕ → PortionView → List ℕ
copied kernel asked portion = take (1024 - length portion.numbers) (filter (λ n. is_clean kernel n) asked)

-- they were put into the portion
pub record Copies (kernel : KernelView) (asked : List ℕ) (old new : PortionView) : Type 0 where
  pub numbers : new.numbers ≡ old.numbers ++ copied kernel asked old
  pub images : new.images ≡ old.images ++ flat_map (λ n. slice_index_or kernel.blocks n []) (copied kernel asked old)

-- what a kernel holds
pub record IsCounted (kernel : KernelView) (counts : KernelCounts) : Type 0 where
  pub sessions : counts.sessions ≡ length kernel.seats
  pub inodes : counts.inodes + free_inodes kernel.inodes kernel.blocks ≡ kernel.inodes
  pub accepted : counts.accepted ≡ length kernel.spool
  pub durable : counts.durable ≡ kernel.durable

-- what an expiry by age finds at a place under the lock: it is that of the lawful changes that the kernel then had
pub record IsFoundAt (place : ℕ) (w : Octets) (since : ℕ) (group : AgedGroup) : Type 0 where
  pub host : Octets
  pub changes : Spool
  pub lawful : IsLawful host changes
  pub is_group : IsAgedGroup changes place w since group
