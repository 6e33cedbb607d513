-- An image that stands for enough changes is externally synchronous, and each that the journal admits is one.
use Rattle.std.proofs.Common.{◌≡◌, inl, inr, ⊎_elim, ℕ, ◌≤◌, Bool, true, false, List, length, take, Option, Some, None, refl}
use Rattle.std.proofs.Common.{ap, sym, ◌∙◌, subst, arith, length-take}
use Rattle.std.specs.Prelude.{unwrap_or, IsTrue, IfSome}
use Rattle.disk.specs.Device.{Device}
use Rattle.journal.specs.Journal.{JournalView, Admits, with_batch}
use Rattle.journal.specs.declared.Next.TheVariants.{Commit}
use Rattle.model.specs.Stream.{Octets}
use Rattle.model.specs.Spool.{Spool}
use Rattle.model.specs.Layout.{IsLabel}
use Rattle.model.specs.News.{Holds, Stands, service}
use Rattle.model.specs.Volume.{StandsFor, format_number}
use Rattle.model.specs.declared.session.Session.{Session}
use Rattle.kernel.specs.Kernel.{KernelView, seat_of}
use Rattle.kernel_seats.specs.Seats.{Seat}
use Rattle.kernel.specs.Kept.{IsKept}
use Rattle.synchrony.specs.Server.{Connection, PlainServer, sync}
use Rattle.synchrony.specs.Dependency.{Output}
use Rattle.synchrony.specs.Synchrony.{IsExternallySynchronous, IsReleased}
use Rattle.synchrony.proofs.Released.{IsReleased-none, IsReleased-raise}
use Rattle.synchrony.proofs.Theorems.{account_sync, releases_are_synchronous}
use Rattle.kernel_trace.specs.Traced.{Sent, TracedView, IsServed, IsSession, account}
use Rattle.kernel_trace.specs.Traced.{arrived_at, first_spool, nobody, released_at, session_at}
use Rattle.model.proofs.NewsLaws.{lawful}
use Rattle.world.specs.World.{WorldView, kernel_of}
use Rattle.world.specs.Images.{Fits, IsSynchronous, MayBeLeft}
use Rattle.journal.specs.Order.{is_to_commit}
use Rattle.world.specs.Tied.{IsTied, IsWorld, LieBehind, Phase, Quiet, Flying, IsToBeTold}

-- what was released to a session, also to one that never joined
released_of : (host : Octets) (durable : ℕ) (sent : Option Sent) (seat : Option Seat) (connection : Connection Session)
    (outputs : List Output) → IsSession host durable sent seat connection outputs
    → IsReleased durable (unwrap_or sent nobody).released outputs
released_of host durable None seat connection outputs h = IsReleased-none durable outputs
released_of host durable (Some sent) seat connection outputs h = h.released

-- the plain server has the kernel's spool
pub run_spool : (served : TracedView) → IsServed served
    → (sync (service served.kernel.host) (first_spool served) (arrived_at served) served.trace).spool ≡ served.kernel.spool
run_spool served h =
    sym (ap (λ (s : PlainServer _ _). s.spool)
    (account_sync (service served.kernel.host) (first_spool served) (arrived_at served) served.trace)) ∙ h.spool

-- The theorem: with the durable changes left, or more.
pub synchronous_with : (served : TracedView) → IsServed served → (p : ℕ) → served.kernel.durable ≤ p
    → IsExternallySynchronous (service served.kernel.host) (first_spool served) (arrived_at served) served.trace (released_at served) p
    (take p (sync (service served.kernel.host) (first_spool served) (arrived_at served) served.trace).spool)
synchronous_with served h p le =
    releases_are_synchronous (service served.kernel.host) (lawful served.kernel.host) (first_spool served) (arrived_at served) served.trace
    (released_at served) p
    (omega (arith, h.opening, length-take served.first served.kernel.spool))
    (λ number. IsReleased-raise served.kernel.durable p (released_at served number) ((account served).outputs number) le
    (released_of served.kernel.host served.kernel.durable (session_at served.sessions number) (seat_of served.kernel number) _ _
    (h.each number)))

-- so it is of an image that stands for these changes
pub is_synchronous : (served : TracedView) → IsServed served → (p : ℕ) → served.kernel.durable ≤ p → (image : Octets)
    → Stands served.kernel.host image (take p served.kernel.spool)
    → IsSynchronous served.kernel.host (first_spool served) (arrived_at served) served.trace (released_at served) p image
is_synchronous served h p le image stands =
    record {
      recovered = take p run;
      stands = subst (λ S. Stands served.kernel.host image (take p S)) (sym (run_spool served h)) stands;
      synchronous = synchronous_with served h p le;
    }
  where
    run : Spool
    run = (sync (service served.kernel.host) (first_spool served) (arrived_at served) served.trace).spool

-- ---- what the journal admits

-- an image of a volume whose blocks hold these changes, in no lower format than the journal has
pub stands_for : {D : Type 0} (tells : Bool) (world : WorldView D) (blocks : List Octets) (p : ℕ) (image : Octets) → IsTied tells world
    → length blocks ≡ length (kernel_of world).blocks
    → Holds (kernel_of world).host (kernel_of world).inodes blocks (take p (kernel_of world).spool)
    → StandsFor image world.journal.label blocks → world.journal.format ≤ format_number image
    → Stands (kernel_of world).host image (take p (kernel_of world).spool)
stands_for tells world blocks p image h size holds volume risen =
    record {
      label = world.journal.label;
      inodes = (kernel_of world).inodes;
      blocks = blocks;
      volume = volume;
      labelled = subst (λ n. IsLabel world.journal.label n (kernel_of world).inodes (kernel_of world).host) (sym size) h.label;
      held = record {
        held = holds;
        no_pack = λ few. absurd (omega (arith, risen, h.format, few));
        of_format = λ first. absurd (omega (arith, risen, h.format, first));
      };
    }

-- where no batch is to be committed, the journal admits its blocks alone
admits_blocks : {D : Type 0} (journal : JournalView D) (image : Octets) → is_to_commit journal.next ≡ false → Admits journal image
    → StandsFor image journal.label journal.blocks
admits_blocks journal image past admits =
    ⊎_elim (λ (stands : StandsFor image journal.label journal.blocks). stands)
    (λ (batch : (journal.next ≡ Commit) × StandsFor image journal.label (with_batch journal)). absurd (let both : true ≡ false =
    ap is_to_commit (sym batch.0) ∙ past in cc))
    admits.0

-- the last serial of a batch in flight is no less than the durable one
pub flying_last : (kernel : KernelView) (last : ℕ) → IsKept kernel → kernel.in_flight ≡ Some last
    → (kernel.durable ≤ last) × (last ≤ length kernel.spool)
flying_last kernel last kept flies = subst (λ o. IfSome o (λ n. (kernel.durable ≤ n) × (n ≤ length kernel.spool))) flies kept.flying

pub admits_fits : {D : Type 0} (device : D → Device) (world : WorldView D) → IsWorld device world → IsTrue (device world.journal.disk).tells
    → (image : Octets) → Admits world.journal image → Fits world image
admits_fits {D} device world h tells image admits = go h.tied.phase
  where
    kernel : KernelView
    kernel = kernel_of world

    journal : JournalView D
    journal = world.journal

    its_device : Device
    its_device = device world.journal.disk

    fits : (p : ℕ) → MayBeLeft kernel p → kernel.durable ≤ p → (blocks : List Octets) → length blocks ≡ length kernel.blocks
        → Holds kernel.host kernel.inodes blocks (take p kernel.spool) → StandsFor image journal.label blocks → Fits world image
    fits p may le blocks size holds volume = (
      p,
      may,
      is_synchronous world.served h.served p le image
          (stands_for its_device.tells world blocks p image h.tied size holds volume admits.1),
    )

    go : Phase its_device.tells journal kernel world.untold → Fits world image
    go (Quiet q) = let b : LieBehind kernel journal.blocks kernel.durable = q.blocks tells in
        fits kernel.durable (inl refl) (omega arith) journal.blocks b.agrees.size b.holds (admits_blocks journal image q.past admits)
    go (Flying last f) =
        let le = flying_last kernel last h.kernel f.flies in
        let b : LieBehind kernel (with_batch journal) last = f.after tells in
        ⊎_elim (λ (stands : StandsFor image journal.label journal.blocks). fits kernel.durable (inl refl) (omega arith) journal.blocks
        (f.size tells) (f.before tells) stands)
        (λ (batch : (journal.next ≡ Commit) × StandsFor image journal.label (with_batch journal)). fits last (inr f.flies) le.0
        (with_batch journal) b.agrees.size b.holds batch.1)
        admits.0
    go (IsToBeTold last c) =
        let le = flying_last kernel last h.kernel c.flies in
        let b : LieBehind kernel journal.blocks last = c.blocks tells in
        fits last (inr c.flies) le.0 journal.blocks b.agrees.size b.holds (admits_blocks journal image c.past admits)

-- each image that a crash now may leave
pub now_fits : {D : Type 0} (device : D → Device) (world : WorldView D) → IsWorld device world → IsTrue (device world.journal.disk).tells
    → (image : Octets) → (device world.journal.disk).may_leave image → Fits world image
now_fits device world h tells image left = admits_fits device world h tells image (h.admits tells image left)
