-- Before the commit of a batch, and after it: what those who use the journal need of the order of its calls.
use Rattle.std.proofs.Common.{◌≡◌, ◌≢◌, ◌⊎◌, inl, inr, ℕ, ◌+◌, true, false, eqb, refl}
use Rattle.std.proofs.lemmas.Bool.{cond_both}
use Rattle.journal.specs.Order.{Carried, closings, answer, at_fault, following, is_to_commit}
use Rattle.journal.specs.declared.Next.{Next}
use Rattle.journal.specs.declared.Next.TheVariants.{Idle, Descriptor, Image, Seal, OpenGate, Commit, Home, Settle, Close, Finish}
use Rattle.journal.specs.declared.Progress.{Progress}
use Rattle.journal.specs.declared.Progress.TheVariants.{Working, Committed, Idle as Ended}
use Rattle.journal.proofs.Flights.{after_commit, after_gate, after_home, after_image}

-- no batch is in flight, or one is
pub idle_or_flies : (next : Next) → (next ≡ Idle) ⊎ (next ≢ Idle)
idle_or_flies Idle = inl refl
idle_or_flies Descriptor = inr (λ e. cc)
idle_or_flies (Image i) = inr (λ e. cc)
idle_or_flies Seal = inr (λ e. cc)
idle_or_flies OpenGate = inr (λ e. cc)
idle_or_flies Commit = inr (λ e. cc)
idle_or_flies (Home j i) = inr (λ e. cc)
idle_or_flies Settle = inr (λ e. cc)
idle_or_flies (Close j) = inr (λ e. cc)
idle_or_flies (Finish j) = inr (λ e. cc)

-- after the commit each call stays after it, also at a fault
pub past_following : (n : ℕ) (carried : Carried) (call : Next) → is_to_commit call ≡ false → is_to_commit (following n carried call) ≡ false
past_following n carried Idle is = refl
past_following n carried Descriptor is = absurd (cc is)
past_following n carried (Image i) is = absurd (cc is)
past_following n carried Seal is = absurd (cc is)
past_following n carried OpenGate is = absurd (cc is)
past_following n carried Commit is = absurd (cc is)
past_following n carried (Home j i) is = after_home (λ f. is_to_commit f ≡ false) n carried j i (λ e d. refl) (λ e d. refl) (λ e. refl)
past_following n carried Settle is = refl
past_following n carried (Close j) is = refl
past_following n carried (Finish j) is = after_gate (λ f. is_to_commit f ≡ false) n carried j (λ e. refl) (λ e. refl)

pub past_commit : (n : ℕ) (carried : Carried) → is_to_commit (following n carried Commit) ≡ false
past_commit n carried = after_commit (λ f. is_to_commit f ≡ false) n carried (λ e. refl) (λ e. refl)

pub past_at_fault : (n : ℕ) (carried : Carried) (call : Next) → is_to_commit call ≡ false → is_to_commit (at_fault n carried call) ≡ false
past_at_fault n carried Idle is = refl
past_at_fault n carried Descriptor is = absurd (cc is)
past_at_fault n carried (Image i) is = absurd (cc is)
past_at_fault n carried Seal is = absurd (cc is)
past_at_fault n carried OpenGate is = absurd (cc is)
past_at_fault n carried Commit is = absurd (cc is)
past_at_fault n carried (Home j i) is = past_following n carried (Home j i) is
past_at_fault n carried Settle is = refl
past_at_fault n carried (Close j) is = refl
past_at_fault n carried (Finish j) is = refl

-- and answers no commit
pub past_answer : (P : Progress → Type 0) (last : ℕ) (carried : Carried) (call : Next) → P Working → P Ended → is_to_commit call ≡ false
    → P (answer last carried call)
past_answer P last carried Idle working ended is = working
past_answer P last carried Descriptor working ended is = absurd (cc is)
past_answer P last carried (Image i) working ended is = absurd (cc is)
past_answer P last carried Seal working ended is = absurd (cc is)
past_answer P last carried OpenGate working ended is = absurd (cc is)
past_answer P last carried Commit working ended is = absurd (cc is)
past_answer P last carried (Home j i) working ended is = working
past_answer P last carried Settle working ended is = working
past_answer P last carried (Close j) working ended is = working
past_answer P last carried (Finish j) working ended is = cond_both (eqb (j + 1) (closings carried)) Ended Working P (λ e. ended)
    (λ e. working)

-- before it a call commits, or the batch waits on, also at a fault
pub waits_or_commits : (n : ℕ) (carried : Carried) (call : Next) → is_to_commit call ≡ true
    → (call ≡ Commit) ⊎ ((is_to_commit (following n carried call) ≡ true) × ((last : ℕ) → answer last carried call ≡ Working))
waits_or_commits n carried Idle is = absurd (cc is)
waits_or_commits n carried Descriptor is = inr (refl, λ last. refl)
waits_or_commits n carried (Image i) is = inr (after_image (λ f. is_to_commit f ≡ true) n carried i (λ e. refl) (λ e. refl), λ last. refl)
waits_or_commits n carried Seal is = inr (refl, λ last. refl)
waits_or_commits n carried OpenGate is = inr (refl, λ last. refl)
waits_or_commits n carried Commit is = inl refl
waits_or_commits n carried (Home j i) is = absurd (cc is)
waits_or_commits n carried Settle is = absurd (cc is)
waits_or_commits n carried (Close j) is = absurd (cc is)
waits_or_commits n carried (Finish j) is = absurd (cc is)

pub waits_at_fault : (n : ℕ) (carried : Carried) (call : Next) → is_to_commit call ≡ true → is_to_commit (at_fault n carried call) ≡ true
waits_at_fault n carried Idle is = absurd (cc is)
waits_at_fault n carried Descriptor is = refl
waits_at_fault n carried (Image i) is = after_image (λ f. is_to_commit f ≡ true) n carried i (λ e. refl) (λ e. refl)
waits_at_fault n carried Seal is = refl
waits_at_fault n carried OpenGate is = refl
waits_at_fault n carried Commit is = refl
waits_at_fault n carried (Home j i) is = absurd (cc is)
waits_at_fault n carried Settle is = absurd (cc is)
waits_at_fault n carried (Close j) is = absurd (cc is)
waits_at_fault n carried (Finish j) is = absurd (cc is)

-- the sync that commits alone answers so
pub committed_at : (last l : ℕ) (carried : Carried) (call : Next) → Committed last ≡ answer l carried call → (call ≡ Commit) × (last ≡ l)
committed_at last l carried Idle is = absurd (cc is)
committed_at last l carried Descriptor is = absurd (cc is)
committed_at last l carried (Image i) is = absurd (cc is)
committed_at last l carried Seal is = absurd (cc is)
committed_at last l carried OpenGate is = absurd (cc is)
committed_at last l carried Commit is = (refl, cc is)
committed_at last l carried (Home j i) is = absurd (cc is)
committed_at last l carried Settle is = absurd (cc is)
committed_at last l carried (Close j) is = absurd (cc is)
committed_at last l carried (Finish j) is =
    absurd (cond_both (eqb (j + 1) (closings carried)) Ended Working (λ p. Committed last ≡ p → ⊥) (λ e f. cc) (λ e f. cc) is)
