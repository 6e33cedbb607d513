-- What becomes of a text that is filed as a transfer would be.
use Rattle.std.specs.Prelude.{◌≡◌, ℕ, ◌+◌, Option, Some, None, length, true, false}
use Rattle.model.specs.Answer as answers
use Rattle.model.specs.Article.{Carried, cause, id}
use Rattle.model.specs.Names.{is_of_host}
use Rattle.model.specs.Spool.{NewsArticle}
use Rattle.model.specs.Stream.{Octets}
use Rattle.model.specs.declared.change.Change.{Change}
use Rattle.spool.specs.Refusals.{is_full_for}
use Rattle.spool.specs.View.{Adds, SpoolView}
use Rattle.volume_store.specs.declared.outcome.TextOutcome.{TextOutcome}
use Rattle.volume_store.specs.declared.outcome.TextOutcome.TheVariants.{Filed, Here, NoGroup, Refused, Full}
use Rattle.volume_store.specs.declared.outcome.TextRefusal.TheVariants.{NotAnArticle, OwnId}

-- the outcome of the transfer in which a peer offers a text by its own message-id and then sends it
abbrev pub transferred : SpoolView → Octets → answers.Outcome
transferred s text = answers.transfer_outcome s.changes (id text) text

-- the change of the answer to it, if it is accepted at this moment
abbrev pub accepted_change : SpoolView → ℕ → Octets → Option Change
accepted_change s moment text = (answers.transfer_answer s.changes answers.new_session moment (id text) text).change

-- the text's message-id is one that this host makes: an offer of it is not wanted
abbrev pub has_own_id : SpoolView → Octets → Type 0
has_own_id s text = is_of_host s.host (id text) ≡ true

abbrev pub IsOffered : SpoolView → Octets → Type 0
IsOffered s text = is_of_host s.host (id text) ≡ false

-- when each outcome occurs, and the spool afterwards
abbrev pub Becomes : SpoolView → SpoolView → Octets → ℕ → TextOutcome → Type 0
Becomes old new text moment (Filed serial) =
    IsOffered old text × (serial ≡ length old.changes + 1)
    × ((c : Change) × (accepted_change old moment text ≡ Some c) × (is_full_for old c ≡ false) × Adds old new c)
Becomes old new text moment Full =
    IsOffered old text × ((c : Change) × (accepted_change old moment text ≡ Some c) × (is_full_for old c ≡ true)) × (new ≡ old)
Becomes old new text moment Here = IsOffered old text × ((a : NewsArticle) × (transferred old text ≡ answers.id_here a)) × (new ≡ old)
Becomes old new text moment NoGroup = IsOffered old text × (transferred old text ≡ answers.no_group_here) × (new ≡ old)
Becomes old new text moment (Refused OwnId) = (cause Carried text ≡ None) × has_own_id old text × (new ≡ old)
Becomes old new text moment (Refused (NotAnArticle c)) = (cause Carried text ≡ Some c) × (new ≡ old)
