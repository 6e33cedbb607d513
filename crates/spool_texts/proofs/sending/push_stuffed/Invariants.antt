use Rattle.std.proofs.Common.{◌≡◌, ◌⊎◌, ◌≤◌, ◌-◌, ◌++◌, ℕ, take, drop, true, false, List}
use Rattle.model.specs.Files.{content_of, entry}
use Rattle.session_replies.specs.Stuffing.{after, stuffed_from}
use Rattle.session_replies.specs.declared.stuffing.Stuffing.{Stuffing}
use Rattle.spool_texts.proofs.sending.push_stuffed.Given as goal

abbrev pub fresh : Stuffing
fresh = record { fresh = true; after_cr = false }

-- the octets up to here are sent
pub record Sent (place from end : ℕ) (stuffing : Stuffing) (old reply content : List ℕ) : Type 0 where
  pub from_place : place ≤ from
  pub to_end : (from ≡ place) ⊎ (from ≤ end)
  pub reply_is : reply ≡ old ++ stuffed_from fresh (take (from - place) (drop place content))
  pub state_is : stuffing ≡ after fresh (take (from - place) (drop place content))

abbrev pub invariant-loop-from : goal.invariant-loop-from
invariant-loop-from g l = Sent l.place l.from l.end l.stuffing l.fn.reply.items l.reply.items
    (content_of (g.B.Blocks.blocks l.blocks) (entry l.inodes (g.B.Blocks.blocks l.blocks) l.at))

abbrev pub decreases-loop-from : goal.decreases-loop-from
decreases-loop-from g l = l.end - l.from
