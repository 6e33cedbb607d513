-- The fields of a reader.
use Rattle.std.specs.Prelude.{List, ◌≡◌, ℕ, ◌+◌, ◌*◌, ◌≤◌, ◌⊎◌, ◌++◌, Some, None, Option, drop, replicate, vec_len}
use Rattle.text_framing.specs.declared.Reader.TheInside.{Inside}
use Rattle.text_framing.specs.Held.{HeldInput, NoneEnds}
use Rattle.model.specs.declared.message.Mode.{Mode}

-- the octets that are held and were not handed out
abbrev pub unread : Inside → List ℕ
unread r = drop r.start r.octets.items

-- dropped octets are seen as zeros
abbrev pub held_of : Inside → HeldInput
held_of r = record {
  rest = replicate r.dropped 0 ++ unread r;
  awaits = r.awaits;
  size = vec_len r.octets;
}

-- no prefix of what was searched ends the message that was asked for; if none was, nothing was searched or dropped
abbrev pub IsSearched : Option Mode → Inside → Type 0
IsSearched None r = (r.searched ≡ 0) × (r.dropped ≡ 0)
IsSearched (Some mode) r =
    NoneEnds mode (replicate r.dropped 0 ++ unread r) 0 (r.dropped + r.searched)

-- octets are dropped only if the message is too long, and at least four octets that were searched follow them
pub record IsSound (r : Inside) : Type 0 where
  pub start : r.start + r.searched ≤ vec_len r.octets
  pub half : 2 * r.start ≤ vec_len r.octets
  pub dropped : (r.dropped ≡ 0) ⊎ ((349_996 ≤ r.dropped) × (4 ≤ r.searched))
  pub searched : IsSearched r.awaits r
