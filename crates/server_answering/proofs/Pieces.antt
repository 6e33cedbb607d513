-- The octets of a caller, as they are read piece by piece.
use Rattle.std.proofs.Common.{◌≡◌, ℕ, List, [], ◌++◌, refl, sym, subst, append_assoc, append-nil}
use Rattle.std.specs.Prelude.{Option, Some, None, IfSome}
use Rattle.std.specs.Io.KnownBytes.{Consumes, IsAtEnd}
use Rattle.std.proofs.KnownBytes.{Consumes-nil, Consumes-trans}
use Rattle.model.specs.Stream.{ReadsAlike, next}
use Rattle.model.specs.declared.message.Message.{Message}
use Rattle.model.specs.declared.message.Mode.{Mode}
use Rattle.text_framing.specs.Held.{HeldInput, StandsFor}
use Rattle.text_framing.proofs.StandsLaws.{stands_when_fed, stands_when_found, stands_when_none}
use Rattle.server_answering.specs.NextMessage.{HasEnded, HasNext}

-- some octets were read, and a reader stands for those that were held and these
pub record IsRead (held : List ℕ) (before now : Option (List ℕ)) (reader : HeldInput) : Type 0 where
  pub octets : List ℕ
  pub consumed : Consumes before now octets
  pub stands : StandsFor reader (held ++ octets)

awaits_none : (reader : HeldInput) → reader.awaits ≡ None → StandsFor reader reader.rest
awaits_none reader none =
    subst (λ (r : HeldInput). StandsFor r reader.rest) (λ i. record reader { awaits = sym none i }) refl

pub none_read : (reader : HeldInput) (known : Option (List ℕ)) → reader.awaits ≡ None → IsRead reader.rest known known reader
none_read reader known none = record {
  octets = [];
  consumed = Consumes-nil known;
  stands = subst (StandsFor reader) (sym (append-nil reader.rest)) (awaits_none reader none);
}

module _ (mode : Mode) (held : List ℕ) (before now : Option (List ℕ)) (old : HeldInput) (read : IsRead held before now old)
    (awaits : IfSome old.awaits (λ awaited. awaited ≡ mode)) where
  -- a message is found
  pub found : (new : HeldInput) (message : Message) → next mode old.rest ≡ Some (message, new.rest) → new.awaits ≡ None
      → HasNext mode held before now message new.rest
  found new message is none =
      (read.octets, read.consumed, (stands_when_found old new mode (held ++ read.octets) message awaits is none read.stands).0)

  module _ (new : HeldInput) (none : next mode old.rest ≡ None) (alike : ReadsAlike mode old.rest new.rest)
      (waits : new.awaits ≡ Some mode) where
    -- no message is found, and a piece is read and fed
    pub fed : (after : Option (List ℕ)) (last : HeldInput) (piece : List ℕ) → Consumes now after piece → last.rest ≡ new.rest ++ piece
        → last.awaits ≡ new.awaits → IsRead held before after last
    fed after last piece consumed rest same =
        let stands = (stands_when_none old new mode (held ++ read.octets) awaits none alike waits read.stands).1 in
        record {
          octets = read.octets ++ piece;
          consumed = Consumes-trans before now after read.octets piece read.consumed consumed;
          stands = subst (StandsFor last) (append_assoc held read.octets piece)
              (stands_when_fed new last piece (held ++ read.octets) rest same stands);
        }

    -- no message is found, and there are no more octets
    pub ended : (after : Option (List ℕ)) → Consumes now after [] → IsAtEnd after → HasEnded mode held before after
    ended after consumed is = (
      read.octets,
      subst (Consumes before after) (append-nil read.octets)
          (Consumes-trans before now after read.octets [] read.consumed consumed),
      (stands_when_none old new mode (held ++ read.octets) awaits none alike waits read.stands).0,
      is,
    )

-- of a caller that awaits this mode
pub awaits_mode : (mode : Mode) (awaits : Option Mode) → awaits ≡ Some mode → IfSome awaits (λ awaited. awaited ≡ mode)
awaits_mode mode awaits is = subst (λ (o : Option Mode). IfSome o (λ awaited. awaited ≡ mode)) (sym is) refl
