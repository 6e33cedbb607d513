-- What a reader holds stands for the stream, whatever is fed and asked.
use Rattle.std.specs.Prelude.{◌≡◌, List, [], ◌++◌, ℕ, Option, Some, None, IfSome, MatchOption}
use Rattle.std.proofs.Common.{sym, ◌∙◌, ap, subst, refl, append-nil, append_assoc}
use Rattle.model.specs.declared.message.Mode.{Mode}
use Rattle.model.specs.Stream.{next, ReadsAlike}
use Rattle.text_framing.specs.Held.{StandsWhenFed, StandsWhenFound, StandsWhenNone}

-- what reads alike has the same next message
next-alike_now : (mode : Mode) (stream other : List ℕ) → ReadsAlike mode stream other → next mode stream ≡ next mode other
next-alike_now mode stream other alike =
    ap (next mode) (sym (append-nil stream)) ∙ alike [] ∙ ap (next mode) (append-nil other)

-- in the mode that may be asked for, what is held reads as the stream
reads_alike : (awaits : Option Mode) (rest stream : List ℕ) (mode : Mode) → IfSome awaits (λ awaited. awaited ≡ mode)
    → MatchOption awaits (rest ≡ stream) (λ awaited. ReadsAlike awaited stream rest) → ReadsAlike mode stream rest
reads_alike None rest stream mode same is = λ more. ap (λ s. next mode (s ++ more)) (sym is)
reads_alike (Some awaited) rest stream mode same is = subst (λ m. ReadsAlike m stream rest) same is

-- one more piece
fed : (awaits : Option Mode) (rest stream piece : List ℕ) → MatchOption awaits (rest ≡ stream) (λ awaited. ReadsAlike awaited stream rest)
    → MatchOption awaits (rest ++ piece ≡ stream ++ piece) (λ awaited. ReadsAlike awaited (stream ++ piece) (rest ++ piece))
fed None rest stream piece is = ap (λ s. s ++ piece) is
fed (Some awaited) rest stream piece is = λ more.
    ap (next awaited) (append_assoc stream piece more) ∙ is (piece ++ more) ∙ ap (next awaited) (sym (append_assoc rest piece more))

pub stands_when_fed : StandsWhenFed
stands_when_fed old new piece stream rest awaits is =
    subst (λ a. MatchOption a (new.rest ≡ stream ++ piece) (λ awaited. ReadsAlike awaited (stream ++ piece) new.rest)) (sym awaits)
    (subst (λ r. MatchOption old.awaits (r ≡ stream ++ piece) (λ awaited. ReadsAlike awaited (stream ++ piece) r)) (sym rest)
    (fed old.awaits old.rest stream piece is))

pub stands_when_found : StandsWhenFound
stands_when_found old new mode stream message may found awaits is = (
  next-alike_now mode stream old.rest (reads_alike old.awaits old.rest stream mode may is) ∙ found,
  subst (λ a. MatchOption a (new.rest ≡ new.rest) (λ awaited. ReadsAlike awaited new.rest new.rest)) (sym awaits) refl,
)

pub stands_when_none : StandsWhenNone
stands_when_none old new mode stream may none alike awaits is =
    let reads = reads_alike old.awaits old.rest stream mode may is in (
      next-alike_now mode stream old.rest reads ∙ none,
      subst (λ a. MatchOption a (new.rest ≡ stream) (λ awaited. ReadsAlike awaited stream new.rest)) (sym awaits) (λ more. reads more
          ∙ alike more),
    )
