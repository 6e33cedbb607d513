-- Replies with lines, and what they are with the lines made.
use Rattle.std.proofs.Common.{◌≡◌, ℕ, zero, suc, ◌+◌, List, [], ◌∷◌, ◌++◌, length, refl, sym, ap, arith, append-nil, length-append}
use Rattle.std.specs.Prelude.{Option, Some, None, IfSome, slice_index_or}
use Rattle.std.proofs.lemmas.List.Elements.{All-head, All-tail}
use Rattle.std.proofs.lemmas.List.Sums.{sum_by-cons}
use Rattle.kernel_outbox.specs.Lines.{AllAreKept, HeldReply, IsKept, last_depends, octets_of_lines, octets_waiting, outputs_of, size}
use Rattle.kernel_outbox.specs.Lines.{output_of, size_of_lines, with_lines}
use Rattle.kernel_outbox.specs.Queue.{HeldOutput, buffered, last_dependency}
use Rattle.kernel_outbox.specs.declared.made_lines.Lines.{Lines}

-- lines that the source has say truly how many octets they have
abbrev pub AreCounted : (Lines → List ℕ) → (Lines → Type 0) → Type 0
AreCounted made keeps = (lines : Lines) → keeps lines → lines.octets ≡ length (made lines)

-- the octets and then those of the lines
pub with_lines_is : (made : Lines → List ℕ) (octets : List ℕ) (lines : Option Lines)
    → with_lines made octets lines ≡ octets ++ octets_of_lines made lines
with_lines_is made octets None = sym (append-nil octets)
with_lines_is made octets (Some lines) = refl

-- the number of octets
pub size_is : (made : Lines → List ℕ) (keeps : Lines → Type 0) → AreCounted made keeps → (octets : List ℕ) (lines : Option Lines)
    → IfSome lines keeps → length octets + size_of_lines lines ≡ length (with_lines made octets lines)
size_is made keeps counted octets None kept = omega arith
size_is made keeps counted octets (Some lines) kept = omega (arith, counted lines kept, length-append octets (made lines))

pub waiting_is : (made : Lines → List ℕ) (keeps : Lines → Type 0) → AreCounted made keeps → (held : List HeldReply)
    → AllAreKept keeps held → octets_waiting held ≡ buffered (outputs_of made held)
waiting_is made keeps counted [] kept = refl
waiting_is made keeps counted (front ∷ rest) kept =
    omega (
      arith,
      size_is made keeps counted front.reply.octets front.reply.lines
          (All-head (λ (h : HeldReply). IsKept keeps h.reply) front rest kept),
      waiting_is made keeps counted rest (All-tail (λ (h : HeldReply). IsKept keeps h.reply) front rest kept),
      sum_by-cons (λ (h : HeldReply). size h.reply) front rest,
      sum_by-cons (λ (h : HeldOutput). length h.octets) (output_of made front) (outputs_of made rest),
    )

-- the last output depends on the same changes
pub last_depends_is : (made : Lines → List ℕ) (given : ℕ) (held : List HeldReply)
    → last_depends given held ≡ last_dependency given (outputs_of made held)
last_depends_is made given [] = refl
last_depends_is made given (front ∷ rest) = last_depends_is made front.dependency rest

pub last_depends-back : (given : ℕ) (held : List HeldReply) (n : ℕ) (last : HeldReply) → suc n ≡ length held
    → last ≡ slice_index_or held n last
    → last.dependency ≡ last_depends given held
last_depends-back given [] n last size is = absurd (omega arith)
last_depends-back given (front ∷ []) zero last size is = ap (λ (h : HeldReply). h.dependency) is
last_depends-back given (front ∷ []) (suc n) last size is = absurd (omega arith)
last_depends-back given (front ∷ next ∷ rest) zero last size is = absurd (omega arith)
last_depends-back given (front ∷ next ∷ rest) (suc n) last size is =
    last_depends-back front.dependency (next ∷ rest) n last (omega arith) is
