-- An input stands for its session's stream.
use Rattle.std.proofs.Common.{◌≡◌, ℕ, ◌≤◌, ◌-◌, Bool, true, false, List, ◌++◌, length, take, drop, Option, Some, None, refl, ap, sym, ◌∙◌}
use Rattle.std.proofs.Common.{subst, arith, length-take}
use Rattle.std.specs.Prelude.{IfSome, OnOk, Result, Ok, Err, is_some, nat_le, option_map, if◌then◌else◌}
use Rattle.std.proofs.lemmas.Bool.Decides.{nat_tests}
use Rattle.text_framing.specs.Held.{HeldInput}
use Rattle.text_framing.proofs.StandsLaws.{stands_when_fed, stands_when_found, stands_when_none}
use Rattle.kernel.specs.Kernel.{FitsMode}
use Rattle.model.specs.Stream.{ReadsAlike, limited, message_length, message_of, next, unstuffed}
use Rattle.model.specs.declared.message.Message.{Message}
use Rattle.model.specs.declared.message.Message.TheVariants.{Line, Block, TooLong}
use Rattle.model.specs.declared.message.Mode.{Mode}
use Rattle.model.specs.declared.message.Mode.TheVariants as mode
use Rattle.model.proofs.StreamLaws.{next-append}
use Rattle.model.proofs.LawfulLaws.{none_by_test}
use Rattle.kernel_trace.specs.declared.input.Input.{Input}
use Rattle.kernel_trace.specs.Input.{Found, HoldsMessage, MayAsk, Waits}

abbrev input_with : HeldInput → Option Message → Input
input_with reader message = record { reader = reader; message = message }

-- further octets are fed
pub Waits-fed : (old new : HeldInput) (message : Option Message) (piece : List ℕ) → new.rest ≡ old.rest ++ piece → new.awaits ≡ old.awaits
    → (m : Mode) (stream : List ℕ) → Waits (input_with old message) m stream → Waits (input_with new message) m (stream ++ piece)
Waits-fed old new None piece rest awaits m stream h =
    (stands_when_fed old new piece stream rest awaits h.0, subst (λ o. IfSome o (λ awaited. awaited ≡ m)) (sym awaits) h.1)
Waits-fed old new (Some message) piece rest awaits m stream h =
    (h.0 ++ piece, next-append m stream piece h.0 message h.1, stands_when_fed old new piece h.0 rest awaits h.2, awaits ∙ h.3)

-- a message is found, or is not
pub Found-held : (held : HeldInput) (message : Option Message) (m : Mode) (stream : List ℕ) (found : Message) → message ≡ Some found
    → Waits (input_with held message) m stream → Found true (input_with held message) m stream
Found-held held None m stream found is h = absurd (cc is)
Found-held held (Some message) m stream found is h = (message, refl, h)

pub Found-new : (old new : HeldInput) (m : Mode) (stream : List ℕ) (found : Message) → IfSome old.awaits (λ awaited. awaited ≡ m)
    → next m old.rest ≡ Some (found, new.rest) → new.awaits ≡ None → Waits (input_with old None) m stream
    → Found true (input_with new (Some found)) m stream
Found-new old new m stream found may is awaits h =
    let s = stands_when_found old new m stream found may is awaits h.0 in
    (found, refl, (new.rest, s.0, s.1, awaits))

pub Found-none : (old new : HeldInput) (m : Mode) (stream : List ℕ) → IfSome old.awaits (λ awaited. awaited ≡ m) → next m old.rest ≡ None
    → ReadsAlike m old.rest new.rest → new.awaits ≡ Some m → Waits (input_with old None) m stream
    → Found false (input_with new None) m stream
Found-none old new m stream may is alike awaits h =
    let s = stands_when_none old new m stream may is alike awaits h.0 in
    (s.0, (s.1, subst (λ o. IfSome o (λ awaited. awaited ≡ m)) (sym awaits) refl))

-- the reader of an input that stands for a stream may be asked
pub Waits-may : (held : HeldInput) (message : Option Message) (m : Mode) (stream : List ℕ) → Waits (input_with held message) m stream
    → MayAsk (input_with held message) m
Waits-may held None m stream h = h.1
Waits-may held (Some message) m stream h = tt

-- once the message is served, the reader stands for what follows it
pub Waits-served : (held : HeldInput) (message : Message) (m other : Mode) (stream : List ℕ)
    (h : HoldsMessage (input_with held (Some message)) m stream message) → Waits (input_with held None) other h.0
Waits-served held message m other stream h = (h.2, subst (λ o. IfSome o (λ awaited. awaited ≡ other)) (sym h.3) tt)

pub some_some : {A : Type 0} (o : Option A) → is_some o ≡ true → (a : A) × (o ≡ Some a)
some_some None is = absurd (cc is)
some_some (Some a) is = (a, refl)

-- the same, of an input with whatever message
pub found_held : (input : Input) (m : Mode) → is_some input.message ≡ true → (stream : List ℕ) → Waits input m stream
    → Found true input m stream
found_held input m is stream h = let found = some_some input.message is in Found-held input.reader input.message m stream found.0 found.1 h

pub found_new : (input : Input) (new : HeldInput) (m : Mode) (found : Message) → is_some input.message ≡ false → MayAsk input m
    → next m input.reader.rest ≡ Some (found, new.rest) → new.awaits ≡ None → (stream : List ℕ) → Waits input m stream
    → Found true (input_with new (Some found)) m stream
found_new input new m found is may e awaits stream h =
    let none : input.message ≡ None = none_by_test input.message is in
    Found-new input.reader new m stream found (subst (λ o. MayAsk (input_with input.reader o) m) none may) e awaits
    (subst (λ o. Waits (input_with input.reader o) m stream) none h)

pub found_none : (input : Input) (new : HeldInput) (m : Mode) → is_some input.message ≡ false → MayAsk input m
    → next m input.reader.rest ≡ None
    → ReadsAlike m input.reader.rest new.rest → new.awaits ≡ Some m → (stream : List ℕ) → Waits input m stream
    → Found false (input_with new input.message) m stream
found_none input new m is may e alike awaits stream h =
    let none : input.message ≡ None = none_by_test input.message is in
    subst (λ o. Found false (input_with new o) m stream) (sym none)
    (Found-none input.reader new m stream (subst (λ o. MayAsk (input_with input.reader o) m) none may) e alike awaits
    (subst (λ o. Waits (input_with input.reader o) m stream) none h))

-- two facts of an `Ok` give a third
pub on_ok_both : {T E : Type 0} (r : Result T E) {A B C : Type 0} → OnOk r A → OnOk r B → (A → B → C) → OnOk r C
on_ok_both (Ok x) a b f = f a b
on_ok_both (Err e) a b f = tt

-- in both cases the input still stands for the stream
pub Found-waits : (b : Bool) (input : Input) (m : Mode) (stream : List ℕ) → Found b input m stream → Waits input m stream
Found-waits true input m stream h = subst (λ o. Waits (input_with input.reader o) m stream) (sym h.1) h.2
Found-waits false input m stream h = h.1

-- ---- the message is one of its mode

limited_line : (text : List ℕ) (size : ℕ) → length text ≤ size - 2 → FitsMode (Some mode.Line) (limited Line 512 size text)
limited_line text size le = go (nat_le size 512) refl
  where
    go : (b : Bool) → nat_le size 512 ≡ b → FitsMode (Some mode.Line) (if b then Line text else TooLong)
    go true is = grind (arith, nat_tests)
    go false is = tt

limited_block : (text : List ℕ) → FitsMode (Some mode.Block) (limited Block 262144 (length text) text)
limited_block text = go (nat_le (length text) 262144) refl
  where
    go : (b : Bool) → nat_le (length text) 262144 ≡ b → FitsMode (Some mode.Block) (if b then Block text else TooLong)
    go true is = grind (arith, nat_tests)
    go false is = tt

message_fits : (m : Mode) (front : List ℕ) → FitsMode (Some m) (message_of m front)
message_fits mode.Line front = limited_line (take (length front - 2) front) (length front)
    (omega (arith, length-take (length front - 2) front))
message_fits mode.Block front = limited_block (unstuffed (take (length front - 3) front))

pub next_fits : (m : Mode) (stream rest : List ℕ) (message : Message) → next m stream ≡ Some (message, rest) → FitsMode (Some m) message
next_fits m stream rest message is = go (message_length m stream) is
  where
    at : ℕ → Message × List ℕ
    at n = (message_of m (take n stream), drop n stream)

    pick : Option (Message × List ℕ) → Message
    pick None = message
    pick (Some found) = found.0

    first : (n : ℕ) → Some (at n) ≡ Some (message, rest) → message_of m (take n stream) ≡ message
    first n e = ap pick e

    go : (o : Option ℕ) → option_map at o ≡ Some (message, rest) → FitsMode (Some m) message
    go None e = absurd (cc e)
    go (Some n) e =
        subst (FitsMode (Some m)) (first n e) (message_fits m (take n stream))
