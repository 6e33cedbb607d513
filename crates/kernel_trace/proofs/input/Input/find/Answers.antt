use Rattle.std.proofs.Common.{◌≡◌, Some, None, false, rules}
use Rattle.std.specs.Prelude.{is_some}
use Rattle.model.specs.Stream.{next}
use Rattle.kernel_trace.proofs.Inputs.{found_new, found_none}
use Rattle.kernel_trace.proofs.input.Input.find.Goals as goal

pub returns-in-Some-clause-found : goal.returns-in-Some-clause-found
returns-in-Some-clause-found c stream h =
    let none : is_some c.args.self.now.message ≡ false = search rules in
    let is : next c.args.mode c.args.self.now.reader.rest ≡ Some (c.in-Some.message, c.next.new.self.rest) =
    rw c.in-Some.is at c.in_ok-message.ensures.message in
    let done : c.next.new.self.awaits ≡ None = rw c.in-Some.is at c.in_ok-message.ensures.done in
    found_new c.args.self.now c.next.new.self c.args.mode c.in-Some.message none c.requires is done stream h

pub returns-in-None-clause-found : goal.returns-in-None-clause-found
returns-in-None-clause-found c stream h =
    let none : is_some c.args.self.now.message ≡ false = search rules in
    found_none c.args.self.now c.next.new.self c.args.mode none c.requires (rw c.in-None.is at c.in_ok-message.ensures.none)
    (rw c.in-None.is at c.in_ok-message.ensures.alike) (rw c.in-None.is at c.in_ok-message.ensures.awaits) stream h
