use Rattle.std.proofs.Common.{◌≡◌, ◌∙◌, arith, refl, rules, subst, sym}
use Rattle.model.specs.SpoolFiles.{group_name}
use Rattle.model.specs.Stream.{Octets}
use Rattle.model.specs.declared.change.Change.TheVariants.{Group}
use Rattle.spool_reading.specs.StoredChanges.{IsFileOf}
use Rattle.spool_reading.proofs.Saying.{group_is, group_says, is_moment, no_group}
use Rattle.spool_reading.proofs.change_contents.group_said.Goals as goal

pub returns-in_default : goal.returns-in_default
returns-in_default c = λ d is. no_group c.args.group.now c.args.content.now c.in_default.ensures c.args.serial d is

pub returns-then-said-serial : goal.returns-then-said-serial
returns-then-said-serial c =
    let said = c.in-Some.said in
    λ d is.
    let its = group_says c.args.serial said.serial said.moment said.status c.args.group.now said.description.now c.args.content.now d
    (search rules) (search rules) c.in-Some.ensures is in
    c.if-said-serial.true (sym its.serial_is)

pub returns-in_default-of : goal.returns-in_default-of
returns-in_default-of c =
    let said = c.in-Some.said in
    λ d is.
    let its = group_says c.args.serial said.serial said.moment said.status c.args.group.now said.description.now c.args.content.now d
    (search rules) (search rules) c.in-Some.ensures is in
    c.in_default-of.ensures.none.0 refl its.created.status its.octet_is

pub returns-in_default-at : goal.returns-in_default-at
returns-in_default-at c =
    let said = c.in-Some.said in
    λ d is.
    let its = group_says c.args.serial said.serial said.moment said.status c.args.group.now said.description.now c.args.content.now d
    (search rules) (search rules) c.in-Some.ensures is in
    absurd (omega (arith, its.in_time, its.moment_is, c.in_default-at.ensures.none.0 refl))

pub returns : goal.returns
returns c =
    let said = c.in-Some.said in
    let serial = c.args.serial in
    let group = c.args.group.now in
    let name : c.new.result ≡ group = c.new.ensures ∙ c.in_ok-from_slice.ensures.items in
    let description : c.new-2.result ≡ said.description.now = c.new-2.ensures ∙ c.in_ok-from_slice-2.ensures.items in
    subst (λ (x : Octets × Octets). IsFileOf serial (Group (record {
      name = x.0;
      status = c.in-Some-of.status;
      description = x.1;
      moment = c.in-Some-at.moment;
    })) (group_name group) c.args.content.now) (λ i. (sym name i, sym description i))
    (group_is serial said.serial c.in-Some-at.moment said.moment said.status c.in-Some-of.status group said.description.now
    c.args.content.now (search rules) (search rules) c.if-said-serial.false c.in-Some-at.ensures.some
    (is_moment c.in-Some-at.moment said.moment c.in-Some-at.ensures.none) c.in-Some-of.ensures.some c.in-Some.ensures)
