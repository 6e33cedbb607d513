use Rattle.std.proofs.Common.{ap, sym}
use Rattle.std.specs.Prelude.{length}
use Rattle.model.specs.Spool.{Contents}
use Rattle.session_lookups.proofs.Absent.{absent_contents, absent_last}
use Rattle.session_lookups.proofs.Groups.{is_of, none_of}
use Rattle.session_lookups.proofs.command_look_ups.counts_of.Goals as goal

pub returns-in-Some-clause-low : goal.returns-in-Some-clause-low
returns-in-Some-clause-low g c = (is_of _ c.args.group.now c.in-Some.view c.in-Some.ensures).low

pub returns-in-Some-clause-high : goal.returns-in-Some-clause-high
returns-in-Some-clause-high g c = (is_of _ c.args.group.now c.in-Some.view c.in-Some.ensures).high

pub returns-in-Some-clause-last : goal.returns-in-Some-clause-last
returns-in-Some-clause-last g c = (is_of _ c.args.group.now c.in-Some.view c.in-Some.ensures).last

pub returns-in-None-clause-low : goal.returns-in-None-clause-low
returns-in-None-clause-low g c =
    let lawful = g.met.L.LookUps.lawful c.args.spool.now in
    sym (ap (λ (h : Contents). h.low) (absent_contents _ _ c.args.group.now lawful (none_of _ c.args.group.now c.in-None.ensures)))

pub returns-in-None-clause-high : goal.returns-in-None-clause-high
returns-in-None-clause-high g c =
    let lawful = g.met.L.LookUps.lawful c.args.spool.now in
    sym (ap (λ (h : Contents). length h.filed) (absent_contents _ _ c.args.group.now lawful (none_of _ c.args.group.now c.in-None.ensures)))

pub returns-in-None-clause-last : goal.returns-in-None-clause-last
returns-in-None-clause-last g c =
    let lawful = g.met.L.LookUps.lawful c.args.spool.now in
    sym (absent_last _ _ c.args.group.now lawful (none_of _ c.args.group.now c.in-None.ensures))
