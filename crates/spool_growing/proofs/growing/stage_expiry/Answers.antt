use Rattle.std.proofs.Common.{ℕ, ◌+◌, ◌∙◌, sym, subst, ap, arith, refl}
use Rattle.model.specs.Files.{table}
use Rattle.model.specs.Records.{expiry_record}
use Rattle.model.specs.Spool.{news_expiry}
use Rattle.model.specs.SpoolFiles.{expiry_name}
use Rattle.model.specs.declared.change.Expiry.{Expiry}
use Rattle.model.proofs.Asking.{here_short}
use Rattle.fs.specs.Calls.{IsThere}
use Rattle.spool_index.specs.Viewed.{place_of}
use Rattle.spool_growing.proofs.Grown.{lacks_expiry}
use Rattle.spool_growing.proofs.Ready.{few_changes, free_seen, held_seen, known_seen, short_record}
use Rattle.spool_growing.proofs.Stored.{expiry_staged}
use Rattle.spool_growing.proofs.growing.stage_expiry.Goals as goal

pub overflow_add-serial : goal.overflow_add-serial
overflow_add-serial c = omega (arith, c.len-serial.ensures c.requires.changes c.requires.kept.indexed, few_changes c.requires)

pub expiry_record-requires : goal.expiry_record-requires
expiry_record-requires c =
    omega (
      arith,
      here_short c.requires.host c.requires.changes c.args.name.now c.requires.kept.is.held.lawful c.requires.may.here,
    )

pub put_expiry-requires-clause-room : goal.put_expiry-requires-clause-room
put_expiry-requires-clause-room c = (held_seen c.requires).room

pub put_expiry-requires-clause-rule : goal.put_expiry-requires-clause-rule
put_expiry-requires-clause-rule c = (held_seen c.requires).held.held.rule

pub put_expiry-requires-clause-short : goal.put_expiry-requires-clause-short
put_expiry-requires-clause-short c =
    let expiry : Expiry = record { group = c.args.name.now; number = c.args.number } in
    short_record c.requires c.deref.result.now (c.deref.ensures.value ∙ c.in_ok-record.ensures
    ∙ ap (λ (n : ℕ). expiry_record (news_expiry (n + 1) expiry)) (c.len-serial.ensures c.requires.changes c.requires.kept.indexed))

pub put_expiry-requires-clause-lacks : goal.put_expiry-requires-clause-lacks
put_expiry-requires-clause-lacks c =
    let k = c.args.kept.now in
    subst (λ (n : ℕ). ¬ (IsThere (table k.inodes k.volume.seen) (expiry_name (n + 1))))
    (sym (c.len-serial.ensures c.requires.changes c.requires.kept.indexed))
    (lacks_expiry c.requires.host k.inodes k.volume.seen c.requires.changes (held_seen c.requires))

pub put_expiry-requires-clause-free : goal.put_expiry-requires-clause-free
put_expiry-requires-clause-free c = free_seen c.requires

pub put_expiry-requires-clause-known : goal.put_expiry-requires-clause-known
put_expiry-requires-clause-known c = known_seen c.requires

pub returns-clause-staged : goal.returns-clause-staged
returns-clause-staged c =
    let its = c.in_ok-at.ensures in
    expiry_staged c.args.kept.now _ c.put_expiry.new.free (record { group = c.args.name.now; number = c.args.number })
    (place_of c.in_ok-at.at) (c.len-serial.result + 1) c.deref.result.now
    (record { inodes = refl; volume = its.kept; count = its.puts.made.count; touches = its.touches; known = its.known })
    its.puts c.in_ok-push_change.ensures.ok (λ S may indexed. c.in-Ok.ensures.ok c.requires.host S may indexed)
    (λ S indexed. ap (λ (n : ℕ). n + 1) (c.len-serial.ensures S indexed)) (c.deref.ensures.value ∙ c.in_ok-record.ensures)
