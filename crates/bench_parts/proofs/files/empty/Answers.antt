use Rattle.std.proofs.Common.{◌*◌, ◌∙◌, sym, subst, refl, arith, rules}
use Rattle.fs.proofs.Zeros.{has_room, are_zeros}
use Rattle.bench_parts.specs.Files.{HasFiles}
use Rattle.bench_parts.proofs.files.empty.Goals as goal

pub make_empty-requires-clause-room : goal.make_empty-requires-clause-room
make_empty-requires-clause-room c =
    has_room 1024 c.args.count c.in_ok-octets.octets.items c.in_ok-volume.volume.seen (c.in_ok-volume.ensures.seen
    ∙ c.in_ok-volume.ensures.cache)
    (omega arith) (omega arith) refl (omega (arith, c.requires.some)) (omega (arith, c.requires.few))
    (omega (arith, c.in_ok-octets.ensures.len, c.in_ok-octets.octets.ok.0))

pub make_empty-requires-clause-zeros : goal.make_empty-requires-clause-zeros
make_empty-requires-clause-zeros c =
    are_zeros c.args.count (c.args.count * 4096) c.in_ok-octets.octets.items c.in_ok-volume.volume.seen (c.in_ok-volume.ensures.seen
    ∙ c.in_ok-volume.ensures.cache) (search rules)

pub returns : goal.returns
returns c =
    let made = c.in_ok-make_empty.ensures.made in
    subst HasFiles (sym c.apply.ensures.seen) (record { room = made.room; rule = made.rule })
