use Rattle.std.proofs.Common.{List, [], ℕ, ◌+◌, ◌*◌, ◌/◌, ◌%◌, get_or, set, refl, sym, subst}
use Rattle.disk.specs.Image.{overwritten}
use Rattle.fs_layout.specs.Blocks.{PutsRecord}
use Rattle.fs_layout.proofs.Puts.{puts_record, on_put}
use Rattle.fs_layout.proofs.records.put_record.Goals as goal

pub returns-clause-done : goal.returns-clause-done
returns-clause-done g c =
    let old = g.B.Blocks.blocks c.args.blocks.now in
    let new = g.B.Blocks.blocks c.put_at.new.self in
    let first = c.args.first in
    let at = c.args.at in
    let octets = c.args.octets.now in
    let block : List ℕ = get_or old (first + at / 64) [] in
    on_put c.put_at.result (PutsRecord first at octets old new) new old
    (set old (first + at / 64) (overwritten (at % 64 * 64) octets block)) c.put_at.ensures.put
    (λ is. subst (λ (bs : List (List ℕ)). PutsRecord first at octets old bs) (sym is)
    (puts_record first at octets block old c.requires.there refl c.put_at.ensures.whole c.requires.whole))
