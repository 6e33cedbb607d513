use Rattle.std.proofs.Common.{◌≡◌, ◌*◌, Bool, IsTrue, List, get_or, length, sym, ◌∙◌, ap, subst, arith, ℕ}
use Rattle.disk.specs.Image.{overwritten}
use Rattle.model.specs.Stream.{Octets}
use Rattle.model.specs.Volume.{home_place}
use Rattle.volume_new.specs.Formatting.{IsLaid}
use Rattle.copy_writing.proofs.Laid.{put_all, put_more, put_over}
use Rattle.copy_writing.proofs.put.Goals as goal

pub loop-place-preserved : goal.loop-place-preserved
loop-place-preserved g c =
    let old = g.D.Disk.device c.loop-place.disk in
    let new = g.D.Disk.device c.write.new.disk in
    let numbers = c.args.numbers.now in
    let images = c.args.images.now in
    let at = c.loop-place.place in
    record {
      size = c.write.ensures.size ∙ c.loop-place.invariant.size;
      tells = c.write.ensures.tells ∙ c.loop-place.invariant.tells;
      laid = λ t homes laid.
          let here = subst (λ (b : Bool). IsTrue b) (sym c.loop-place.invariant.tells) t in
          put_more c.args.blocks numbers images homes at old.content new.content (omega arith) c.requires.whole c.requires.there
          (c.in_ok-write.ensures.content here
          ∙ ap (λ (n : ℕ). overwritten n c.block_of.result.now old.content)
          (omega (arith, c.start_of-at.ensures, c.home_block.ensures, c.from.ensures))
          ∙ ap (λ (o : Octets). overwritten (4096 * home_place 8 (get_or numbers at 0)) o old.content) c.block_of.ensures.octets)
          (c.loop-place.invariant.laid t homes laid);
    }

pub returns-clause-put : goal.returns-clause-put
returns-clause-put g c t homes laid =
    let last = g.D.Disk.device c.loop-place.disk in
    let numbers = c.args.numbers.now in
    let images = c.args.images.now in
    let all : c.loop-place.place ≡ length numbers = omega arith in
    subst (λ (hs : List Octets). IsLaid c.args.blocks hs last.content)
    (ap (λ (n : ℕ). put_over homes numbers images n) all ∙ put_all homes numbers images)
    (c.loop-place.invariant.laid t homes laid)
