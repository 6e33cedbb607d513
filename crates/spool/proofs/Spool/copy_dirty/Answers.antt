use Rattle.std.proofs.Common.{[], ◌∙◌, ap, subst, sym}
use Rattle.spool_growing.specs.Calls.{IsKnown}
use Rattle.journal_volume.specs.Volume.{VolumeView}
use Rattle.spool.specs.View.{SpoolView}
use Rattle.spool.proofs.Held.{cleaned, kept_stands, kept_view, the_changes}
use Rattle.spool.proofs.Spool.copy_dirty.Goals as goal

pub invariant_of-self : goal.invariant_of-self
invariant_of-self c =
    let s = c.self.inside in
    let k = s.kept in
    let kept = cleaned s.host k.inodes k.volume c.copy_dirty.new.self k.index k.places s.stands.changes c.copy_dirty.ensures.clean
    c.self.invariant.0 in
    let stands = kept_stands s.host k.inodes c.copy_dirty.new.self k.index k.places s.stands.changes c.self-1.given.0 kept in
    (stands, subst (λ (x : VolumeView). IsKnown k.inodes k.free x.cache) (sym c.copy_dirty.ensures.clean) c.self.invariant.1)

pub returns-clause-clean : goal.returns-clause-clean
returns-clause-clean c =
    let s = c.self.inside in
    let k = s.kept in
    let clean : VolumeView = record k.volume { dirty = [] } in
    let kept = cleaned s.host k.inodes k.volume c.copy_dirty.new.self k.index k.places s.stands.changes c.copy_dirty.ensures.clean
    c.self.invariant.0 in
    let same = the_changes s.host k.inodes c.copy_dirty.new.self.cache s.stands.changes kept.is c.self-1.given.0 in
    kept_view s.host (record k { volume = clean }) (record k { volume = c.copy_dirty.new.self }) s.stands c.self-1.given.0
    (ap (λ (v : VolumeView). record k { volume = v }) c.copy_dirty.ensures.clean) same
    ∙ ap (λ (x : SpoolView). record x { dirty = [] }) c.self.view_is
