use Rattle.std.proofs.Common.{[], ◌∷◌, ◌++◌, ◌∙◌, sym, subst}
use Rattle.model.specs.Lawful.{MayFollow}
use Rattle.spool_growing.specs.declared.kept.Kept.{Kept}
use Rattle.spool_growing.specs.Calls.{IsKnown}
use Rattle.spool_growing.specs.Growing.{change_of}
use Rattle.spool_growing.specs.Kept.{IsKept}
use Rattle.spool.specs.View.{SpoolView}
use Rattle.spool.proofs.Held.{added, if_err, kept_stands, kept_view, still_stands, the_changes}
use Rattle.spool.proofs.Spool.push.Goals as goal

pub invariant_of-self-inside : goal.invariant_of-self-inside
invariant_of-self-inside c =
    let s = c.self.inside in
    let its = change_of c.args.new in
    let may = subst (λ (x : SpoolView). MayFollow x.host x.changes its) (sym c.self.view_is) c.requires.may in (
      still_stands c.grow.result s.host s.kept c.grow.new.kept s.stands.changes its c.self.invariant.0 may c.grow.ensures.grown
          c.grow.ensures.same,
      tt,
    )

pub invariant_of-self : goal.invariant_of-self
invariant_of-self c =
    let s = c.self.inside in
    let n = c.grow.new.kept in
    let same = sym c.in_err-grow.ensures.same in
    let kept = subst (λ (k : Kept). IsKept s.host k.inodes k.volume k.index k.places s.stands.changes) same c.self.invariant.0 in (
      kept_stands s.host n.inodes n.volume n.index n.places s.stands.changes c.self-1.given.0 kept,
      subst (λ (k : Kept). IsKnown k.inodes k.free k.volume.cache) same c.self.invariant.1,
    )

pub returns-in_err-grow-clause-err : goal.returns-in_err-grow-clause-err
returns-in_err-grow-clause-err c =
    let s = c.self.inside in
    let n = c.grow.new.kept in
    let same = c.in_err-grow.ensures.same in
    let kept = subst (λ (k : Kept). IsKept s.host k.inodes k.volume k.index k.places s.stands.changes) (sym same) c.self.invariant.0 in
    let now = c.self-1.given.0 in
    if_err c.from_residual.result (kept_view s.host s.kept n s.stands now same
    (the_changes s.host n.inodes n.volume.cache s.stands.changes kept.is now) ∙ c.self.view_is)

pub invariant_of-self-2 : goal.invariant_of-self-2
invariant_of-self-2 c =
    let s = c.self.inside in
    let n = c.grow.new.kept in
    let its = change_of c.args.new in
    let may = subst (λ (x : SpoolView). MayFollow x.host x.changes its) (sym c.self.view_is) c.requires.may in
    let kept = c.in_ok-grow.ensures.grown.kept s.host s.stands.changes c.self.invariant.0 may in (
      kept_stands s.host n.inodes n.volume n.index n.places (s.stands.changes ++ its ∷ []) c.self-1.given.0 kept,
      c.in_ok-grow.ensures.grown.known,
    )

pub returns-clause-ok : goal.returns-clause-ok
returns-clause-ok c =
    let s = c.self.inside in
    let n = c.grow.new.kept in
    let its = change_of c.args.new in
    let grown = c.in_ok-grow.ensures.grown in
    let may = subst (λ (x : SpoolView). MayFollow x.host x.changes its) (sym c.self.view_is) c.requires.may in
    let kept = grown.kept s.host s.stands.changes c.self.invariant.0 may in
    added s.host s.kept n s.stands c.self-1.given.0 its c.args.self.now c.self.view_is
    (the_changes s.host n.inodes n.volume.cache (s.stands.changes ++ its ∷ []) kept.is c.self-1.given.0) grown
