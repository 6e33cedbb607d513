use Rattle.std.proofs.Common.{ℕ, ◌∷◌, [], ◌∙◌, List, Option, Ok, Err, subst}
use Rattle.disk.specs.Calls.{Call, Makes}
use Rattle.disk_cache.specs.Runs.{runs_from, writes_of}
use Rattle.disk_cache.specs.Slots.{places}
use Rattle.disk_cache.specs.Taken.{taken}
use Rattle.disk_cache.proofs.Blocks.{makes_append, makes_cut, makes_one}
use Rattle.disk_cache.proofs.Places.{places_same}
use Rattle.disk_cache.proofs.giving.give_and_sync.Goals as goal

pub give-requires-clause-fits : goal.give-requires-clause-fits
give-requires-clause-fits g c k past = c.arrange.ensures.same k ∙ c.requires k past

pub returns-in-Ok-clause-makes : goal.returns-in-Ok-clause-makes
returns-in-Ok-clause-makes g c n none =
    makes_append g.D.Disk.device g.D.Disk.write_grows g.D.Disk.sync_grows
    (writes_of (runs_from 0 (places (taken c.args.collected.now) n))) (Call.Sync ∷ []) c.sync.result _ _ _
    (subst (λ (cs : List (Option ℕ)). Makes g.D.Disk.device g.D.Disk.write_grows g.D.Disk.sync_grows (writes_of (runs_from 0 cs)) (Ok tt)
    c.args.disk.now c.give.new.disk)
    (places_same (taken c.args.collected.now) (taken c.arrange.new.self) n c.arrange.ensures.same)
    (c.in-Ok.ensures n (λ k past. c.arrange.ensures.same k ∙ none k past)))
    (makes_one g.D.Disk.device g.D.Disk.write_grows g.D.Disk.sync_grows Call.Sync c.sync.result _ _
    c.sync.ensures)

pub returns-in-Err-clause-makes : goal.returns-in-Err-clause-makes
returns-in-Err-clause-makes g c n none =
    makes_cut g.D.Disk.device g.D.Disk.write_grows g.D.Disk.sync_grows (writes_of (runs_from 0 (places (taken c.args.collected.now) n)))
    (Call.Sync ∷ []) c.in-Err.error _ _
    (subst (λ (cs : List (Option ℕ)). Makes g.D.Disk.device g.D.Disk.write_grows g.D.Disk.sync_grows (writes_of (runs_from 0 cs))
    (Err c.in-Err.error) c.args.disk.now
    c.give.new.disk)
    (places_same (taken c.args.collected.now) (taken c.arrange.new.self) n c.arrange.ensures.same)
    (c.in-Err.ensures n (λ k past. c.arrange.ensures.same k ∙ none k past)))
