use Rattle.world.proofs.Living.{lives_are_one_life}
use Rattle.world.proofs.lives_are_one.Goals as goal
use Rattle.model.specs.News.{service}

pub returns : goal.returns
returns g c = record {
  one = λ opened now lives lived. lives_are_one_life g.D.Disk.device g.D.Disk.write_grows g.D.Disk.sync_grows
      c.images_stand_for_one_spool.ensures.one (λ host. c.many_lives_are_one.ensures.one (service host))
      (λ host. c.many_lives_are_one.ensures.undone (service host)) opened now lives lived;
}
