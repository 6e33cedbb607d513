use Rattle.std.proofs.Common.{◌≡◌, ap, ◌∙◌, sym, refl, subst, true, false, rules, [], length, Some}
use Rattle.std.specs.Prelude.{map, slice_index_or, Ok}
use Rattle.journal.specs.Journal.{IsReady, JournalView}
use Rattle.kernel.specs.Kernel.{Takes, has_batch, taken}
use Rattle.model.specs.Volume.{blocks_from}
use Rattle.kernel_trace.specs.Events.{with_kernel}
use Rattle.kernel_trace.specs.Traced.{TracedView}
use Rattle.world.specs.Events.{DidTake, begun}
use Rattle.world.specs.Fields.{IsSound, news_in}
use Rattle.world.specs.World.{WorldView, kernel_of}
use Rattle.world.specs.declared.events.StepAnswer.TheVariants as answer
use Rattle.world.proofs.Sound.{is_begun, lays_dirty, news_begin, none_flies, sound_same, sound_take}
use Rattle.world.proofs.World.take.Goals as goal

pub invariant_of-self : goal.invariant_of-self
invariant_of-self g c =
    let old : WorldView g.row.D.Denot =
    record {
      journal = c.self.inside.journal;
      served = c.self.inside.served;
      untold = news_in c.self.inside.ticket c.self.inside.is_committed c.self.inside.has_failed;
    } in
    sound_same (g.D.Disk.device c.self.inside.journal.disk).tells old c.take_batch.new.self c.self.inside.ticket
    (c.take_batch.ensures.nothing (search rules)).0 c.self.invariant

pub invariant_of-self-2 : goal.invariant_of-self-2
invariant_of-self-2 g c =
    let old : WorldView g.row.D.Denot =
    record {
      journal = c.self.inside.journal;
      served = c.self.inside.served;
      untold = news_in c.self.inside.ticket c.self.inside.is_committed c.self.inside.has_failed;
    } in
    let takes : Takes c.self.inside.served.kernel c.take_batch.new.self.kernel c.take_batch.new.into.numbers
    (blocks_from 0 (length c.take_batch.new.into.numbers) c.take_batch.new.into.images) c.in-Some.ticket.last =
    c.in-Some.ensures.takes in
    let ready : IsReady c.self.inside.journal = c.is_idle.ensures.idle.0 (search rules) in
    let has : has_batch c.self.inside.served.kernel ≡ true = c.in-Some.ensures.when.0 refl in
    let journal : c.begin.new.self ≡ begun c.self.inside.journal c.self.inside.served.kernel =
    c.begin.ensures.begins ∙ is_begun c.self.inside.journal c.self.inside.served.kernel c.last.result c.numbers.result.now
    (blocks_from 0 (length c.numbers.result.now) c.images.result.now) (c.last.ensures ∙ takes.last_is)
    (c.numbers.ensures ∙ takes.numbers_are)
    ((λ i. blocks_from 0 (length (c.numbers.ensures i)) (c.images.ensures i))
    ∙ (takes.images_are ∙ ap (map (λ n. slice_index_or c.self.inside.served.kernel.blocks n [])) (sym c.numbers.ensures))) in
    let served : c.take_batch.new.self ≡ with_kernel c.self.inside.served (taken c.self.inside.served.kernel) = c.in-Some.ensures.same refl
    ∙ ap (with_kernel c.self.inside.served) takes.kernel in
    let untold : news_in (Some c.in-Some.ticket) false c.self.inside.has_failed
    ≡ news_in c.self.inside.ticket c.self.inside.is_committed c.self.inside.has_failed =
    news_begin c.self.inside.ticket c.in-Some.ticket c.self.inside.is_committed c.self.inside.has_failed
    (none_flies c.self.inside.served.kernel c.self.inside.ticket c.self.invariant.flies has) in
    let begins = sound_take (g.D.Disk.device c.self.inside.journal.disk).tells old c.self.inside.ticket c.in-Some.ticket
    (news_in (Some c.in-Some.ticket) false c.self.inside.has_failed) c.kept.ensures.kernel ready has takes.last_is
    (lays_dirty (kernel_of old) c.take_batch.new.self.kernel _ _ c.in-Some.ticket.last takes) untold c.self.invariant in
    subst (λ (t : JournalView g.row.D.Denot × TracedView). IsSound (g.D.Disk.device t.0.disk).tells
    (record { journal = t.0; served = t.1; untold = news_in (Some c.in-Some.ticket) false c.self.inside.has_failed })
    (Some c.in-Some.ticket)) (λ i. (sym journal i, sym served i)) begins

pub returns : goal.returns
returns g c =
    let old : WorldView g.row.D.Denot =
    record {
      journal = c.self.inside.journal;
      served = c.self.inside.served;
      untold = news_in c.self.inside.ticket c.self.inside.is_committed c.self.inside.has_failed;
    } in
    let takes : Takes c.self.inside.served.kernel c.take_batch.new.self.kernel c.take_batch.new.into.numbers
    (blocks_from 0 (length c.take_batch.new.into.numbers) c.take_batch.new.into.images) c.in-Some.ticket.last =
    c.in-Some.ensures.takes in
    let ready : IsReady c.self.inside.journal = c.is_idle.ensures.idle.0 (search rules) in
    let has : has_batch c.self.inside.served.kernel ≡ true = c.in-Some.ensures.when.0 refl in
    let journal : c.begin.new.self ≡ begun c.self.inside.journal c.self.inside.served.kernel =
    c.begin.ensures.begins ∙ is_begun c.self.inside.journal c.self.inside.served.kernel c.last.result c.numbers.result.now
    (blocks_from 0 (length c.numbers.result.now) c.images.result.now) (c.last.ensures ∙ takes.last_is)
    (c.numbers.ensures ∙ takes.numbers_are)
    ((λ i. blocks_from 0 (length (c.numbers.ensures i)) (c.images.ensures i))
    ∙ (takes.images_are ∙ ap (map (λ n. slice_index_or c.self.inside.served.kernel.blocks n [])) (sym c.numbers.ensures))) in
    let served : c.take_batch.new.self ≡ with_kernel c.self.inside.served (taken c.self.inside.served.kernel) = c.in-Some.ensures.same refl
    ∙ ap (with_kernel c.self.inside.served) takes.kernel in
    let untold : news_in (Some c.in-Some.ticket) false c.self.inside.has_failed
    ≡ news_in c.self.inside.ticket c.self.inside.is_committed c.self.inside.has_failed =
    news_begin c.self.inside.ticket c.in-Some.ticket c.self.inside.is_committed c.self.inside.has_failed
    (none_flies c.self.inside.served.kernel c.self.inside.ticket c.self.invariant.flies has) in
    subst (λ (w : WorldView g.row.D.Denot). DidTake w (Ok (answer.Took (Some c.last-2.result)))
    (record {
      journal = c.begin.new.self;
      served = c.take_batch.new.self;
      untold = news_in (Some c.in-Some.ticket) false c.self.inside.has_failed;
    })) c.self.view_is
    (record {
      takes = λ _ _. (
        ap (λ n. Ok (answer.Took (Some n))) (c.last-2.ensures ∙ takes.last_is),
        λ i. record { journal = journal i; served = served i; untold = untold i },
      );
      stays = λ never. absurd (never ready has);
    })
