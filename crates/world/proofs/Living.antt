-- The lives of systems over one disk.
use Rattle.std.proofs.Common.{◌≡◌, ⊎_elim, ℕ, ◌≤◌, Bool, List, [], ◌∷◌, ◌++◌, length, take, drop, Option, Some, ap, sym, ◌∙◌, subst, arith}
use Rattle.std.proofs.lemmas.List.{length-take, take-append-drop}
use Rattle.std.proofs.Math.Seq.{take-append_seam}
use Rattle.std.specs.Option.{IfSome}
use Rattle.disk.specs.Device.{Device}
use Rattle.model_lives.specs.Lives.{AreLives, Life, LivesAreOne, NothingIsUndone, handed_on, spool_after}
use Rattle.model.specs.Laws.Layout.{ImagesStandForOne}
use Rattle.model.specs.News.{Stands, service}
use Rattle.model.specs.Spool.{Spool}
use Rattle.model.specs.Stream.{Octets}
use Rattle.model.specs.declared.change.Change.{Change}
use Rattle.model.specs.declared.message.Mark.{Mark}
use Rattle.synchrony.proofs.Fronts.{prefix_trans}
use Rattle.synchrony.specs.Synchrony.{IsExternallySynchronous}
use Rattle.kernel_trace.specs.Traced.{arrived_at, first_spool, released_at}
use Rattle.world.specs.Events.{Went}
use Rattle.world.specs.Images.{Fits}
use Rattle.world.specs.Lives.{AreOneLife, Lived, crashes, life_of, lives_on}
use Rattle.world.specs.Opening.{IsNew}
use Rattle.world.specs.Tied.{IsWorld}
use Rattle.world.specs.World.{WorldView, kernel_of}
use Rattle.world.specs.declared.events.Event.{Event}
use Rattle.world.proofs.Extending.{Extends, went_extends}

-- the lives, and what the last opening began with
record Follows {D : Type 0} (opened : WorldView D) (lives : List (Life Change Mark)) (now : WorldView D) : Type 0 where
  are : AreLives (service (kernel_of opened).host) (kernel_of opened).spool lives
  host : (kernel_of now).host ≡ (kernel_of opened).host
  last : spool_after (service (kernel_of opened).host) (kernel_of opened).spool lives ≡ first_spool now.served

module _ {D : Type 0} (device : D → Device) (write_grows sync_grows : Bool) (opened now : WorldView D) (events : List Event)
    (fresh : IsNew opened) (went : Went device write_grows sync_grows opened events now) where
  extends : Extends opened.served now.served
  extends = went_extends device write_grows sync_grows opened now events went

  first_is : now.served.first ≡ length (kernel_of opened).spool
  first_is = extends.first ∙ fresh.first

  begun : first_spool now.served ≡ (kernel_of opened).spool
  begun = ap (λ (n : ℕ). take n (kernel_of now).spool) first_is
      ∙ (ap (λ (S : Spool). take (length (kernel_of opened).spool) S) extends.spool
      ∙ take-append_seam (kernel_of opened).spool extends.added)

module _ {D : Type 0} (device : D → Device) (write_grows sync_grows : Bool) (one : ImagesStandForOne) (opened old next now : WorldView D)
    (events : List Event) (image : Octets) (lives : List (Life Change Mark)) (fresh : IsNew opened)
    (went : Went device write_grows sync_grows opened events old) (world : IsWorld device old) (fits : Fits old image)
    (stands : Stands (kernel_of next).host image (kernel_of next).spool) (later : Follows next lives now) where
  abbrev host : Octets
  host = (kernel_of opened).host

  abbrev S : Spool
  S = (kernel_of opened).spool

  before : Extends opened.served old.served
  before = extends device write_grows sync_grows opened old events fresh went

  same : ((kernel_of old).host ≡ (kernel_of next).host) × (fits.2.recovered ≡ (kernel_of next).spool)
  same = one (kernel_of old).host (kernel_of next).host image fits.2.recovered (kernel_of next).spool fits.2.stands stands

  least : (kernel_of old).durable ≤ fits.0
  least = ⊎_elim (λ (e : fits.0 ≡ (kernel_of old).durable). omega (arith, e))
      (λ (e : (kernel_of old).in_flight ≡ Some fits.0). (subst (λ (o : Option ℕ). IfSome o (λ last. ((kernel_of old).durable ≤ last)
      × (last ≤ length (kernel_of old).spool))) e world.kernel.flying).0) fits.1

  synchronous : IsExternallySynchronous (service host) S (arrived_at old.served) old.served.trace (released_at old.served) fits.0
      fits.2.recovered
  synchronous =
      let e : ◌≡◌ {A = Octets × Spool} ((kernel_of old).host, first_spool old.served) (host, S) =
      λ i. (before.host i, begun device write_grows sync_grows opened old events fresh went i) in
      subst (λ (t : Octets × Spool). IsExternallySynchronous (service t.0) t.1 (arrived_at old.served) old.served.trace
      (released_at old.served) fits.0 fits.2.recovered) e fits.2.synchronous

  handed : fits.2.recovered ≡ handed_on (service host) S (life_of old fits.0)
  handed = synchronous.stands

  next_is : ◌≡◌ {A = Octets × Spool} ((kernel_of next).host, (kernel_of next).spool) (host, handed_on (service host) S (life_of old fits.0))
  next_is = λ i. ((sym same.0 ∙ before.host) i, (sym same.1 ∙ handed) i)

  one_more : Follows opened (life_of old fits.0 ∷ lives) now
  one_more = record {
    are = (
      omega (arith, world.served.opening, least, first_is device write_grows sync_grows opened old events fresh went),
      subst (λ (r : Spool). IsExternallySynchronous (service host) S (arrived_at old.served) old.served.trace (released_at old.served)
          fits.0 r) handed synchronous,
      subst (λ (t : Octets × Spool). AreLives (service t.0) t.1 lives) next_is later.are,
    );
    host = later.host ∙ (sym same.0 ∙ before.host);
    last = subst (λ (t : Octets × Spool). spool_after (service t.0) t.1 lives ≡ first_spool now.served) next_is later.last;
  }

module _ {D : Type 0} (device : D → Device) (write_grows sync_grows : Bool) (one : ImagesStandForOne) where
  follows : (opened now : WorldView D) (lives : List (Life Change Mark)) → Lived device write_grows sync_grows opened lives now
      → Follows opened lives now
  follows opened now lives (lives_on first last events fresh went) = record {
    are = tt;
    host = (extends device write_grows sync_grows first last events fresh went).host;
    last = sym (begun device write_grows sync_grows first last events fresh went);
  }
  follows opened now lives (crashes first old next last events image others fresh went world fits stands new rest) =
      one_more device write_grows sync_grows one first old next last events image others fresh went world fits stands
      (follows next last others rest)

  pub lives_are_one_life : ((host : Octets) → LivesAreOne (service host)) → ((host : Octets) → NothingIsUndone (service host))
      → (opened now : WorldView D) (lives : List (Life Change Mark)) → Lived device write_grows sync_grows opened lives now
      → AreOneLife opened lives now
  lives_are_one_life are_one undone opened now lives lived =
      let f = follows opened now lives lived in
      let host : Octets = (kernel_of opened).host in
      let S : Spool = (kernel_of opened).spool in
      let all = are_one host S lives f.are in
      record {
        are = f.are;
        host = f.host;
        one = all.0 ∙ f.last;
        begins = all.1;
        kept = prefix_trans S (spool_after (service host) S lives) (kernel_of now).spool (undone host S lives f.are) (
          drop now.served.first (kernel_of now).spool,
          ap (λ (T : Spool). T ++ drop now.served.first (kernel_of now).spool) f.last
              ∙ take-append-drop now.served.first (kernel_of now).spool,
        );
      }
