use Rattle.std.proofs.Common.{◌<◌, ◌≡◌, ◌∙◌, ap, arith, length, map, sym}
use Rattle.std.specs.Prelude.{Some, option_map}
use Rattle.std.proofs.lemmas.List.{length-map}
use Rattle.std.proofs.lemmas.Option.{slice_get-map}
use Rattle.model.specs.Indexed.{GroupIndex}
use Rattle.session_lookups.specs.Held as held
use Rattle.spool_groups.specs.Shown.{shown}
use Rattle.spool_groups.proofs.Lists.{got}
use Rattle.spool_index.proofs.Known.{known_at}
use Rattle.spool_index.proofs.Index.view_at.Goals as goal

pub returns : goal.returns
returns c = λ S is.
    let gs = c.groups.result.now in
    let g = c.index-groups-place.result in
    let same : length (map shown gs) ≡ length c.args.self.now.groups =
    ap (λ (is' : Rattle.std.proofs.Common.List GroupIndex). length is') c.groups.ensures.kept in
    let low : c.args.place < length gs = omega (arith, c.requires, same, length-map gs shown) in
    known_at S (map shown gs) c.args.place (shown g) (held.shown c.view.result) (c.groups.ensures.spool S is)
    (slice_get-map shown gs c.args.place ∙ ap (option_map shown) (got gs c.args.place g low ∙ ap Some (sym c.index-groups-place.is)))
    c.view.ensures
