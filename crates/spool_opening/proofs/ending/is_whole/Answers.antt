use Rattle.std.proofs.Common.{◌≢◌, rules, refl, sym, ◌∙◌}
use Rattle.std.proofs.lemmas.Bool.{true≢false}
use Rattle.std.proofs.lemmas.Slice.Eq.{bytes_eq-Decides}
use Rattle.model.specs.Files.{table}
use Rattle.model.specs.Packs.{pack_name}
use Rattle.spool_reading.proofs.Passing.{named_file_is}
use Rattle.spool_opening.proofs.Whole.{change_by_name, named_whole, whole_change}
use Rattle.spool_opening.proofs.ending.is_whole.Goals as goal

pub returns-then-names_change : goal.returns-then-names_change
returns-then-names_change g c = λ S is.
    let its = named_file_is _ c.in-Some.name.items (rw c.in-Some.is at c.in_ok-name.ensures) in (
      λ yes. whole_change (table c.args.inodes (g.B.Blocks.blocks c.args.blocks.now)) S c.args.at its.file its.there
          (change_by_name its.file c.as_slice-octets.result.now _ (its.named ∙ sym c.as_slice-octets.ensures.value) c.names_change.ensures
          ∙ c.if-names_change.true),
      λ whole. refl,
    )

pub returns-in_default-size_by_name : goal.returns-in_default-size_by_name
returns-in_default-size_by_name g c = λ S is.
    let its = named_file_is _ c.in-Some.name.items (rw c.in-Some.is at c.in_ok-name.ensures) in
    let named = its.named ∙ sym c.as_slice-octets.ensures.value in
    let other = change_by_name its.file c.as_slice-octets.result.now _ named c.names_change.ensures ∙ c.if-names_change.false in
    let not_pack : c.as_slice-octets.result.now ≢ pack_name =
    (λ is_pack. true≢false (sym (c.eq.ensures ∙ (bytes_eq-Decides c.as_slice-octets.result.now pack_name).1 is_pack) ∙ c.if-eq.false)) in (
      λ yes. absurd (true≢false (sym yes)),
      λ whole. absurd (c.in_default-size_by_name.ensures S is _
          (named_whole (table c.args.inodes (g.B.Blocks.blocks c.args.blocks.now)) S c.args.at its.file c.as_slice-octets.result.now
          its.there named other not_pack whole)),
    )

pub returns : goal.returns
returns c = search rules
