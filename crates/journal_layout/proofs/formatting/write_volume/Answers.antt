use Rattle.std.proofs.Common.{◌≡◌, ◌*◌, ◌<◌, ℕ, Bool, IsTrue, List, [], length, OnOk, sym, ◌∙◌, ap, subst, arith}
use Rattle.std.proofs.lemmas.Result.{on_ok_weaker}
use Rattle.journal_layout.specs.Formatting.{zeroed}
use Rattle.disk.specs.Image.{overwritten}
use Rattle.model.specs.Volume.{block, format_number, home_place, open_segments, segment_count, StandsFor}
use Rattle.journal_layout.proofs.Formatted.{counted_formatted, format_formatted, none_formatted, stands_formatted}
use Rattle.journal_layout.proofs.formatting.write_volume.Given.{Over}
use Rattle.journal_layout.proofs.formatting.write_volume.Goals as goal
use Rattle.journal_layout.proofs.formatting.write_volume.Goals.{After-sync_last}

-- an image of a volume of zeros
record IsFormatted (segments blocks format : ℕ) (label image : List ℕ) : Type 0 where
  pub stands : StandsFor image label (zeroed blocks)
  pub closed : open_segments image ≡ []
  pub count : segment_count image ≡ segments
  pub format_is : format_number image ≡ format

formatted : (g : Over) (c : After-sync_last g) → IsTrue (g.D.Disk.device c.args.disk.now).tells
    → OnOk c.sync_last.result (IsFormatted c.args.segments c.args.blocks c.args.format c.args.label.now
    (g.D.Disk.device c.sync_last.new.disk).content)
formatted g c t =
    let t2 = subst (λ (b : Bool). IsTrue b) (sym c.write_blocks.ensures.time.tells) t in
    let t3 = subst (λ (b : Bool). IsTrue b) (sym c.write_part.ensures.time.tells) t2 in
    let old = (g.D.Disk.device c.write_blocks.new.disk).content in
    let new = (g.D.Disk.device c.write_part.new.disk).content in
    let octets = c.describe_in.new.octets.items in
    let size : length old ≡ 4096 * home_place c.args.segments c.args.blocks =
    g.met.D.Disk.image_size c.write_blocks.new.disk old t2 (g.met.D.Disk.counts_content c.write_blocks.new.disk t2)
    ∙ c.write_blocks.ensures.time.size ∙ c.requires.size in
    let written : (k : ℕ) → 0 < k → k < home_place c.args.segments c.args.blocks → block k old ≡ c.args.octets.items =
    λ k some low. c.in_ok-write_blocks.ensures.blocks t k some (omega (arith, low, c.home_block.ensures)) ∙ c.as_slice.ensures.value in
    let put : new ≡ overwritten 0 octets old = c.in_ok-write_part.ensures.content t2
    ∙ ap (λ (o : List ℕ). overwritten 0 o old) c.as_slice-2.ensures.value in
    let all : IsFormatted c.args.segments c.args.blocks c.args.format c.args.label.now new = record {
      stands = stands_formatted c.args.segments c.args.blocks c.args.octets.items octets old new c.args.label.now size c.requires.whole
          c.requires.zero c.describe_in.ensures.size c.describe_in.ensures.valid c.describe_in.ensures.blocks c.describe_in.ensures.segments
          c.describe_in.ensures.label written put;
      closed = none_formatted c.args.segments c.args.blocks c.args.octets.items octets old new size c.requires.whole c.requires.zero
          c.describe_in.ensures.size c.describe_in.ensures.segments written put;
      count = counted_formatted c.args.segments octets old new (omega (arith, size)) c.describe_in.ensures.size
          c.describe_in.ensures.segments put;
      format_is = format_formatted c.args.format octets old new (omega (arith, size)) c.describe_in.ensures.size
          c.describe_in.ensures.format put;
    } in
    on_ok_weaker {P = (g.D.Disk.device c.sync_last.new.disk).content ≡ new} c.sync_last.result
    (λ same. subst (λ (y : List ℕ). IsFormatted c.args.segments c.args.blocks c.args.format c.args.label.now y) (sym same) all)
    (c.sync_last.ensures.content t3)

pub returns-clause-volume : goal.returns-clause-volume
returns-clause-volume g c t =
    on_ok_weaker c.sync_last.result (λ all. all.stands) (formatted g (goal.at.returns-clause-volume g c).After-sync_last t)

pub returns-clause-closed : goal.returns-clause-closed
returns-clause-closed g c t =
    on_ok_weaker c.sync_last.result (λ all. all.closed) (formatted g (goal.at.returns-clause-closed g c).After-sync_last t)

pub returns-clause-count : goal.returns-clause-count
returns-clause-count g c t =
    on_ok_weaker c.sync_last.result (λ all. all.count) (formatted g (goal.at.returns-clause-count g c).After-sync_last t)

pub returns-clause-format : goal.returns-clause-format
returns-clause-format g c t =
    on_ok_weaker c.sync_last.result (λ all. all.format_is) (formatted g (goal.at.returns-clause-format g c).After-sync_last t)
