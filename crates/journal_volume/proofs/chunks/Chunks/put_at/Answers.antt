use Rattle.std.proofs.Common.{◌≡◌, ℕ, List, [], get_or, set, sym, ◌∙◌, ap}
use Rattle.disk.specs.Image.{overwritten}
use Rattle.journal_volume.specs.Chunks.{ChunksView}
use Rattle.journal_volume.proofs.InChunks.{in_slot, put_view, slot_there}
use Rattle.journal_volume.proofs.chunks.Chunks.put_at.Goals as goal

pub put_at-requires-clause-there : goal.put_at-requires-clause-there
put_at-requires-clause-there c = slot_there c.self.inside.made c.self.inside.slots c.self.invariant c.in-Some.slot c.in-Some.ensures.0

pub returns-in-Some : goal.returns-in-Some
returns-in-Some c =
    let s = c.self.inside in
    let n = c.args.number in
    let i = c.in-Some.slot in
    let octets = overwritten c.args.at c.args.part.now (get_or s.slots.blocks i []) in
    let stood : get_or s.slots.blocks i [] ≡ get_or c.args.self.now.blocks n [] =
    sym (in_slot s.made s.slots c.self.invariant n i c.in-Some.ensures.0 c.in-Some.ensures.1)
    ∙ ap (λ (v : ChunksView). get_or v.blocks n []) c.self.view_is in
    put_view s.made s.slots c.self.invariant n i c.in-Some.ensures.0 c.in-Some.ensures.1 octets c.put_at.new.self c.put_at.ensures
    ∙ ap (λ (v : ChunksView). record { blocks = set v.blocks n octets; made = v.made }) c.self.view_is
    ∙ ap (λ (b : List ℕ). record {
      blocks = set c.args.self.now.blocks n (overwritten c.args.at c.args.part.now b);
      made = c.args.self.now.made;
    }) stood
