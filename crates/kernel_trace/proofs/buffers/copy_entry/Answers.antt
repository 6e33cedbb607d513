use Rattle.std.proofs.Common.{◌≡◌, [], ◌∷◌, ◌++◌, ◌∙◌, ap, arith, length, refl, true}
use Rattle.std.specs.Prelude.{List, ℕ, if◌then◌else◌, is_ok}
use Rattle.kernel_outbox.specs.Lines.{HeldReply, Reply, output_of, outputs_of, plain}
use Rattle.kernel_outbox.specs.Queue.{HeldOutput}
use Rattle.kernel_outbox.specs.declared.made_lines.Lines.{Lines}
use Rattle.kernel_trace.proofs.Within.{copied, piece_short}
use Rattle.kernel_trace.proofs.buffers.copy_entry.Goals as goal

pub returns : goal.returns
returns c =
    let ends = c.entry-number.result.2 in
    let piece = c.entry-number.result.1.now in
    let short = piece_short c.entry-number.result.0 c.args.place piece ends c.args.from.now c.entry-number.ensures c.requires.one in
    let fine : is_ok c.extend_from_slice.result ≡ true =
    c.extend_from_slice.ensures.succeeds (omega (arith, short, c.requires.len, c.requires.capacity)) in
    let items : c.extend_from_slice.new.self.items ≡ piece = c.extend_from_slice.ensures.items
    ∙ (ap (λ b. if b then c.args.spare.octets.items ++ piece else c.args.spare.octets.items) fine
    ∙ ap (λ xs. xs ++ piece) c.requires.empty) in
    let none = λ (lines : Lines). [] in
    let held_with : Reply → HeldReply = λ (reply : Reply). record { reply = reply; dependency = 0; ends = ends } in
    let held : outputs_of none c.push.new.self.held ≡ record { octets = piece; dependency = 0; ends = ends } ∷ [] =
    ap (outputs_of none) (c.push.ensures.held ∙ ap (λ (first : List HeldReply). first ++ held_with c.whole.result ∷ []) c.requires.held)
    ∙ ap (λ (reply : Reply). output_of none (held_with reply) ∷ []) (c.whole.ensures ∙ ap plain items) in
    copied c.entry-number.result.0 _ c.args.place piece piece ends c.args.from.now c.clear.new.self c.give.new.into []
    (outputs_of none c.push.new.self.held) c.clear.ensures refl held refl c.entry-number.ensures c.requires.one c.give.ensures.entries
