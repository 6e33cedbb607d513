use Rattle.std.proofs.Common.{◌<◌, ℕ, Vec, Global, List, [], ◌∷◌, ◌++◌, map, take, sym, ◌∙◌, ap, arith}
use Rattle.std.proofs.lemmas.List.{map-append}
use Rattle.model.specs.Files.{table}
use Rattle.fs_layout.specs.Table.{file_names}
use Rattle.fs_layout.proofs.Entries.{small_name}
use Rattle.fs.proofs.Naming.{one_name, no_name, all_names}
use Rattle.fs.proofs.directory.names.Goals as goal
use Rattle.fs.proofs.directory.names.Goals.{then-slot-gt0+in_ok-name_of+in_ok-push, else-slot-gt0}

pub name_of-requires-clause-few : goal.name_of-requires-clause-few
name_of-requires-clause-few g c =
    small_name c.args.inodes (g.B.Blocks.blocks c.args.blocks.now) c.requires.rule c.loop-at.at
    (omega arith) c.get_slot.new.into c.get_slot.ensures

pub loop-at-preserved : goal.loop-at-preserved
loop-at-preserved g c =
    let blocks = g.B.Blocks.blocks c.args.blocks.now in
    let at = c.loop-at.at in
    let low : at < c.args.inodes = omega arith in
    elim c.if-slot-gt0.branch [
      | then-slot-gt0+in_ok-name_of+in_ok-push w ↦
          ap (λ (v : Vec (Vec ℕ Global) Global). map (λ name. name.items) v.items) w.names-is
          ∙ ap (λ (l : List (Vec ℕ Global)). map (λ name. name.items) l) w.in_ok-push.ensures.items
          ∙ map-append (λ (name : Vec ℕ Global). name.items) c.loop-at.names.items (w.in_ok-name_of.field-0 ∷ [])
          ∙ ap (λ (l : List (List ℕ)). l ++ w.in_ok-name_of.field-0.items ∷ []) c.loop-at.invariant
          ∙ ap (λ (n : List ℕ). file_names (take at (table c.args.inodes blocks)) ++ n ∷ []) w.in_ok-name_of.ensures
          ∙ sym (one_name c.args.inodes blocks c.requires.rule at low c.get_slot.new.into c.get_slot.ensures w.if-slot-gt0.true)
      | else-slot-gt0 w ↦
          ap (λ (v : Vec (Vec ℕ Global) Global). map (λ name. name.items) v.items) w.names-is
          ∙ c.loop-at.invariant
          ∙ sym (no_name c.args.inodes blocks c.requires.rule at low c.get_slot.new.into c.get_slot.ensures
          (omega (arith, w.if-slot-gt0.false)))
    ]

pub returns : goal.returns
returns g c = c.loop-at.invariant ∙ all_names c.args.inodes c.loop-at.at (g.B.Blocks.blocks c.args.blocks.now) (omega arith)
