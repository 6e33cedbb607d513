use Rattle.std.proofs.Common.{◌≡◌, ℕ, ◌-◌, ◌/◌, ◌%◌, ◌<◌, ◌≤◌, List, [], length, get_or, set, sym, ◌∙◌, ap, subst, arith, ◌∷◌}
use Rattle.disk.specs.Image.{overwritten}
use Rattle.model.specs.Volume.{number_at}
use Rattle.model.specs.Files.{FileEntry, entry, entry_of, pointer, content_of, indirect_pointer, block_count}
use Rattle.model.proofs.Owning.{owns_pointer}
use Rattle.fs_layout.specs.Blocks.{IsThere}
use Rattle.fs_inodes.specs.Changes.{ReplacesContent, SameMarks}
use Rattle.fs_inodes.proofs.Named.{double_is_there, table_is_there}
use Rattle.fs_inodes.proofs.Overwriting.{overwrites, overwrites_marks}
use Rattle.fs_layout.proofs.Puts.{on_put}
use Rattle.fs_layout.specs.Touches.{SameBut}
use Rattle.fs_layout.proofs.Touching.{same_put}
use Rattle.fs_inodes.proofs.file_writing.overwrite_part.Goals as goal

pub pointer_at-number-requires-clause-double : goal.pointer_at-number-requires-clause-double
pointer_at-number-requires-clause-double g c =
    let blocks = g.B.Blocks.blocks c.args.blocks.now in
    subst (λ (o : List ℕ). 1034 ≤ c.args.place / 4096 → IsThere (number_at 56 4 o) blocks) (sym c.get_inode.ensures)
    (double_is_there c.args.inodes c.args.at blocks c.requires.room c.requires.rule c.requires.below c.requires.file (c.args.place / 4096)
    (omega arith))

pub pointer_at-number-requires-clause-indirect : goal.pointer_at-number-requires-clause-indirect
pointer_at-number-requires-clause-indirect g c =
    let blocks = g.B.Blocks.blocks c.args.blocks.now in
    subst (λ (o : List ℕ). 10 ≤ c.args.place / 4096
    → IsThere (indirect_pointer (entry_of blocks o []) ((c.args.place / 4096 - 10) / 1024)) blocks) (sym c.get_inode.ensures)
    (table_is_there c.args.inodes c.args.at blocks c.requires.room c.requires.rule c.requires.below c.requires.file (c.args.place / 4096)
    (omega arith))

pub put_at-requires-clause-there : goal.put_at-requires-clause-there
put_at-requires-clause-there g c =
    let blocks = g.B.Blocks.blocks c.args.blocks.now in
    let e : FileEntry = entry c.args.inodes blocks c.args.at in
    let i = c.args.place / 4096 in
    let low : i < block_count e = omega arith in
    let is : c.pointer_at-number.result ≡ pointer e i = c.pointer_at-number.ensures
    ∙ ap (λ (o : List ℕ). pointer (entry_of blocks o []) i) c.get_inode.ensures in
    subst (λ (n : ℕ). n < length blocks) (sym is)
    ((c.requires.rule.within c.args.at (pointer e i) c.requires.below (owns_pointer e i low)).1)

-- the octets that the block of the file gets
put_block : (old new : List (List ℕ)) (number pointer at : ℕ) (octets : List ℕ) → number ≡ pointer
    → new ≡ set old number (overwritten at octets (get_or old number []))
    → new ≡ set old pointer (overwritten at octets (get_or old pointer []))
put_block old new number pointer at octets is put = put ∙ ap (λ (n : ℕ). set old n (overwritten at octets (get_or old n []))) is

pub returns-clause-done : goal.returns-clause-done
returns-clause-done g c =
    let old = g.B.Blocks.blocks c.args.blocks.now in
    let new = g.B.Blocks.blocks c.put_at.new.self in
    let e : FileEntry = entry c.args.inodes old c.args.at in
    let i = c.args.place / 4096 in
    let octets = c.args.octets.now in
    let number = c.pointer_at-number.result in
    let is : c.pointer_at-number.result ≡ pointer e i = c.pointer_at-number.ensures
    ∙ ap (λ (o : List ℕ). pointer (entry_of old o []) i) c.get_inode.ensures in
    on_put c.put_at.result (ReplacesContent c.args.inodes c.args.at (overwritten c.args.place octets (content_of old e)) old new) new old
    (set old number (overwritten (c.args.place % 4096) octets (get_or old number []))) c.put_at.ensures.put
    (λ put. subst (λ (bs : List (List ℕ)). ReplacesContent c.args.inodes c.args.at (overwritten c.args.place octets (content_of old e)) old
    bs)
    (sym (put_block old new number (pointer e i) (c.args.place % 4096) octets is put))
    (overwrites c.args.inodes c.args.at c.args.place octets old c.requires.room c.requires.rule c.requires.below c.requires.file
    c.requires.some c.requires.fits c.requires.one_block))

pub returns-clause-marks : goal.returns-clause-marks
returns-clause-marks g c =
    let old = g.B.Blocks.blocks c.args.blocks.now in
    let new = g.B.Blocks.blocks c.put_at.new.self in
    let e : FileEntry = entry c.args.inodes old c.args.at in
    let i = c.args.place / 4096 in
    let octets = c.args.octets.now in
    let number = c.pointer_at-number.result in
    let is : c.pointer_at-number.result ≡ pointer e i = c.pointer_at-number.ensures
    ∙ ap (λ (o : List ℕ). pointer (entry_of old o []) i) c.get_inode.ensures in
    on_put c.put_at.result (SameMarks old new) new old
    (set old number (overwritten (c.args.place % 4096) octets (get_or old number []))) c.put_at.ensures.put
    (λ put. subst (λ (bs : List (List ℕ)). SameMarks old bs)
    (sym (put_block old new number (pointer e i) (c.args.place % 4096) octets is put))
    (overwrites_marks c.args.inodes c.args.at c.args.place octets old c.requires.room c.requires.rule c.requires.below c.requires.file
    c.requires.some c.requires.fits c.requires.one_block))

pub returns-clause-touches : goal.returns-clause-touches
returns-clause-touches g c =
    let old = g.B.Blocks.blocks c.args.blocks.now in
    let new = g.B.Blocks.blocks c.put_at.new.self in
    let number = c.pointer_at-number.result in
    let written : List ℕ = overwritten (c.args.place % 4096) c.args.octets.now (get_or old number []) in
    on_put c.put_at.result ((block : ℕ) × SameBut (block ∷ []) old new) new old
    (set old number written) c.put_at.ensures.put
    (λ put. (number, subst (λ (bs : List (List ℕ)). SameBut (number ∷ []) old bs) (sym put) (same_put number written old)))
