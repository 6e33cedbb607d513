use Rattle.std.proofs.Common.{◌≡◌, ◌∙◌, ◌∷◌, subst, List, ℕ, ap, arith}
use Rattle.model.specs.Files.{File}
use Rattle.model.specs.SpoolFiles.{article_name}
use Rattle.spool_index.specs.Viewed.{place_of}
use Rattle.spool_growing.specs.Putting.{PutsAt}
use Rattle.spool_growing.proofs.Filed.{all_touched, files_article}
use Rattle.spool_growing.proofs.Packing.{may_still, still_free}
use Rattle.spool_growing.proofs.staging.file_article.Goals as goal

pub append_all-requires-clause-there : goal.append_all-requires-clause-there
append_all-requires-clause-there g c =
    let old = g.B.Blocks.blocks c.args.blocks.now in
    let mid = g.B.Blocks.blocks c.put_file.new.blocks in
    let name : c.deref.result.now ≡ article_name c.args.serial = c.deref.ensures.value ∙ c.in_ok-name.ensures
    ∙ ap (λ (d : List ℕ). 97 ∷ 46 ∷ d) c.serial_digits.ensures in
    let its : File = record { name = article_name c.args.serial; content = c.args.octets.now } in
    let puts : PutsAt c.args.inodes (place_of c.in_ok-at.at) its old mid =
    subst (λ (q : List ℕ). PutsAt c.args.inodes (place_of c.in_ok-at.at) (record { name = q; content = c.args.octets.now }) old mid) name
    c.in_ok-at.ensures.puts in
    may_still c.args.inodes (place_of c.in_ok-at.at) its c.args.pieces.now old mid puts c.requires.lacks c.requires.apart c.requires.grow

pub append_all-requires-clause-free : goal.append_all-requires-clause-free
append_all-requires-clause-free g c =
    let old = g.B.Blocks.blocks c.args.blocks.now in
    let mid = g.B.Blocks.blocks c.put_file.new.blocks in
    let name : c.deref.result.now ≡ article_name c.args.serial = c.deref.ensures.value ∙ c.in_ok-name.ensures
    ∙ ap (λ (d : List ℕ). 97 ∷ 46 ∷ d) c.serial_digits.ensures in
    let its : File = record { name = article_name c.args.serial; content = c.args.octets.now } in
    let puts : PutsAt c.args.inodes (place_of c.in_ok-at.at) its old mid =
    subst (λ (q : List ℕ). PutsAt c.args.inodes (place_of c.in_ok-at.at) (record { name = q; content = c.args.octets.now }) old mid) name
    c.in_ok-at.ensures.puts in
    still_free c.args.inodes (place_of c.in_ok-at.at) its c.args.pieces.now old mid puts c.requires.lacks c.requires.apart c.requires.grow
    (omega arith) c.requires.short c.requires.few c.requires.free.blocks_free

pub returns-clause-filed : goal.returns-clause-filed
returns-clause-filed g c =
    let old = g.B.Blocks.blocks c.args.blocks.now in
    let mid = g.B.Blocks.blocks c.put_file.new.blocks in
    let name : c.deref.result.now ≡ article_name c.args.serial = c.deref.ensures.value ∙ c.in_ok-name.ensures
    ∙ ap (λ (d : List ℕ). 97 ∷ 46 ∷ d) c.serial_digits.ensures in
    let its : File = record { name = article_name c.args.serial; content = c.args.octets.now } in
    let puts : PutsAt c.args.inodes (place_of c.in_ok-at.at) its old mid =
    subst (λ (q : List ℕ). PutsAt c.args.inodes (place_of c.in_ok-at.at) (record { name = q; content = c.args.octets.now }) old mid) name
    c.in_ok-at.ensures.puts in
    files_article c.args.inodes (place_of c.in_ok-at.at) its c.args.pieces.now old mid puts c.requires.lacks c.requires.apart
    c.requires.grow
    (g.B.Blocks.blocks c.append_all.new.blocks) c.in_ok-append_all.ensures.appended

pub returns-clause-touches : goal.returns-clause-touches
returns-clause-touches g c =
    let old = g.B.Blocks.blocks c.args.blocks.now in
    let mid = g.B.Blocks.blocks c.put_file.new.blocks in
    let name : c.deref.result.now ≡ article_name c.args.serial = c.deref.ensures.value ∙ c.in_ok-name.ensures
    ∙ ap (λ (d : List ℕ). 97 ∷ 46 ∷ d) c.serial_digits.ensures in
    let its : File = record { name = article_name c.args.serial; content = c.args.octets.now } in
    let puts : PutsAt c.args.inodes (place_of c.in_ok-at.at) its old mid =
    subst (λ (q : List ℕ). PutsAt c.args.inodes (place_of c.in_ok-at.at) (record { name = q; content = c.args.octets.now }) old mid) name
    c.in_ok-at.ensures.puts in
    all_touched c.args.inodes (place_of c.in_ok-at.at) its c.args.pieces.now old mid puts c.requires.lacks c.requires.apart c.requires.grow
    (g.B.Blocks.blocks c.append_all.new.blocks) c.in_ok-at.ensures.touches c.in_ok-append_all.ensures.touches
