-- The place of a change's file, as it is read from the places.
use Rattle.std.proofs.Common.{◌≡◌, ◌<◌, ℕ, List, length, get_or, map, sym, ◌∙◌, ap, arith}
use Rattle.std.specs.Prelude.{Some, option_map, slice_get}
use Rattle.std.proofs.lemmas.List.{length-map}
use Rattle.std.proofs.lemmas.Option.{slice_get-map, slice_get_read, slice_get_within}
use Rattle.model.specs.Files.{table}
use Rattle.model.specs.Indexed as indexed
use Rattle.model.specs.Indexed.{ArePlaces, FilePlaces, IsAt}
use Rattle.model.specs.Spool.{Spool, SpoolEntry, entries}
use Rattle.model.specs.SpoolFiles.{change_file}
use Rattle.model.specs.Stream.{Octets}
use Rattle.model.proofs.Packing.{are_many, is_at}
use Rattle.spool_index.specs.Viewed.{place_of}
use Rattle.spool_index.specs.declared.places.ChangePlace.{ChangePlace}

pub place_read : (cs : List ChangePlace) (ps : List indexed.ChangePlace) (k : ℕ) (x : ChangePlace) → map place_of cs ≡ ps → k < length ps
    → x ≡ get_or cs k x → slice_get ps k ≡ Some (place_of x)
place_read cs ps k x same low is =
    let size : length cs ≡ length ps = sym (length-map cs place_of) ∙ ap (λ (l : List indexed.ChangePlace). length l) same in
    ap (λ (l : List indexed.ChangePlace). slice_get l k) (sym same) ∙ slice_get-map place_of cs k
    ∙ ap (option_map place_of) (slice_get_read cs (length ps) k x (sym size) low is)

module _ (inodes : ℕ) (blocks : List Octets) (S : Spool) (p : FilePlaces) (are : ArePlaces inodes blocks S p) (k : ℕ) (e : SpoolEntry)
    (there : slice_get (entries S) k ≡ Some e) where
  its_file : slice_get (map change_file (entries S)) k ≡ Some (change_file e)
  its_file = slice_get-map change_file (entries S) k ∙ ap (option_map change_file) there

  pub place_below : k < length p.changes
  place_below =
      omega (
        arith,
        slice_get_within (map change_file (entries S)) k (change_file e) its_file,
        are_many (table inodes blocks) p.changes (map change_file (entries S)) are.changes_are,
      )

  -- the file of the change is at the place that is read
  pub stands_at : (cs : List ChangePlace) (x : ChangePlace) → map place_of cs ≡ p.changes → x ≡ get_or cs k x
      → IsAt (table inodes blocks) (place_of x) (change_file e)
  stands_at cs x same is =
      is_at (table inodes blocks) p.changes (map change_file (entries S)) k (place_of x) (change_file e) are.changes_are
      (place_read cs p.changes k x same place_below is) its_file
