-- The file of a change stands in its place, and says that change alone.
use Rattle.std.proofs.Common.{◌≡◌, ◌<◌, ◌≤◌, ◌+◌, ◌-◌, ℕ, zero, suc, List, [], ◌∷◌, length, get_or, map, sym, subst, ◌∙◌, ap, arith}
use Rattle.std.specs.Prelude.{Some, slice_get}
use Rattle.std.proofs.lemmas.List.{get_or_default, length-map}
use Rattle.std.proofs.lemmas.Option.{slice_get-get_or}
use Rattle.model.specs.Stream.{Octets}
use Rattle.model.specs.Files.{table}
use Rattle.model.specs.Indexed as indexed
use Rattle.model.specs.Indexed.{FilePlaces, IsAt}
use Rattle.model.specs.Layout.{Holds}
use Rattle.model.specs.Packs.{most_changes}
use Rattle.model.specs.Spool.{Spool, SpoolEntry, entries, entries_from}
use Rattle.model.specs.FileKinds.{HasRoomInFile}
use Rattle.model.specs.SpoolFiles.{change_file}
use Rattle.model.specs.declared.change.Change.{Change}
use Rattle.model.proofs.HoldsOne.{changes_few, fits_lawful, holds_one, no_change, same_change}
use Rattle.spool_index.proofs.Read.{place_below, stands_at}
use Rattle.spool_index.specs.Viewed.{place_of}
use Rattle.spool_index.specs.declared.places.ChangePlace.{ChangePlace}
use Rattle.spool_reading.specs.StoredChanges.{IsFileOf}
use Rattle.spool_reading.proofs.Saying.{all_in_time}
use Rattle.spool_texts.specs.Stored.{HasChange}

-- the change at a place, with its serial
entry_at : (n : ℕ) (S : Spool) (k : ℕ) → k < length S
    → slice_get (entries_from n S) k ≡ Some (record { serial = n + k; change = get_or S k no_change })
entry_at n [] k low = absurd (omega (arith, low))
entry_at n (c ∷ S) zero low =
    let first : n ≡ n + 0 = omega arith in
    ap (λ (m : ℕ). Some (record { serial = m; change = c })) first
entry_at n (c ∷ S) (suc k) low =
    let next : suc n + k ≡ n + suc k = omega arith in
    entry_at (suc n) S k (omega (arith, low)) ∙ ap (λ (m : ℕ). Some (record { serial = m; change = get_or S k no_change })) next

-- the octets that were read are those of a file
pub read_same : (n : ℕ) (c : Change) (name name' content content' : Octets) → name ≡ name' → content ≡ content' → IsFileOf n c name content
    → IsFileOf n c name' content'
read_same n c name name' content content' names contents is =
    subst (λ (p : Octets × Octets). IsFileOf n c p.0 p.1) (λ i. (names i, contents i)) is

module _ (inodes : ℕ) (blocks : List Octets) (few : inodes ≤ 4194304) (p : FilePlaces) (places : List ChangePlace) (serial : ℕ)
    (same : map place_of places ≡ p.changes) (there : HasChange inodes blocks p serial) where
  abbrev pub its : Change
  its = get_or there.changes (serial - 1) no_change

  abbrev its_entry : SpoolEntry
  its_entry = record { serial = serial; change = its }

  within : serial - 1 < length there.changes
  within = omega (arith, there.from, there.to)

  entry_there : slice_get (entries there.changes) (serial - 1) ≡ Some its_entry
  unfolding entries
  entry_there =
      let counted : 1 + (serial - 1) ≡ serial = omega (arith, there.from) in
      entry_at 1 there.changes (serial - 1) within ∙ ap (λ (m : ℕ). Some (record { serial = m; change = its })) counted

  pub low : serial - 1 < length places
  low =
      omega (
        arith,
        place_below inodes blocks there.changes p there.placed (serial - 1) its_entry entry_there,
        length-map places place_of,
        ap (λ (l : List indexed.ChangePlace). length l) same,
      )

  pub few_serials : serial ≤ most_changes
  few_serials = omega (arith, few, there.to, changes_few there.host inodes blocks there.changes there.held)

  -- its file is at its place
  pub there_file : (d : ChangePlace) → IsAt (table inodes blocks) (place_of (get_or places (serial - 1) d)) (change_file its_entry)
  there_file d =
      let x = get_or places (serial - 1) d in
      stands_at inodes blocks there.changes p there.placed (serial - 1) its_entry entry_there places x same
      (get_or_default places (serial - 1) d x low)

  fits : HasRoomInFile serial its
  fits =
      let counted : 1 + (serial - 1) ≡ serial = omega (arith, there.from) in
      subst (λ (m : ℕ). HasRoomInFile m its) counted
      (fits_lawful there.host there.changes there.held.lawful
      (omega (arith, few, changes_few there.host inodes blocks there.changes there.held)) (serial - 1) within)

  -- what was read there is the file of that change
  pub is_its_file : (name content : Octets) → change_file its_entry ≡ record { name = name; content = content }
      → IsFileOf serial its name content
  is_its_file name content read = record {
    room = fits;
    in_time = all_in_time there.host [] there.changes there.held.lawful (serial - 1) within;
    file = read;
  }

  -- and of no other
  pub is_change : (name content : Octets) (c : Change) → change_file its_entry ≡ record { name = name; content = content }
      → IsFileOf serial c name content → (host : Octets) (S : Spool) → Holds host inodes blocks S → slice_get S (serial - 1) ≡ Some c
  is_change name content c read said host S held =
      let own = is_its_file name content read in
      let change : its ≡ c = (same_change serial serial its c own.room said.room (own.file ∙ sym said.file)).1 in
      let spool : there.changes ≡ S = holds_one there.host host inodes blocks there.changes S few there.held held in
      ap (λ (R : Spool). slice_get R (serial - 1)) (sym spool) ∙ slice_get-get_or there.changes (serial - 1) no_change within
      ∙ ap (λ (d : Change). Some d) change
