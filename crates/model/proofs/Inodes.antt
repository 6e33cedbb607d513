-- One call in the table of inodes.
use Rattle.std.proofs.Common.{◌≡◌, ◌≢◌, inl, inr, ◌<◌, ◌≤◌, ℕ, zero, suc, cond, eqb, List, [], ◌∷◌, ◌++◌, length, get_or, set, map}
use Rattle.std.proofs.Common.{refl, sym, ◌∙◌, ap, subst, arith}
use Rattle.std.specs.List.{Contains, range_with_len}
use Rattle.std.specs.Prelude.{flat_map, bytes_eq, Option, Some, None, IsPermutation}
use Rattle.std.specs.Option.{option_to_list}
use Rattle.std.proofs.lemmas.Bool.{cases_lt, cond-true, cond-false}
use Rattle.std.proofs.lemmas.List.{append_assoc, get_or_past, length-take}
use Rattle.std.proofs.lemmas.List.FromFn.{length-map-range_with_len, get_or-map-range_with_len}
use Rattle.std.proofs.lemmas.List.Sorted.{IsPermutation-sym, IsPermutation-to_front, IsPermutation-append_left, IsPermutation-append_right}
use Rattle.std.proofs.lemmas.List.Sorted.{IsPermutation-trans, IsPermutation-map}
use Rattle.model.specs.Stream.{Octets}
use Rattle.model.specs.Files.{File, IsFile, IsFileSystem, name_in, content_of, entry, slot_of, file_at, files_in, table, largest_file}
use Rattle.model.specs.Files.{block_count, pointer, size}
use Rattle.model.specs.FileCalls.{appended}
use Rattle.model.specs.Laws.SpoolFiles.{CreatesOne, AppendsToOne}
use Rattle.model.proofs.Joined.{bytes_same, bytes_differ}
use Rattle.model.proofs.Owning.{free_kind}

-- ---- a new file

one_more : (inodes : List (Option File)) (k : ℕ) (f : File) → k < length inodes → get_or inodes k None ≡ None
    → IsPermutation (files_in (set inodes k (Some f))) (files_in inodes ++ f ∷ [])
one_more [] k f low free = absurd (omega arith)
one_more (None ∷ inodes) zero f low free =
    IsPermutation-sym (files_in inodes ++ f ∷ []) (f ∷ files_in inodes) (IsPermutation-to_front (files_in inodes) f)
one_more (Some g ∷ inodes) zero f low free = absurd (cc)
one_more (o ∷ inodes) (suc k) f low free =
    subst (λ (fs : List File). IsPermutation (option_to_list o ++ files_in (set inodes k (Some f))) fs)
    (sym (append_assoc (option_to_list o) (files_in inodes) (f ∷ [])))
    (IsPermutation-append_right (option_to_list o) (files_in (set inodes k (Some f))) (files_in inodes ++ f ∷ [])
    (one_more inodes k f (omega arith) free))

pub creates_one : CreatesOne
creates_one files inodes k name low free same =
    let f : File = record { name = name; content = [] } in
    IsPermutation-trans (files_in (set inodes k (Some f))) (files_in inodes ++ f ∷ []) (files ++ f ∷ []) (one_more inodes k f low free)
    (IsPermutation-append_left (f ∷ []) (files_in inodes) files same)

-- ---- octets after a file

pub appended_other : (name octets : Octets) (f : File) → f.name ≢ name → appended name octets f ≡ f
appended_other name octets f other =
    cond-false (bytes_eq name f.name) (record { name = f.name; content = f.content ++ octets }) f
    (bytes_differ name f.name (λ is. other (sym is)))

pub appended_here : (name octets content : Octets) → appended name octets (record { name = name; content = content }) ≡ record {
  name = name;
  content = content ++ octets;
}
appended_here name octets content =
    cond-true (bytes_eq name name) (record { name = name; content = content ++ octets }) (record { name = name; content = content })
    (bytes_same name)

none_named : (inodes : List (Option File)) (name octets : Octets) → ((k : ℕ) (f : File) → get_or inodes k None ≡ Some f → f.name ≢ name)
    → map (appended name octets) (files_in inodes) ≡ files_in inodes
none_named [] name octets none = refl
none_named (None ∷ inodes) name octets none = none_named inodes name octets (λ k f is. none (suc k) f is)
none_named (Some g ∷ inodes) name octets none =
    let first = appended_other name octets g (none 0 g refl) in
    let rest = none_named inodes name octets (λ k f is. none (suc k) f is) in
    λ i. first i ∷ rest i

one_longer : (inodes : List (Option File)) (k : ℕ) (name content octets : Octets)
    → get_or inodes k None ≡ Some (record { name = name; content = content })
    → ((l : ℕ) (f : File) → get_or inodes l None ≡ Some f → f.name ≡ name → l ≡ k)
    → files_in (set inodes k (Some (record { name = name; content = content ++ octets }))) ≡ map (appended name octets) (files_in inodes)
one_longer [] k name content octets is once = absurd (cc)
one_longer (None ∷ inodes) zero name content octets is once = absurd (cc)
one_longer (Some g ∷ inodes) zero name content octets is once =
    let here : g ≡ record { name = name; content = content } = cc in
    let first : record { name = name; content = content ++ octets } ≡ appended name octets g =
    sym (ap (appended name octets) here ∙ appended_here name octets content) in
    let rest = none_named inodes name octets (λ k f at same. absurd (let two : suc k ≡ 0 = once (suc k) f at same in omega arith)) in
    λ i. first i ∷ sym rest i
one_longer (None ∷ inodes) (suc k) name content octets is once =
    one_longer inodes k name content octets is (λ l f at same. let one : suc l ≡ suc k = once (suc l) f at same in omega arith)
one_longer (Some g ∷ inodes) (suc k) name content octets is once =
    let first = appended_other name octets g (λ same. absurd (let two : 0 ≡ suc k = once 0 g refl same in omega arith)) in
    let rest = one_longer inodes k name content octets is (λ l f at same. let one : suc l ≡ suc k = once (suc l) f at same in
    omega arith) in
    λ i. sym first i ∷ rest i

-- ---- files by inode

pub where_is : (inodes : List (Option File)) (f : File) → Contains (files_in inodes) f → (k : ℕ) × (get_or inodes k None ≡ Some f)
where_is [] f (k, low, is) = absurd (omega arith)
where_is (None ∷ inodes) f has = let rest = where_is inodes f has in (suc rest.0, rest.1)
where_is (Some g ∷ inodes) f (zero, low, is) = (0, ap Some is)
where_is (Some g ∷ inodes) f (suc k, low, is) = let rest = where_is inodes f (k, omega arith, is) in (suc rest.0, rest.1)

pub is_among : (inodes : List (Option File)) (k : ℕ) (f : File) → get_or inodes k None ≡ Some f → Contains (files_in inodes) f
is_among [] k f is = absurd (cc)
is_among (None ∷ inodes) zero f is = absurd (cc)
is_among (None ∷ inodes) (suc k) f is = is_among inodes k f is
is_among (Some g ∷ inodes) zero f is = (0, omega arith, cc)
is_among (Some g ∷ inodes) (suc k) f is = let rest = is_among inodes k f is in (suc rest.0, omega (arith, rest.1), rest.2)

-- ---- names in the table

module _ (inodes : ℕ) (blocks : List Octets) (fs : IsFileSystem inodes blocks) where
  record IsThere (k : ℕ) (f : File) : Type 0 where
    below : k < inodes
    file : IsFile (entry inodes blocks k)
    named : f.name ≡ name_in (slot_of inodes blocks k)
    content : f.content ≡ content_of blocks (entry inodes blocks k)

  is_there : (k : ℕ) (f : File) → get_or (table inodes blocks) k None ≡ Some f → IsThere k f
  is_there k f is = elim (cases_lt k inodes) [
    | inr past ↦ absurd (let none =
        get_or_past (table inodes blocks) k None (omega (arith, length-map-range_with_len (λ j. file_at inodes blocks j) 0 inodes)) in cc)
    | inl low ↦
        let its : File = record { name = name_in (slot_of inodes blocks k); content = content_of blocks (entry inodes blocks k) } in
        let at : get_or (table inodes blocks) k None ≡ file_at inodes blocks k =
        get_or-map-range_with_len (λ j. file_at inodes blocks j) 0 inodes k k None low (omega arith) in
        elim (fs.each k low) [
          | inl free ↦ absurd (let none : file_at inodes blocks k ≡ None =
              ap (λ (n : ℕ). cond (eqb n 0) None (Some its)) (free_kind (entry inodes blocks k) free) in cc)
          | inr file ↦
              let some : file_at inodes blocks k ≡ Some its = ap (λ (n : ℕ). cond (eqb n 0) None (Some its)) file.kind_is in
              let one : f ≡ its = cc in
              record { below = low; file = file; named = ap (λ (g : File). g.name) one; content = ap (λ (g : File). g.content) one }
        ]
  ]

  pub names_once : (k l : ℕ) (f g : File) → get_or (table inodes blocks) k None ≡ Some f → get_or (table inodes blocks) l None ≡ Some g
      → f.name ≡ g.name → k ≡ l
  names_once k l f g first second same =
      let one = is_there k f first in
      let other = is_there l g second in
      fs.names_distinct k l one.below other.below one.file other.file (sym one.named ∙ same ∙ other.named)

-- no file is larger than pointers reach
pub content_small : (inodes : ℕ) (blocks : List Octets) → IsFileSystem inodes blocks → (f : File)
    → Contains (files_in (table inodes blocks)) f → length f.content ≤ largest_file
content_small inodes blocks fs f has =
    let place = where_is (table inodes blocks) f has in
    let its = is_there inodes blocks fs place.0 f place.1 in
    omega (
      arith,
      ap (λ (o : Octets). length o) its.content,
      length-take (size (entry inodes blocks place.0)) (flat_map (λ i. get_or blocks (pointer (entry inodes blocks place.0) i) [])
          (range_with_len 0 (block_count (entry inodes blocks place.0)))),
      its.file.small,
    )

pub appends_to_one : AppendsToOne
appends_to_one files inodes blocks k name content octets fs is same =
    let longer = one_longer (table inodes blocks) k name content octets is
    (λ l f at named. names_once inodes blocks fs l k f (record { name = name; content = content }) at is named) in
    subst (λ (xs : List File). IsPermutation xs (map (appended name octets) files)) (sym longer)
    (IsPermutation-map (appended name octets) (files_in (table inodes blocks)) files same)
