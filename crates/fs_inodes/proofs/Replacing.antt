-- Another content of one file.
use Rattle.std.proofs.Common.{◌≡◌, ◌≢◌, ◌⊎◌, inl, inr, ◌<◌, ℕ, Option, Some, None, List, length, get_or, set, refl, sym, ◌∙◌, ap, subst}
use Rattle.std.proofs.Common.{arith}
use Rattle.std.specs.List.{All, Contains}
use Rattle.std.proofs.lemmas.List.{set-set, get_or-set_same}
use Rattle.std.proofs.lemmas.Bool.{cases_eq}
use Rattle.model.specs.Stream.{Octets}
use Rattle.model.specs.Files.{FileEntry, File, HasRoom, IsFile, IsFree, size, owned, name_in, content_of, entry, slot_of, IsFileSystem}
use Rattle.model.specs.Files.{table}
use Rattle.model.proofs.Owning.{content_size}
use Rattle.fs_layout.specs.Table.{IsFileAt}
use Rattle.fs_inodes.specs.Changes.{ReplacesContent, SameMarks}
use Rattle.fs_layout.proofs.Tables.{file_or, length-table, get_or-table, file_at_file, IsNamed, named_from_there, table_set}
use Rattle.fs_layout.proofs.Keeps.{PutsEntry, entry_other, file_other, keeps_rule, keeps_room}

module _ (inodes k : ℕ) (inode : Octets) (touched : ℕ → Type 0) (old new : List Octets) (room : HasRoom inodes old)
    (fs : IsFileSystem inodes old) (low : k < inodes) (file : IsFile (entry inodes old k))
    (puts : PutsEntry inodes k inode (slot_of inodes old k) touched old new) (untouched : (l b : ℕ) → l < inodes → l ≢ k
    → Contains (owned (entry inodes old l)) b → ¬ (touched b)) (file' : IsFile (entry inodes new k)) where
  others : (l : ℕ) → l < inodes → l ≢ k → entry inodes new l ≡ entry inodes old l
  others = entry_other inodes k inode (slot_of inodes old k) touched old new puts fs untouched

  pub each_keeps : (l : ℕ) → l < inodes → IsFree (entry inodes new l) ⊎ IsFile (entry inodes new l)
  each_keeps l below = elim (cases_eq l k) [
    | inl same ↦ inr (subst (λ (m : ℕ). IsFile (entry inodes new m)) (sym same) file')
    | inr other ↦ subst (λ (e : FileEntry). IsFree e ⊎ IsFile e) (sym (others l below other)) (fs.each l below)
  ]

  was_file : (l : ℕ) → l < inodes → IsFile (entry inodes new l) → IsFile (entry inodes old l)
  was_file l below is = elim (cases_eq l k) [
    | inl same ↦ subst (λ (m : ℕ). IsFile (entry inodes old m)) (sym same) file
    | inr other ↦ subst IsFile (others l below other) is
  ]

  same_name : (l : ℕ) → l < inodes → name_in (slot_of inodes new l) ≡ name_in (slot_of inodes old l)
  same_name l below = elim (cases_eq l k) [
    | inl same ↦ ap (λ (m : ℕ). name_in (slot_of inodes new m)) same ∙ ap name_in puts.slot_is
        ∙ sym (ap (λ (m : ℕ). name_in (slot_of inodes old m)) same)
    | inr other ↦ ap name_in (puts.slots_other l below other)
  ]

  pub names_keep : (l m : ℕ) → l < inodes → m < inodes → IsFile (entry inodes new l) → IsFile (entry inodes new m)
      → name_in (slot_of inodes new l) ≡ name_in (slot_of inodes new m) → l ≡ m
  names_keep l m below low' lf mf same =
      fs.names_distinct l m below low' (was_file l below lf) (was_file m low' mf) (sym (same_name l below) ∙ same ∙ same_name m low')

  -- the rule, where the file keeps its blocks
  pub rule_keeps : owned (entry inodes new k) ≡ owned (entry inodes old k) → SameMarks old new → IsFileSystem inodes new
  rule_keeps owns marks =
      keeps_rule inodes old new fs puts.count each_keeps
      (λ l below. elim (cases_eq l k) [
        | inl same ↦ ap (λ (m : ℕ). owned (entry inodes new m)) same ∙ owns ∙ sym (ap (λ (m : ℕ). owned (entry inodes old m)) same)
        | inr other ↦ ap owned (others l below other)
      ])
      marks.marks names_keep

  -- and so the file has this content
  pub replaces : (content : Octets) → All (λ b. length b ≡ 4096) new → IsFileSystem inodes new
      → content ≡ content_of new (entry inodes new k) → ReplacesContent inodes k content old new
  replaces content whole rule is = record {
    name = name_in (slot_of inodes old k);
    was = content_of old (entry inodes old k);
    there = get_or-table inodes old k low ∙ file_at_file inodes old k file;
    makes = record {
      room = keeps_room inodes old new room puts.count whole;
      rule = rule;
      files_are = table_set inodes k old new (Some (record { name = name_in (slot_of inodes old k); content = content })) low
          (file_other inodes k inode (slot_of inodes old k) touched old new puts fs untouched)
          (file_at_file inodes new k file'
          ∙ ap (λ (n : Octets). Some (record { name = n; content = content_of new (entry inodes new k) })) (ap name_in puts.slot_is)
          ∙ ap (λ (c : Octets). Some (record { name = name_in (slot_of inodes old k); content = c })) (sym is));
    };
  }

-- ---- what follows of it

pub replaces_none : (inodes k : ℕ) (content : Octets) (blocks : List Octets) → HasRoom inodes blocks → IsFileSystem inodes blocks
    → k < inodes → IsFile (entry inodes blocks k) → content ≡ content_of blocks (entry inodes blocks k)
    → ReplacesContent inodes k content blocks blocks
replaces_none inodes k content blocks room fs low file is = record {
  name = name_in (slot_of inodes blocks k);
  was = content_of blocks (entry inodes blocks k);
  there = get_or-table inodes blocks k low ∙ file_at_file inodes blocks k file;
  makes = record {
    room = room;
    rule = fs;
    files_are = table_set inodes k blocks blocks (Some (record { name = name_in (slot_of inodes blocks k); content = content })) low
        (λ l below other. refl)
        (file_at_file inodes blocks k file
        ∙ ap (λ (c : Octets). Some (record { name = name_in (slot_of inodes blocks k); content = c })) (sym is));
  };
}

-- another name for the same content
pub replaces_same : (inodes k : ℕ) (c d : Octets) (a b : List Octets) → c ≡ d → ReplacesContent inodes k c a b
    → ReplacesContent inodes k d a b
replaces_same inodes k c d a b same r = subst (λ (o : Octets). ReplacesContent inodes k o a b) same r

module _ (inodes k : ℕ) (content : Octets) (old new : List Octets) (low : k < inodes) (r : ReplacesContent inodes k content old new) where
  -- the file stands there
  pub there_now : IsFileAt (table inodes new) k r.name content
  there_now =
      ap (λ (t : List (Option File)). get_or t k None) r.makes.files_are
      ∙ get_or-set_same (table inodes old) k (Some (record { name = r.name; content = content })) None
      (omega (arith, length-table inodes old))

  pub named_now : IsNamed inodes new k r.name content
  named_now = named_from_there inodes new r.makes.rule k r.name content there_now

  pub size_now : size (entry inodes new k) ≡ length content
  size_now =
      sym (content_size new (entry inodes new k) r.makes.room.blocks_whole (λ b owns. (r.makes.rule.within k b low owns).1))
      ∙ ap (λ (o : Octets). length o) (sym named_now.content_is)

  -- one change after the other
  pub replaces_then : (content' : Octets) (newer : List Octets) → ReplacesContent inodes k content' new newer
      → ReplacesContent inodes k content' old newer
  replaces_then content' newer s =
      let same : s.name ≡ r.name = ap (λ (o : Option File). (file_or o).name) (sym s.there ∙ there_now) in
      record {
        name = r.name;
        was = r.was;
        there = r.there;
        makes = record {
          room = s.makes.room;
          rule = s.makes.rule;
          files_are =
              s.makes.files_are
              ∙ ap (λ (t : List (Option File)). set t k (Some (record { name = s.name; content = content' }))) r.makes.files_are
              ∙ set-set (table inodes old) k (Some (record { name = r.name; content = content }))
              (Some (record { name = s.name; content = content' }))
              ∙ ap (λ (n : Octets). set (table inodes old) k (Some (record { name = n; content = content' }))) same;
        };
      }
