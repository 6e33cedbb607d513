-- The calls of the file system, as calls on lists of files.
use Rattle.std.proofs.Common.{◌≡◌, ◌≢◌, inl, inr, ◌<◌, ◌≤◌, ℕ, suc, ◌+◌, List, [], ◌∷◌, ◌++◌, length, get_or, set, refl, sym, ◌∙◌, ap}
use Rattle.std.proofs.Common.{subst, arith}
use Rattle.std.specs.Prelude.{Option, Some, None, IsPermutation}
use Rattle.std.proofs.lemmas.List.{append-nil, append_assoc, get_or-set_same, get_or-set_other}
use Rattle.std.proofs.lemmas.List.Sums.{sum_by-append}
use Rattle.std.proofs.lemmas.Bool.{cases_eq}
use Rattle.model.specs.Stream.{Octets}
use Rattle.model.specs.Files.{File, HasRoom, IsFile, IsFileSystem, entry, files_in, free_blocks, size, table, largest_file}
use Rattle.model.specs.Asked.{blocks_taken}
use Rattle.model.specs.FileCalls.{FileCall, Create, Append, after_call, after_calls}
use Rattle.model.specs.Packs.{pack_name}
use Rattle.model.proofs.Asking.{files_grow_by_blocks}
use Rattle.model.proofs.Counting.{used_and_free}
use Rattle.model.proofs.Inodes.{appends_to_one, creates_one}
use Rattle.model.proofs.Owning.{content_size}
use Rattle.model.proofs.Growing.{calls_after}
use Rattle.fs.specs.Calls.{Creates, HasNoFreeInode, IsFileAt}
use Rattle.fs.specs.Changes.{SameMarks}
use Rattle.fs.specs.Growing.{GrowsBy, HasRoomFor}
use Rattle.fs_inodes.proofs.Grown.{file_after, one_content, one_name}
use Rattle.fs_layout.proofs.Marking.{same_free}
use Rattle.fs_layout.specs.Marks.{NoneFreeBelow}
use Rattle.fs_layout.proofs.Tables.{length-table, named_from_there}
use Rattle.spool_growing.specs.Calls.{AppendsAt, AreUsed, Calls, CreatesAt, IsKnown, IsPackAt, MakesAt, SameFilesBut, blocks_for_more}
use Rattle.spool_growing.specs.declared.file_calls.Free.{Free}
use Rattle.model.specs.Indexed.{KeepsFiles}
use Rattle.spool_growing.proofs.Taken.{creates, inodes_taken}

-- ---- calls after calls

pub kept_twice : (old mid new : List (Option File)) → KeepsFiles old mid → KeepsFiles mid new → KeepsFiles old new
kept_twice old mid new first second k f there =
    let one = first k f there in
    let two = second k (record { name = f.name; content = f.content ++ one.0 }) one.1 in
    (one.0 ++ two.0, two.1 ∙ ap (λ (o : Octets). Some (record { name = f.name; content = o })) (append_assoc f.content one.0 two.0))

pub calls_then : (inodes : ℕ) (calls more : List FileCall) (old mid new : List Octets) → Calls inodes calls old mid
    → Calls inodes more mid new → Calls inodes (calls ++ more) old new
calls_then inodes calls more old mid new first second = record {
  count = second.count ∙ first.count;
  room = second.room;
  rule = second.rule;
  files = λ files same. subst (λ (fs : List File). IsPermutation (files_in (table inodes new)) fs) (sym (calls_after files calls more))
      (second.files (after_calls files calls) (first.files files same));
  keeps = kept_twice (table inodes old) (table inodes mid) (table inodes new) first.keeps second.keeps;
  marks = λ b low is. second.marks b (omega (arith, low, first.count)) (first.marks b low is);
  free = omega (arith, first.free, second.free, sum_by-append blocks_taken calls more);
}

pub no_calls : (inodes : ℕ) (blocks : List Octets) → HasRoom inodes blocks → IsFileSystem inodes blocks → Calls inodes [] blocks blocks
no_calls inodes blocks room rule = record {
  count = refl;
  room = room;
  rule = rule;
  files = λ files same. same;
  keeps = λ k f there. ([], there ∙ ap (λ (o : Octets). Some (record { name = f.name; content = o })) (sym (append-nil f.content)));
  marks = λ b low is. is;
  free = omega arith;
}

-- no block is given up
pub still_none : (n inodes : ℕ) (calls : List FileCall) (old new : List Octets) → Calls inodes calls old new → NoneFreeBelow n old
    → NoneFreeBelow n new
still_none n inodes calls old new made none b less low =
    made.marks b (omega (arith, low, made.room.count_few)) (none b less (omega (arith, low, made.count)))

-- ---- one inode has another file

others_same : (inodes at : ℕ) (file : Option File) (old new : List Octets) → table inodes new ≡ set (table inodes old) at file
    → SameFilesBut inodes at old new
others_same inodes at file old new is k other = ap (λ (t : List (Option File)). get_or t k None) is
    ∙ get_or-set_other (table inodes old) at k file None other

here : (inodes at : ℕ) (file : File) (old new : List Octets) → table inodes new ≡ set (table inodes old) at (Some file)
    → at < length (table inodes old) → get_or (table inodes new) at None ≡ Some file
here inodes at file old new is low = ap (λ (t : List (Option File)). get_or t at None) is
    ∙ get_or-set_same (table inodes old) at (Some file) None low

kept_others : (inodes at : ℕ) (old new : List Octets) → SameFilesBut inodes at old new
    → ((f : File) → get_or (table inodes old) at None ≡ Some f
    → (more : Octets) × (get_or (table inodes new) at None ≡ Some (record { name = f.name; content = f.content ++ more })))
    → KeepsFiles (table inodes old) (table inodes new)
kept_others inodes at old new others its k f there = elim (cases_eq k at) [
  | inl same ↦ subst
      (λ (j : ℕ). (more : Octets) × (get_or (table inodes new) j None ≡ Some (record { name = f.name; content = f.content ++ more })))
      (sym same) (its f (subst (λ (j : ℕ). get_or (table inodes old) j None ≡ Some f) same there))
  | inr other ↦ (
    [],
    others k other ∙ there ∙ ap (λ (o : Octets). Some (record { name = f.name; content = o })) (sym (append-nil f.content)),
  )
]

-- an inode that has a file keeps it
pub still_used : (n : ℕ) (old new : List (Option File)) → KeepsFiles old new → AreUsed n old → AreUsed n new
still_used n old new keeps used k less none = by_file (get_or old k None) refl where
  by_file : (o : Option File) → get_or old k None ≡ o → ⊥
  by_file None is = used k less is
  by_file (Some f) is =
      let kept = (keeps k f is).1 in
      cc

-- ---- a new file

pub created : (inodes : ℕ) (name : Octets) (at : ℕ) (old new : List Octets) → Creates inodes name at old new → SameMarks old new
    → CreatesAt inodes at name old new
created inodes name at old new made marks =
    let others = others_same inodes at (Some (record { name = name; content = [] })) old new made.makes.files_are in
    let low : at < length (table inodes old) = omega (arith, made.below, length-table inodes old) in
    record {
      calls = record {
        count = marks.count;
        room = made.makes.room;
        rule = made.makes.rule;
        files = λ files same. subst (λ (t : List (Option File)). IsPermutation (files_in t) (after_call files (Create name)))
            (sym made.makes.files_are) (creates_one files (table inodes old) at name low made.free same);
        keeps = kept_others inodes at old new others (λ f there. absurd (let free = made.free in cc));
        marks = λ b low is. marks.marks b low ∙ is;
        free = omega (
          arith,
          same_free old new marks.count
              (λ b less. marks.marks b (omega (arith, less, made.makes.room.count_few, marks.count))),
        );
      };
      there = here inodes at (record { name = name; content = [] }) old new made.makes.files_are low;
      others = others;
      used = λ k less none. made.lowest k less (sym (others k (λ same. omega (arith, less, same))) ∙ none);
    }

all_there : (inodes : List (Option File)) → ((k : ℕ) → k < length inodes → get_or inodes k None ≢ None)
    → length inodes ≤ length (files_in inodes)
all_there [] all = omega arith
all_there (None ∷ inodes) all = absurd (all 0 (omega arith) refl)
all_there (Some f ∷ inodes) all = omega (arith, all_there inodes (λ k low. all (suc k) (omega arith)))

pub not_all : (inodes : ℕ) (blocks : List Octets) → HasNoFreeInode inodes blocks → length (files_in (table inodes blocks)) < inodes → ⊥
not_all inodes blocks none few =
    omega (
      arith,
      few,
      length-table inodes blocks,
      all_there (table inodes blocks) (λ k low. none k (omega (arith, low, length-table inodes blocks))),
    )

-- ---- octets at the end of a file

module _ (inodes at : ℕ) (blocks : List Octets) (room : HasRoom inodes blocks) (rule : IsFileSystem inodes blocks) (name content : Octets)
    (there : IsFileAt (table inodes blocks) at name content) where
  pub is_below : at < inodes
  is_below = (named_from_there inodes blocks rule at name content there).below

  pub is_file : IsFile (entry inodes blocks at)
  is_file = (named_from_there inodes blocks rule at name content there).file

  pub its_size : size (entry inodes blocks at) ≡ length content
  its_size =
      let its = named_from_there inodes blocks rule at name content there in
      sym (content_size blocks (entry inodes blocks at) room.blocks_whole (λ b owns. (rule.within at b its.below owns).1))
      ∙ ap (λ (o : Octets). length o) (sym its.content_is)

  pub has_room : (more : ℕ) → length content + more ≤ largest_file → blocks_for_more more ≤ free_blocks blocks
      → HasRoomFor blocks (size (entry inodes blocks at)) (size (entry inodes blocks at) + more)
  has_room more small free =
      subst (λ (n : ℕ). HasRoomFor blocks n (n + more)) (sym its_size) (
        small,
        omega (arith, files_grow_by_blocks (length content) more, free),
      )

pub appended : (inodes at : ℕ) (octets : Octets) (old new : List Octets) → IsFileSystem inodes old → GrowsBy inodes at octets old new
    → AppendsAt inodes at octets old new
appended inodes at octets old new rule grown =
    let others = others_same inodes at (Some (record { name = grown.name; content = grown.was ++ octets })) old new grown.makes.files_are in
    let now = file_after inodes at octets old new grown in
    record {
      name = grown.name;
      content = grown.was;
      was = grown.there;
      calls = record {
        count = grown.count;
        room = grown.makes.room;
        rule = grown.makes.rule;
        files = λ files same. subst (λ (t : List (Option File)). IsPermutation (files_in t) (after_call files (Append grown.name octets)))
            (sym grown.makes.files_are) (appends_to_one files inodes old at grown.name grown.was octets rule grown.there same);
        keeps = kept_others inodes at old new others (λ f there.
            let both : Some f ≡ Some (record { name = grown.name; content = grown.was }) = sym there ∙ grown.there in
            let one : f ≡ record { name = grown.name; content = grown.was } = cc in (
              octets,
              now ∙ ap (λ (g : File). Some (record { name = g.name; content = g.content ++ octets })) (sym one),
            ));
        marks = grown.kept;
        free = omega (arith, grown.free, files_grow_by_blocks (length grown.was) (length octets));
      };
      there = now;
      others = others;
    }

-- ---- what is known of free blocks and inodes, and of the pack

-- the pack stays in its inode
pack_kept : (old new : List (Option File)) (pack : Option ℕ) → KeepsFiles old new → ((k : ℕ) → pack ≡ Some k → IsPackAt old k)
    → (k : ℕ) → pack ≡ Some k → IsPackAt new k
pack_kept old new pack keeps known k is =
    let was = known k is in
    let now = keeps k (record { name = pack_name; content = was.0 }) was.1 in
    (was.0 ++ now.0, now.1)

pub known_created : (inodes : ℕ) (name : Octets) (at : ℕ) (free : Free) (left : ℕ) (old new : List Octets) → HasRoom inodes old
    → IsFileSystem inodes old → Creates inodes name at old new → SameMarks old new → left + 1 ≡ free.inodes → IsKnown inodes free old
    → IsKnown inodes (record free { inode = at; inodes = left }) new
unfolding creates
known_created inodes name at free left old new room rule made marks is known =
    let its = created inodes name at old new made marks in
    record {
      used = its.used;
      none = still_none free.block inodes (Create name ∷ []) old new its.calls known.none;
      left = omega (arith, is, known.left, inodes_taken inodes (Create name ∷ []) old new its.calls room rule);
      count = known.count ∙ sym (same_free old new marks.count
          (λ b less. marks.marks b (omega (arith, less, made.makes.room.count_few, marks.count))));
      pack = pack_kept (table inodes old) (table inodes new) free.pack its.calls.keeps known.pack;
    }

-- an inode is free, since there are fewer files than inodes
pub one_is_left : (inodes : ℕ) (free : Free) (blocks : List Octets) → HasRoom inodes blocks → IsFileSystem inodes blocks
    → length (files_in (table inodes blocks)) < inodes → IsKnown inodes free blocks → 1 ≤ free.inodes
one_is_left inodes free blocks room rule few known = omega (arith, few, known.left, used_and_free inodes blocks room rule)

pub known_appended : (inodes at : ℕ) (octets : Octets) (free : Free) (left : ℕ) (old new : List Octets) → HasRoom inodes old
    → IsFileSystem inodes old → AppendsAt inodes at octets old new → left ≡ free_blocks new → IsKnown inodes free old
    → IsKnown inodes (record free { blocks = left }) new
unfolding creates
known_appended inodes at octets free left old new room rule appends is known = record {
  used = still_used free.inode (table inodes old) (table inodes new) appends.calls.keeps known.used;
  none = still_none free.block inodes (Append appends.name octets ∷ []) old new appends.calls known.none;
  left = omega (arith, known.left, inodes_taken inodes (Append appends.name octets ∷ []) old new appends.calls room rule);
  count = is;
  pack = pack_kept (table inodes old) (table inodes new) free.pack appends.calls.keeps known.pack;
}

-- ---- a new file with octets

pub made : (inodes at : ℕ) (name octets : Octets) (old mid new : List Octets) → CreatesAt inodes at name old mid
    → AppendsAt inodes at octets mid new → MakesAt inodes at name octets old new
made inodes at name octets old mid new creates appends =
    let named : appends.name ≡ name = one_name (table inodes mid) at appends.name name appends.content [] appends.was creates.there in
    let empty : appends.content ≡ [] = one_content (table inodes mid) at appends.name name appends.content [] appends.was creates.there in
    record {
      calls = calls_then inodes (Create name ∷ []) (Append name octets ∷ []) old mid new creates.calls
          (subst (λ (q : Octets). Calls inodes (Append q octets ∷ []) mid new) named appends.calls);
      there = subst (λ (q : Octets). IsFileAt (table inodes new) at q octets) named
          (subst (λ (o : Octets). IsFileAt (table inodes new) at appends.name (o ++ octets)) empty appends.there);
      others = λ k other. appends.others k other ∙ creates.others k other;
      used = still_used at (table inodes mid) (table inodes new) appends.calls.keeps creates.used;
    }
