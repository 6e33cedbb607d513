-- What the callers of the pushes know: laws for their premises.
use Rattle.std.proofs.Common.{◌≡◌, ◌^◌, ℕ, zero, suc, ◌<◌, ◌≤◌, List, [], ◌∷◌, length, map, get_or, refl, sym, ◌∙◌, ap, subst, arith}
use Rattle.std.proofs.Common.{inl, inr, Bool, true, false, cond, eqb, eq-eqb}
use Rattle.std.specs.Prelude.{Option, Some, None, Contains, IsPermutation, bytes_eq, filter, find, flat_map, nat_le, ◌&&◌, ◌||◌}
use Rattle.std.specs.List.{list_all, list_any, range_with_len}
use Rattle.std.proofs.lemmas.Bool.{and_parts, leb-true, or_from}
use Rattle.std.proofs.lemmas.List.{length-take}
use Rattle.std.proofs.lemmas.List.FromFn.{get_or-map-range_with_len, length-map-range_with_len}
use Rattle.std.proofs.lemmas.Option.{same_Some}
use Rattle.model.specs.Stream.{Octets}
use Rattle.model.specs.Article.{Carried, are_distinct, groups_of}
use Rattle.model.specs.Files.{File, HoldsFiles, content_of, entry, file_at, files_in, kind, size, table, largest_file}
use Rattle.model.specs.Indexed.{GroupIndex, group_index}
use Rattle.model.specs.Layout.{Holds}
use Rattle.model.specs.Lawful.{MayFile}
use Rattle.model.specs.Names.{is_group_name}
use Rattle.model.specs.Spool.{Spool, NewsGroup, group_named, groups, is_here, is_name}
use Rattle.model.specs.SpoolFiles.{files_of, overview_file, overview_name}
use Rattle.model.specs.declared.change.Filing.{Filing}
use Rattle.model.proofs.PackedGrowing.{not_of_index}
use Rattle.model.proofs.Packing.{stored_beside}
use Rattle.model.proofs.ByKind.{overview_there}
use Rattle.model.proofs.HoldsOne.{carried_cause}
use Rattle.model.proofs.Ids.{no_cause}
use Rattle.model.proofs.Joined.{bytes_swap, map_twice}
use Rattle.model.proofs.Owning.{free_kind}
use Rattle.spool_groups.specs.Filing.{EndBelow, end_of}
use Rattle.spool_groups.specs.Naming.{heads}
use Rattle.spool_index.specs.View.{IndexView, Indexes}
use Rattle.spool_index.proofs.Growing.{overview_size}

-- ---- a new group

lacks : (name : Octets) (gs : List NewsGroup) → find (λ (g : NewsGroup). is_name name g.name) gs ≡ None
    → list_any (bytes_eq name) (map (λ (g : NewsGroup). g.name) gs) ≡ false
lacks name [] none = refl
lacks name (g ∷ gs) none = by_test (bytes_eq g.name name) refl none (lacks name gs) where
  by_test : (b : Bool) → bytes_eq g.name name ≡ b → cond b (Some g) (find (λ (h : NewsGroup). is_name name h.name) gs) ≡ None
      → (find (λ (h : NewsGroup). is_name name h.name) gs ≡ None → list_any (bytes_eq name) (map (λ (h : NewsGroup). h.name) gs) ≡ false)
      → (bytes_eq name g.name || list_any (bytes_eq name) (map (λ (h : NewsGroup). h.name) gs)) ≡ false
  by_test true at is rest = absurd (cc)
  by_test false at is rest = or_from (bytes_eq name g.name) (list_any (bytes_eq name) (map (λ (h : NewsGroup). h.name) gs))
      (bytes_swap g.name name at) (rest is)

-- what `push_group` asks for, by `MayMake`
pub no_head : (S : Spool) (x : IndexView) (name : Octets) → Indexes S x → group_named S name ≡ None
    → list_any (bytes_eq name) (heads x.groups) ≡ false
unfolding group_named
no_head S x name is none =
    ap (λ (gs : List GroupIndex). list_any (bytes_eq name) (heads gs)) is.groups_are
    ∙ ap (list_any (bytes_eq name)) (map_twice (λ (i : GroupIndex). i.group.name) (group_index S) (groups S))
    ∙ lacks name (groups S) none

-- ---- a new article

fewer : (p : Octets → Bool) (names : List Octets) → length (filter p names) ≤ length names
fewer p [] = omega arith
fewer p (n ∷ names) = by_test (p n) (fewer p names) where
  by_test : (b : Bool) → length (filter p names) ≤ length names → length (cond b (n ∷ filter p names) (filter p names)) ≤ suc (length names)
  by_test true rest = omega arith
  by_test false rest = omega arith

-- what `push_article` asks for, by `MayFile`
pub few_groups : (host : Octets) (S : Spool) (f : Filing) → MayFile host S f → length f.envelope.groups ≤ 16
few_groups host S f may =
    let names = groups_of f.text in
    let good = and_parts (nat_le (length names) 16 && list_all is_group_name names) (are_distinct names)
    (no_cause Carried f.text (carried_cause f.text may.carried)).good_groups in
    let few : length names ≤ 16 =
    leb-true (length names) 16 (and_parts (nat_le (length names) 16) (list_all is_group_name names) good.0).0 in
    let count : length f.envelope.groups ≡ length (filter (is_here S) names) = ap (λ (l : List Octets). length l) may.filed in
    omega (arith, few, count, fewer (is_here S) names)

-- ---- overviews that blocks hold

-- a file that is held has the octets of an inode
record IsHeld (inodes : ℕ) (blocks : List Octets) (f : File) : Type 0 where
  pub at : ℕ
  pub low : at < inodes
  pub its : file_at inodes blocks at ≡ Some f

record IsAt (t : List (Option File)) (f : File) : Type 0 where
  pub at : ℕ
  pub low : at < length t
  pub its : (d : Option File) → get_or t at d ≡ Some f

one_on : (o : Option File) (t : List (Option File)) (f : File) → IsAt t f → IsAt (o ∷ t) f
one_on o t f later = record { at = suc later.at; low = (let small = later.low in omega (arith, small)); its = later.its }

in_table : (t : List (Option File)) (f : File) → Contains (files_in t) f → IsAt t f
in_table [] f among = let low = among.1 in absurd (omega (arith, low))
in_table (None ∷ t) f among = one_on None t f (in_table t f among)
in_table (Some h ∷ t) f among = by_place among.0 among.1 among.2 (λ later. in_table t f later) where
  by_place : (k : ℕ) → k < length (h ∷ files_in t) → get_or (h ∷ files_in t) k f ≡ f → (Contains (files_in t) f → IsAt t f)
      → IsAt (Some h ∷ t) f
  by_place zero low at rest = record { at = 0; low = omega arith; its = λ d. ap Some at }
  by_place (suc k) low at rest = one_on (Some h) t f (rest (k, (omega arith), at))

held_at : (inodes : ℕ) (blocks : List Octets) (f : File) → Contains (files_in (table inodes blocks)) f → IsHeld inodes blocks f
held_at inodes blocks f among =
    let its = in_table (table inodes blocks) f among in
    let low : its.at < inodes = (let small = its.low in
    omega (arith, small, length-map-range_with_len (λ k. file_at inodes blocks k) 0 inodes)) in
    record {
      at = its.at;
      low = low;
      its = sym (get_or-map-range_with_len (λ k. file_at inodes blocks k) 0 inodes its.at its.at None low (omega arith)) ∙ its.its None;
    }

small_file : (inodes : ℕ) (blocks : List Octets) (files : List File) (f : File) → HoldsFiles inodes blocks files → IsHeld inodes blocks f
    → length f.content ≤ largest_file
small_file inodes blocks files f holds held = elim (holds.rule.each held.at held.low) [
  | inl free ↦ absurd (none_there (kind (entry inodes blocks held.at)) (free_kind (entry inodes blocks held.at) free) held.its)
  | inr file ↦ (let fits = file.small in let few = its_size (eqb (kind (entry inodes blocks held.at)) 0) held.its in
      omega (arith, fits, few))
]
  where
    none_there : (n : ℕ) → n ≡ 0 → cond (eqb n 0) None
        (Some (record {
          name = Rattle.model.specs.Files.name_in (Rattle.model.specs.Files.slot_of inodes blocks held.at);
          content = content_of blocks (entry inodes blocks held.at);
        })) ≡ Some f → ⊥
    none_there n zero_is same = absurd (let none : None ≡ Some f =
        ap (λ (b : Bool). cond b None (Some
        (record {
          name = Rattle.model.specs.Files.name_in (Rattle.model.specs.Files.slot_of inodes blocks held.at);
          content = content_of blocks (entry inodes blocks held.at);
        }))) (sym (eq-eqb n 0 zero_is)) ∙ same in cc)

    its_size : (b : Bool) → cond b None
        (Some (record {
          name = Rattle.model.specs.Files.name_in (Rattle.model.specs.Files.slot_of inodes blocks held.at);
          content = content_of blocks (entry inodes blocks held.at);
        })) ≡ Some f → length f.content ≤ size (entry inodes blocks held.at)
    its_size true same = absurd (cc)
    its_size false same =
        let one : record {
          name = Rattle.model.specs.Files.name_in (Rattle.model.specs.Files.slot_of inodes blocks held.at);
          content = content_of blocks (entry inodes blocks held.at);
        } ≡ f = cc in
        let long : length (content_of blocks (entry inodes blocks held.at)) ≡ length f.content = ap (λ (g : File). length g.content) one in
        omega (
          arith,
          long,
          length-take (size (entry inodes blocks held.at))
              (flat_map (λ i. Rattle.std.specs.Prelude.slice_index_or blocks
              (Rattle.model.specs.Files.pointer (entry inodes blocks held.at) i) [])
              (range_with_len 0 (Rattle.model.specs.Files.block_count (entry inodes blocks held.at)))),
        )

pub overview_small : (host : Octets) (inodes : ℕ) (blocks : List Octets) (S : Spool) (g : NewsGroup) → Holds host inodes blocks S
    → Contains (groups S) g → length (overview_file S g.name) ≤ largest_file
overview_small host inodes blocks S g holds among =
    let f : File = record { name = overview_name g.name; content = overview_file S g.name } in
    let there : Contains holds.files f =
    stored_beside holds.files (files_of S) holds.same f (overview_there S g among)
    (λ one. not_of_index f 111 (46 ∷ g.name) one (λ e. omega arith) (λ e. omega arith) refl) in
    small_file inodes blocks holds.files f holds.held
    (held_at inodes blocks f (subst (λ (fs : List File). Contains fs f) holds.held.contents there))

ends_among : (S : Spool) (gs : List NewsGroup) (limit k : ℕ) (i : GroupIndex)
    → ((g : NewsGroup) → Contains gs g → length (overview_file S g.name) < limit)
    → Rattle.std.specs.Prelude.slice_get (map (group_index S) gs) k ≡ Some i → end_of i < limit
ends_among S [] limit k i small at = absurd (cc)
ends_among S (g ∷ gs) limit zero i small at =
    let one : group_index S g ≡ i = same_Some (group_index S g) i at in
    let its = overview_size S g in
    let few = small g (0, (omega arith), refl) in
    let same : end_of (group_index S g) ≡ end_of i = ap end_of one in
    omega (arith, its, few, same)
ends_among S (g ∷ gs) limit (suc k) i small at =
    ends_among S gs limit k i (λ h among. small h (suc among.0, (let low = among.1 in omega (arith, low)), among.2)) at

-- what `push_article` asks for, of a spool that blocks hold
pub overviews_end : (host : Octets) (inodes : ℕ) (blocks : List Octets) (S : Spool) (x : IndexView) → Holds host inodes blocks S
    → Indexes S x → EndBelow (2 ^ 32) x.groups
overviews_end host inodes blocks S x holds is k i at =
    ends_among S (groups S) (2 ^ 32) k i (λ g among. let few = overview_small host inodes blocks S g holds among in omega (arith, few))
    (ap (λ (gs : List GroupIndex). Rattle.std.specs.Prelude.slice_get gs k) (sym is.groups_are) ∙ at)
