-- Whether the files of groups are too large for another article.
use Rattle.std.proofs.Common.{
  ◌≡◌,
  inl,
  inr,
  ◌<◌,
  ℕ,
  zero,
  suc,
  ◌-◌,
  ◌*◌,
  Bool,
  true,
  false,
  List,
  [],
  ◌∷◌,
  length,
  get_or,
  refl,
  sym,
  ◌∙◌,
  ap,
}
use Rattle.std.proofs.Common.{subst, arith}
use Rattle.std.specs.Prelude.{Some, None, nat_lt, option_map, ◌||◌, if◌then◌else◌}
use Rattle.std.specs.List.{list_any}
use Rattle.std.proofs.lemmas.Bool.{cases_lt, le-ltb, lt-ltb}
use Rattle.std.proofs.lemmas.List.{length-map}
use Rattle.model.specs.Stream.{Octets}
use Rattle.model.specs.Indexed.{GroupIndex, group_index}
use Rattle.model.specs.Files.{free_blocks, free_inodes}
use Rattle.model.specs.Room.{blocks_for_change, blocks_left, inodes_for_change, inodes_left, is_full, is_full_for, is_large}
use Rattle.model.specs.Spool.{Spool, NewsArticle, filed_in, group_named, high}
use Rattle.model.specs.SpoolFiles.{numbers_file, overview_file}
use Rattle.model.specs.Article.{groups_of}
use Rattle.model.specs.Lawful.{MayFile}
use Rattle.model.specs.declared.change.Change.{Change}
use Rattle.model.specs.declared.change.Change.TheVariants.{Article}
use Rattle.model.specs.declared.change.Filing.{Filing}
use Rattle.session_lookups.specs.declared.change_spool.FilingError.TheVariants as file
use Rattle.spool_opening.specs.Replayed.{AreHere}
use Rattle.spool_opening.proofs.Filed.{are_here}
use Rattle.spool.specs.Refusals.{article_refusal}
use Rattle.spool.specs.View.{SpoolView}
use Rattle.model.proofs.Indexing.{numbers_size}
use Rattle.spool_groups.specs.Filing.{end_of}
use Rattle.spool_index.proofs.Growing.{overview_size}
use Rattle.spool_index.proofs.LookUps.{group_is}
use Rattle.spool.proofs.Full.{lacks}

pub any_at : (p : Octets → Bool) (xs : List Octets) (k : ℕ) (d : Octets) → k < length xs → p (get_or xs k d) ≡ true → list_any p xs ≡ true
any_at p [] k d low passes = absurd (omega arith)
any_at p (x ∷ xs) zero d low passes = ap (λ (b : Bool). b || list_any p xs) passes
any_at p (x ∷ xs) (suc k) d low passes = over (p x) (any_at p xs k d (omega arith) passes) where
  over : (b : Bool) → list_any p xs ≡ true → (b || list_any p xs) ≡ true
  over true rest = refl
  over false rest = rest

-- by 16 octets for each number
pub numbers_large : (n : ℕ) → nat_lt 268434432 n ≡ nat_lt 4294950912 (16 * n)
numbers_large n = elim (cases_lt 268434432 n) [
  | inl more ↦ lt-ltb 268434432 n more ∙ sym (lt-ltb 4294950912 (16 * n) (omega (arith, more)))
  | inr few ↦ le-ltb 268434432 n few ∙ sym (le-ltb 4294950912 (16 * n) (omega (arith, few)))
]

-- a file of the group is too large
abbrev pub one_large : Spool → Octets → Bool
one_large S g = is_large (numbers_file S g) || is_large (overview_file S g)

pub large_group : (S : Spool) (name : Octets) (i : GroupIndex) → Some i ≡ option_map (group_index S) (group_named S name)
    → (nat_lt 4294950912 (16 * length i.filed) || nat_lt 4294950912 (end_of i)) ≡ one_large S name
large_group S name i is =
    let its = group_is S name i is in
    let count : length i.filed ≡ high S name =
    ap (λ (j : GroupIndex). length j.filed) its.its_index ∙ length-map (filed_in S its.group.name) (λ (a : NewsArticle). a.serial)
    ∙ ap (high S) its.its_name in
    let numbers : 16 * length i.filed ≡ length (numbers_file S name) = ap (λ (n : ℕ). 16 * n) count ∙ sym (numbers_size S name) in
    let overview : end_of i ≡ length (overview_file S name) = ap end_of its.its_index ∙ overview_size S its.group
    ∙ ap (λ (g : Octets). length (overview_file S g)) its.its_name in
    λ k. nat_lt 4294950912 (numbers k) || nat_lt 4294950912 (overview k)

-- ---- an article

parted : (a b x : Bool) → (a || (b || (x || false))) ≡ ((a || b) || x)
parted true b x = refl
parted false true x = refl
parted false false true = refl
parted false false false = refl

pub full_article : (blocks inodes : ℕ) (S : Spool) (f : Filing)
    → is_full_for blocks inodes S (Article f) ≡ (lacks blocks inodes 1 || list_any (one_large S) f.envelope.groups)
unfolding is_full_for
full_article blocks inodes S f = parted (nat_lt blocks 256) (nat_lt inodes 1) (list_any (one_large S) f.envelope.groups)

-- by what the article leaves to other changes
pub article_lacks : (v : SpoolView) (f : Filing) (count inodes blocks_kept inodes_kept : ℕ) (lacking : Bool) → count ≡ length v.blocks
    → inodes ≡ v.inodes → blocks_kept ≡ blocks_left count (Article f) → inodes_kept ≡ inodes_left inodes (Article f)
    → lacking ≡ lacks (free_blocks v.blocks - blocks_kept) (free_inodes v.inodes v.blocks - inodes_kept) 1
    → lacking ≡ lacks (blocks_for_change v.blocks (Article f)) (inodes_for_change v.blocks v.inodes (Article f)) 1
article_lacks v f count inodes blocks_kept inodes_kept lacking counted same blocks_are inodes_are is =
    let first : blocks_kept ≡ blocks_left (length v.blocks) (Article f) =
    blocks_are ∙ ap (λ (n : ℕ). blocks_left n (Article f)) counted in
    let second : inodes_kept ≡ inodes_left v.inodes (Article f) = inodes_are ∙ ap (λ (n : ℕ). inodes_left n (Article f)) same in
    is ∙ (λ k. lacks (free_blocks v.blocks - first k) (free_inodes v.inodes v.blocks - second k) 1)

pub article_refused : (s : SpoolView) (c : Change) (full : Bool) → is_full s.blocks s.inodes s.changes (Some c) ≡ full
    → article_refusal s c ≡ (if full then Some file.Full else None)
article_refused s c full room = ap (λ (b : Bool). if b then Some file.Full else None) room

-- the groups of an article that may be filed are here
pub are_filed : (host : Octets) (S : Spool) (f : Filing) → MayFile host S f → AreHere S f.envelope.groups
are_filed host S f may = subst (AreHere S) (sym may.filed) (are_here S (groups_of f.text))
