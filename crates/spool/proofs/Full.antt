-- The tests for room.
use Rattle.std.proofs.Common.{◌≡◌, ◌∷◌, length-append, ℕ, ◌+◌, ◌≤◌, Bool, true, false, List, [], length, map, refl, sym, ◌∙◌, ap, arith}
use Rattle.std.specs.Prelude.{nat_le, nat_lt, not, ◌||◌, if◌then◌else◌, Some, None}
use Rattle.std.specs.List.{range_with_len}
use Rattle.std.proofs.lemmas.List.{length-map}
use Rattle.std.proofs.lemmas.List.FromFn.{length-range_with_len}
use Rattle.std.proofs.lemmas.List.Sums.{count_by-le-length}
use Rattle.model.specs.Stream.{Octets}
use Rattle.model.specs.Files.{free_blocks, is_marked_used}
use Rattle.model.specs.Indexed.{GroupIndex, group_index}
use Rattle.model.specs.Room.{is_full, is_full_for}
use Rattle.model.specs.Spool.{Spool, groups, is_here}
use Rattle.model.specs.declared.change.Change.{Change}
use Rattle.model.specs.declared.change.Change.TheVariants.{Group, Expire}
use Rattle.model.specs.declared.change.Expiry.{Expiry}
use Rattle.model.specs.declared.change.NewGroup.{NewGroup}
use Rattle.spool.specs.Refusals.{expiry_refusal, group_refusal, has_number}
use Rattle.spool.specs.View.{Adds, SpoolView}
use Rattle.spool.specs.declared.errors.AddError.TheVariants as add
use Rattle.spool.specs.declared.errors.ExpireError.TheVariants as expire

pub or_true : (a b x : Bool) → a ≡ b → a ≡ true → a ≡ (b || x)
or_true a b x same is = is ∙ ap (λ (c : Bool). c || x) (sym is ∙ same)

pub or_false : (a b x y : Bool) → a ≡ b → a ≡ false → y ≡ x → y ≡ (b || x)
or_false a b x y same is other = other ∙ ap (λ (c : Bool). c || x) (sym is ∙ same)

parted : (a b n : Bool) → (a || (b || (false || n))) ≡ ((a || b) || n)
parted true b n = refl
parted false true n = refl
parted false false n = refl

parted_none : (a b : Bool) → (a || (b || (false || false))) ≡ (a || b)
parted_none true b = refl
parted_none false true = refl
parted_none false false = refl

-- no more blocks are free than there are
pub blocks_within : (blocks : List Octets) → free_blocks blocks ≤ length blocks
blocks_within blocks =
    omega (
      arith,
      count_by-le-length (λ b. not (is_marked_used blocks b)) (range_with_len 0 (length blocks)),
      length-range_with_len 0 (length blocks),
    )

-- blocks or inodes are too few
abbrev pub lacks : ℕ → ℕ → ℕ → Bool
lacks blocks inodes files = nat_lt blocks 256 || nat_lt inodes files

pub full_group : (blocks inodes : ℕ) (S : Spool) (g : NewGroup)
    → is_full_for blocks inodes S (Group g) ≡ (lacks blocks inodes 3 || nat_le 4096 (length (groups S)))
unfolding is_full_for
full_group blocks inodes S g = parted (nat_lt blocks 256) (nat_lt inodes 3) (nat_le 4096 (length (groups S)))

pub full_expiry : (blocks inodes : ℕ) (S : Spool) (e : Expiry) → is_full_for blocks inodes S (Expire e) ≡ lacks blocks inodes 1
unfolding is_full_for
full_expiry blocks inodes S e = parted_none (nat_lt blocks 256) (nat_lt inodes 1)

pub group_count : (S : Spool) (gs : List GroupIndex) → gs ≡ map (group_index S) (groups S) → length gs ≡ length (groups S)
group_count S gs is = ap (λ (l : List GroupIndex). length l) is ∙ length-map (groups S) (group_index S)

-- ---- refusals

pub group_refused : (s : SpoolView) (name : Octets) (c : Change) (here full : Bool) → is_here s.changes name ≡ here
    → is_full s.blocks s.inodes s.changes (Some c) ≡ full
    → group_refusal s name c ≡ (if here then Some add.Exists else if full then Some add.Full else None)
group_refused s name c here full named room = λ k. if named k then Some add.Exists else if room k then Some add.Full else None

pub expiry_refused : (s : SpoolView) (g : Octets) (n : ℕ) (has full : Bool) → has_number s.changes g n ≡ has
    → is_full s.blocks s.inodes s.changes (Some (Expire (record { group = g; number = n }))) ≡ full
    → expiry_refusal s g n ≡ (if has then (if full then Some expire.Full else None) else Some expire.NotFound)
expiry_refused s g n has full there room = λ k. if there k then (if room k then Some expire.Full else None) else Some expire.NotFound

-- the serial of the change that was added
pub last_serial : (old new : SpoolView) (c : Change) (len : ℕ) → Adds old new c → len ≡ length new.changes → len ≡ length old.changes + 1
last_serial old new c len adds is = omega (arith, is, ap (λ (S : Spool). length S) adds.changes, length-append old.changes (c ∷ []))
