-- An image stands for one spool.
use Rattle.std.proofs.Common.{◌≡◌, ◌≢◌, ◌≤◌, ◌-◌, ℕ, Bool, true, false, cond, eqb, List, [], length, get_or, replicate}
use Rattle.std.proofs.Common.{refl, sym, ◌∙◌, ap, subst, arith}
use Rattle.std.proofs.lemmas.List.Elements.{All-nil}
use Rattle.model.specs.Stream.{Octets}
use Rattle.model.specs.Files.{File, files_in, largest_file_one}
use Rattle.model.specs.Layout.{AreOfFormat, IsLabel, Holds}
use Rattle.model.specs.Packs.{HasNoPack, pack_name}
use Rattle.model.specs.Spool.{entries}
use Rattle.model.specs.SpoolFiles.{files_of}
use Rattle.model.specs.Laws.Layout.{ImagesStandForOne, VersionIsOne, EmptyVolumesStand, FormatsMayRise}
use Rattle.model.specs.Volume.{StandsFor, block, format_in}
use Rattle.model.proofs.HoldsOne.{empty_none, holds_one, none_there}
use Rattle.model.proofs.Strings.{counted_split, little_split}

-- a label says one host and one number of inodes
pub label_says : (label : Octets) (n inodes inodes' : ℕ) (host other : Octets) → IsLabel label n inodes host → IsLabel label n inodes' other
    → (inodes ≡ inodes') × (host ≡ other)
label_says label n inodes inodes' host other a b =
    let same = sym a.octets ∙ b.octets in
    let parts = little_split 4 inodes inodes' _ _ (omega (arith, a.few)) (omega (arith, b.few)) same in
    let hosts = counted_split host other (replicate (123 - length host) 0) (replicate (123 - length other) 0) parts.1 in
    (parts.0, hosts.0)

pub images_one : ImagesStandForOne
images_one host other image S R a b =
    let labels : a.label ≡ b.label = sym a.volume.has_label ∙ b.volume.has_label in
    let blocks : b.blocks ≡ a.blocks = sym b.volume.has_blocks ∙ a.volume.has_blocks in
    let label : IsLabel a.label (length a.blocks) b.inodes other =
    subst (λ (p : Octets × List Octets). IsLabel p.0 (length p.1) b.inodes other) (λ i. (sym labels i, blocks i)) b.labelled in
    let same = label_says a.label (length a.blocks) a.inodes b.inodes host other a.labelled label in
    let held : Holds other a.inodes a.blocks R =
    subst (λ (p : ℕ × List Octets). Holds other p.0 p.1 R) (λ i. (sym same.0 i, blocks i)) b.held.held in
    (same.1, holds_one host other a.inodes a.blocks S R a.labelled.few a.held.held held)

pub version_one : VersionIsOne
version_one host image S a = a.volume.has_superblock.version_is

none_of_format : AreOfFormat 1 (files_of [])
unfolding files_of entries
none_of_format first = All-nil (λ (file : File). length file.content ≤ largest_file_one)

pub empty_stands : EmptyVolumesStand
empty_stands host image label inodes blocks volume labelled rule empty = record {
  label = label;
  inodes = inodes;
  blocks = blocks;
  volume = volume;
  labelled = labelled;
  held = record {
    held = empty_none host inodes blocks rule empty;
    no_pack = λ le. subst HasNoPack (sym (ap files_in empty ∙ none_there inodes)) (All-nil (λ (file : File). file.name ≢ pack_name));
    of_format = λ first. none_of_format refl;
  };
}

-- a format is at least 1 and at most 3
abbrev chosen : Bool → Bool → ℕ
chosen third second = cond third 3 (cond second 2 1)

some_chosen : (third second : Bool) → (1 ≤ chosen third second) × (chosen third second ≤ 3)
some_chosen true second = (omega arith, omega arith)
some_chosen false true = (omega arith, omega arith)
some_chosen false false = (omega arith, omega arith)

pub some_format : (x : List ℕ) → 1 ≤ format_in x
some_format x = (some_chosen (eqb (get_or x 149 0) 3) (eqb (get_or x 148 0) 2)).0

pub few_format : (x : List ℕ) → format_in x ≤ 3
few_format x = (some_chosen (eqb (get_or x 149 0) 3) (eqb (get_or x 148 0) 2)).1

-- a format is 1 if it is at most a format that is 1
no_less : (x y : List ℕ) → format_in x ≤ format_in y → format_in y ≡ 1 → format_in x ≡ 1
no_less x y le is = omega (arith, some_format x, le, is)

pub rise_stands : FormatsMayRise
rise_stands host old new label blocks S volume same le s =
    let labels : s.label ≡ label = sym s.volume.has_label ∙ volume.has_label in
    let its_blocks : s.blocks ≡ blocks = sym s.volume.has_blocks ∙ volume.has_blocks in
    record {
      label = s.label;
      inodes = s.inodes;
      blocks = s.blocks;
      volume = subst (λ (p : Octets × List Octets). StandsFor new p.0 p.1) (λ i. (sym labels i, sym its_blocks i)) same;
      labelled = s.labelled;
      held = record {
        held = s.held.held;
        no_pack = λ few. s.held.no_pack (omega (arith, le, few));
        of_format = λ first. s.held.of_format (no_less (block 0 old) (block 0 new) le first);
      };
    }
