-- The last octet of the magic, in images that a crash may leave.
use Rattle.std.proofs.Common.{◌≡◌, ◌⊎◌, inl, inr, ◌<◌, ◌≤◌, ℕ, ◌+◌, Bool, IsTrue, [], ◌∷◌, length, get_or, refl, sym, ◌∙◌, ap, subst, arith}
use Rattle.std.proofs.lemmas.Bool.{cases_eq, cases_lt}
use Rattle.std.proofs.lemmas.List.{ext_get_or, get_or-take}
use Rattle.disk.specs.Device.{Device, Elapses, IsTornImage, LeavesNoMore, LeavesOnly, LeftNoMore, LeftTornAt, TearsAt}
use Rattle.disk.specs.Image.{Torn}
use Rattle.disk.proofs.Devices.{elapses_then}
use Rattle.disk.proofs.Images.{get_or-part, length-overwritten, overwritten_above, overwritten_below, overwritten_inside}
use Rattle.journal_segments.specs.Found.{IsNoVolume}
use Rattle.model.specs.Stream.{Octets}
use Rattle.model.specs.Volume.{block}
use Rattle.volume_new.specs.Formatting.{AllLackMagic, LacksMagic, LeavesItOut, LeftOr, completed}

-- ---- images

-- without that octet an image is no volume
pub no_volume : (image : Octets) → LacksMagic image → IsNoVolume image
no_volume image lacks label blocks stands =
    lacks (sym (get_or-part 0 4096 image 7 0 (omega arith)) ∙ sym (get_or-take 8 (block 0 image) 7 0 (omega arith))
    ∙ ap (λ (octets : Octets). get_or octets 7 0) stands.has_superblock.begins)

-- an image torn beside it
pub lacks_torn : (at n : ℕ) (old new : Octets) → (at + n ≤ 7) ⊎ (8 ≤ at) → Torn at n old new → LacksMagic old → LacksMagic new
lacks_torn at n old new (inl low) torn lacks = λ is. lacks (sym (torn.above 7 (omega arith)) ∙ is)
lacks_torn at n old new (inr high) torn lacks = λ is. lacks (sym (torn.below 7 (omega arith)) ∙ is)

-- an image torn there lacks it, or is complete
pub torn_end : (old new : Octets) → 8 ≤ length old → Torn 7 1 old new → LacksMagic new ⊎ (new ≡ completed old)
torn_end old new room torn = elim (cases_eq (get_or new 7 0) 49) [
  | inl is ↦ inr (ext_get_or 0 new (completed old) (torn.size ∙ sym (length-overwritten 7 (49 ∷ []) old fits)) (each is))
  | inr other ↦ inl other
]
  where
    fits : 7 + length {A = ℕ} (49 ∷ []) ≤ length old
    fits = omega (arith, room)

    each : get_or new 7 0 ≡ 49 → (k : ℕ) → k < length new → get_or new k 0 ≡ get_or (completed old) k 0
    each is k within = elim (cases_lt k 7) [
      | inl low ↦ torn.below k low ∙ sym (overwritten_below 7 (49 ∷ []) old fits k 0 low)
      | inr high ↦ elim (cases_eq k 7) [
        | inl here ↦ ap (λ (n : ℕ). get_or new n 0) here ∙ is
            ∙ sym (ap (λ (n : ℕ). get_or (completed old) n 0) here
            ∙ overwritten_inside 7 (49 ∷ []) old fits 7 0 (omega arith) (omega arith))
        | inr other ↦ torn.above k (omega (arith, high, other))
            ∙ sym (overwritten_above 7 (49 ∷ []) old fits k 0 (omega (arith, high, other)))
      ]
    ]

-- an image that has it is complete already
pub complete : (image : Octets) → 8 ≤ length image → (LacksMagic image → ⊥) → completed image ≡ image
complete image room has = ext_get_or 0 (completed image) image (length-overwritten 7 (49 ∷ []) image fits) each
  where
    fits : 7 + length {A = ℕ} (49 ∷ []) ≤ length image
    fits = omega (arith, room)

    its : get_or image 7 0 ≡ 49
    its = elim (cases_eq (get_or image 7 0) 49) [
      | inl is ↦ is
      | inr other ↦ absurd (has other)
    ]

    each : (k : ℕ) → k < length (completed image) → get_or (completed image) k 0 ≡ get_or image k 0
    each k within = elim (cases_lt k 7) [
      | inl low ↦ overwritten_below 7 (49 ∷ []) image fits k 0 low
      | inr high ↦ elim (cases_eq k 7) [
        | inl here ↦ ap (λ (n : ℕ). get_or (completed image) n 0) here
            ∙ overwritten_inside 7 (49 ∷ []) image fits 7 0 (omega arith) (omega arith) ∙ sym (ap (λ (n : ℕ). get_or image n 0) here ∙ its)
        | inr other ↦ overwritten_above 7 (49 ∷ []) image fits k 0 (omega (arith, high, other))
      ]
    ]

-- ---- what might have been left

pub left_then : (P : Octets → Type 0) (a b c : Device) → Elapses a b → LeftOr P a b → LeftOr P b c → LeftOr P a c
left_then P a b c time first second tells t image le left =
    elim (second (subst (λ (x : Bool). IsTrue x) (sym time.tells) tells) t image (omega (arith, le, time.later)) left) [
      | inl was ↦ first tells t image le was
      | inr is ↦ inr is
    ]

pub left_weaker : (P Q : Octets → Type 0) (a b : Device) → (IsTrue a.tells → (image : Octets) → P image → Q image) → LeftOr P a b
    → LeftOr Q a b
left_weaker P Q a b more or tells t image le left = elim (or tells t image le left) [
  | inl was ↦ inl was
  | inr is ↦ inr (more tells image is)
]

pub left_none : (P : Octets → Type 0) (a : Device) → LeftOr P a a
left_none P a tells t image le left = inl left

pub left_quiet : (P : Octets → Type 0) (a b : Device) → LeftNoMore a b → LeftOr P a b
left_quiet P a b quiet tells t image le left = inl (quiet tells t image le left)

-- a write where each torn image is one of these
pub left_torn : (P : Octets → Type 0) (at n : ℕ) (a b : Device) → LeftTornAt at n a b
    → ((image : Octets) → IsTornImage at n a image → P image) → LeftOr P a b
left_torn P at n a b torn each tells t image le left = elim (torn tells t image le left) [
  | inl was ↦ inl was
  | inr here ↦ inr (each image here)
]

-- a write over the octet, where it is there, on a device that was synced
pub left_over : (a b : Device) (content : Octets) → (IsTrue a.tells → 8 ≤ length content) → (IsTrue a.tells → LeavesOnly a content)
    → (IsTrue a.tells → LacksMagic content → ⊥) → (IsTrue a.tells → (t : ℕ) → t ≤ a.clock → a.left_since t content)
    → LeftTornAt 7 1 a b → LeftOr LacksMagic a b
left_over a b content room only has kept torn tells t image le left = elim (torn tells t image le left) [
  | inl was ↦ inl was
  | inr here ↦
      let is : here.0 ≡ content = only tells here.0 here.1 in
      elim (torn_end content image (room tells) (subst (λ (d : Octets). Torn 7 1 d image) is here.2)) [
        | inl lacks ↦ inr lacks
        | inr whole ↦ inl (subst (a.left_since t) (sym (whole ∙ complete content (room tells) (has tells))) (kept tells t le))
      ]
]

-- a write of the octet on a device that was synced
pub left_last : (a b : Device) (content : Octets) → (IsTrue a.tells → 8 ≤ length content) → (IsTrue a.tells → LeavesOnly a content)
    → LeftTornAt 7 1 a b → LeftOr (λ image. LacksMagic image ⊎ (image ≡ completed content)) a b
left_last a b content room only torn tells t image le left = elim (torn tells t image le left) [
  | inl was ↦ inl was
  | inr here ↦
      let is : here.0 ≡ content = only tells here.0 here.1 in
      inr (torn_end content image (room tells) (subst (λ (d : Octets). Torn 7 1 d image) is here.2))
]

-- ---- calls that leave it out

pub out_none : (a : Device) → LeavesItOut a a
out_none a = record {
  time = record { size = refl; tells = refl; later = omega arith };
  all = λ t lack. lack;
  since = λ lack. left_none LacksMagic a;
}

pub out_then : (a b c : Device) → LeavesItOut a b → LeavesItOut b c → LeavesItOut a c
out_then a b c first second = record {
  time = elapses_then a b c first.time second.time;
  all = λ t lack. second.all (subst (λ (x : Bool). IsTrue x) (sym first.time.tells) t) (first.all t lack);
  since = λ lack t. left_then LacksMagic a b c first.time (first.since lack)
      (second.since (first.all t lack)) t;
}

-- a write beside it
pub out_beside : (at n : ℕ) (a b : Device) → (at + n ≤ 7) ⊎ (8 ≤ at) → Elapses a b → TearsAt at n a b
    → LeftTornAt at n a b → LeavesItOut a b
out_beside at n a b beside time crash since = record {
  time = time;
  all = λ t lack image left. let torn = crash t image left in lacks_torn at n torn.0 image beside torn.2 (lack torn.0 torn.1);
  since = λ lack. left_torn LacksMagic at n a b since (λ image torn. lacks_torn at n torn.0 image beside torn.2 (lack torn.0 torn.1));
}

-- a call that writes nothing
pub out_quiet : (a b : Device) → Elapses a b → LeavesNoMore a b → LeftNoMore a b → LeavesItOut a b
out_quiet a b time crash since = record {
  time = time;
  all = λ t lack image left. lack image (crash t image left);
  since = λ lack. left_quiet LacksMagic a b since;
}

-- after calls that leave each image without it
pub left_out : (a b c : Device) → Elapses a b → (IsTrue a.tells → AllLackMagic b) → LeavesItOut b c → LeftOr LacksMagic a b
    → LeftOr LacksMagic a c
left_out a b c time lack out first =
    left_then LacksMagic a b c time first (λ t. out.since (lack (subst (λ (x : Bool). IsTrue x) time.tells t)) t)
