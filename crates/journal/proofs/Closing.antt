-- The write of the other epoch: the octets that it leaves, in the content and in memory.
use Rattle.std.proofs.Common.{◌≡◌, inl, inr, ◌<◌, ◌≤◌, ℕ, ◌+◌, ◌*◌, ◌%◌, ◌/◌, Bool, true, false, eqb, List, [], ◌∷◌}
use Rattle.std.proofs.Common.{length}
use Rattle.std.proofs.Common.{cond, get_or, drop, refl, sym, ◌∙◌, ap, arith}
use Rattle.std.proofs.lemmas.Bool.{cond_both, eqb-true, eqb-false, true≢false}
use Rattle.std.proofs.lemmas.List.{ext_get_or}
use Rattle.std.proofs.Math.Seq.{drop-length}
use Rattle.disk.specs.Image.{Torn, overwritten, part}
use Rattle.disk.proofs.Images.{get_or-part, length-overwritten, overwritten_below, overwritten_inside, part-overwritten_apart}
use Rattle.disk.proofs.Images.{part-torn_apart}
use Rattle.journal_laws.specs.Held.{HeldBatch}
use Rattle.journal_laws.specs.Images.{SameBut}
use Rattle.journal.specs.Flight.{left_open}
use Rattle.model.specs.Volume.{block, epoch_in, epoch_of, format_in, other_epoch}

-- nothing is left open once all that close were written
pub left_none : (b : Bool) (k : ℕ) (held : List HeldBatch) → (b ≡ true → k ≡ 1) → (b ≡ false → k ≡ length held) → left_open b k held ≡ []
left_none true k held one each = ap (λ (i : ℕ). left_open true i held) (one refl)
left_none false k held one each = ap (λ (i : ℕ). drop i held) (each refl) ∙ drop-length held

-- images that differ in no block are the same
pub nothing_differs : (x y : List ℕ) → SameBut (λ k. ⊥) x y → y ≡ x
nothing_differs x y same = ext_get_or 0 y x same.size each
  where
    each : (i : ℕ) → i < length y → get_or y i 0 ≡ get_or x i 0
    each i within =
        let k = i / 4096 in
        let r = i % 4096 in
        let low : r < 4096 = omega arith in
        let is : 4096 * k + r ≡ i = omega arith in
        ap (λ (j : ℕ). get_or y j 0) (sym is) ∙ sym (get_or-part (4096 * k) 4096 y r 0 low)
        ∙ ap (λ (b : List ℕ). get_or b r 0) (same.same k (λ e. e))
        ∙ get_or-part (4096 * k) 4096 x r 0 low ∙ ap (λ (j : ℕ). get_or x j 0) is

-- the epoch is in the superblock
pub torn_epoch : (x c : List ℕ) → Torn 150 1 x c → SameBut (λ k. k ≡ 0) x c
torn_epoch x c torn = record {
  size = torn.size;
  same = λ k other. part-torn_apart 150 1 x c torn (4096 * k) 4096 (inr (omega (arith, other)));
}

-- an octet that is an epoch
abbrev pub IsEpoch : ℕ → Type 0
IsEpoch octet = (1 ≤ octet) × (octet ≤ 2)

pub epoch_is_one : (superblock : List ℕ) → IsEpoch (epoch_in superblock)
epoch_is_one superblock =
    cond_both (eqb (get_or superblock 150 0) 2) 2 1 IsEpoch (λ e. (omega arith, omega arith)) (λ e. (omega arith, omega arith))

pub other_is_epoch : (superblock : List ℕ) → IsEpoch (other_epoch (epoch_in superblock))
other_is_epoch superblock =
    cond_both (eqb (get_or superblock 150 0) 2) 2 1 (λ e. IsEpoch (other_epoch e)) (λ e. (omega arith, omega arith))
    (λ e. (omega arith, omega arith))

abbrev epoch_by : ℕ → ℕ
epoch_by octet = cond (eqb octet 2) 2 1

same_epoch : (octet : ℕ) → IsEpoch octet → epoch_by octet ≡ octet
same_epoch octet is = cond_both (eqb octet 2) 2 1 (λ k. k ≡ octet) (λ e. sym (eqb-true octet 2 e))
    (λ e. let other = eqb-false octet 2 e in omega (arith, other, is.0, is.1))

put_at : (octet : ℕ) (x : List ℕ) → 151 ≤ length x → get_or (overwritten 150 (octet ∷ []) x) 150 0 ≡ octet
put_at octet x fits = overwritten_inside 150 (octet ∷ []) x fits 150 0 (omega arith) (omega arith)

epoch_put_in : (octet : ℕ) (x : List ℕ) → 151 ≤ length x → IsEpoch octet → epoch_in (overwritten 150 (octet ∷ []) x) ≡ octet
epoch_put_in octet x fits is = ap epoch_by (put_at octet x fits) ∙ same_epoch octet is

pub epoch_written : (octet : ℕ) (x : List ℕ) → 151 ≤ length x → IsEpoch octet → epoch_of (overwritten 150 (octet ∷ []) x) ≡ octet
epoch_written octet x fits is =
    let first : get_or (block 0 (overwritten 150 (octet ∷ []) x)) 150 0 ≡ get_or (overwritten 150 (octet ∷ []) x) (0 + 150) 0 =
    get_or-part 0 4096 (overwritten 150 (octet ∷ []) x) 150 0 (omega arith) in
    ap epoch_by (first ∙ put_at octet x fits) ∙ same_epoch octet is

-- the superblock in memory after the write: that of before, but with the other epoch if the journal runs on
pub record HasEpoch (halted : Bool) (old new : List ℕ) : Type 0 where
  pub size : length new ≡ length old
  pub label : part 20 128 new ≡ part 20 128 old
  pub format : format_in new ≡ format_in old
  pub epoch : halted ≡ false → epoch_in new ≡ other_epoch (epoch_in old)

abbrev told_by : ℕ → ℕ → ℕ
told_by second third = cond (eqb third 3) 3 (cond (eqb second 2) 2 1)

pub epoch_put : (superblock : List ℕ) → 151 ≤ length superblock
    → HasEpoch false superblock (overwritten 150 (other_epoch (epoch_in superblock) ∷ []) superblock)
epoch_put superblock fits =
    let octets : List ℕ = other_epoch (epoch_in superblock) ∷ [] in
    record {
      size = length-overwritten 150 octets superblock fits;
      label = part-overwritten_apart 150 octets superblock fits 20 128 (inl (omega arith));
      format = ap (λ (n : ℕ). told_by n (get_or (overwritten 150 octets superblock) 149 0))
          (overwritten_below 150 octets superblock fits 148 0 (omega arith))
          ∙ ap (λ (n : ℕ). told_by (get_or superblock 148 0) n) (overwritten_below 150 octets superblock fits 149 0 (omega arith));
      epoch = λ runs. epoch_put_in (other_epoch (epoch_in superblock)) superblock fits (other_is_epoch superblock);
    }

pub epoch_same : (superblock : List ℕ) → HasEpoch true superblock superblock
epoch_same superblock = record { size = refl; label = refl; format = refl; epoch = λ runs. absurd (true≢false runs) }
