use Rattle.std.proofs.Common.{◌≡◌, inr, ℕ, List, [], ◌∷◌, refl, sym, ◌∙◌, ap, subst}
use Rattle.byteorder.specs.Endian.{little_bytes}
use Rattle.disk.specs.Image.{overwritten}
use Rattle.model.specs.Volume.{magic}
use Rattle.journal_layout.proofs.Formatted.{blocks_are, epoch_is_1, label_is, length-superblock, second_is, segments_are, superblock}
use Rattle.journal_layout.proofs.Formatted.{superblock_valid, third_is, told_by_gates}
use Rattle.volume_new.specs.Formatting.{IsSuperblockOf}
use Rattle.volume_new.proofs.new_superblock.describe.Goals as goal

-- the six writes one after the other
written : (old a b c d e f label : List ℕ) (blocks second third : ℕ) → a ≡ overwritten 0 magic old → b ≡ overwritten 8 (little_bytes 4 1) a
    → c ≡ overwritten 12 (little_bytes 4 blocks) b → d ≡ overwritten 16 (little_bytes 4 8) c → e ≡ overwritten 20 label d
    → f ≡ overwritten 148 (second ∷ third ∷ []) e
    → f ≡ overwritten 148 (second ∷ third ∷ [])
    (overwritten 20 label (overwritten 16 (little_bytes 4 8)
    (overwritten 12 (little_bytes 4 blocks) (overwritten 8 (little_bytes 4 1) (overwritten 0 magic old)))))
written old a b c d e f label blocks second third ea eb ec ed ee ef =
    ef ∙ ap (λ (l : List ℕ). overwritten 148 (second ∷ third ∷ []) l)
    (ee ∙ ap (λ (l : List ℕ). overwritten 20 label l)
    (ed ∙ ap (λ (l : List ℕ). overwritten 16 (little_bytes 4 8) l)
    (ec ∙ ap (λ (l : List ℕ). overwritten 12 (little_bytes 4 blocks) l)
    (eb ∙ ap (λ (l : List ℕ). overwritten 8 (little_bytes 4 1) l) ea))))

pub returns : goal.returns
returns c =
    let old = c.args.octets.now in
    let label = c.args.label.now in
    let blocks = c.args.blocks in
    let second = c.gate_2_of.result in
    let third = c.gate_3_of.result in
    let q = c.requires in
    let its = superblock old label 8 blocks second third (inr refl) q.whole q.zero q.label q.low q.high in
    subst (λ (b : List ℕ). IsSuperblockOf blocks label c.args.format b)
    (sym (written old _ _ _ _ _ _ label blocks second third c.put_octets.ensures c.put32.ensures c.put32-2.ensures c.put32-3.ensures
    c.put_octets-2.ensures c.put_octets-3.ensures))
    (record {
      valid = superblock_valid old label 8 blocks second third (inr refl) q.whole q.zero q.label q.low q.high;
      has_blocks = blocks_are old label 8 blocks second third (inr refl) q.whole q.zero q.label q.low q.high;
      has_segments = segments_are old label 8 blocks second third (inr refl) q.whole q.zero q.label q.low q.high;
      has_label = label_is old label 8 blocks second third (inr refl) q.whole q.zero q.label q.low q.high;
      has_format = told_by_gates c.args.format its q.known.0 q.known.1
          (second_is old label 8 blocks second third (inr refl) q.whole q.zero q.label q.low q.high ∙ c.gate_2_of.ensures)
          (third_is old label 8 blocks second third (inr refl) q.whole q.zero q.label q.low q.high ∙ c.gate_3_of.ensures);
      has_epoch = epoch_is_1 old label 8 blocks second third (inr refl) q.whole q.zero q.label q.low q.high;
      size = length-superblock old label 8 blocks second third (inr refl) q.whole q.zero q.label q.low q.high;
    })
