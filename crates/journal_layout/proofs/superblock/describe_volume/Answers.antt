use Rattle.std.proofs.Common.{◌≡◌, ◌*◌, ℕ, List, [], ◌∷◌, get_or, sym, ◌∙◌, ap, subst}
use Rattle.byteorder.specs.Endian.{little_bytes}
use Rattle.disk.specs.Image.{overwritten, part}
use Rattle.model.specs.Volume.{epoch_in, home_place, IsSuperblock, magic, number_at}
use Rattle.journal_layout.proofs.Formatted.{
  superblock_valid,
  blocks_are,
  epoch_is_1,
  label_is,
  second_is,
  segments_are,
  third_is,
  told_by_gates,
}
use Rattle.journal_layout.proofs.superblock.describe_volume.Goals as goal
use Rattle.journal_layout.proofs.superblock.describe_volume.Goals.{After-put_octets-3}

-- the six writes one after the other
written : (old a b c d e f label : List ℕ) (segments blocks second third : ℕ) → a ≡ overwritten 0 magic old
    → b ≡ overwritten 8 (little_bytes 4 1) a → c ≡ overwritten 12 (little_bytes 4 blocks) b
    → d ≡ overwritten 16 (little_bytes 4 segments) c → e ≡ overwritten 20 label d → f ≡ overwritten 148 (second ∷ third ∷ []) e
    → f ≡ overwritten 148 (second ∷ third ∷ [])
    (overwritten 20 label (overwritten 16 (little_bytes 4 segments)
    (overwritten 12 (little_bytes 4 blocks) (overwritten 8 (little_bytes 4 1) (overwritten 0 magic old)))))
written old a b c d e f label segments blocks second third ea eb ec ed ee ef =
    ef ∙ ap (λ (l : List ℕ). overwritten 148 (second ∷ third ∷ []) l)
    (ee ∙ ap (λ (l : List ℕ). overwritten 20 label l)
    (ed ∙ ap (λ (l : List ℕ). overwritten 16 (little_bytes 4 segments) l)
    (ec ∙ ap (λ (l : List ℕ). overwritten 12 (little_bytes 4 blocks) l)
    (eb ∙ ap (λ (l : List ℕ). overwritten 8 (little_bytes 4 1) l) ea))))

as_written : (c : After-put_octets-3) → c.put_octets-3.new.octets ≡ overwritten 148 (c.gate_2_of.result ∷ c.gate_3_of.result ∷ [])
    (overwritten 20 c.args.label.now (overwritten 16 (little_bytes 4 c.args.segments)
    (overwritten 12 (little_bytes 4 c.args.blocks) (overwritten 8 (little_bytes 4 1) (overwritten 0 magic c.args.octets.now)))))
as_written c =
    written c.args.octets.now _ _ _ _ _ _ c.args.label.now c.args.segments c.args.blocks c.gate_2_of.result c.gate_3_of.result
    c.put_octets.ensures c.put32.ensures c.put32-2.ensures c.put32-3.ensures c.put_octets-2.ensures c.put_octets-3.ensures

pub returns-clause-valid : goal.returns-clause-valid
returns-clause-valid c =
    subst (λ (b : List ℕ). IsSuperblock b (4096 * home_place c.args.segments c.args.blocks))
    (sym (as_written (goal.at.returns-clause-valid c).After-put_octets-3))
    (superblock_valid _ _ _ _ _ _ c.requires.segments c.requires.whole c.requires.zero c.requires.label c.requires.low c.requires.high)

pub returns-clause-blocks : goal.returns-clause-blocks
returns-clause-blocks c =
    ap (number_at 12 4) (as_written (goal.at.returns-clause-blocks c).After-put_octets-3) ∙ blocks_are _ _ _ _ _ _ c.requires.segments
    c.requires.whole c.requires.zero c.requires.label c.requires.low c.requires.high

pub returns-clause-label : goal.returns-clause-label
returns-clause-label c =
    ap (λ (b : List ℕ). part 20 128 b) (as_written (goal.at.returns-clause-label c).After-put_octets-3) ∙ label_is _ _ _ _ _ _
    c.requires.segments c.requires.whole c.requires.zero c.requires.label c.requires.low c.requires.high

pub returns-clause-segments : goal.returns-clause-segments
returns-clause-segments c =
    ap (number_at 16 4) (as_written (goal.at.returns-clause-segments c).After-put_octets-3) ∙ segments_are _ _ _ _ _ _ c.requires.segments
    c.requires.whole c.requires.zero c.requires.label c.requires.low c.requires.high

pub returns-clause-epoch : goal.returns-clause-epoch
returns-clause-epoch c =
    ap epoch_in (as_written (goal.at.returns-clause-epoch c).After-put_octets-3) ∙ epoch_is_1 _ _ _ _ _ _ c.requires.segments
    c.requires.whole c.requires.zero c.requires.label c.requires.low c.requires.high

pub returns-clause-format : goal.returns-clause-format
returns-clause-format c =
    let is = as_written (goal.at.returns-clause-format c).After-put_octets-3 in
    let second = ap (λ (b : List ℕ). get_or b 148 0) is ∙ second_is _ _ _ _ _ _ c.requires.segments c.requires.whole c.requires.zero
    c.requires.label c.requires.low c.requires.high ∙ c.gate_2_of.ensures in
    let third = ap (λ (b : List ℕ). get_or b 149 0) is ∙ third_is _ _ _ _ _ _ c.requires.segments c.requires.whole c.requires.zero
    c.requires.label c.requires.low c.requires.high ∙ c.gate_3_of.ensures in
    told_by_gates c.args.format c.put_octets-3.new.octets c.requires.format.0 c.requires.format.1 second third
