use Rattle.std.proofs.Common.{◌≡◌, ◌<◌, ◌≤◌, ◌^◌, ℕ, List, length, get_or, ◌∙◌, ap, arith}
use Rattle.std.specs.List.{All, flat_map}
use Rattle.std.proofs.lemmas.List.Elements.{All-from_get_or}
use Rattle.byteorder.specs.Endian.{little_bytes}
use Rattle.disk.specs.Image.{overwritten}
use Rattle.journal_layout.proofs.Numbers.{IsDescribed, described, is_described}
use Rattle.journal_layout.proofs.descriptor.describe.Goals as goal
use Rattle.journal_layout.proofs.descriptor.describe.Goals.{After-put_numbers}

-- the five writes one after the other
written : (old a b c d e : List ℕ) (number last : ℕ) (ns : List ℕ) → a ≡ overwritten 0 (little_bytes 8 number) old
    → b ≡ overwritten 8 (little_bytes 8 last) a → c ≡ overwritten 16 (little_bytes 4 (length ns)) b
    → d ≡ overwritten 20 (little_bytes 4 0) c → e ≡ overwritten 24 (flat_map (λ x. little_bytes 4 x) ns) d
    → (whole : length old ≡ 4096) (few : length ns ≤ 512) (small_number : number < 256 ^ 8) (small_last : last < 256 ^ 8)
    (small : All (λ n. n < 256 ^ 4) ns) → e ≡ described old number last ns whole few small_number small_last small
written old a b c d e number last ns ea eb ec ed ee whole few small_number small_last small =
    ee ∙ ap (λ (l : List ℕ). overwritten 24 (flat_map (λ x. little_bytes 4 x) ns) l)
    (ed ∙ ap (λ (l : List ℕ). overwritten 20 (little_bytes 4 0) l)
    (ec ∙ ap (λ (l : List ℕ). overwritten 16 (little_bytes 4 (length ns)) l)
    (eb ∙ ap (λ (l : List ℕ). overwritten 8 (little_bytes 8 last) l) ea)))

small_numbers : (ns : List ℕ) → ((k : ℕ) → get_or ns k 0 < 2 ^ 32) → All (λ n. n < 256 ^ 4) ns
small_numbers ns each = All-from_get_or (λ n. n < 256 ^ 4) ns 0 (λ k within. omega (arith, each k))

described_all : (c : After-put_numbers)
    → IsDescribed c.args.number c.args.last c.args.numbers.now c.args.descriptor.now c.put_numbers.new.octets
described_all c =
    let small = small_numbers c.args.numbers.now (λ k. omega (arith, c.type_inv.numbers k)) in
    let fits : c.args.last < 256 ^ 8 = omega (arith, c.ranges.last.fits) in
    let its_number : c.args.number < 256 ^ 8 = omega (arith, c.ranges.number.fits) in
    is_described c.args.descriptor.now c.args.number c.args.last c.args.numbers.now c.requires.whole c.requires.few its_number fits small _
    (written _ _ _ _ _ _ c.args.number c.args.last c.args.numbers.now c.put64.ensures c.put64-2.ensures c.put32.ensures c.put32-2.ensures
    c.put_numbers.ensures c.requires.whole c.requires.few its_number fits small)

pub returns-clause-number : goal.returns-clause-number
returns-clause-number c = (described_all (goal.at.returns-clause-number c).After-put_numbers).number_is

pub returns-clause-last : goal.returns-clause-last
returns-clause-last c = (described_all (goal.at.returns-clause-last c).After-put_numbers).last_is

pub returns-clause-count : goal.returns-clause-count
returns-clause-count c = (described_all (goal.at.returns-clause-count c).After-put_numbers).count

pub returns-clause-zero : goal.returns-clause-zero
returns-clause-zero c = (described_all (goal.at.returns-clause-zero c).After-put_numbers).zero

pub returns-clause-listed : goal.returns-clause-listed
returns-clause-listed c = (described_all (goal.at.returns-clause-listed c).After-put_numbers).listed_are

pub returns-clause-block : goal.returns-clause-block
returns-clause-block c = (described_all (goal.at.returns-clause-block c).After-put_numbers).block c.requires.clear
