-- What was read into memory, or taken into it, is a batch.
use Rattle.std.proofs.Common.{◌≡◌, ◌<◌, ◌≤◌, ℕ, ◌*◌, IsTrue, List, length, take, sym, ◌∙◌, ap, subst, arith, length-take}
use Rattle.std.specs.List.{All}
use Rattle.disk.specs.Device.{Device}
use Rattle.disk.proofs.Images.{length-part}
use Rattle.model.specs.Volume.{AreDistinct, IsDescriptor, block, blocks_from, descriptor_place, listed, number_at}
use Rattle.model.proofs.Blocks.{get_or-blocks_from}
use Rattle.journal_laws.proofs.Blocks.{length-blocks_from}
use Rattle.journal_segments.specs.Staged.{IsSound}
use Rattle.journal_segments.specs.Found.{AreLoaded, IsReadFrom}

pub sound_of : (blocks number last : ℕ) (ns octets : List ℕ) → 1 ≤ length ns → length ns ≤ 512 → All (λ n. n < blocks) ns
    → 4096 * length ns ≤ length octets
    → IsSound blocks (record { number = number; last = last; numbers = ns; images = blocks_from 0 (length ns) octets })
sound_of blocks number last ns octets some few below room = record {
  some = some;
  few = few;
  below = below;
  images = length-blocks_from 0 (length ns) octets;
  whole = λ i within.
      let inside : i < length ns = omega (arith, within, length-blocks_from 0 (length ns) octets) in
      ap length (get_or-blocks_from (length ns) i octets inside) ∙ length-part (4096 * i) 4096 octets (omega (arith, inside, room));
}

pub read_from : (device : Device) (blocks place count : ℕ) (descriptor numbers octets : List ℕ)
    → (length descriptor ≡ 4096) × (length numbers ≡ 512) × (length octets ≡ 2097152)
    → IsDescriptor blocks descriptor × (number_at 16 4 descriptor ≡ count) × (take count numbers ≡ listed descriptor)
    → (IsTrue device.tells → descriptor ≡ block (descriptor_place place) device.content)
    → (IsTrue device.tells → AreLoaded place count device.content octets)
    → IsReadFrom device blocks (record {
      place = place;
      descriptor = descriptor;
      numbers = take count numbers;
      images = blocks_from 0 (length (take count numbers)) octets;
    })
read_from device blocks place count descriptor numbers octets room valid value images =
    let few : count ≤ 512 = omega (arith, valid.0.few, valid.1) in
    let size : length (take count numbers) ≡ count = omega (arith, length-take count numbers, room.1, few) in
    record {
      staged = record {
        size = room.0;
        count = valid.1 ∙ sym size;
        zero = valid.0.zero;
        lists = sym valid.2;
        distinct = subst (λ (l : List ℕ). AreDistinct l) (sym valid.2) valid.0.distinct;
        sound = sound_of blocks (number_at 0 8 descriptor) (number_at 8 8 descriptor) (take count numbers) octets
            (omega (arith, valid.0.some, valid.1, size)) (omega (arith, few, size))
            (subst (λ (l : List ℕ). All (λ n. n < blocks) l) (sym valid.2) valid.0.below) (omega (arith, size, few, room.2));
      };
      descriptor = valid.0;
      written = λ t. record {
        descriptor_is = sym (value t);
        images_are = λ i within.
            let inside : i < length (take count numbers) =
            omega (arith, within, length-blocks_from 0 (length (take count numbers)) octets) in
            images t i (omega (arith, inside, size)) ∙ sym (get_or-blocks_from (length (take count numbers)) i octets inside);
      };
    }
