use Rattle.std.proofs.Common.{◌≡◌, ℕ, List, length, take, ◌∙◌, ap, refl}
use Rattle.std.proofs.lemmas.List.{take_at}
use Rattle.model.specs.Volume.{blocks_from}
use Rattle.journal_laws.proofs.Blocks.{blocks_from_front}
use Rattle.journal_segments.proofs.segment.Segment.take_batch.Goals as goal

pub returns : goal.returns
returns c =
    let numbers : take (length c.args.numbers.now) c.put_front.new.room.items ≡ c.args.numbers.now =
    ap (λ (l : List ℕ). take (length c.args.numbers.now) l) c.put_front.ensures
    ∙ take_at c.args.numbers.now _ (length c.args.numbers.now) refl in
    record {
      place_is = refl;
      size = c.describe_batch.ensures.size;
      descriptor_is = c.describe_batch.ensures.block;
      number_is = c.describe_batch.ensures.number;
      last_is = c.describe_batch.ensures.last;
      count = c.describe_batch.ensures.count;
      zero = c.describe_batch.ensures.zero;
      lists = c.describe_batch.ensures.listed;
      numbers_are = numbers;
      images_are =
          ap (λ (l : List ℕ). blocks_from 0 (length l) c.put_front-2.new.room.items) numbers
          ∙ ap (λ (l : List ℕ). blocks_from 0 (length c.args.numbers.now) l) c.put_front-2.ensures
          ∙ blocks_from_front (length c.args.numbers.now) c.args.images.now _ c.requires.images;
    }
