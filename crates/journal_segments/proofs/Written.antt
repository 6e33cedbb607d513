-- What stands in a segment, and what is in memory of it.
use Rattle.std.proofs.Common.{◌≡◌, ◌<◌, ◌≤◌, ℕ, List, length, take, sym, ◌∙◌, arith}
use Rattle.std.proofs.lemmas.List.{ext_get_or, get_or-take, length-take-le}
use Rattle.model.specs.Volume.{batch_in, number_at}
use Rattle.journal_laws.specs.Held.{IsWrittenIn}
use Rattle.journal_laws.proofs.Writing.{batch_written}
use Rattle.journal_segments.specs.Staged.{IsStaged, Staged, held_as, none_staged, staged_at}

-- lists that are the same up to a place
pub take_same : (room after : List Staged) (n : ℕ) → length after ≡ length room → n ≤ length room
    → ((t : ℕ) → t < n → staged_at after t ≡ staged_at room t) → take n after ≡ take n room
take_same room after n size few same =
    ext_get_or none_staged (take n after) (take n room) (length-take-le n after (omega (arith, size, few))
    ∙ sym (length-take-le n room few))
    (λ t within.
    let low : t < n = omega (arith, within, length-take-le n after (omega (arith, size, few))) in
    get_or-take n after t none_staged low ∙ same t low ∙ sym (get_or-take n room t none_staged low))

-- the batch that stands in the segment is the one in memory
module _ (s : Staged) (blocks : ℕ) (staged : IsStaged blocks s) (x : List ℕ) (written : IsWrittenIn s.place s.descriptor s.images x) where
  pub batch_is : batch_in s.place x ≡ (held_as s).batch
  batch_is =
      batch_written s.place s.descriptor s.images x written (staged.count ∙ sym staged.sound.images)
      ∙ (λ j. record {
        number = number_at 0 8 s.descriptor;
        last = number_at 8 8 s.descriptor;
        numbers = staged.lists j;
        images = s.images;
      })
