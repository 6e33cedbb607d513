-- What a reader holds of the octets of a batch.
use Rattle.std.specs.Prelude.{ℕ, ◌+◌, ◌-◌, ◌^◌, min}
use Rattle.text_rnews.specs.Batch as batch
use Rattle.text_rnews.specs.Batch.{Unread}
use Rattle.text_rnews.specs.declared.reader.Member.{Member}
use Rattle.text_rnews.specs.declared.reader.Member.TheVariants.{Text, TooLong}

-- what is not read yet, and the number of octets of the batch before that, up to 2^64 - 1
pub record Held : Type 0 where
  pub unread : Unread
  pub place : ℕ

-- a place this many octets further on
abbrev pub counted : ℕ → ℕ → ℕ
counted place count = min (place + count) (2 ^ 64 - 1)

-- the member that a reader hands out
abbrev pub handed_out : Member → batch.Member
handed_out (Text octets) = batch.text octets.items
handed_out (TooLong size) = batch.too_long size
