-- The groups of a spool that have numbers.
use Rattle.std.proofs.Common.{◌≡◌, ◌≤◌, ℕ, List, length, refl, sym, ap, subst, arith}
use Rattle.std.specs.Prelude.{IsSome, Option, Some, None}
use Rattle.model.specs.Indexed.{ArePlaces, FilePlaces}
use Rattle.model.specs.Spool.{Spool, NewsGroup, group_named, high, low}
use Rattle.model.specs.Stream.{Octets}
use Rattle.model.proofs.Growing.{new_has_nothing}
use Rattle.model.proofs.HoldsOne.{changes_few}
use Rattle.session_lookups.specs.Held.{article_with}
use Rattle.spool_index.specs.View.{IndexView}
use Rattle.kernel_outbox.specs.declared.made_lines.Lines.{Lines}
use Rattle.spool_texts.specs.Overviews.{KeepsArticle}
use Rattle.spool_texts.specs.Parts.{HasLines, HasRange, IsStored, KeepsLines}
use Rattle.journal_volume.specs.Volume.{VolumeView}
use Rattle.spool_growing.specs.Kept.{IsKept}

module _ (host : Octets) (inodes : ℕ) (volume : VolumeView) (index : IndexView) (places : FilePlaces) (S : Spool)
    (kept : IsKept host inodes volume index places S) where
  -- what is seen are the blocks of the cache
  placed_there : ArePlaces inodes volume.seen S places
  placed_there = subst (λ (blocks : List Octets). ArePlaces inodes blocks S places) (sym kept.seen) kept.placed

  -- a group with a number is here
  here : (group : Octets) (from to : ℕ) → low S group ≤ from → from ≤ to → to ≤ high S group → IsSome (group_named S group)
  here group from to above order below = by_name (group_named S group) refl where
    by_name : (o : Option NewsGroup) → group_named S group ≡ o → IsSome o
    by_name (Some g) is = refl
    by_name None is = absurd (omega (arith, above, order, below, ap length (new_has_nothing host S group kept.is.held.lawful is)))

  stored : IsStored S
  stored = record {
    host = host;
    lawful = kept.is.held.lawful;
    few = omega (arith, changes_few host inodes volume.cache S kept.is.held, kept.is.room.few);
  }

  pub has_range : (group : Octets) (from to : ℕ) → low S group ≤ from → from ≤ to → to ≤ high S group → HasRange index group from to
  has_range group from to above order below =
      record {
        changes = S;
        stored = stored;
        indexed = kept.indexed;
        here = here group from to above order below;
        first = omega (arith, above);
        order = order;
        high = below;
      }

  pub keeps_article : (serial : ℕ) → IsSome (article_with S serial) → KeepsArticle inodes volume.seen index places serial
  keeps_article serial there =
      record {
        has = record { changes = S; stored = stored; indexed = kept.indexed; there = there };
        placed = placed_there;
      }

  pub keeps_lines : (lines : Lines) → HasLines S lines → KeepsLines inodes volume.seen index places lines
  keeps_lines lines has =
      record { changes = S; stored = stored; indexed = kept.indexed; placed = placed_there; has = has }
