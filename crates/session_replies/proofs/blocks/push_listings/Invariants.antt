use Rattle.std.proofs.Common.{◌≡◌, ◌∷◌, ◌++◌, take}
use Rattle.std.specs.Prelude.{flat_map}
use Rattle.model.specs.Commands.{listing_text}
use Rattle.session_replies.proofs.blocks.push_listings.Given as goal

-- the texts so far
abbrev pub invariant-loop-listing : goal.invariant-loop-listing
invariant-loop-listing l =
    l.reply.items ≡ l.initial.reply.items ++ flat_map (λ k. 32 ∷ listing_text k) (take l.listing-index l.listings)
