use Rattle.std.proofs.Common.{◌≡◌, ◌∷◌, ◌++◌, take}
use Rattle.std.specs.Prelude.{flat_map}
use Rattle.model.specs.Commands.{keyword_text}
use Rattle.session_replies.proofs.blocks.push_keywords.Given as goal

-- the texts so far
abbrev pub invariant-loop-keyword : goal.invariant-loop-keyword
invariant-loop-keyword l =
    l.reply.items ≡ l.initial.reply.items ++ flat_map (λ k. 32 ∷ keyword_text k) (take l.keyword-index l.keywords)
