-- The words after a keyword.
use Rattle.std.specs.Prelude.{◌≡◌, ℕ, List, [], ◌∷◌}
use Rattle.session_grammar.specs.declared.command_words.Arguments.{Arguments}
use Rattle.session_grammar.specs.declared.command_words.Arguments.TheVariants as arguments

-- at least five words
pub record HasFive (words : List (List ℕ)) : Type 0 where
  pub first : List ℕ
  pub second : List ℕ
  pub third : List ℕ
  pub fourth : List ℕ
  pub fifth : List ℕ
  pub more : List (List ℕ)
  pub is : words ≡ first ∷ second ∷ third ∷ fourth ∷ fifth ∷ more

-- the arguments are these words
abbrev pub Says : Arguments → List (List ℕ) → Type 0
Says arguments.None words = words ≡ []
Says (arguments.One a) words = words ≡ a.now ∷ []
Says (arguments.Two a b) words = words ≡ a.now ∷ b.now ∷ []
Says (arguments.Three a b c) words = words ≡ a.now ∷ b.now ∷ c.now ∷ []
Says (arguments.Four a b c d) words = words ≡ a.now ∷ b.now ∷ c.now ∷ d.now ∷ []
Says arguments.More words = HasFive words

-- words that the arguments stand for; too many count as five
abbrev pub words_of : Arguments → List (List ℕ)
words_of arguments.None = []
words_of (arguments.One a) = a.now ∷ []
words_of (arguments.Two a b) = a.now ∷ b.now ∷ []
words_of (arguments.Three a b c) = a.now ∷ b.now ∷ c.now ∷ []
words_of (arguments.Four a b c d) = a.now ∷ b.now ∷ c.now ∷ d.now ∷ []
words_of arguments.More = [] ∷ [] ∷ [] ∷ [] ∷ [] ∷ []
