-- What a line is, by its first word and the words after it.
use Rattle.std.specs.Prelude.{◌≡◌, ℕ, Bool, true, false, ◌||◌, List, [], ◌∷◌, Option, Some, None, option_map, unwrap_or}
use Rattle.std.specs.List.{list_all}
use Rattle.std.proofs.Common.{◌∙◌, ap, sym, refl}
use Rattle.std.proofs.lemmas.Bool.{cond-true, cond-false}
use Rattle.model.specs.Commands as commands
use Rattle.model.specs.Commands.{parsed_by, parsed_line, parsed_words, words, command_of}
use Rattle.model.specs.Names.{begins, is_blank, is_visible}
use Rattle.model.specs.declared.command.Command.{Command}
use Rattle.model.specs.declared.command.Keyword.{Keyword}
use Rattle.model.specs.declared.command.Keyword.TheVariants as keywords
use Rattle.model.specs.declared.command.Parsed.TheVariants as parsed
use Rattle.session_grammar.specs.declared.command_words.Arguments.{Arguments}
use Rattle.session_grammar.specs.declared.command_words.Arguments.TheVariants as arguments
use Rattle.session_grammar.specs.Words.{Says, words_of}

-- too many words count as five
five_words : (keyword : Keyword) (a b c d e : List ℕ) (more : List (List ℕ)) → command_of keyword (a ∷ b ∷ c ∷ d ∷ e ∷ more) ≡ None
five_words keywords.Article a b c d e more = refl
five_words keywords.Body a b c d e more = refl
five_words keywords.Capabilities a b c d e more = refl
five_words keywords.Date a b c d e more = refl
five_words keywords.Group a b c d e more = refl
five_words keywords.Head a b c d e more = refl
five_words keywords.Help a b c d e more = refl
five_words keywords.Ihave a b c d e more = refl
five_words keywords.Last a b c d e more = refl
five_words keywords.List a b c d e more = refl
five_words keywords.ListGroup a b c d e more = refl
five_words keywords.Mode a b c d e more = refl
five_words keywords.NewGroups a b c d e more = refl
five_words keywords.NewNews a b c d e more = refl
five_words keywords.Next a b c d e more = refl
five_words keywords.Over a b c d e more = refl
five_words keywords.Post a b c d e more = refl
five_words keywords.Quit a b c d e more = refl
five_words keywords.Stat a b c d e more = refl

-- the arguments give the command of their words
pub command_of_words : (keyword : Keyword) (given : Arguments) (ws : List (List ℕ)) → Says given ws
    → command_of keyword (words_of given) ≡ command_of keyword ws
command_of_words keyword arguments.None ws says = ap (command_of keyword) (sym says)
command_of_words keyword (arguments.One a) ws says = ap (command_of keyword) (sym says)
command_of_words keyword (arguments.Two a b) ws says = ap (command_of keyword) (sym says)
command_of_words keyword (arguments.Three a b c) ws says = ap (command_of keyword) (sym says)
command_of_words keyword (arguments.Four a b c d) ws says = ap (command_of keyword) (sym says)
command_of_words keyword arguments.More ws says =
    five_words keyword [] [] [] [] [] []
    ∙ sym (five_words keyword says.first says.second says.third says.fourth says.fifth says.more)
    ∙ ap (command_of keyword) (sym says.is)

module _ (line : List ℕ) where
  abbrev clean : Bool
  clean = list_all (λ c. is_blank c || is_visible c) line

  -- a line that begins with a blank is unknown
  pub line-blank : true ≡ begins is_blank line → parsed.Unknown ≡ parsed_line line
  unfolding parsed_line
  line-blank blank = sym (cond-true (begins is_blank line) parsed.Unknown (parsed_words clean (words line)) (sym blank))

  line-words : false ≡ begins is_blank line → parsed_line line ≡ parsed_words clean (words line)
  unfolding parsed_line
  line-words plain = cond-false (begins is_blank line) parsed.Unknown (parsed_words clean (words line)) (sym plain)

  module _ (plain : false ≡ begins is_blank line) where
    -- a line without words is unknown
    pub line-empty : words line ≡ [] → parsed.Unknown ≡ parsed_line line
    line-empty none = sym (line-words plain ∙ ap (parsed_words clean) none)

    module _ (word : List ℕ) (rest : List (List ℕ)) (is : words line ≡ word ∷ rest) where
      -- a line whose first word is no keyword is unknown
      pub line-unknown : None ≡ commands.keyword_of word → parsed.Unknown ≡ parsed_line line
      line-unknown none =
          ap (λ o. unwrap_or (option_map (λ keyword. parsed_by clean keyword rest) o) parsed.Unknown) none
          ∙ sym (line-words plain ∙ ap (parsed_words clean) is)

      module _ (keyword : Keyword) (known : Some keyword ≡ commands.keyword_of word) where
        line-known : parsed_by clean keyword rest ≡ parsed_line line
        line-known =
            ap (λ o. unwrap_or (option_map (λ k. parsed_by clean k rest) o) parsed.Unknown) known
            ∙ sym (line-words plain ∙ ap (parsed_words clean) is)

        -- an octet that may not stand in a line makes a line with a keyword bad
        pub line-unclean : false ≡ clean → parsed.Bad ≡ parsed_line line
        line-unclean unclean =
            sym (cond-false clean (unwrap_or (option_map parsed.Command (command_of keyword rest)) parsed.Bad) parsed.Bad (sym unclean))
            ∙ line-known

        -- any other line is the command of its keyword and words, or bad
        pub line-clean : true ≡ clean → (found : Option Command) → found ≡ command_of keyword rest
            → unwrap_or (option_map parsed.Command found) parsed.Bad ≡ parsed_line line
        line-clean all found same =
            ap (λ o. unwrap_or (option_map parsed.Command o) parsed.Bad) same
            ∙ sym (cond-true clean (unwrap_or (option_map parsed.Command (command_of keyword rest)) parsed.Bad) parsed.Bad (sym all))
            ∙ line-known
