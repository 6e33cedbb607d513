-- What a command holds is in the grammar of its arguments.
use Rattle.std.specs.Prelude.{◌≡◌, ℕ, Bool, true, false, cond, ◌&&◌, ◌||◌, List, [], ◌∷◌, Option, Some, None, option_map, option_and_then}
use Rattle.std.specs.Prelude.{unwrap_or}
use Rattle.std.proofs.Common.{refl}
use Rattle.std.specs.List.{list_all}
use Rattle.std.proofs.lemmas.Bool.{and_parts}
use Rattle.model.specs.Commands.{command_of, fetch, list_of, list_with, listing_of}
use Rattle.model.specs.Commands.{newgroups_of, newnews_of, is_date_word, is_time_word, is_zone, keyword_of, parsed_by, parsed_line}
use Rattle.model.specs.Commands.{parsed_words, words}
use Rattle.model.specs.Names.{begins, is_blank, is_visible, is_group_name, is_message_id, is_wildmat, number_of}
use Rattle.model.specs.Names.{numbers_from, range_of}
use Rattle.model.specs.declared.command.Command.{Command}
use Rattle.model.specs.declared.command.Command.TheVariants as command
use Rattle.model.specs.declared.command.Keyword.{Keyword}
use Rattle.model.specs.declared.command.Keyword.TheVariants as keywords
use Rattle.model.specs.declared.command.Listing.{Listing}
use Rattle.model.specs.declared.command.Listing.TheVariants as listing
use Rattle.model.specs.declared.command.Parsed.TheVariants as parsed
use Rattle.model.specs.declared.command.Part.{Part}
use Rattle.model.specs.declared.command.Part.TheVariants as part
use Rattle.model.specs.declared.command.Range.{Range}
use Rattle.model.specs.declared.command.Selector.{Selector}
use Rattle.model.specs.declared.command.Selector.TheVariants as selector
use Rattle.model.specs.declared.command.Wanted.TheVariants as wanted
use Rattle.session_grammar.specs.Arguments.{IsInGrammar, IsListing, IsParsed, IsSelector, LinesAreInGrammar}

abbrev Holds : Option Command → Type 0
Holds None = Unit {0}
Holds (Some c) = IsInGrammar c

-- a command after a test
tested : (b : Bool) (o other : Option Command) → (b ≡ true → Holds o) → Holds other → Holds (cond b o other)
tested true o other holds rest = holds refl
tested false o other holds rest = rest

fetched : (p : Part) (s : Option Selector) → ((x : Selector) → s ≡ Some x → IsSelector x) → Holds (option_map (command.Fetch p) s)
fetched p None each = tt
fetched p (Some x) each = each x refl

is_selector : (word : List ℕ) (b : Bool) → is_message_id word ≡ b → (n : Option ℕ) (p : Part)
    → Holds (option_map (command.Fetch p) (cond b (Some (selector.Id word)) (option_map selector.Number n)))
is_selector word true is n p = is
is_selector word false is None p = tt
is_selector word false is (Some n) p = tt

fetch_holds : (p : Part) (ws : List (List ℕ)) → Holds (fetch p ws)
fetch_holds p [] = tt
fetch_holds p (word ∷ []) = is_selector word (is_message_id word) refl (number_of word) p
fetch_holds p (word ∷ w ∷ more) = tt

is_wanted : (word : List ℕ) (b : Bool) → is_message_id word ≡ b → (r : Option Range)
    → Holds (option_map command.Over (cond b (Some (wanted.Id word)) (option_map wanted.Range r)))
is_wanted word true is r = is
is_wanted word false is None = tt
is_wanted word false is (Some r) = tt

group_ranged : (name : List ℕ) (r : Option Range) → is_group_name name ≡ true → Holds (option_map (command.ListGroup (Some name)) r)
group_ranged name None is = tt
group_ranged name (Some r) is = is

list_holds : (w : Option (List ℕ)) → IsListing w → (l : Option Listing) → Holds (option_and_then (λ k. list_of k w) l)
list_holds w is None = tt
list_holds w is (Some listing.Active) = is
list_holds w is (Some listing.Times) = is
list_holds w is (Some listing.Newsgroups) = is
list_holds None is (Some listing.OverviewFormat) = tt
list_holds (Some w) is (Some listing.OverviewFormat) = tt

newgroups_holds : (day time : List ℕ) → Holds (newgroups_of day time)
newgroups_holds day time =
    tested (is_date_word day && is_time_word time) (Some (command.NewGroups day time)) None
    (λ is. and_parts (is_date_word day) (is_time_word time) is) tt

newnews_holds : (w day time : List ℕ) → Holds (newnews_of w day time)
newnews_holds w day time =
    tested (is_wildmat w && is_date_word day && is_time_word time) (Some (command.NewNews w day time)) None
    (λ is. let both = and_parts (is_wildmat w && is_date_word day) (is_time_word time) is in
    let first = and_parts (is_wildmat w) (is_date_word day) both.0 in (first.0, first.1, both.1)) tt

command_holds : (k : Keyword) (ws : List (List ℕ)) → Holds (command_of k ws)
command_holds keywords.Article ws = fetch_holds part.Whole ws
command_holds keywords.Head ws = fetch_holds part.Head ws
command_holds keywords.Body ws = fetch_holds part.Body ws
command_holds keywords.Stat ws = fetch_holds part.Nothing ws
command_holds keywords.Capabilities [] = tt
command_holds keywords.Capabilities (a ∷ []) = tt
command_holds keywords.Capabilities (a ∷ b ∷ more) = tt
command_holds keywords.Mode [] = tt
command_holds keywords.Mode (word ∷ []) = tested _ (Some command.ModeReader) None (λ is. tt) tt
command_holds keywords.Mode (a ∷ b ∷ more) = tt
command_holds keywords.Quit [] = tt
command_holds keywords.Quit (a ∷ more) = tt
command_holds keywords.Help [] = tt
command_holds keywords.Help (a ∷ more) = tt
command_holds keywords.Date [] = tt
command_holds keywords.Date (a ∷ more) = tt
command_holds keywords.Next [] = tt
command_holds keywords.Next (a ∷ more) = tt
command_holds keywords.Last [] = tt
command_holds keywords.Last (a ∷ more) = tt
command_holds keywords.Post [] = tt
command_holds keywords.Post (a ∷ more) = tt
command_holds keywords.Group [] = tt
command_holds keywords.Group (name ∷ []) = tested (is_group_name name) (Some (command.Group name)) None (λ is. is) tt
command_holds keywords.Group (a ∷ b ∷ more) = tt
command_holds keywords.ListGroup [] = tt
command_holds keywords.ListGroup (name ∷ []) =
    tested (is_group_name name) (option_map (command.ListGroup (Some name)) (Some (numbers_from 1))) None
    (λ is. group_ranged name (Some (numbers_from 1)) is) tt
command_holds keywords.ListGroup (name ∷ word ∷ []) =
    tested (is_group_name name) (option_map (command.ListGroup (Some name)) (range_of word)) None
    (λ is. group_ranged name (range_of word) is) tt
command_holds keywords.ListGroup (a ∷ b ∷ c ∷ more) = tt
command_holds keywords.Over [] = tt
command_holds keywords.Over (word ∷ []) = is_wanted word (is_message_id word) refl (range_of word)
command_holds keywords.Over (a ∷ b ∷ more) = tt
command_holds keywords.List [] = tt
command_holds keywords.List (word ∷ []) = list_holds None tt (listing_of word)
command_holds keywords.List (word ∷ w ∷ []) =
    tested (is_wildmat w) (list_with (Some w) word) None (λ is. list_holds (Some w) is (listing_of word)) tt
command_holds keywords.List (a ∷ b ∷ c ∷ more) = tt
command_holds keywords.NewGroups [] = tt
command_holds keywords.NewGroups (a ∷ []) = tt
command_holds keywords.NewGroups (day ∷ time ∷ zone) =
    tested (is_zone zone) (newgroups_of day time) None (λ is. newgroups_holds day time) tt
command_holds keywords.NewNews [] = tt
command_holds keywords.NewNews (a ∷ []) = tt
command_holds keywords.NewNews (a ∷ b ∷ []) = tt
command_holds keywords.NewNews (w ∷ day ∷ time ∷ zone) =
    tested (is_zone zone) (newnews_of w day time) None (λ is. newnews_holds w day time) tt
command_holds keywords.Ihave [] = tt
command_holds keywords.Ihave (id ∷ []) = tested (is_message_id id) (Some (command.Ihave id)) None (λ is. is) tt
command_holds keywords.Ihave (a ∷ b ∷ more) = tt

found_holds : (found : Option Command) → Holds found → IsParsed (unwrap_or (option_map parsed.Command found) parsed.Bad)
found_holds None holds = tt
found_holds (Some c) holds = holds

words_hold : (clean : Bool) (ws : List (List ℕ)) → IsParsed (parsed_words clean ws)
words_hold clean [] = tt
words_hold clean (word ∷ ws) = by_keyword clean (keyword_of word) where
  by_keyword : (b : Bool) (k : Option Keyword)
      → IsParsed (unwrap_or (option_map (λ keyword. parsed_by b keyword ws) k) parsed.Unknown)
  by_keyword b None = tt
  by_keyword true (Some k) = found_holds (command_of k ws) (command_holds k ws)
  by_keyword false (Some k) = tt

pub lines_are_in_grammar : LinesAreInGrammar
unfolding parsed_line
lines_are_in_grammar line = by_front (begins is_blank line) where
  by_front : (b : Bool) → IsParsed (cond b parsed.Unknown (parsed_words (list_all (λ c. is_blank c || is_visible c) line) (words line)))
  by_front true = tt
  by_front false = words_hold (list_all (λ c. is_blank c || is_visible c) line) (words line)
