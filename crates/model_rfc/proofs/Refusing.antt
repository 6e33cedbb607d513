-- Words that aren't a command's arguments by the RFC aren't read as such.
use Rattle.std.proofs.Common.{◌≡◌, ◌⊎◌, ℕ, List, [], ◌∷◌, map, refl, sym, ◌∙◌, ap, subst, inl, inr, Bool, true, false, cond, ◌&&◌, ◌||◌}
use Rattle.std.proofs.Common.{not}
use Rattle.std.specs.Prelude.{length, codes, nat_le, ◌==◌, Option, Some, None, is_some, option_map, option_and_then, unwrap_or}
use Rattle.std.specs.List.{list_all}
use Rattle.std.specs.Str.Parse.{digits_value}
use Rattle.std.specs.Str.{str_eq_ignore_ascii_case}
use Rattle.std.proofs.lemmas.Bool.{true≢false, false≢true, and_cases, and_parts, and_from, or_left, or_parts, false_from_ne_true, not-true}
use Rattle.model.specs.Stream.{Octets}
use Rattle.model.specs.Names.{Pattern, begins, is_blank, is_group_name, is_pattern_octet, is_run_of, is_visible, item_of, later_pattern_of}
use Rattle.model.specs.Names.{later_patterns_of, number_of, one_number, numbers_from, parts, pattern_of, range_of, range_of_parts}
use Rattle.model.specs.Names.{wildmat_of_parts}
use Rattle.model.specs.Names.{is_message_id, is_wildmat}
use Rattle.model.specs.Commands.{command_of, fetch, is_date_word, is_time_word, is_zone, keyword_of, list_of, list_with, parsed_by}
use Rattle.model.specs.Commands.{parsed_line, parsed_words, selector_of, wanted_of}
use Rattle.model.specs.Commands.{words as line_words}
use Rattle.model.specs.Answer.{answer, line_answer, served}
use Rattle.model.specs.Replies.{syntax_error}
use Rattle.model.specs.declared.command.Command.{Command}
use Rattle.model.specs.declared.command.Command.TheVariants as command
use Rattle.model.specs.declared.command.Keyword.{Keyword}
use Rattle.model.specs.declared.command.Keyword.TheVariants as keyword
use Rattle.model.specs.declared.command.Listing.TheVariants as listing
use Rattle.model.specs.declared.command.Parsed.{Parsed}
use Rattle.model.specs.declared.command.Parsed.TheVariants as parsed
use Rattle.model.specs.declared.command.Part.{Part}
use Rattle.model.specs.declared.command.Range.{Range}
use Rattle.model.specs.declared.command.Selector.TheVariants as selector
use Rattle.model.specs.declared.command.Wanted.TheVariants as wanted
use Rattle.model.specs.declared.message.Message.TheVariants as message
use Rattle.model.specs.declared.session.Awaits.{Awaits}
use Rattle.model_rfc.specs.Commands.{Row, are_bad_words, begins_blank, is_bad, row_of, unrecognized, words}
use Rattle.model_rfc.specs.Grammar.{is_article_number, is_newsgroup_name}
use Rattle.model_rfc.specs.Laws.{BadArgumentsAre501}
use Rattle.model_rfc.specs.States.{Refuses}
use Rattle.model_rfc.specs.Syntax.{at_most_one, is_article, is_item, is_keyword_in, is_later_pattern, is_list, is_pattern, is_range}
use Rattle.model_rfc.specs.Syntax.{is_range_of}
use Rattle.model_rfc.specs.Syntax.{is_since, is_wanted, is_wildmat_of}
use Rattle.model_rfc.specs.Syntax.{is_wildmat as is_wildmat_by}
use Rattle.model_rfc.proofs.Lists.{all_more}
use Rattle.model_rfc.proofs.Words.{name_of}
use Rattle.model_rfc.proofs.Lines.{begins_same, row_for, row_found}

-- ---- words

number_none : (w : Octets) → is_article_number w ≡ false → number_of w ≡ None
number_none w bad = ap (λ b. cond b (Some (digits_value 10 w)) None) bad

selector_none : (w : Octets) → is_article w ≡ false → selector_of w ≡ None
selector_none w bad =
    let both = or_parts (is_message_id w) (is_article_number w) bad in
    ap (λ b. cond b (Some (selector.Id w)) (option_map selector.Number (number_of w))) both.0
    ∙ ap (option_map selector.Number) (number_none w both.1)

second_none : (o : Option ℕ) (f : ℕ → ℕ → Range) → option_and_then (λ n. option_map (f n) None) o ≡ None
second_none None f = refl
second_none (Some n) f = refl

range_none_of : (ps : List Octets) → is_range_of ps ≡ false → range_of_parts ps ≡ None
range_none_of [] bad = refl
range_none_of (first ∷ []) bad = ap (option_map one_number) (number_none first bad)
range_none_of (first ∷ [] ∷ []) bad = ap (option_map numbers_from) (number_none first bad)
range_none_of (first ∷ (x ∷ last) ∷ []) bad = elim (and_cases (is_article_number first) (is_article_number (x ∷ last)) bad) [
  | inl one ↦ ap (option_and_then (λ n. option_map (λ m. record { first = n; last = Some m }) (number_of (x ∷ last))))
      (number_none first one)
  | inr two ↦ ap (λ (o : Option ℕ). option_and_then (λ n. option_map (λ m. record { first = n; last = Some m }) o) (number_of first))
      (number_none (x ∷ last) two)
      ∙ second_none (number_of first) (λ n m. record { first = n; last = Some m })
]
range_none_of (first ∷ second ∷ third ∷ more) bad = refl

range_none : (w : Octets) → is_range w ≡ false → range_of w ≡ None
range_none w bad = range_none_of (parts 45 w) bad

wanted_none : (w : Octets) → is_wanted w ≡ false → wanted_of w ≡ None
wanted_none w bad =
    let both = or_parts (is_message_id w) (is_range w) bad in
    ap (λ b. cond b (Some (wanted.Id w)) (option_map wanted.Range (range_of w))) both.0
    ∙ ap (option_map wanted.Range) (range_none w both.1)

-- ---- wildmats

octet_item : (x : ℕ) → is_pattern_octet x ≡ true → is_item x ≡ true
octet_item x is =
    let both = and_parts (is_visible x) _ is in
    and_from _ _ (or_left (is_visible x) (nat_le 128 x) both.0) both.1

pattern_none : (negated : Bool) (text : Octets) → is_pattern text ≡ false → pattern_of negated text ≡ None
pattern_none negated text bad = ap (λ b. cond b (Some (record { negated = negated; items = map item_of text })) None)
    (false_from_ne_true (is_run_of is_pattern_octet text) (λ run.
    let both = and_parts (nat_le 1 (length text)) (list_all is_pattern_octet text) run in
    false≢true (sym bad ∙ and_from (nat_le 1 (length text)) _ both.0 (all_more is_pattern_octet is_item octet_item text both.1))))

later_none : (text : Octets) → is_later_pattern text ≡ false → later_pattern_of text ≡ None
later_none [] bad = refl
later_none (x ∷ text) bad = by_mark (x == 33) bad where
  by_mark : (b : Bool) → cond b (is_pattern text) (is_pattern (x ∷ text)) ≡ false
      → cond b (pattern_of true text) (pattern_of false (x ∷ text)) ≡ None
  by_mark true is = pattern_none true text is
  by_mark false is = pattern_none false (x ∷ text) is

rest_none : (o : Option Pattern) (q : Option (List Pattern)) → q ≡ None → option_and_then (λ p. option_map (λ later. p ∷ later) q) o ≡ None
rest_none None q none = refl
rest_none (Some p) q none = ap (option_map (λ (later : List Pattern). p ∷ later)) none

patterns_none : (texts : List Octets) → list_all is_later_pattern texts ≡ false → later_patterns_of texts ≡ None
patterns_none [] bad = absurd (true≢false bad)
patterns_none (text ∷ texts) bad = elim (and_cases (is_later_pattern text) (list_all is_later_pattern texts) bad) [
  | inl first ↦ ap (option_and_then (λ p. option_map (λ later. p ∷ later) (later_patterns_of texts))) (later_none text first)
  | inr later ↦ rest_none (later_pattern_of text) (later_patterns_of texts) (patterns_none texts later)
]

wildmat_none_of : (texts : List Octets) → is_wildmat_of texts ≡ false → wildmat_of_parts texts ≡ None
wildmat_none_of [] bad = refl
wildmat_none_of (first ∷ later) bad = elim (and_cases (is_pattern first) (list_all is_later_pattern later) bad) [
  | inl one ↦ ap (option_and_then (λ p. option_map (λ more. p ∷ more) (later_patterns_of later))) (pattern_none false first one)
  | inr others ↦ rest_none (pattern_of false first) (later_patterns_of later) (patterns_none later others)
]

wildmat_none : (w : Octets) → is_wildmat_by w ≡ false → is_wildmat w ≡ false
wildmat_none w bad = ap (λ (o : Option (List Pattern)). is_some o) (wildmat_none_of (parts 44 w) bad)

-- ---- commands

abbrev none_command : Option Command
none_command = None

fetch_none : (p : Part) (ws : List Octets) → (row_of (codes "ARTICLE")).syntax ws ≡ false → fetch p ws ≡ None
fetch_none p [] bad = absurd (true≢false bad)
fetch_none p (w ∷ []) bad = ap (option_map (command.Fetch p)) (selector_none w bad)
fetch_none p (w ∷ v ∷ ws) bad = refl

name_none : (g : Octets) → is_newsgroup_name g ≡ false → is_group_name g ≡ false
name_none g bad = false_from_ne_true (is_group_name g) (λ named. false≢true (sym bad ∙ name_of g named))

-- a word that is none of LIST's own keywords, or one that takes no wildmat
abbrev pub chosen : Option Octets → Bool → Bool → Bool → Bool → Option Command
chosen w a b c d = option_and_then (λ l. list_of l w)
    (cond a (Some listing.Active) (cond b (Some listing.Times)
    (cond c (Some listing.Newsgroups) (cond d (Some listing.OverviewFormat) None))))

none_chosen : (w : Option Octets) (a b c d : Bool) → (((a || (b || (c || false))) && true) || (d && true)) ≡ false
    → chosen w a b c d ≡ none_command
none_chosen w true b c d bad = absurd (true≢false bad)
none_chosen w false true c d bad = absurd (true≢false bad)
none_chosen w false false true d bad = absurd (true≢false bad)
none_chosen w false false false true bad = absurd (true≢false bad)
none_chosen w false false false false bad = refl

bare_chosen : (w : Octets) (a b c d : Bool) → (a || (b || (c || false))) ≡ false → chosen (Some w) a b c d ≡ none_command
bare_chosen w true b c d bad = absurd (true≢false bad)
bare_chosen w false true c d bad = absurd (true≢false bad)
bare_chosen w false false true d bad = absurd (true≢false bad)
bare_chosen w false false false true bad = refl
bare_chosen w false false false false bad = refl

listing_none : (word : Octets) (w : Option Octets) → is_list (word ∷ []) ≡ false → list_with w word ≡ None
listing_none word w bad = none_chosen w (str_eq_ignore_ascii_case (codes "ACTIVE") word)
    (str_eq_ignore_ascii_case (codes "ACTIVE.TIMES") word)
    (str_eq_ignore_ascii_case (codes "NEWSGROUPS") word) (str_eq_ignore_ascii_case (codes "OVERVIEW.FMT") word) bad

-- LIST's own keywords that take a wildmat
abbrev pub with_wildmat : List Octets
with_wildmat = codes "ACTIVE" ∷ codes "ACTIVE.TIMES" ∷ codes "NEWSGROUPS" ∷ []

listing_bare : (word w : Octets) → is_keyword_in with_wildmat word ≡ false → list_with (Some w) word ≡ None
listing_bare word w bad = bare_chosen w (str_eq_ignore_ascii_case (codes "ACTIVE") word)
    (str_eq_ignore_ascii_case (codes "ACTIVE.TIMES") word)
    (str_eq_ignore_ascii_case (codes "NEWSGROUPS") word) (str_eq_ignore_ascii_case (codes "OVERVIEW.FMT") word) bad

zone_bad : (zone : List Octets) → at_most_one (str_eq_ignore_ascii_case (codes "GMT")) zone ≡ false → is_zone zone ≡ false
zone_bad [] bad = absurd (true≢false bad)
zone_bad (z ∷ []) bad = bad
zone_bad (z ∷ y ∷ zone) bad = refl

since_bad : (day time : Octets) (zone : List Octets) → is_since (day ∷ time ∷ zone) ≡ false
    → (is_zone zone ≡ false) ⊎ ((is_date_word day && is_time_word time) ≡ false)
since_bad day time zone bad =
    elim (and_cases (is_date_word day && is_time_word time) (at_most_one (str_eq_ignore_ascii_case (codes "GMT")) zone) bad) [
      | inl dates ↦ inr dates
      | inr other ↦ inl (zone_bad zone other)
    ]

none_understood : (k : Keyword) (ws : List Octets) → (row_for k).syntax ws ≡ false → command_of k ws ≡ None
none_understood keyword.Article ws bad = fetch_none _ ws bad
none_understood keyword.Body ws bad = fetch_none _ ws bad
none_understood keyword.Head ws bad = fetch_none _ ws bad
none_understood keyword.Stat ws bad = fetch_none _ ws bad
none_understood keyword.Capabilities [] bad = absurd (true≢false bad)
none_understood keyword.Capabilities (w ∷ []) bad = absurd (true≢false bad)
none_understood keyword.Capabilities (w ∷ v ∷ ws) bad = refl
none_understood keyword.Date [] bad = absurd (true≢false bad)
none_understood keyword.Date (w ∷ ws) bad = refl
none_understood keyword.Group [] bad = refl
none_understood keyword.Group (g ∷ []) bad = ap (λ b. cond b (Some (command.Group g)) None) (name_none g bad)
none_understood keyword.Group (g ∷ v ∷ ws) bad = refl
none_understood keyword.Help [] bad = absurd (true≢false bad)
none_understood keyword.Help (w ∷ ws) bad = refl
none_understood keyword.Ihave [] bad = refl
none_understood keyword.Ihave (id ∷ []) bad = ap (λ b. cond b (Some (command.Ihave id)) None) bad
none_understood keyword.Ihave (id ∷ v ∷ ws) bad = refl
none_understood keyword.Last [] bad = absurd (true≢false bad)
none_understood keyword.Last (w ∷ ws) bad = refl
none_understood keyword.List [] bad = absurd (true≢false bad)
none_understood keyword.List (word ∷ []) bad = listing_none word None bad
none_understood keyword.List (word ∷ w ∷ []) bad = elim (and_cases (is_keyword_in with_wildmat word) (is_wildmat_by w)
    (or_parts (is_keyword_in with_wildmat word && is_wildmat_by w) _ bad).0) [
      | inl other ↦ ap (λ (o : Option Command). cond (is_wildmat w) o None) (listing_bare word w other) ∙ same (is_wildmat w)
      | inr pattern ↦ ap (λ b. cond b (list_with (Some w) word) None) (wildmat_none w pattern)
    ]
  where
    same : (b : Bool) → cond b none_command none_command ≡ none_command
    same true = refl
    same false = refl
none_understood keyword.List (word ∷ w ∷ v ∷ ws) bad = refl
none_understood keyword.ListGroup [] bad = absurd (true≢false bad)
none_understood keyword.ListGroup (g ∷ []) bad = elim (and_cases (is_newsgroup_name g) true bad) [
  | inl name ↦ ap (λ b. cond b (Some (command.ListGroup (Some g) (numbers_from 1))) None) (name_none g name)
  | inr never ↦ absurd (true≢false never)
]
none_understood keyword.ListGroup (g ∷ r ∷ []) bad = elim (and_cases (is_newsgroup_name g) (is_range r) bad) [
  | inl name ↦ ap (λ b. cond b (option_map (command.ListGroup (Some g)) (range_of r)) None) (name_none g name)
  | inr range ↦ ap (λ (o : Option Range). cond (is_group_name g) (option_map (command.ListGroup (Some g)) o) None) (range_none r range)
      ∙ same (is_group_name g)
]
  where
    same : (b : Bool) → cond b none_command none_command ≡ none_command
    same true = refl
    same false = refl
none_understood keyword.ListGroup (g ∷ r ∷ v ∷ ws) bad = refl
none_understood keyword.Mode [] bad = refl
none_understood keyword.Mode (w ∷ []) bad = ap (λ b. cond b (Some command.ModeReader) None) bad
none_understood keyword.Mode (w ∷ v ∷ ws) bad = refl
none_understood keyword.NewGroups [] bad = refl
none_understood keyword.NewGroups (day ∷ []) bad = refl
none_understood keyword.NewGroups (day ∷ time ∷ zone) bad = elim (since_bad day time zone bad) [
  | inl other ↦ ap (λ b. cond b (cond (is_date_word day && is_time_word time) (Some (command.NewGroups day time)) None) None) other
  | inr dates ↦ ap (λ b. cond (is_zone zone) (cond b (Some (command.NewGroups day time)) None) None) dates ∙ same (is_zone zone)
]
  where
    same : (b : Bool) → cond b none_command none_command ≡ none_command
    same true = refl
    same false = refl
none_understood keyword.NewNews [] bad = refl
none_understood keyword.NewNews (w ∷ []) bad = refl
none_understood keyword.NewNews (w ∷ day ∷ []) bad = refl
none_understood keyword.NewNews (w ∷ day ∷ time ∷ zone) bad = elim (and_cases (is_wildmat_by w) (is_since (day ∷ time ∷ zone)) bad) [
  | inl pattern ↦ all_bad (is_zone zone) (is_wildmat w) (is_date_word day) (is_time_word time) (inl (wildmat_none w pattern))
  | inr since ↦ all_bad (is_zone zone) (is_wildmat w) (is_date_word day) (is_time_word time) (inr (since_bad day time zone since))
]
  where
    all_bad : (z p d h : Bool) → (p ≡ false) ⊎ ((z ≡ false) ⊎ ((d && h) ≡ false))
        → cond z (cond ((p && d) && h) (Some (command.NewNews w day time)) None) None ≡ none_command
    all_bad false p d h any = refl
    all_bad true false d h any = refl
    all_bad true true d h (inl never) = absurd (true≢false never)
    all_bad true true d h (inr (inl never)) = absurd (true≢false never)
    all_bad true true d h (inr (inr never)) = ap (λ b. cond b (Some (command.NewNews w day time)) None) never
none_understood keyword.Next [] bad = absurd (true≢false bad)
none_understood keyword.Next (w ∷ ws) bad = refl
none_understood keyword.Over [] bad = absurd (true≢false bad)
none_understood keyword.Over (w ∷ []) bad = ap (option_map command.Over) (wanted_none w bad)
none_understood keyword.Over (w ∷ v ∷ ws) bad = refl
none_understood keyword.Post [] bad = absurd (true≢false bad)
none_understood keyword.Post (w ∷ ws) bad = refl
none_understood keyword.Quit [] bad = absurd (true≢false bad)
none_understood keyword.Quit (w ∷ ws) bad = refl

-- ---- lines

module _ (clean : Bool) where
  words_bad : (ws : List Octets) → are_bad_words ws ≡ true → parsed_words clean ws ≡ parsed.Bad
  words_bad [] bad = absurd (false≢true bad)
  words_bad (word ∷ ws) bad = by_keyword (keyword_of word) refl where
    by_clean : (b : Bool) (k : Keyword) → command_of k ws ≡ None → parsed_by b k ws ≡ parsed.Bad
    by_clean true k none = ap (λ (o : Option Command). unwrap_or (option_map parsed.Command o) parsed.Bad) none
    by_clean false k none = refl

    by_keyword : (o : Option Keyword) → keyword_of word ≡ o → unwrap_or (option_map (λ k. parsed_by clean k ws) o) parsed.Unknown
        ≡ parsed.Bad
    by_keyword None none =
        let row : row_of word ≡ unrecognized = row_found word
        ∙ ap (λ (p : Option Keyword). unwrap_or (option_map row_for p) unrecognized) none in
        absurd (false≢true (sym (ap (λ (r : Row). not (r.syntax ws)) row) ∙ bad))
    by_keyword (Some k) some =
        let row : row_of word ≡ row_for k = row_found word ∙ ap (λ (p : Option Keyword). unwrap_or (option_map row_for p) unrecognized) some
        in
        by_clean clean k (none_understood k ws (not-true _ (sym (ap (λ (r : Row). not (r.syntax ws)) row) ∙ bad)))

line_bad : (text : Octets) → is_bad text ≡ true → parsed_line text ≡ parsed.Bad
unfolding parsed_line
line_bad text bad = by_blank (begins_blank text) (begins is_blank text) (begins_same text) bad where
  clean : Bool
  clean = list_all (λ c. is_blank c || is_visible c) text

  by_blank : (b d : Bool) → b ≡ d → cond b false (are_bad_words (words text)) ≡ true
      → cond d parsed.Unknown (parsed_words clean (line_words text)) ≡ parsed.Bad
  by_blank true d same is = absurd (false≢true is)
  by_blank false true same is = absurd (false≢true same)
  by_blank false false same is = words_bad clean (words text) is

pub bad_501 : BadArgumentsAre501
unfolding answer served syntax_error
bad_501 host S x text t waits bad =
    subst (λ (A : Awaits). Refuses x (codes "501 Syntax error") (served host S x t A (message.Line text))) (sym waits)
    (subst (λ (p : Parsed). Refuses x (codes "501 Syntax error") (line_answer host S x t p)) (sym (line_bad text bad))
    (record { stays = record { next_is = refl; change = refl }; reply_is = refl }))
