-- What each line is answered.
use Rattle.std.proofs.Common.{◌≡◌, ℕ, List, [], ◌∷◌, ◌++◌, map, refl, sym, ◌∙◌, ap, subst, arith, Bool, true, false, cond, ◌&&◌, ◌||◌}
use Rattle.std.specs.Prelude.{find, codes, Option, Some, None, option_map, option_and_then, unwrap_or}
use Rattle.std.specs.List.{list_all}
use Rattle.std.specs.Str.{str_eq_ignore_ascii_case}
use Rattle.std.proofs.lemmas.Bool.{true≢false, and_from}
use Rattle.model.specs.Stream.{Octets}
use Rattle.model.specs.Names.{begins, is_blank, is_group_name, is_message_id, is_visible, is_wildmat, numbers_from, range_of}
use Rattle.model.specs.Calendar.{date_reply, since}
use Rattle.model.specs.Spool.{Spool, articles_now, listed}
use Rattle.model.specs.Commands.{command_of, fetch, is_date_word, is_time_word, is_zone, keyword_of, keyword_text, keywords, list_of}
use Rattle.model.specs.Commands.{list_with, listing_of, listing_text, parsed_by, parsed_line, parsed_words, selector_of, wanted_of}
use Rattle.model.specs.Commands.{listings as all_listings, words as line_words}
use Rattle.model.specs.Answer.{capability_lines, command_answer, group_answer, is_listed, line_answer, newgroups_answer, newnews_answer}
use Rattle.model.specs.Answer.{says, spaced}
use Rattle.model.specs.Replies.{bye, capabilities_follow, help_follows, send_posted, syntax_error, unknown_command}
use Rattle.model.specs.declared.command.Command.{Command}
use Rattle.model.specs.declared.command.Command.TheVariants as command
use Rattle.model.specs.declared.command.Keyword.{Keyword}
use Rattle.model.specs.declared.command.Keyword.TheVariants as keyword
use Rattle.model.specs.declared.command.Listing.{Listing}
use Rattle.model.specs.declared.command.Listing.TheVariants as listing
use Rattle.model.specs.declared.command.Parsed.TheVariants as parsed
use Rattle.model.specs.declared.command.Part.{Part}
use Rattle.model.specs.declared.command.Part.TheVariants as part
use Rattle.model.specs.declared.command.Range.{Range}
use Rattle.model.specs.declared.command.Selector.{Selector}
use Rattle.model.specs.declared.command.Selector.TheVariants as selector
use Rattle.model.specs.declared.command.Wanted.{Wanted}
use Rattle.model.specs.declared.command.Wanted.TheVariants as wanted
use Rattle.model.specs.declared.session.Answer.{Answer}
use Rattle.model.specs.declared.session.Awaits.TheVariants as awaits
use Rattle.model.specs.declared.session.Session.{Session}
use Rattle.model_rfc.specs.Grammar.{has_digits}
use Rattle.model_rfc.specs.Commands.{Row, asked_by, asked_words, begins_blank, listing_word, plainly, row_of, unrecognized, words}
use Rattle.model_rfc.specs.Contents.{listing_content}
use Rattle.model_rfc.specs.States.{IsReader, IsSpool}
use Rattle.model_rfc.proofs.Words.{date_high, moment_of}
use Rattle.model_rfc.proofs.Forms.{IsGood, keeps, listed_block, plain, waits, with_arguments}
use Rattle.model_rfc.proofs.Parts.{allows, bare, dated, here, refused, selected, syntax, told}
use Rattle.model_rfc.proofs.Answering.{asking, part_word, fetched, grouped, lasted, listings as listings_good, mode_reader, new_groups}
use Rattle.model_rfc.proofs.Answering.{new_news, nexted, numbers, offering, overed}

-- ---- the rows of the table

may_501 : (k : Keyword) (l : Octets) → allows (asking (keyword_text k) l) 501 ≡ true
may_501 keyword.Article l = refl
may_501 keyword.Body l = refl
may_501 keyword.Capabilities l = refl
may_501 keyword.Date l = refl
may_501 keyword.Group l = refl
may_501 keyword.Head l = refl
may_501 keyword.Help l = refl
may_501 keyword.Ihave l = refl
may_501 keyword.Last l = refl
may_501 keyword.List l = refl
may_501 keyword.ListGroup l = refl
may_501 keyword.Mode l = refl
may_501 keyword.NewGroups l = refl
may_501 keyword.NewNews l = refl
may_501 keyword.Next l = refl
may_501 keyword.Over l = refl
may_501 keyword.Post l = refl
may_501 keyword.Quit l = refl
may_501 keyword.Stat l = refl

may_400 : (k : Keyword) (l : Octets) → allows (asking (keyword_text k) l) 400 ≡ true
may_400 keyword.Article l = refl
may_400 keyword.Body l = refl
may_400 keyword.Capabilities l = refl
may_400 keyword.Date l = refl
may_400 keyword.Group l = refl
may_400 keyword.Head l = refl
may_400 keyword.Help l = refl
may_400 keyword.Ihave l = refl
may_400 keyword.Last l = refl
may_400 keyword.List l = refl
may_400 keyword.ListGroup l = refl
may_400 keyword.Mode l = refl
may_400 keyword.NewGroups l = refl
may_400 keyword.NewNews l = refl
may_400 keyword.Next l = refl
may_400 keyword.Over l = refl
may_400 keyword.Post l = refl
may_400 keyword.Quit l = refl
may_400 keyword.Stat l = refl

abbrev pub row_for : Keyword → Row
row_for k = row_of (keyword_text k)

named : (k : Keyword) → (row_for k).keyword ≡ keyword_text k
named keyword.Article = refl
named keyword.Body = refl
named keyword.Capabilities = refl
named keyword.Date = refl
named keyword.Group = refl
named keyword.Head = refl
named keyword.Help = refl
named keyword.Ihave = refl
named keyword.Last = refl
named keyword.List = refl
named keyword.ListGroup = refl
named keyword.Mode = refl
named keyword.NewGroups = refl
named keyword.NewNews = refl
named keyword.Next = refl
named keyword.Over = refl
named keyword.Post = refl
named keyword.Quit = refl
named keyword.Stat = refl

find_mapped : {A B : Type 0} (f : A → B) (p : B → Bool) (q : A → Bool) → ((a : A) → p (f a) ≡ q a) → (xs : List A)
    → find p (map f xs) ≡ option_map f (find q xs)
find_mapped f p q same [] = refl
find_mapped {A} {B} f p q same (x ∷ xs) = by_test (p (f x)) (q x) (same x) (find_mapped f p q same xs) where
  by_test : (b d : Bool) → b ≡ d → find p (map f xs) ≡ option_map f (find q xs)
      → cond b (Some (f x)) (find p (map f xs)) ≡ option_map f (cond d (Some x) (find q xs))
  by_test true true is rest = refl
  by_test true false is rest = absurd (true≢false is)
  by_test false true is rest = absurd (true≢false (sym is))
  by_test false false is rest = rest

pub row_found : (word : Octets) → row_of word ≡ unwrap_or (option_map row_for (keyword_of word)) unrecognized
row_found word = ap (λ (o : Option Row). unwrap_or o unrecognized)
    (find_mapped row_for (λ (r : Row). str_eq_ignore_ascii_case r.keyword word) (λ k. str_eq_ignore_ascii_case (keyword_text k) word)
    (λ k. ap (λ (t : Octets). str_eq_ignore_ascii_case t word) (named k)) keywords)

abbrev Content : Type 0
Content = List Octets → Bool

abbrev anything : Content
anything = λ lines. true

abbrev row_for_listing : Listing → Octets × Content
row_for_listing l = (listing_text l, listing_content (listing_text l))

listing_found : (word : Octets) (l : Listing) → listing_of word ≡ Some l → listing_content word ≡ listing_content (listing_text l)
listing_found word l is =
    ap (λ (o : Option (Octets × Content)). unwrap_or (option_map (λ r. r.1) o) anything)
    (find_mapped row_for_listing (λ (r : Octets × Content). str_eq_ignore_ascii_case r.0 word)
    (λ k. str_eq_ignore_ascii_case (listing_text k) word)
    (λ k. refl) all_listings)
    ∙ ap (λ (o : Option Listing). unwrap_or (option_map (λ r. r.1) (option_map row_for_listing o)) anything) is

pub begins_same : (text : Octets) → begins_blank text ≡ begins is_blank text
begins_same [] = refl
begins_same (x ∷ rest) = refl

module _ (host : Octets) (S : Spool) (is : IsSpool host S) (x : Session) (reader : IsReader S x) (t : ℕ) where
  bad : (k : Keyword) (l : Octets) → IsGood S x (asking (keyword_text k) l) (says x syntax_error)
  bad k l = syntax S x reader (asking (keyword_text k) l) (may_501 k l)

  abbrev answered : Option Command → Answer
  answered o = line_answer host S x t (unwrap_or (option_map parsed.Command o) parsed.Bad)

  part_bad : (p : Part) (l : Octets) → IsGood S x (asking (part_word p) l) (says x syntax_error)
  part_bad part.Whole l = bad keyword.Article l
  part_bad part.Head l = bad keyword.Head l
  part_bad part.Body l = bad keyword.Body l
  part_bad part.Nothing l = bad keyword.Stat l

  fetches : (p : Part) (ws : List Octets) → IsGood S x (asking (part_word p) (listing_word ws)) (answered (fetch p ws))
  unfolding command_answer
  fetches p [] = fetched host S is x reader p (listing_word []) selector.Current
  fetches p (w ∷ []) = by_selector (selector_of w) where
    by_selector : (o : Option Selector) → IsGood S x (asking (part_word p) w) (answered (option_map (command.Fetch p) o))
    by_selector None = part_bad p w
    by_selector (Some s) = fetched host S is x reader p w s
  fetches p (w ∷ v ∷ more) = part_bad p w

  capable : (l : Octets) → IsGood S x (asking (codes "CAPABILITIES") l) (answered (Some command.Capabilities))
  unfolding command_answer
  capable l = keeps S x (asking (codes "CAPABILITIES") l) _ reader
      (listed_block (asking (codes "CAPABILITIES") l) 101 capabilities_follow capability_lines
      (bare 101 (codes " Capabilities follow") refl) refl refl refl refl)

  by_listing : (w : Option Octets) (word : Octets) (o : Option Listing) → listing_of word ≡ o
      → IsGood S x (asking (codes "LIST") word) (answered (option_and_then (λ k. list_of k w) o))
  unfolding command_answer
  by_listing w word None is' = bad keyword.List word
  by_listing w word (Some listing.Active) is' = listings_good host S is x reader word w listing.Active
      (listing_found word listing.Active is')
  by_listing w word (Some listing.Times) is' = listings_good host S is x reader word w listing.Times (listing_found word listing.Times is')
  by_listing w word (Some listing.Newsgroups) is' = listings_good host S is x reader word w listing.Newsgroups
      (listing_found word listing.Newsgroups is')
  by_listing None word (Some listing.OverviewFormat) is' = listings_good host S is x reader word None listing.OverviewFormat
      (listing_found word listing.OverviewFormat is')
  by_listing (Some w) word (Some listing.OverviewFormat) is' = bad keyword.List word

  understood : (k : Keyword) (ws : List Octets) → IsGood S x (asking (keyword_text k) (listing_word ws)) (answered (command_of k ws))
  unfolding command_answer bye send_posted
  understood keyword.Article ws = fetches part.Whole ws
  understood keyword.Head ws = fetches part.Head ws
  understood keyword.Body ws = fetches part.Body ws
  understood keyword.Stat ws = fetches part.Nothing ws
  understood keyword.Capabilities [] = capable (listing_word [])
  understood keyword.Capabilities (w ∷ []) = capable w
  understood keyword.Capabilities (w ∷ v ∷ ws) = bad keyword.Capabilities w
  understood keyword.Mode [] = bad keyword.Mode (listing_word [])
  understood keyword.Mode (w ∷ []) = by_word (str_eq_ignore_ascii_case (codes "READER") w) where
    by_word : (b : Bool) → IsGood S x (asking (codes "MODE") w) (answered (cond b (Some command.ModeReader) None))
    by_word true = mode_reader host S is x reader w
    by_word false = bad keyword.Mode w
  understood keyword.Mode (w ∷ v ∷ ws) = bad keyword.Mode w
  understood keyword.Quit [] = waits S x (asking (codes "QUIT") (listing_word [])) _ awaits.Nothing reader
      (told (asking (codes "QUIT") (listing_word [])) 205 (codes " Bye") refl refl)
  understood keyword.Quit (w ∷ ws) = bad keyword.Quit w
  understood keyword.Help [] = keeps S x (asking (codes "HELP") (listing_word [])) _ reader
      (listed_block (asking (codes "HELP") (listing_word [])) 100 help_follows (spaced (map keyword_text keywords) ∷ [])
      (bare 100 (codes " Help follows") refl) refl refl refl refl)
  understood keyword.Help (w ∷ ws) = bad keyword.Help w
  understood keyword.Date [] = keeps S x (asking (codes "DATE") (listing_word [])) _ reader
      (plain (asking (codes "DATE") (listing_word [])) 111 (codes "111 " ++ date_reply t)
      (with_arguments 111 (date_reply t ∷ []) [] (omega arith) (omega arith)
      (and_from (has_digits 14 (date_reply t)) true (moment_of t) refl) (date_high t) refl refl (omega arith)) refl refl)
  understood keyword.Date (w ∷ ws) = bad keyword.Date w
  understood keyword.Group [] = bad keyword.Group (listing_word [])
  understood keyword.Group (g ∷ []) = by_name (is_group_name g) where
    by_name : (b : Bool) → IsGood S x (asking (codes "GROUP") g) (answered (cond b (Some (command.Group g)) None))
    by_name true = here S x reader (asking (codes "GROUP") g) refl g (group_answer x g) (λ there. grouped host S is x reader g g there)
    by_name false = bad keyword.Group g
  understood keyword.Group (g ∷ v ∷ ws) = bad keyword.Group g
  understood keyword.ListGroup [] = numbers host S is x reader (listing_word []) None (numbers_from 1)
  understood keyword.ListGroup (g ∷ []) = by_name (is_group_name g) where
    by_name : (b : Bool) → IsGood S x (asking (codes "LISTGROUP") g)
        (answered (cond b (Some (command.ListGroup (Some g) (numbers_from 1))) None))
    by_name true = numbers host S is x reader g (Some g) (numbers_from 1)
    by_name false = bad keyword.ListGroup g
  understood keyword.ListGroup (g ∷ r ∷ []) = by_name (is_group_name g) (range_of r) where
    by_name : (b : Bool) (o : Option Range) → IsGood S x (asking (codes "LISTGROUP") g)
        (answered (cond b (option_map (command.ListGroup (Some g)) o) None))
    by_name true None = bad keyword.ListGroup g
    by_name true (Some range) = numbers host S is x reader g (Some g) range
    by_name false o = bad keyword.ListGroup g
  understood keyword.ListGroup (g ∷ r ∷ v ∷ ws) = bad keyword.ListGroup g
  understood keyword.Next [] = selected S x reader (asking (codes "NEXT") (listing_word [])) refl _
      (λ g same. nexted host S is x reader (listing_word []) g same)
  understood keyword.Next (w ∷ ws) = bad keyword.Next w
  understood keyword.Last [] = selected S x reader (asking (codes "LAST") (listing_word [])) refl _
      (λ g same. lasted host S is x reader (listing_word []) g same)
  understood keyword.Last (w ∷ ws) = bad keyword.Last w
  understood keyword.Over [] = overed host S is x reader (listing_word []) wanted.Current
  understood keyword.Over (w ∷ []) = by_wanted (wanted_of w) where
    by_wanted : (o : Option Wanted) → IsGood S x (asking (codes "OVER") w) (answered (option_map command.Over o))
    by_wanted None = bad keyword.Over w
    by_wanted (Some what) = overed host S is x reader w what
  understood keyword.Over (w ∷ v ∷ ws) = bad keyword.Over w
  understood keyword.List [] = listings_good host S is x reader (codes "ACTIVE") None listing.Active refl
  understood keyword.List (word ∷ []) = by_listing None word (listing_of word) refl
  understood keyword.List (word ∷ w ∷ []) = by_wildmat (is_wildmat w) where
    by_wildmat : (b : Bool) → IsGood S x (asking (codes "LIST") word) (answered (cond b (list_with (Some w) word) None))
    by_wildmat true = by_listing (Some w) word (listing_of word) refl
    by_wildmat false = bad keyword.List word
  understood keyword.List (word ∷ w ∷ v ∷ ws) = bad keyword.List word
  understood keyword.NewGroups [] = bad keyword.NewGroups (listing_word [])
  understood keyword.NewGroups (day ∷ []) = bad keyword.NewGroups day
  understood keyword.NewGroups (day ∷ time ∷ zone) = by_zone (is_zone zone) (is_date_word day && is_time_word time) where
    by_zone : (b d : Bool) → IsGood S x (asking (codes "NEWGROUPS") day)
        (answered (cond b (cond d (Some (command.NewGroups day time)) None) None))
    by_zone true true = dated S x reader (asking (codes "NEWGROUPS") day) refl (since day time t)
        (newgroups_answer x (listed S (is_listed None)))
        (λ from. new_groups host S is x reader day from)
    by_zone true false = bad keyword.NewGroups day
    by_zone false d = bad keyword.NewGroups day
  understood keyword.NewNews [] = bad keyword.NewNews (listing_word [])
  understood keyword.NewNews (w ∷ []) = bad keyword.NewNews w
  understood keyword.NewNews (w ∷ day ∷ []) = bad keyword.NewNews w
  understood keyword.NewNews (w ∷ day ∷ time ∷ zone) = by_zone (is_zone zone) (is_wildmat w && is_date_word day && is_time_word time) where
    by_zone : (b d : Bool) → IsGood S x (asking (codes "NEWNEWS") w)
        (answered (cond b (cond d (Some (command.NewNews w day time)) None) None))
    by_zone true true = dated S x reader (asking (codes "NEWNEWS") w) refl (since day time t) (newnews_answer x w (articles_now S))
        (λ from. new_news host S is x reader w w from)
    by_zone true false = bad keyword.NewNews w
    by_zone false d = bad keyword.NewNews w
  understood keyword.Post [] = waits S x (asking (codes "POST") (listing_word [])) _ awaits.PostBlock reader
      (told (asking (codes "POST") (listing_word [])) 340 (codes " Send article") refl refl)
  understood keyword.Post (w ∷ ws) = bad keyword.Post w
  understood keyword.Ihave [] = bad keyword.Ihave (listing_word [])
  understood keyword.Ihave (id ∷ []) = by_id (is_message_id id) where
    by_id : (b : Bool) → IsGood S x (asking (codes "IHAVE") id) (answered (cond b (Some (command.Ihave id)) None))
    by_id true = offering host S is x reader id id _
    by_id false = bad keyword.Ihave id
  understood keyword.Ihave (id ∷ v ∷ ws) = bad keyword.Ihave id

  by_clean : (clean : Bool) (k : Keyword) (ws : List Octets) → IsGood S x (asking (keyword_text k) (listing_word ws))
      (line_answer host S x t (parsed_by clean k ws))
  by_clean true k ws = understood k ws
  by_clean false k ws = bad k (listing_word ws)

  unknown : (l : Octets) → IsGood S x (record { row = unrecognized; listing = l }) (says x unknown_command)
  unfolding unknown_command
  unknown l = refused S x reader (record { row = unrecognized; listing = l }) 500 (codes " Unknown command") refl refl

  worded : (clean : Bool) (ws : List Octets) → IsGood S x (asked_words ws) (line_answer host S x t (parsed_words clean ws))
  worded clean [] = unknown []
  worded clean (word ∷ ws) = by_keyword (keyword_of word) refl where
    by_keyword : (o : Option Keyword) → keyword_of word ≡ o
        → IsGood S x (record { row = row_of word; listing = listing_word ws })
        (line_answer host S x t (unwrap_or (option_map (λ k. parsed_by clean k ws) o) parsed.Unknown))
    by_keyword None none =
        let row : row_of word ≡ unrecognized = row_found word
        ∙ ap (λ (p : Option Keyword). unwrap_or (option_map row_for p) unrecognized) none in
        subst (λ (r : Row). IsGood S x (record { row = r; listing = listing_word ws }) (says x unknown_command)) (sym row)
        (unknown (listing_word ws))
    by_keyword (Some k) some =
        let row : row_of word ≡ row_for k = row_found word ∙ ap (λ (p : Option Keyword). unwrap_or (option_map row_for p) unrecognized) some
        in
        subst (λ (r : Row). IsGood S x (record { row = r; listing = listing_word ws }) (line_answer host S x t (parsed_by clean k ws)))
        (sym row) (by_clean clean k ws)

  pub line_good : (text : Octets) → IsGood S x (asked_by text) (line_answer host S x t (parsed_line text))
  unfolding parsed_line
  line_good text = by_blank (begins_blank text) (begins is_blank text) (begins_same text) where
    clean : Bool
    clean = list_all (λ c. is_blank c || is_visible c) text

    by_blank : (b d : Bool) → b ≡ d → IsGood S x (cond b (plainly unrecognized) (asked_words (words text)))
        (line_answer host S x t (cond d parsed.Unknown (parsed_words clean (line_words text))))
    by_blank true true same = unknown []
    by_blank true false same = absurd (true≢false same)
    by_blank false true same = absurd (true≢false (sym same))
    by_blank false false same = worded clean (words text)

pub line_may_end : (text : Octets) → allows (asked_by text) 400 ≡ true
line_may_end text = by_blank (begins_blank text) (words text) where
  by_row : (word l : Octets) (o : Option Keyword) → keyword_of word ≡ o → allows (record { row = row_of word; listing = l }) 400 ≡ true
  by_row word l None none =
      ap (λ (r : Row). allows (record { row = r; listing = l }) 400)
      (row_found word ∙ ap (λ (p : Option Keyword). unwrap_or (option_map row_for p) unrecognized) none)
  by_row word l (Some k) some =
      ap (λ (r : Row). allows (record { row = r; listing = l }) 400)
      (row_found word ∙ ap (λ (p : Option Keyword). unwrap_or (option_map row_for p) unrecognized) some)
      ∙ may_400 k l

  by_blank : (b : Bool) (ws : List Octets) → allows (cond b (plainly unrecognized) (asked_words ws)) 400 ≡ true
  by_blank true ws = refl
  by_blank false [] = refl
  by_blank false (word ∷ ws) = by_row word (listing_word ws) (keyword_of word) refl
