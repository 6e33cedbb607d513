-- Worked examples of the commands.
use Rattle.std.specs.Prelude.{◌≡◌, true, false, [], ◌∷◌, length, codes}
use Rattle.model.specs.Names.{wildmat_matches}
use Rattle.model.specs.Article.{overview_line}
use Rattle.test_model.specs.Run.{new_seat, says, sends, is_told, is_told_lines, tabbed, told}
use Rattle.model.specs.declared.values.Status.TheVariants.{Open, Closed}
use Rattle.test_model.specs.Texts.{article, article_one, folded_article, one, short_post, short_stored, start, three, with_second}

abbrev pub PostThenGroup : Type 0
PostThenGroup =
    told start (new_seat ∷ []) (says 0 (codes "POST") ∷ sends 0 article_one ∷ says 0 (codes "GROUP x.a") ∷ [])
    ≡ is_told (codes "340 Send article") 0 ∷ is_told (codes "240 Article received") 2 ∷ is_told (codes "211 1 1 1 x.a") 2 ∷ []

abbrev pub EmptyGroup : Type 0
EmptyGroup =
    told start (new_seat ∷ []) (says 0 (codes "GROUP x.a") ∷ says 0 (codes "STAT") ∷ [])
    ≡ is_told (codes "211 0 1 0 x.a") 1 ∷ is_told (codes "420 No current article") 1 ∷ []

-- a reply about one group does not wait for an article that names only other groups
abbrev pub OtherGroup : Type 0
OtherGroup =
    told (with_second Open) (new_seat ∷ new_seat ∷ [])
    (says 0 (codes "POST") ∷ sends 0 article_one ∷ says 1 (codes "GROUP x.b") ∷ [])
    ≡ is_told (codes "340 Send article") 0 ∷ is_told (codes "240 Article received") 3 ∷ is_told (codes "211 0 1 0 x.b") 2 ∷ []

-- two sessions were asked for the same article, and the second one's is rejected
abbrev pub OfferedTwice : Type 0
OfferedTwice =
    told start (new_seat ∷ new_seat ∷ [])
    (says 0 (codes "IHAVE <1@a.example>") ∷ says 1 (codes "IHAVE <1@a.example>") ∷ sends 0 article_one ∷ sends 1 article_one ∷ says 0
    (codes "IHAVE <1@a.example>") ∷ says 0 (codes "IHAVE <9@news.example>") ∷ [])
    ≡ is_told (codes "335 Send article") 0 ∷ is_told (codes "335 Send article") 0 ∷ is_told (codes "235 Article transferred") 2 ∷ is_told
    (codes "437 Article rejected") 2
    ∷ is_told (codes "435 Article not wanted") 2 ∷ is_told (codes "435 Article not wanted") 2 ∷ []

-- a duplicate waits for the article that it repeats
abbrev pub PostedTwice : Type 0
PostedTwice =
    told start (new_seat ∷ new_seat ∷ []) (says 0 (codes "POST") ∷ sends 0 article_one ∷ says 1 (codes "POST") ∷ sends 1 article_one ∷ [])
    ≡ is_told (codes "340 Send article") 0 ∷ is_told (codes "240 Article received") 2 ∷ is_told (codes "340 Send article") 0 ∷ is_told
    (codes "441 Article not accepted") 2 ∷ []

-- the fields that a posted article lacks are put at its start
abbrev pub Injection : Type 0
Injection =
    (length short_post ≡ 58) × (length short_stored ≡ 160)
    × (told start (new_seat ∷ []) (says 0 (codes "POST") ∷ sends 0 short_post ∷ says 0 (codes "GROUP x.a") ∷ says 0
    (codes "OVER 1") ∷ says 0 (codes "HEAD") ∷ [])
    ≡ is_told (codes "340 Send article") 0 ∷ is_told (codes "240 Article received") 2 ∷ is_told (codes "211 1 1 1 x.a") 2
    ∷ is_told_lines (codes "224 Overview follows")
    (tabbed (codes "1|one|a@example.org|Sun, 09 Sep 2001 01:46:40 +0000|<2@news.example>||160|1") ∷ []) 2
    ∷ is_told_lines (codes "221 1 <2@news.example>")
    (codes "Path: news.example!not-for-mail" ∷ codes "Date: Sun, 09 Sep 2001 01:46:40 +0000" ∷ codes "Message-ID: <2@news.example>"
    ∷ codes "From: a@example.org" ∷ codes "Newsgroups: x.a" ∷ codes "Subject: one" ∷ []) 2 ∷ [])

-- overviews: of an empty range, by id, and of a Subject of two lines
abbrev pub Overviews : Type 0
Overviews =
    (told one (new_seat ∷ []) (says 0 (codes "GROUP x.a") ∷ says 0 (codes "OVER 3-2") ∷ says 0 (codes "OVER <1@a.example>") ∷ [])
    ≡ is_told (codes "211 1 1 1 x.a") 2 ∷ is_told (codes "423 No such article number") 2
    ∷ is_told_lines (codes "224 Overview follows")
    (tabbed (codes "0|one|a@example.org|Sun, 09 Sep 2001 01:46:40 +0000|<1@a.example>||146|1") ∷ []) 2 ∷ [])
    × (overview_line 1 folded_article ≡ tabbed (codes "1|a b|a@example.org||||56|0"))

-- a list, and a group that takes no articles
abbrev pub ClosedGroup : Type 0
ClosedGroup =
    told (with_second Closed) (new_seat ∷ new_seat ∷ [])
    (says 0 (codes "POST") ∷ sends 0 article_one ∷ says 0 (codes "LIST") ∷ says 0 (codes "LIST NEWSGROUPS x.a") ∷ says 0
    (codes "LIST ACTIVE.TIMES x.b")
    ∷ says 1 (codes "POST") ∷ sends 1 (article (codes "<2@a.example>") (codes "x.b")) ∷ [])
    ≡ is_told (codes "340 Send article") 0 ∷ is_told (codes "240 Article received") 3
    ∷ is_told_lines (codes "215 Information follows") (codes "x.a 1 1 y" ∷ codes "x.b 0 1 n" ∷ []) 3
    ∷ is_told_lines (codes "215 Information follows") (tabbed (codes "x.a|test") ∷ []) 3
    ∷ is_told_lines (codes "215 Information follows") (codes "x.b 1000000000 admin" ∷ []) 3
    ∷ is_told (codes "340 Send article") 0 ∷ is_told (codes "441 Article not accepted") 2 ∷ []

-- the rightmost pattern that matches decides, and brackets are no pattern
abbrev pub Wildmats : Type 0
Wildmats =
    (wildmat_matches (codes "x.*,!x.b*,x.bc") (codes "x.a") ≡ true)
    × (wildmat_matches (codes "x.*,!x.b*,x.bc") (codes "x.bd") ≡ false)
    × (wildmat_matches (codes "x.*,!x.b*,x.bc") (codes "x.bc") ≡ true)
    × (told start (new_seat ∷ []) (says 0 (codes "LIST ACTIVE x.[ab]") ∷ []) ≡ is_told (codes "501 Syntax error") 0 ∷ [])

-- new groups since a date
abbrev pub NewGroups : Type 0
NewGroups =
    told start (new_seat ∷ []) (says 0 (codes "NEWGROUPS 20010909 014640 GMT") ∷ says 0 (codes "NEWGROUPS 20010909 014641") ∷ says 0
    (codes "NEWGROUPS 020101 000000") ∷ says 0 (codes "NEWGROUPS 010230 000000") ∷ [])
    ≡ is_told_lines (codes "231 New groups follow") (codes "x.a 0 1 y" ∷ []) 1
    ∷ is_told_lines (codes "231 New groups follow") [] 1
    ∷ is_told_lines (codes "231 New groups follow") (codes "x.a 0 1 y" ∷ []) 1
    ∷ is_told (codes "501 Syntax error") 1 ∷ []

-- a walk through a group of three
abbrev pub Walk : Type 0
Walk =
    told three (new_seat ∷ [])
    (says 0 (codes "LISTGROUP x.a 2-") ∷ says 0 (codes "STAT") ∷ says 0 (codes "LAST") ∷ says 0 (codes "NEXT") ∷ says 0
    (codes "STAT 0") ∷ says 0 (codes "STAT 4") ∷ says 0 (codes "BODY 3") ∷ says 0 (codes "NEXT") ∷ [])
    ≡ is_told_lines (codes "211 3 1 3 x.a list follows") (codes "2" ∷ codes "3" ∷ []) 4
    ∷ is_told (codes "223 1 <1@a.example>") 4 ∷ is_told (codes "422 No previous article") 4 ∷ is_told (codes "223 2 <2@a.example>") 4
    ∷ is_told (codes "423 No such article number") 4 ∷ is_told (codes "423 No such article number") 4
    ∷ is_told_lines (codes "222 3 <3@a.example>") (codes "hi" ∷ []) 4 ∷ is_told (codes "421 No next article") 4 ∷ []
