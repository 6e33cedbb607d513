-- Worked examples of expiry. A group of three articles, two of which are removed, has serials 1 to 5.
use Rattle.std.specs.Prelude.{◌≡◌, [], ◌∷◌, ◌++◌, codes}
use Rattle.model.specs.Spool.{Spool, first}
use Rattle.model.specs.Lawful.{MayExpire}
use Rattle.model.specs.SpoolFiles.{files_of}
use Rattle.test_model.specs.Run.{new_seat, made, says, sends, is_told, is_told_lines, tabbed, told}
use Rattle.model.specs.declared.values.Status.TheVariants.{Open}
use Rattle.test_model.specs.Texts.{article, article_one, expires, expiry, files, three, with_second}

-- two of three are removed
abbrev pub expired : Spool
expired = three ++ expires (codes "x.a") 2 ∷ []

abbrev pub all_expired : Spool
all_expired = expired ++ expires (codes "x.a") 3 ∷ []

-- new sessions, each with one message
abbrev pub EachAlone : Type 0
EachAlone =
    told expired (new_seat ∷ new_seat ∷ new_seat ∷ new_seat ∷ new_seat ∷ [])
    (says 0 (codes "GROUP x.a") ∷ says 1 (codes "STAT <1@a.example>") ∷ says 2 (codes "STAT <9@a.example>") ∷ says 3
    (codes "STAT <3@a.example>") ∷ says 4 (codes "IHAVE <1@a.example>") ∷ [])
    ≡ is_told (codes "211 1 3 3 x.a") 5 ∷ is_told (codes "430 No such article") 5 ∷ is_told (codes "430 No such article") 0
    ∷ is_told (codes "223 0 <3@a.example>") 4 ∷ is_told (codes "435 Article not wanted") 2 ∷ []

-- the same number is not removed twice; a number above the highest, or of a group that does not exist, never
pub record MayOnlyOnce : Type 0 where
  pub may : MayExpire three (expiry (codes "x.a") 2)
  pub twice : MayExpire expired (expiry (codes "x.a") 2) → ⊥
  pub further : MayExpire expired (expiry (codes "x.a") 3)
  pub past : MayExpire expired (expiry (codes "x.a") 4) → ⊥
  pub nothing : MayExpire three (expiry (codes "x.a") 0) → ⊥
  pub elsewhere : MayExpire three (expiry (codes "x.b") 1) → ⊥

-- where the expiry is lost, the article is in its group
abbrev pub Lost : Type 0
Lost =
    (first expired 4 ≡ three)
    × (told (first expired 4) (new_seat ∷ []) (says 0 (codes "STAT <1@a.example>") ∷ []) ≡ is_told (codes "223 0 <1@a.example>") 2 ∷ [])

-- when all articles are removed the group is empty, and the next article has the next number
abbrev pub NextNumber : Type 0
NextNumber =
    told all_expired (new_seat ∷ [])
    (says 0 (codes "GROUP x.a") ∷ says 0 (codes "STAT") ∷ says 0 (codes "POST") ∷ sends 0 (article (codes "<4@a.example>") (codes "x.a"))
    ∷ says 0 (codes "GROUP x.a") ∷ says 0 (codes "STAT 4") ∷ [])
    ≡ is_told (codes "211 0 4 3 x.a") 6 ∷ is_told (codes "420 No current article") 6 ∷ is_told (codes "340 Send article") 6 ∷ is_told
    (codes "240 Article received") 7
    ∷ is_told (codes "211 1 4 4 x.a") 7 ∷ is_told (codes "223 4 <4@a.example>") 7 ∷ []

-- the same holds where one is left: numbers continue after the highest
abbrev pub NumbersGoOn : Type 0
NumbersGoOn =
    told expired (new_seat ∷ [])
    (says 0 (codes "POST") ∷ sends 0 (article (codes "<4@a.example>") (codes "x.a")) ∷ says 0 (codes "GROUP x.a") ∷ says 0
    (codes "STAT") ∷ says 0 (codes "NEXT") ∷ says 0 (codes "LAST") ∷ [])
    ≡ is_told (codes "340 Send article") 0 ∷ is_told (codes "240 Article received") 6 ∷ is_told (codes "211 2 3 4 x.a") 6
    ∷ is_told (codes "223 3 <3@a.example>") 6 ∷ is_told (codes "223 4 <4@a.example>") 6 ∷ is_told (codes "223 3 <3@a.example>") 6 ∷ []

-- an id that was expired is never accepted again; its refusal waits for the article, not for the expiry
abbrev pub IdsAreRemembered : Type 0
IdsAreRemembered =
    told expired (new_seat ∷ new_seat ∷ [])
    (says 0 (codes "POST") ∷ sends 0 article_one ∷ says 1 (codes "IHAVE <1@a.example>") ∷ [])
    ≡ is_told (codes "340 Send article") 0 ∷ is_told (codes "441 Article not accepted") 2 ∷ is_told (codes "435 Article not wanted") 2 ∷ []

-- lists, ranges and new articles show what is in the groups
abbrev pub ShowsWhatIsIn : Type 0
ShowsWhatIsIn =
    told expired (new_seat ∷ [])
    (says 0 (codes "LISTGROUP x.a") ∷ says 0 (codes "LISTGROUP x.a 1-2") ∷ says 0 (codes "OVER 1-") ∷ says 0 (codes "OVER 1-2") ∷ says 0
    (codes "LIST") ∷ says 0 (codes "NEWNEWS x.* 19990101 000000") ∷ says 0 (codes "OVER <2@a.example>") ∷ [])
    ≡ is_told_lines (codes "211 1 3 3 x.a list follows") (codes "3" ∷ []) 5
    ∷ is_told_lines (codes "211 1 3 3 x.a list follows") [] 5
    ∷ is_told_lines (codes "224 Overview follows")
    (tabbed (codes "3|one|a@example.org|Sun, 09 Sep 2001 01:46:40 +0000|<3@a.example>||146|1") ∷ []) 5
    ∷ is_told (codes "423 No such article number") 5
    ∷ is_told_lines (codes "215 Information follows") (codes "x.a 3 3 y" ∷ []) 5
    ∷ is_told_lines (codes "230 New articles follow") (codes "<3@a.example>" ∷ []) 5
    ∷ is_told (codes "430 No such article") 5 ∷ []

-- a current number below the lowest counts as none, and LAST stops at the lowest
abbrev pub CurrentIsTakenOut : Type 0
CurrentIsTakenOut =
    told three (new_seat ∷ new_seat ∷ new_seat ∷ [])
    (says 0 (codes "GROUP x.a") ∷ says 1 (codes "GROUP x.a") ∷ says 2 (codes "GROUP x.a") ∷ says 2 (codes "STAT 3") ∷ made
    (expires (codes "x.a") 2)
    ∷ says 0 (codes "NEXT") ∷ says 1 (codes "LAST") ∷ says 1 (codes "OVER") ∷ says 2 (codes "STAT") ∷ says 2 (codes "LAST") ∷ [])
    ≡ is_told (codes "211 3 1 3 x.a") 4 ∷ is_told (codes "211 3 1 3 x.a") 4 ∷ is_told (codes "211 3 1 3 x.a") 4 ∷ is_told
    (codes "223 3 <3@a.example>") 4
    ∷ is_told (codes "420 No current article") 5 ∷ is_told (codes "420 No current article") 5 ∷ is_told (codes "420 No current article") 5
    ∷ is_told (codes "223 3 <3@a.example>") 4 ∷ is_told (codes "422 No previous article") 5 ∷ []

-- an article of two groups, numbered 1 in each: it is gone once it was removed from both, by the later expiry. Serials:
-- 3 is the article, 4 another one of x.b, 5 and 6 are the expiries, 7 is one more article of x.b
abbrev pub crossposted : Spool
crossposted =
    with_second Open
    ++ files (article (codes "<1@a.example>") (codes "x.a,x.b")) (codes "x.a" ∷ codes "x.b" ∷ [])
    ∷ files (article (codes "<2@a.example>") (codes "x.b")) (codes "x.b" ∷ [])
    ∷ expires (codes "x.a") 1 ∷ []

abbrev pub TwoGroups : Type 0
TwoGroups =
    told crossposted (new_seat ∷ new_seat ∷ new_seat ∷ new_seat ∷ [])
    (says 0 (codes "STAT <1@a.example>") ∷ says 1 (codes "NEWNEWS x.a 19990101 000000") ∷ says 1 (codes "NEWNEWS x.b 19990101 000000")
    ∷ made (expires (codes "x.b") 1) ∷ made (expires (codes "x.b") 2)
    ∷ says 2 (codes "STAT <1@a.example>") ∷ says 3 (codes "STAT <2@a.example>") ∷ [])
    ≡ is_told (codes "223 0 <1@a.example>") 3 ∷ is_told_lines (codes "230 New articles follow") [] 5
    ∷ is_told_lines (codes "230 New articles follow") (codes "<1@a.example>" ∷ codes "<2@a.example>" ∷ []) 5
    ∷ is_told (codes "430 No such article") 6 ∷ is_told (codes "430 No such article") 7 ∷ []

-- what is stored: texts and numbers stay, and each expiry has a file
abbrev pub Stored : Type 0
Stored =
    files_of expired ≡ files_of three
    ++ record { name = codes "x.0000000005"; content = (5 ∷ 0 ∷ 0 ∷ 0 ∷ 0 ∷ 0 ∷ 0 ∷ 0 ∷ []) ++ (2 ∷ 0 ∷ 0 ∷ 0 ∷ []) ++ 3 ∷ codes "x.a" }
    ∷ []
