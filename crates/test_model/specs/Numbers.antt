-- Worked examples of articles that are asked for by number.
use Rattle.std.specs.Prelude.{◌≡◌, [], ◌∷◌, codes}
use Rattle.test_model.specs.Run.{new_seat, made, says, sends, is_told, told}
use Rattle.test_model.specs.Texts.{article, expires, one, three}

-- sessions 1 and 2 have selected the group; session 0 posts a second article, which has serial 3. A reply about an
-- article by number waits only for that article. A reply about a number that is not yet given waits for nothing. NEXT
-- waits for the group
abbrev pub ByNumber : Type 0
ByNumber =
    told one (new_seat ∷ new_seat ∷ new_seat ∷ [])
    (says 1 (codes "GROUP x.a") ∷ says 2 (codes "GROUP x.a") ∷ says 0 (codes "POST") ∷ sends 0
    (article (codes "<2@a.example>") (codes "x.a"))
    ∷ says 1 (codes "STAT 1") ∷ says 1 (codes "STAT") ∷ says 1 (codes "STAT 2") ∷ says 2 (codes "STAT 3") ∷ says 2 (codes "STAT 0") ∷ says 2
    (codes "NEXT") ∷ [])
    ≡ is_told (codes "211 1 1 1 x.a") 2 ∷ is_told (codes "211 1 1 1 x.a") 2 ∷ is_told (codes "340 Send article") 0 ∷ is_told
    (codes "240 Article received") 3
    ∷ is_told (codes "223 1 <1@a.example>") 2 ∷ is_told (codes "223 1 <1@a.example>") 2 ∷ is_told (codes "223 2 <2@a.example>") 3
    ∷ is_told (codes "423 No such article number") 2 ∷ is_told (codes "423 No such article number") 2 ∷ is_told
    (codes "223 2 <2@a.example>") 3 ∷ []

-- the group is selected with three articles. Number 1 is removed first, by serial 5, and then number 2, by serial 6. A
-- reply about a number below the lowest waits for the expiry that reached it first
abbrev pub BelowTheLowest : Type 0
BelowTheLowest =
    told three (new_seat ∷ new_seat ∷ new_seat ∷ new_seat ∷ new_seat ∷ [])
    (says 0 (codes "GROUP x.a") ∷ says 1 (codes "GROUP x.a") ∷ says 2 (codes "GROUP x.a") ∷ says 3 (codes "GROUP x.a") ∷ says 4
    (codes "GROUP x.a")
    ∷ made (expires (codes "x.a") 1) ∷ made (expires (codes "x.a") 2)
    ∷ says 0 (codes "STAT 1") ∷ says 1 (codes "STAT 2") ∷ says 2 (codes "STAT 3") ∷ says 3 (codes "STAT") ∷ says 4 (codes "STAT 0") ∷ says 4
    (codes "STAT 4") ∷ [])
    ≡ is_told (codes "211 3 1 3 x.a") 4 ∷ is_told (codes "211 3 1 3 x.a") 4 ∷ is_told (codes "211 3 1 3 x.a") 4 ∷ is_told
    (codes "211 3 1 3 x.a") 4 ∷ is_told (codes "211 3 1 3 x.a") 4
    ∷ is_told (codes "423 No such article number") 5 ∷ is_told (codes "423 No such article number") 6 ∷ is_told
    (codes "223 3 <3@a.example>") 4 ∷ is_told (codes "420 No current article") 5
    ∷ is_told (codes "423 No such article number") 4 ∷ is_told (codes "423 No such article number") 4 ∷ []
