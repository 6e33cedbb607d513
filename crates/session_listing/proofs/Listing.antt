-- The lines of the groups that a list has, and the last serial that names one of them.
use Rattle.std.proofs.Common.{◌≡◌, ℕ, ◌+◌, List, [], ◌∷◌, ◌++◌, map, refl, sym, ◌∙◌, ap, arith, append_assoc, append-nil, Bool, true, false}
use Rattle.std.proofs.Common.{cond, length}
use Rattle.std.specs.Prelude.{◌==◌, filter, flat_map, max, slice_get, take, Some, None, ℤ}
use Rattle.std.proofs.lemmas.List.{map-append, take_all, length-map}
use Rattle.std.proofs.lemmas.List.Concat.{flat_map-append}
use Rattle.std.proofs.lemmas.List.Elements.{filter-append}
use Rattle.model.specs.Answer.{is_listed, is_since}
use Rattle.model.specs.Lawful.{IsLawful}
use Rattle.model.specs.Replies.{block}
use Rattle.model.specs.Spool.{Spool, Listed, NewsGroup, greatest, groups, last_naming, last_naming_one, listed}
use Rattle.model.specs.Stream.{Octets, dot_line, line, stuffed_line}
use Rattle.model.proofs.Indexing.{greatest_more}
use Rattle.model.proofs.Joined.{front_more}
use Rattle.session_lookups.specs.Held.{Known, all_known, known}
use Rattle.session_lookups.proofs.Absent.{greatest_last, last_of_groups}
use Rattle.session_listing.specs.Lists.{is_picked, last_of, later_of, line_of, lines_of, picked, rest_of, shown_as}
use Rattle.session_listing.specs.declared.listed_groups.Choice.{Choice}
use Rattle.session_listing.specs.declared.listed_groups.Show.{Show}
use Rattle.session_listing.specs.declared.listed_groups.Show.TheVariants.{Active, Times, Newsgroups}

-- ---- the line of a group

-- what stands behind a text that is not stuffed does not matter
stuffed_front : (name more : Octets) → stuffed_line more ≡ more → stuffed_line (name ++ more) ≡ stuffed_line name ++ more
stuffed_front [] more plain = plain
stuffed_front (x ∷ name) more plain =
    elim (x == 46) as (λ b. cond b (46 ∷ x ∷ (name ++ more)) (x ∷ (name ++ more)) ≡ cond b (46 ∷ x ∷ name) (x ∷ name) ++ more) [
      | true ↦ refl
      | false ↦ refl
    ]

named : (show : Show) (l : Listed) → line (shown_as show l) ≡ l.group.name ++ rest_of show l
named Active l = simp append_assoc
named Times l = simp append_assoc
named Newsgroups l = simp append_assoc

rest_plain : (show : Show) (l : Listed) → stuffed_line (rest_of show l) ≡ rest_of show l
rest_plain Active l = refl
rest_plain Times l = refl
rest_plain Newsgroups l = refl

pub stuffed_group : (show : Show) (l : Listed) → stuffed_line (line (shown_as show l)) ≡ stuffed_line l.group.name ++ rest_of show l
stuffed_group show l = ap stuffed_line (named show l) ∙ stuffed_front l.group.name (rest_of show l) (rest_plain show l)

-- ---- one group more

module _ (pick : Choice) (ks : List Known) (n : ℕ) (k : Known) (is : slice_get ks n ≡ Some k) where
  one : picked pick (take (n + 1) ks) ≡ picked pick (take n ks) ++ cond (is_picked pick k.listed.group) (k ∷ []) []
  one = ap (picked pick) (front_more ks n k is) ∙ filter-append (λ (h : Known). is_picked pick h.listed.group) (take n ks) (k ∷ [])

  pub line_more : (show : Show) → lines_of pick show (take (n + 1) ks) ≡ lines_of pick show (take n ks) ++ line_of pick show k
  line_more show =
      ap (flat_map (λ (h : Known). stuffed_line (line (shown_as show h.listed)))) one
      ∙ flat_map-append (λ (h : Known). stuffed_line (line (shown_as show h.listed))) (picked pick (take n ks))
      (cond (is_picked pick k.listed.group) (k ∷ []) [])
      ∙ ap (λ os. lines_of pick show (take n ks) ++ os) (by_pass (is_picked pick k.listed.group))
    where
      by_pass : (b : Bool) → flat_map (λ (h : Known). stuffed_line (line (shown_as show h.listed))) (cond b (k ∷ []) [])
          ≡ cond b (stuffed_line (line (shown_as show k.listed))) []
      by_pass true = append-nil (stuffed_line (line (shown_as show k.listed)))
      by_pass false = refl

  pub last_more : last_of pick (take (n + 1) ks) ≡ later_of pick (last_of pick (take n ks)) k
  last_more = ap (λ hs. greatest (map (λ (h : Known). h.last) hs)) one ∙ by_pass (is_picked pick k.listed.group) where
    by_pass : (b : Bool) → greatest (map (λ (h : Known). h.last) (picked pick (take n ks) ++ cond b (k ∷ []) []))
        ≡ cond b (max (last_of pick (take n ks)) k.last) (last_of pick (take n ks))
    by_pass true = ap greatest (map-append (λ (h : Known). h.last) (picked pick (take n ks)) (k ∷ []))
        ∙ greatest_more (map (λ (h : Known). h.last) (picked pick (take n ks))) k.last
    by_pass false = ap (λ hs. greatest (map (λ (h : Known). h.last) hs)) (append-nil (picked pick (take n ks)))

pub all_taken : (S : Spool) → take (length (groups S)) (all_known S) ≡ all_known S
all_taken S = take_all (length (groups S)) (all_known S) (let size = length-map (groups S) (known S) in omega (arith, size))

-- ---- the groups that a list has

kept_first : {X Y : Type 0} (f : X → Y) (x : X) (xs : List X) (b : Bool) → cond b (f x ∷ map f xs) (map f xs) ≡ map f (cond b (x ∷ xs) xs)
kept_first f x xs true = refl
kept_first f x xs false = refl

module _ (S : Spool) (pick : Choice) (test : NewsGroup → Bool) (same : (g : NewsGroup) → is_picked pick g ≡ test g) where
  kept : (gs : List NewsGroup) → picked pick (map (known S) gs) ≡ map (known S) (filter test gs)
  kept [] = refl
  kept (g ∷ gs) = (λ i. cond (same g i) (known S g ∷ kept gs i) (kept gs i)) ∙ kept_first (known S) g (filter test gs) (test g)

  shown_lines : (show : Show) (gs : List NewsGroup)
      → flat_map (λ (k : Known). stuffed_line (line (shown_as show k.listed))) (map (known S) gs)
      ≡ flat_map stuffed_line (map line (map (shown_as show) (map (λ (g : NewsGroup). (known S g).listed) gs)))
  shown_lines show [] = refl
  shown_lines show (g ∷ gs) = ap (λ os. stuffed_line (line (shown_as show (known S g).listed)) ++ os) (shown_lines show gs)

  lines_kept : (show : Show) → lines_of pick show (all_known S)
      ≡ flat_map stuffed_line (map line (map (shown_as show) (map (λ (g : NewsGroup). (known S g).listed) (filter test (groups S)))))
  lines_kept show = ap (flat_map (λ (k : Known). stuffed_line (line (shown_as show k.listed)))) (kept (groups S))
      ∙ shown_lines show (filter test (groups S))

  -- the block that has these lines
  pub block_kept : (show : Show) (status : Octets)
      → line status ++ lines_of pick show (all_known S) ++ dot_line
      ≡ block status (map (shown_as show) (map (λ (g : NewsGroup). (known S g).listed) (filter test (groups S))))
  block_kept show status = append_assoc (line status) (lines_of pick show (all_known S)) dot_line
      ∙ ap (λ os. line status ++ (os ++ dot_line)) (lines_kept show)

  lasts : (gs : List NewsGroup) → greatest (map (λ (k : Known). k.last) (map (known S) gs)) ≡ greatest_last S gs
  lasts [] = refl
  lasts (g ∷ gs) = ap (max (last_naming S g.name)) (lasts gs)

  last_kept : last_of pick (all_known S) ≡ greatest_last S (filter test (groups S))
  last_kept = ap (λ ks. greatest (map (λ (k : Known). k.last) ks)) (kept (groups S)) ∙ lasts (filter test (groups S))

-- a list of the groups whose names pass a test
module _ (host : Octets) (S : Spool) (pick : Choice) (test : Octets → Bool) (same : (g : NewsGroup) → is_picked pick g ≡ test g.name) where
  pub block_listed : (show : Show) (status : Octets)
      → line status ++ lines_of pick show (all_known S) ++ dot_line ≡ block status (map (shown_as show) (listed S test))
  unfolding listed
  block_listed show status = block_kept S pick (λ (g : NewsGroup). test g.name) same show status

  pub last_listed : IsLawful host S → last_of pick (all_known S) ≡ last_naming_one S test
  last_listed lawful = last_kept S pick (λ (g : NewsGroup). test g.name) same ∙ sym (last_of_groups host S test lawful)

-- a list of the groups made since a moment
module _ (S : Spool) (pick : Choice) (from : ℤ) (same : (g : NewsGroup) → is_picked pick g ≡ is_since from g.moment) where
  made_since : (gs : List NewsGroup)
      → filter (λ (l : Listed). is_since from l.group.moment)
      (map (λ (g : NewsGroup). (known S g).listed) (filter (λ (g : NewsGroup). true) gs)) ≡ map (λ (g : NewsGroup). (known S g).listed)
      (filter (λ (g : NewsGroup). is_since from g.moment) gs)
  made_since [] = refl
  made_since (g ∷ gs) =
      (λ i. cond (is_since from g.moment) ((known S g).listed ∷ made_since gs i) (made_since gs i))
      ∙ kept_first (λ (g : NewsGroup). (known S g).listed) g (filter (λ (g : NewsGroup). is_since from g.moment) gs)
      (is_since from g.moment)

  pub block_since : (show : Show) (status : Octets)
      → line status ++ lines_of pick show (all_known S) ++ dot_line
      ≡ block status (map (shown_as show) (filter (λ (l : Listed). is_since from l.group.moment) (listed S (is_listed None))))
  unfolding listed
  block_since show status =
      block_kept S pick (λ (g : NewsGroup). is_since from g.moment) same show status
      ∙ ap (λ ls. block status (map (shown_as show) ls)) (sym (made_since (groups S)))
