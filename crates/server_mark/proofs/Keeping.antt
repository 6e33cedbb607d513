-- Each step keeps the rule.
use Rattle.std.specs.Prelude.{bit_or, ◌==◌}
use Rattle.std.proofs.Common.{◌≡◌, ◌≢◌, ◌≤◌, ◌<◌, ◌⊎◌, ℕ, zero, suc, max, Bool, true, false, List, [], ◌∷◌, ◌++◌, length, get_or, set, refl}
use Rattle.std.proofs.Common.{sym, ◌∙◌, ap, subst, inl, inr, ⊎_elim, arith, Contains}
use mathlib.Core.Option.{some, some-injective, some-ne-none}
use mathlib.Core.Logic.{dite}
use native.Mathlib.Decide.{ℕ_discrete}
use lib.ListN.{get_elem?}
use Rattle.std.proofs.lemmas.List.Elements.{Contains-append_left, Contains-append_right}
use Rattle.atomic_table.specs.Table.{State, Me, keeps, opening, Allows, Joins, Splits}
use Rattle.atomic_table.proofs.Lists.{at_set, at_snoc, at_longer, set_again, set_here, set_else}
use Rattle.server_mark.specs.Rule.{
  after_stop_of,
  Fits,
  IsKept,
  WasRaised,
  at_first,
  caller_at_first,
  greatest,
  is_caller,
  is_flusher,
  looks,
}
use Rattle.server_mark.specs.Rule.{known_of, raised_of, raises, seen_of, sees, stop_word, stopped_of, stops, tells, told_of, with_taken}
use Rattle.server_mark.specs.declared.steps.View.{View}
use Rattle.server_mark.specs.declared.steps.View.TheVariants.{Caller, Flusher}

abbrev St : Type 0
St = State ℕ View

abbrev Holds : St → Type 0
Holds s = IsKept s.words s.views

-- ---- the greatest of some numbers

greatest-snoc : (ns : List ℕ) (n : ℕ) → greatest (ns ++ n ∷ []) ≡ max (greatest ns) n
greatest-snoc [] n = omega arith
greatest-snoc (m ∷ ns) n = omega (arith, greatest-snoc ns n)

-- the first number is one of the numbers
contains_front : (n : ℕ) (ns : List ℕ) → Contains (n ∷ ns) n
contains_front n ns = (0, omega arith, refl)

greatest_was_raised : (ns : List ℕ) → WasRaised ns (greatest ns)
greatest_was_raised [] = inl refl
greatest_was_raised (n ∷ ns) = by_order (greatest_was_raised ns)
    (dite (ℕ_discrete (max n (greatest ns)) n) (λ e. inl e) (λ ne. inr ne)) where
      by_order : WasRaised ns (greatest ns) → (max n (greatest ns) ≡ n) ⊎ (max n (greatest ns) ≢ n)
          → WasRaised (n ∷ ns) (max n (greatest ns))
      by_order was (inl first) = subst (λ (x : ℕ). WasRaised (n ∷ ns) x) (sym first) (inr (contains_front n ns))
      by_order was (inr other) =
          let it : max n (greatest ns) ≡ greatest ns = omega arith in
          subst (λ (x : ℕ). WasRaised (n ∷ ns) x) (sym it)
          (⊎_elim (λ z. inl z) (λ c. inr (Contains-append_right (n ∷ []) ns (greatest ns) c)) was)

still_raised : (ns : List ℕ) (n x : ℕ) → WasRaised ns x → WasRaised (ns ++ n ∷ []) x
still_raised ns n x (inl none_yet) = inl none_yet
still_raised ns n x (inr c) = inr (Contains-append_left ns (n ∷ []) x c)

-- ---- what a view knows, when more is raised or the flusher stops

fits_more : (port seat n : ℕ) (raised : List ℕ) (stopped : Bool) (view : View) → seat ≢ port → Fits port raised stopped seat view
    → Fits port (raised ++ n ∷ []) stopped seat view
fits_more port seat n raised stopped (Caller seen told after_stop) other f =
    (omega (arith, greatest-snoc raised n, f.0), still_raised raised n seen f.1, f.2)
fits_more port seat n raised stopped (Flusher its has known) other f = absurd (other f.0)

fits_stopped : (port seat : ℕ) (raised : List ℕ) (stopped : Bool) (view : View) → seat ≢ port → Fits port raised stopped seat view
    → Fits port raised true seat view
fits_stopped port seat raised stopped (Caller seen told after_stop) other f = (f.0, f.1, λ _. refl)
fits_stopped port seat raised stopped (Flusher its has known) other f = absurd (other f.0)

-- ---- a seat's view at the rule

-- a caller's seat isn't the flusher's
other_port : (words : List ℕ) (views : List View) (kept : IsKept words views) (id : ℕ) (view : View) → get_elem? views id ≡ some view
    → is_caller view ≡ true → id ≢ kept.port
other_port words views kept id (Caller seen told after_stop) at is =
    λ e. caller_flusher (some-injective _ _ (sym at ∙ (ap (λ (k : ℕ). get_elem? views k) e ∙ kept.there))) where
      caller_flusher : Caller seen told after_stop ≡ Flusher kept.raised kept.stopped kept.known → ⊥
      caller_flusher e = cc
other_port words views kept id (Flusher raised stopped known) at is = absurd (cc)

word_0 : (words : List ℕ) (views : List View) (kept : IsKept words views) → get_or words 0 0 ≡ greatest kept.raised
word_0 words views kept = ap (λ (ws : List ℕ). get_or ws 0 0) kept.words_are

word_1 : (words : List ℕ) (views : List View) (kept : IsKept words views) → get_or words 1 0 ≡ stop_word kept.stopped
word_1 words views kept = ap (λ (ws : List ℕ). get_or ws 1 0) kept.words_are

-- a caller's seat gets a new view, which fits, and the words stay
caller_steps : (words : List ℕ) (views : List View) (kept : IsKept words views) (id word : ℕ) (view : View) (seen : ℕ)
    (told after_stop : Bool) → get_elem? views id ≡ some view → is_caller view ≡ true
    → (word ≡ 0) ⊎ (word ≡ 1) → Fits kept.port kept.raised kept.stopped id (Caller seen told after_stop)
    → IsKept (set words word (get_or words word 0)) (set views id (Caller seen told after_stop))
caller_steps words views kept id word view seen told after_stop at is at_word f =
    let other = other_port words views kept id view at is in
    record {
      port = kept.port;
      raised = kept.raised;
      stopped = kept.stopped;
      known = kept.known;
      there = set_else views id kept.port (Caller seen told after_stop) (λ e. other (sym e)) ∙ kept.there;
      words_are = same_word at_word;
      fits = λ seat v at_seat. ⊎_elim
          (λ here. subst (λ (w : View). Fits kept.port kept.raised kept.stopped seat w) here.1
          (subst (λ (k : ℕ). Fits kept.port kept.raised kept.stopped k (Caller seen told after_stop)) (sym here.0) f))
          (λ elsewhere. kept.fits seat v elsewhere.1)
          (at_set views id seat (Caller seen told after_stop) v at_seat);
    }
  where
    same_word : (word ≡ 0) ⊎ (word ≡ 1) → set words word (get_or words word 0) ≡ greatest kept.raised ∷ stop_word kept.stopped ∷ []
    same_word (inl e) = subst (λ (k : ℕ). set words k (get_or words k 0) ≡ greatest kept.raised ∷ stop_word kept.stopped ∷ []) (sym e)
        (ap (λ (ws : List ℕ). set ws 0 (get_or ws 0 0)) kept.words_are)
    same_word (inr e) = subst (λ (k : ℕ). set words k (get_or words k 0) ≡ greatest kept.raised ∷ stop_word kept.stopped ∷ []) (sym e)
        (ap (λ (ws : List ℕ). set ws 1 (get_or ws 1 0)) kept.words_are)

-- ---- the four steps

pub looks_allowed : (slots id : ℕ) (me : Me ℕ View) → is_caller me.0 ≡ true
    → Allows Holds slots id me 0 (λ n. n) (λ found after. looks me.0 found after.0 me.1 after.1)
looks_allowed slots id me is s kept _ at _ =
    let found : get_or s.words 0 0 ≡ greatest kept.raised = word_0 s.words s.views kept in
    let f = kept.fits id me.0 at in (
      Caller (get_or s.words 0 0) (told_of me.0) (told_of me.0),
      keeps,
      tt,
      caller_steps s.words s.views kept id 0 me.0 (get_or s.words 0 0) (told_of me.0) (told_of me.0) at is (inl refl)
          (subst (λ (n : ℕ). Fits kept.port kept.raised kept.stopped id (Caller n (told_of me.0) (told_of me.0))) (sym found)
          (sees_greatest me.0 is f)),
      (refl, not_less me.0 is f found, refl),
    )
  where
    sees_greatest : (v : View) → is_caller v ≡ true → Fits kept.port kept.raised kept.stopped id v
        → Fits kept.port kept.raised kept.stopped id (Caller (greatest kept.raised) (told_of v) (told_of v))
    sees_greatest (Caller seen told after_stop) _ f = (omega arith, greatest_was_raised kept.raised, f.2)
    sees_greatest (Flusher its has known) isnt f = absurd (cc)

    not_less : (v : View) → is_caller v ≡ true → Fits kept.port kept.raised kept.stopped id v → get_or s.words 0 0 ≡ greatest kept.raised
        → seen_of v ≤ get_or s.words 0 0
    not_less (Caller seen told after_stop) _ f e = omega (arith, f.0, e)
    not_less (Flusher its has known) isnt f e = absurd (cc)

stop_word-is : (stopped : Bool) → (stop_word stopped == 1) ≡ stopped
stop_word-is true = refl
stop_word-is false = refl

pub sees_allowed : (slots id : ℕ) (me : Me ℕ View) → is_caller me.0 ≡ true
    → Allows Holds slots id me 1 (λ n. n) (λ found after. sees me.0 found after.0 me.1 after.1)
sees_allowed slots id me is s kept _ at _ =
    let found : (get_or s.words 1 0 == 1) ≡ kept.stopped = ap (λ (n : ℕ). n == 1) (word_1 s.words s.views kept)
    ∙ stop_word-is kept.stopped in
    let f = kept.fits id me.0 at in (
      Caller (seen_of me.0) (get_or s.words 1 0 == 1) (after_stop_of me.0),
      keeps,
      tt,
      caller_steps s.words s.views kept id 1 me.0 (seen_of me.0) (get_or s.words 1 0 == 1) (after_stop_of me.0) at is (inr refl)
          (is_told me.0 is f (get_or s.words 1 0 == 1) found),
      (refl, λ told. found ∙ was_told me.0 is f told, refl),
    )
  where
    is_told : (v : View) → is_caller v ≡ true → Fits kept.port kept.raised kept.stopped id v → (b : Bool) → b ≡ kept.stopped
        → Fits kept.port kept.raised kept.stopped id (Caller (seen_of v) b (after_stop_of v))
    is_told (Caller seen told after_stop) _ f b e = (f.0, f.1, λ t. sym e ∙ t)
    is_told (Flusher its has known) isnt f b e = absurd (cc)

    was_told : (v : View) → is_caller v ≡ true → Fits kept.port kept.raised kept.stopped id v → told_of v ≡ true → kept.stopped ≡ true
    was_told (Caller seen told after_stop) _ f t = f.2 t
    was_told (Flusher its has known) isnt f t = absurd (cc)

-- the flusher's seat has raised what was raised
port_is : (words : List ℕ) (views : List View) (kept : IsKept words views) (id : ℕ) (view : View) → get_elem? views id ≡ some view
    → is_flusher view ≡ true
    → (id ≡ kept.port) × (raised_of view ≡ kept.raised) × (stopped_of view ≡ kept.stopped) × WasRaised kept.raised (known_of view)
port_is words views kept id (Caller seen told after_stop) at isnt = absurd (cc)
port_is words views kept id (Flusher its has known) at is = kept.fits id (Flusher its has known) at

-- the flusher's seat gets a new view, and the words are what it says
flusher_steps : (words : List ℕ) (views : List View) (kept : IsKept words views) (id : ℕ) (after : List ℕ) (raised : List ℕ)
    (stopped : Bool) (known : ℕ) → id ≡ kept.port → WasRaised raised known
    → after ≡ greatest raised ∷ stop_word stopped ∷ []
    → ((seat : ℕ) (view : View) → seat ≢ kept.port → Fits kept.port kept.raised kept.stopped seat view
    → Fits kept.port raised stopped seat view)
    → IsKept after (set views id (Flusher raised stopped known))
flusher_steps words views kept id after raised stopped known is was words_are others = record {
  port = kept.port;
  raised = raised;
  stopped = stopped;
  known = known;
  there = subst (λ (k : ℕ). get_elem? (set views k (Flusher raised stopped known)) kept.port ≡ some (Flusher raised stopped known))
      (sym is)
      (set_here views kept.port (Flusher raised stopped known) (inside views kept.port _ kept.there));
  words_are = words_are;
  fits = λ seat view at. ⊎_elim
      (λ here. subst (λ (w : View). Fits kept.port raised stopped seat w) here.1 (here.0 ∙ is, refl, refl, was))
      (λ elsewhere. others seat view (λ e. elsewhere.0 (e ∙ sym is)) (kept.fits seat view elsewhere.1))
      (at_set views id seat (Flusher raised stopped known) view at);
}
  where
    inside : (l : List View) (i : ℕ) (a : View) → get_elem? l i ≡ some a → i < length l
    inside [] i a e = absurd (some-ne-none a (sym e))
    inside (x ∷ xs) zero a e = omega arith
    inside (x ∷ xs) (suc i) a e = omega (arith, inside xs i a e)

pub raises_allowed : (slots id : ℕ) (me : Me ℕ View) (n : ℕ) → is_flusher me.0 ≡ true
    → Allows Holds slots id me 0 (λ m. max m n) (λ found after. raises me.0 n after.0 me.1 after.1)
raises_allowed slots id me n is s kept _ at _ =
    let port = port_is s.words s.views kept id me.0 at is in (
      Flusher (raised_of me.0 ++ n ∷ []) (stopped_of me.0) (known_of me.0),
      keeps,
      tt,
      subst (λ (v : List ℕ × Bool). IsKept (set s.words 0 (max (get_or s.words 0 0) n)) (set s.views id (Flusher v.0 v.1 (known_of me.0))))
          (λ i. (sym port.1 i ++ n ∷ [], sym port.2 i))
          (flusher_steps s.words s.views kept id (set s.words 0 (max (get_or s.words 0 0) n)) (kept.raised ++ n ∷ []) kept.stopped
          (known_of me.0) port.0 (still_raised kept.raised n (known_of me.0) port.3)
          (ap (λ (ws : List ℕ). set ws 0 (max (get_or ws 0 0) n)) kept.words_are
          ∙ ap (λ (m : ℕ). m ∷ stop_word kept.stopped ∷ []) (sym (greatest-snoc kept.raised n)))
          (λ seat view other f. fits_more kept.port seat n kept.raised kept.stopped view other f)),
      (refl, refl),
    )

bit_or_stop : (stopped : Bool) → bit_or (stop_word stopped) 1 ≡ 1
bit_or_stop true = refl
bit_or_stop false = refl

pub stops_allowed : (slots id : ℕ) (me : Me ℕ View) → is_flusher me.0 ≡ true
    → Allows Holds slots id me 1 (λ m. bit_or m 1) (λ found after. stops me.0 after.0 me.1 after.1)
stops_allowed slots id me is s kept _ at _ =
    let port = port_is s.words s.views kept id me.0 at is in (
      Flusher (raised_of me.0) true (known_of me.0),
      keeps,
      tt,
      subst (λ (v : List ℕ). IsKept (set s.words 1 (bit_or (get_or s.words 1 0) 1)) (set s.views id (Flusher v true (known_of me.0))))
          (sym port.1)
          (flusher_steps s.words s.views kept id (set s.words 1 (bit_or (get_or s.words 1 0) 1)) kept.raised true (known_of me.0) port.0
          port.3
          (ap (λ (ws : List ℕ). set ws 1 (bit_or (get_or ws 1 0) 1)) kept.words_are
          ∙ ap (λ (m : ℕ). greatest kept.raised ∷ m ∷ []) (bit_or_stop kept.stopped))
          (λ seat view other f. fits_stopped kept.port seat kept.raised kept.stopped view other f)),
      (refl, refl),
    )

-- ---- a seat that is taken back

-- the words stay where one is written that stands there
same_words : (words : List ℕ) (a b : ℕ) → words ≡ a ∷ b ∷ [] → set words 0 (get_or words 0 0) ≡ words
same_words words a b is = ap (λ (ws : List ℕ). set ws 0 (get_or ws 0 0)) is ∙ sym is

-- a caller has seen 0 or a number that was raised
seen_raised : (port seat : ℕ) (raised : List ℕ) (stopped : Bool) (view : View) → is_caller view ≡ true → Fits port raised stopped seat view
    → WasRaised raised (seen_of view)
seen_raised port seat raised stopped (Caller seen told after_stop) is f = f.1
seen_raised port seat raised stopped (Flusher its has known) isnt f = absurd (cc)

pub takes_back : (id other : ℕ) (flusher caller : View) → is_flusher flusher ≡ true → is_caller caller ≡ true
    → Joins Holds id flusher other caller (with_taken flusher caller) caller_at_first
takes_back id other flusher caller is is_other s kept at apart at_other =
    let port = port_is s.words s.views kept id flusher at is in
    let there : get_elem? s.views other ≡ some caller =
    sym (set_else s.views id other (with_taken flusher caller) (λ e. apart e)) ∙ at_other in
    let was : WasRaised kept.raised (seen_of caller) =
    seen_raised kept.port other kept.raised kept.stopped caller is_other (kept.fits other caller there) in
    let mid : IsKept s.words (set s.views id (with_taken flusher caller)) =
    subst (λ (v : List ℕ × Bool). IsKept s.words (set s.views id (Flusher v.0 v.1 (seen_of caller)))) (λ i. (sym port.1 i, sym port.2 i))
    (flusher_steps s.words s.views kept id s.words kept.raised kept.stopped (seen_of caller) port.0 was kept.words_are
    (λ seat view elsewhere f. f)) in
    subst (λ (ws : List ℕ). IsKept ws (set (set s.views id (with_taken flusher caller)) other caller_at_first))
    (same_words s.words _ _ mid.words_are)
    (caller_steps s.words (set s.views id (with_taken flusher caller)) mid other 0 caller 0 false false at_other is_other (inl refl)
    (omega arith, inl refl, λ t. absurd (cc)))

pub tells_allowed : (slots id : ℕ) (me : Me ℕ View) → is_flusher me.0 ≡ true
    → Allows Holds slots id me 0 (λ m. m) (λ found after. tells me.0 after.0 me.1 after.1)
tells_allowed slots id me is s kept _ at _ =
    let port = port_is s.words s.views kept id me.0 at is in (
      me.0,
      keeps,
      tt,
      subst (λ (t : List ℕ × List View). IsKept t.0 t.1)
          (λ i. (sym (same_words s.words _ _ kept.words_are) i, sym (set_again s.views id me.0 at) i)) kept,
      (refl, subst (λ (ns : List ℕ). WasRaised ns (known_of me.0)) (sym port.1) port.3, refl),
    )

-- ---- new seats

-- one more caller's seat, whose view fits
caller_comes : (words : List ℕ) (views : List View) (kept : IsKept words views) (id : ℕ) (left : View) (seen : ℕ) (told after_stop : Bool)
    → get_elem? views id ≡ some left
    → ((seat : ℕ) → Fits kept.port kept.raised kept.stopped seat (Caller seen told after_stop))
    → IsKept words (set views id left ++ Caller seen told after_stop ∷ [])
caller_comes words views kept id left seen told after_stop at f =
    let same : set views id left ≡ views = set_again views id left at in
    subst (λ (vs : List View). IsKept words (vs ++ Caller seen told after_stop ∷ [])) (sym same) (record {
      port = kept.port;
      raised = kept.raised;
      stopped = kept.stopped;
      known = kept.known;
      there = at_longer views (Caller seen told after_stop ∷ []) kept.port (Flusher kept.raised kept.stopped kept.known) kept.there;
      words_are = kept.words_are;
      fits = λ seat view at_seat. ⊎_elim
          (λ before. kept.fits seat view before)
          (λ new. subst (λ (w : View). Fits kept.port kept.raised kept.stopped seat w) new (f seat))
          (at_snoc views (Caller seen told after_stop) view seat at_seat);
    })

pub first_caller : (id : ℕ) (view : View) → Splits Holds id view view caller_at_first
first_caller id view s kept at =
    caller_comes s.words s.views kept id view 0 false false at (λ seat. (omega arith, inl refl, λ t. absurd (cc)))

pub same_caller : (id : ℕ) (view : View) → is_caller view ≡ true → Splits Holds id view view view
same_caller id (Caller seen told after_stop) is s kept at =
    caller_comes s.words s.views kept id (Caller seen told after_stop) seen told after_stop at
    (λ seat. kept.fits id (Caller seen told after_stop) at)
same_caller id (Flusher raised stopped known) isnt s kept at = absurd (cc)

pub at_opening : (slots : List ℕ) → Holds (opening (0 ∷ 0 ∷ []) slots at_first)
at_opening slots = record {
  port = 0;
  raised = [];
  stopped = false;
  known = 0;
  there = refl;
  words_are = refl;
  fits = λ seat view at. only seat view at;
}
  where
    only : (seat : ℕ) (view : View) → get_elem? (at_first ∷ []) seat ≡ some view → Fits 0 [] false seat view
    only zero view at = subst (λ (w : View). Fits 0 [] false 0 w) (some-injective at_first view at) (refl, refl, refl, inl refl)
    only (suc k) view at = absurd (some-ne-none view (sym at))
