-- What a client reads of replies of which only the first octets have come.
use Rattle.std.proofs.Common.{◌≡◌, ℕ, zero, suc, ◌+◌, ◌-◌, ◌<◌, ◌≤◌, List, [], ◌∷◌, ◌++◌, take, drop, refl, sym, ◌∙◌, ap, subst, arith, inl}
use Rattle.std.proofs.Common.{inr, Bool, true, false, cond}
use Rattle.std.proofs.Common.{append-nil, append_assoc}
use Rattle.std.specs.Prelude.{length, bytes_eq, ◌==◌, Option, Some, None, option_map, option_and_then}
use Rattle.std.specs.List.{concat}
use Rattle.std.proofs.lemmas.Bool.{cases_lt}
use Rattle.std.proofs.lemmas.List.{length-append, take-append-drop, take-append-le, take_at, length-drop, length-take-le}
use Rattle.std.proofs.Math.Seq.{take-append-add}
use mathlib.Core.List.{IsPrefix}
use Rattle.model.specs.Stream.{Octets}
use Rattle.model_rfc.specs.Reading.{KeepsStep}
use Rattle.model_rfc.specs.Commands.{Asked, Row, is_multi_line}
use Rattle.model_rfc.specs.Reading.{IsReadSoFar, Response, after_cr, code_of, read_all, read_block, read_line, read_on, read_response}
use Rattle.model_rfc.specs.Reading.{read_rest, undoubled}

-- ---- what was read stays read when more comes

-- what was read, and what follows
abbrev got : {A : Type 0} → A → Octets → Option (A × Octets)
got a rest = Some (a, rest)

got_same : {A : Type 0} (a b : A) (x y : Octets) → got a x ≡ got b y → (a ≡ b) × (x ≡ y)
got_same {A} a b x y same = (ap first same, ap second same) where
  first : Option (A × Octets) → A
  first None = a
  first (Some q) = q.0

  second : Option (A × Octets) → Octets
  second None = x
  second (Some q) = q.1

same_more : {A : Type 0} (a b : A) (x y more : Octets) → got a x ≡ got b y → got a (x ++ more) ≡ got b (y ++ more)
same_more a b x y more same =
    let parts = got_same a b x y same in
    ap (λ c. got c (x ++ more)) parts.0 ∙ ap (λ z. got b (z ++ more)) parts.1

abbrev nothing : Octets
nothing = []

abbrev with_first : ℕ → Option (Octets × Octets) → Option (Octets × Octets)
with_first x q = option_map (λ r. (x ∷ r.0, r.1)) q

abbrev with_line : Octets → Option (List Octets × Octets) → Option (List Octets × Octets)
with_line line q = option_map (λ later. (undoubled line ∷ later.0, later.1)) q

cr_more : (o l rest more : Octets) → after_cr o ≡ got l rest → after_cr (o ++ more) ≡ got l (rest ++ more)
cr_more [] l rest more is = absurd (cc)
cr_more (y ∷ after) l rest more is = by_lf (y == 10) is where
  by_lf : (b : Bool) → cond b (got nothing after) None ≡ got l rest → cond b (got nothing (after ++ more)) None ≡ got l (rest ++ more)
  by_lf true same = same_more nothing l after rest more same
  by_lf false same = absurd (cc)

line_more : (o l rest more : Octets) → read_line o ≡ got l rest → read_line (o ++ more) ≡ got l (rest ++ more)
unfolding read_line
line_more [] l rest more is = absurd (cc)
line_more (x ∷ o) l rest more is = by_cr (x == 13) is (λ k r same. line_more o k r more same) where
  by_rest : (q : Option (Octets × Octets)) → read_line o ≡ q → with_first x q ≡ got l rest
      → ((k r : Octets) → read_line o ≡ got k r → read_line (o ++ more) ≡ got k (r ++ more))
      → with_first x (read_line (o ++ more)) ≡ got l (rest ++ more)
  by_rest None none same again = absurd (cc)
  by_rest (Some q) some same again = ap (with_first x) (again q.0 q.1 some) ∙ same_more (x ∷ q.0) l q.1 rest more same

  by_cr : (b : Bool) → cond b (after_cr o) (with_first x (read_line o)) ≡ got l rest
      → ((k r : Octets) → read_line o ≡ got k r → read_line (o ++ more) ≡ got k (r ++ more))
      → cond b (after_cr (o ++ more)) (with_first x (read_line (o ++ more))) ≡ got l (rest ++ more)
  by_cr true same again = cr_more o l rest more same
  by_cr false same again = by_rest (read_line o) refl same again

abbrev no_lines : List Octets
no_lines = []

abbrev block_step : ℕ → Octets × Octets → Option (List Octets × Octets)
block_step n r = cond (bytes_eq r.0 (46 ∷ [])) (got no_lines r.1) (with_line r.0 (read_block n r.1))

abbrev BlocksGrow : ℕ → ℕ → Octets → Type 0
BlocksGrow n m more = (o : Octets) (ls : List Octets) (rest : Octets) → read_block n o ≡ got ls rest → read_block m (o ++ more)
    ≡ got ls (rest ++ more)

block_later : (n m : ℕ) (more : Octets) → BlocksGrow n m more → (r : Octets × Octets) (ls : List Octets) (rest : Octets)
    → (q : Option (List Octets × Octets)) → read_block n r.1 ≡ q → with_line r.0 q ≡ got ls rest
    → with_line r.0 (read_block m (r.1 ++ more)) ≡ got ls (rest ++ more)
block_later n m more again r ls rest None none same = absurd (cc)
block_later n m more again r ls rest (Some q) some same =
    ap (with_line r.0) (again r.1 q.0 q.1 some) ∙ same_more (undoubled r.0 ∷ q.0) ls q.1 rest more same

block_dot : (n m : ℕ) (more : Octets) → BlocksGrow n m more → (r : Octets × Octets) (ls : List Octets) (rest : Octets) (b : Bool)
    → cond b (got no_lines r.1) (with_line r.0 (read_block n r.1)) ≡ got ls rest
    → cond b (got no_lines (r.1 ++ more)) (with_line r.0 (read_block m (r.1 ++ more))) ≡ got ls (rest ++ more)
block_dot n m more again r ls rest true same = same_more no_lines ls r.1 rest more same
block_dot n m more again r ls rest false same = block_later n m more again r ls rest (read_block n r.1) refl same

block_line : (n m : ℕ) (more : Octets) → BlocksGrow n m more → (o : Octets) (ls : List Octets) (rest : Octets)
    → (q : Option (Octets × Octets)) → read_line o ≡ q → option_and_then (block_step n) q ≡ got ls rest
    → option_and_then (block_step m) (read_line (o ++ more)) ≡ got ls (rest ++ more)
block_line n m more again o ls rest None none same = absurd (cc)
block_line n m more again o ls rest (Some r) some same =
    ap (option_and_then (block_step m)) (line_more o r.0 r.1 more some) ∙ block_dot n m more again r ls rest (bytes_eq r.0 (46 ∷ [])) same

block_more : (n m : ℕ) (more : Octets) → n ≤ m → BlocksGrow n m more
unfolding read_block
block_more zero m more enough o ls rest is = absurd (cc)
block_more (suc n) zero more enough o ls rest is = absurd (omega arith)
block_more (suc n) (suc m) more enough o ls rest is = block_line n m more (block_more n m more (omega arith)) o ls rest (read_line o) refl
    is

abbrev with_block : Octets → List Octets → Response
with_block first lines = record { first = first; block = Some lines }

abbrev boxed : Octets → Option (List Octets × Octets) → Option (Response × Octets)
boxed first q = option_map (λ b. (with_block first b.0, b.1)) q

response_block : (first after more : Octets) (r : Response) (rest : Octets) (q : Option (List Octets × Octets))
    → read_block (length after) after ≡ q
    → boxed first q ≡ got r rest → boxed first (read_block (length (after ++ more)) (after ++ more)) ≡ got r (rest ++ more)
response_block first after more r rest None none same = absurd (cc)
response_block first after more r rest (Some b) some same =
    ap (boxed first) (block_more (length after) (length (after ++ more)) more (omega (arith, length-append after more)) after b.0 b.1 some)
    ∙ same_more (with_block first b.0) r b.1 rest more same

response_rest : (m : Bool) (first after more : Octets) (r : Response) (rest : Octets) → read_rest m first after ≡ got r rest
    → read_rest m first (after ++ more) ≡ got r (rest ++ more)
response_rest true first after more r rest same = response_block first after more r rest (read_block (length after) after) refl same
response_rest false first after more r rest same = same_more (record { first = first; block = None }) r after rest more same

abbrev response_step : Row → Octets × Octets → Option (Response × Octets)
response_step row l = read_rest (is_multi_line row (code_of l.0)) l.0 l.1

response_line : (row : Row) (o : Octets) (r : Response) (rest more : Octets) (q : Option (Octets × Octets)) → read_line o ≡ q
    → option_and_then (response_step row) q ≡ got r rest → read_response row (o ++ more) ≡ got r (rest ++ more)
response_line row o r rest more None none same = absurd (cc)
response_line row o r rest more (Some l) some same =
    ap (option_and_then (response_step row)) (line_more o l.0 l.1 more some)
    ∙ response_rest (is_multi_line row (code_of l.0)) l.0 l.1 more r rest same

response_more : (row : Row) (o : Octets) (r : Response) (rest more : Octets) → read_response row o ≡ got r rest
    → read_response row (o ++ more) ≡ got r (rest ++ more)
response_more row o r rest more is = response_line row o r rest more (read_line o) refl is

-- ---- replies that are read whole

abbrev pub AreRead : List Asked → List Octets → List Response → Type 0
AreRead [] [] [] = Unit {0}
AreRead (asked ∷ more) (reply ∷ replies) (r ∷ rs) =
    ((rest : Octets) → read_response asked.row (reply ++ rest) ≡ Some (r, rest)) × AreRead more replies rs
AreRead asked replies rs = ⊥

pub all_read : (asked : List Asked) (replies : List Octets) (rs : List Response) → AreRead asked replies rs
    → read_all asked (concat replies) ≡ (rs, [])
all_read [] [] [] are = refl
all_read (a ∷ asked) (reply ∷ replies) (r ∷ rs) are =
    ap (read_on (reply ++ concat replies) (read_all asked)) (are.0 (concat replies))
    ∙ ap (λ (p : List Response × Octets). (r ∷ p.0, p.1)) (all_read asked replies rs are.1)
all_read [] [] (r ∷ rs) are = absurd are
all_read [] (reply ∷ replies) rs are = absurd are
all_read (a ∷ asked) [] rs are = absurd are
all_read (a ∷ asked) (reply ∷ replies) [] are = absurd are

pub count_read : (asked : List Asked) (replies : List Octets) (rs : List Response) → AreRead asked replies rs → length rs ≡ length replies
count_read [] [] [] are = refl
count_read (a ∷ asked) (reply ∷ replies) (r ∷ rs) are = ap suc (count_read asked replies rs are.1)
count_read [] [] (r ∷ rs) are = absurd are
count_read [] (reply ∷ replies) rs are = absurd are
count_read (a ∷ asked) [] rs are = absurd are
count_read (a ∷ asked) (reply ∷ replies) [] are = absurd are

-- a reply of which octets are missing isn't read
not_read : (row : Row) (reply : Octets) (r : Response) (n : ℕ) → n < length reply
    → ((rest : Octets) → read_response row (reply ++ rest) ≡ Some (r, rest))
    → read_response row (take n reply) ≡ None
not_read row reply r n short whole = by_read (read_response row (take n reply)) refl where
  by_read : (q : Option (Response × Octets)) → read_response row (take n reply) ≡ q → q ≡ None
  by_read None none = refl
  by_read (Some s) some =
      let more = response_more row (take n reply) s.0 s.1 (drop n reply) some in
      let same : got s.0 (s.1 ++ drop n reply) ≡ got r nothing =
      sym more ∙ ap (read_response row) (take-append-drop n reply ∙ sym (append-nil reply)) ∙ whole nothing in
      let size : length (s.1 ++ drop n reply) ≡ 0 = ap (λ (p : Octets). length p) (got_same s.0 r (s.1 ++ drop n reply) nothing same).1 in
      absurd (omega (arith, size, length-append s.1 (drop n reply), length-drop n reply))

none_taken : (k : ℕ) → take k nothing ≡ nothing
none_taken zero = refl
none_taken (suc k) = refl

pub so_far : (asked : List Asked) (replies : List Octets) (rs : List Response) (n : ℕ) → AreRead asked replies rs
    → IsReadSoFar asked replies rs (take n (concat replies))
so_far [] [] [] n are = record {
  whole = 0;
  part = [];
  octets_are = none_taken n;
  read = ap (read_all []) (none_taken n);
  cut =
      λ reply is. absurd (cc);
  none = λ is. refl;
}
so_far (a ∷ asked) (reply ∷ replies) (r ∷ rs) n are = elim (cases_lt n (length reply)) [
  | inl short ↦
      let front : take n (reply ++ concat replies) ≡ take n reply = take-append-le n reply (concat replies) (omega arith) in
      let size : length (take n reply) ≡ n = length-take-le n reply (omega arith) in
      record {
        whole = 0;
        part = take n reply;
        octets_are = front;
        read = ap (read_all (a ∷ asked)) front ∙ ap (read_on (take n reply) (read_all asked)) (not_read a.row reply r n short are.0);
        cut = λ next is. let same : reply ≡ next = cc in
            subst (λ (q : Octets). (length (take n reply) < length q) × (take n reply ≡ take (length (take n reply)) q)) same
            (omega arith, ap (λ k. take k reply) (sym size));
        none = λ is. absurd (cc);
      }
  | inr long ↦
      let rest = so_far asked replies rs (n - length reply) are.1 in
      let shift : length reply + (n - length reply) ≡ n = omega arith in
      let front : take n (reply ++ concat replies) ≡ reply ++ take (n - length reply) (concat replies) =
      ap (λ k. take k (reply ++ concat replies)) (sym shift) ∙ take-append-add reply (concat replies) (n - length reply) in
      record {
        whole = suc rest.whole;
        part = rest.part;
        octets_are = front ∙ ap (λ s. reply ++ s) rest.octets_are ∙ sym (append_assoc reply (concat (take rest.whole replies)) rest.part);
        read = ap (read_all (a ∷ asked)) front
            ∙ ap (read_on (reply ++ take (n - length reply) (concat replies)) (read_all asked))
            (are.0 (take (n - length reply) (concat replies)))
            ∙ ap (λ (p : List Response × Octets). (r ∷ p.0, p.1)) rest.read;
        cut = rest.cut;
        none = rest.none;
      }
]
so_far [] [] (r ∷ rs) n are = absurd are
so_far [] (reply ∷ replies) rs n are = absurd are
so_far (a ∷ asked) [] rs n are = absurd are
so_far (a ∷ asked) (reply ∷ replies) [] n are = absurd are

-- a beginning of the replies
front_is : (came all : Octets) → IsPrefix came all → take (length came) all ≡ came
front_is came all front = ap (take (length came)) (sym front.1) ∙ take_at came front.0 (length came) refl

pub keeps_step : (asked : List Asked) (replies : List Octets) (rs : List Response) → AreRead asked replies rs → KeepsStep asked replies
keeps_step asked replies rs are = record {
  responses = rs;
  one_each = count_read asked replies rs are;
  read = all_read asked replies rs are;
  read_so_far = λ came front.
      subst (λ (o : Octets). IsReadSoFar asked replies rs o) (front_is came (concat replies) front)
      (so_far asked replies rs (length came) are);
}
