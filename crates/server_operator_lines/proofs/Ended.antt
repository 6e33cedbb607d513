-- A line of known octets, by those that were read of it.
use Rattle.std.proofs.Common.{◌≡◌, ◌≢◌, ℕ, ◌<◌, ◌≤◌, Bool, true, false, cond, List, [], ◌∷◌, ◌++◌, All, None, Some, IfSome, length, take}
use Rattle.std.proofs.Common.{refl, sym, ap, ◌∙◌, arith, append_assoc, append-nil, take_all, ne_eqb, length-append, length-take, min}
use Rattle.std.proofs.Common.{subst, if◌then◌else◌}
use Rattle.std.proofs.lemmas.List.{take-append-le}
use Rattle.std.proofs.lemmas.List.Elements.{All-head, All-nil, All-push, All-tail, All-take}
use Rattle.std.proofs.BufReadLemmas.{drop_through-append}
use Rattle.std.proofs.KnownBytes.{Consumes-trans}
use Rattle.std.specs.declared.option.Option.{Option}
use Rattle.std.specs.Io.KnownBytes.{Consumes, IsAtEnd}
use Rattle.std.specs.Io.BufRead.{drop_through}
use Rattle.server_operator_lines.specs.Lines.{line_of, Reads}
use Rattle.server_operator_lines.specs.declared.line_reader.Next.{Next}
use Rattle.server_operator_lines.specs.declared.line_reader.Next.TheVariants.{Line, TooLong, End}

line_of-append : (read more : List ℕ) → All (λ x. x ≢ 10) read → line_of (read ++ more) ≡ read ++ line_of more
line_of-append [] more h = refl
line_of-append (x ∷ xs) more h =
    ap (λ b. cond b [] (x ∷ line_of (xs ++ more))) (ne_eqb x 10 (All-head (λ y. y ≢ 10) x xs h))
    ∙ ap (λ l. x ∷ l) (line_of-append xs more (All-tail (λ y. y ≢ 10) x xs h))

-- the first line is what was read, and the rest is left
pub record IsRead (octets : List ℕ) (read : List ℕ) (left : Option (List ℕ)) : Type 0 where
  pub some : octets ≢ []
  pub line : line_of octets ≡ read
  pub rest : left ≡ Some (drop_through 10 octets)

pub up_to_lf : (known left : Option (List ℕ)) (read : List ℕ) → All (λ x. x ≢ 10) read → Consumes known left (read ++ 10 ∷ [])
    → IfSome known (λ octets. IsRead octets read left)
up_to_lf None left read other was = tt
up_to_lf (Some octets) None read other was = absurd was
up_to_lf (Some octets) (Some rest) read other was =
    let parts : octets ≡ read ++ 10 ∷ rest = was ∙ append_assoc read (10 ∷ []) rest in
    record {
      some = λ none. omega (arith, ap length none, ap length parts, length-append read (10 ∷ rest));
      line = ap line_of parts ∙ line_of-append read (10 ∷ rest) other ∙ append-nil read;
      rest = ap Some (sym (ap (drop_through 10) parts ∙ drop_through-append 10 read (10 ∷ rest) other));
    }

pub up_to_end : (known left : Option (List ℕ)) (read : List ℕ) → All (λ x. x ≢ 10) read → 0 < length read → Consumes known left read
    → IsAtEnd left
    → IfSome known (λ octets. IsRead octets read left)
up_to_end None left read other long was end = tt
up_to_end (Some octets) None read other long was end = absurd was
up_to_end (Some octets) (Some rest) read other long was end =
    let parts : octets ≡ read ++ [] = was ∙ ap (λ l. read ++ l) end in
    record {
      some = λ none. omega (arith, ap length none, ap length parts, length-append read []);
      line = ap line_of parts ∙ line_of-append read [] other ∙ append-nil read;
      rest = ap Some (end ∙ sym (ap (drop_through 10) parts ∙ drop_through-append 10 read [] other));
    }

-- the octets that were read hold no LF, the first 1,024 of them are kept, and it is known whether there are more
pub record Held (read kept : List ℕ) (is_long : Bool) : Type 0 where
  pub alone : All (λ x. x ≢ 10) read
  pub front : kept ≡ take 1024 read
  pub long : is_long ≡ true → 1024 < length read
  pub short : is_long ≡ false → length read ≤ 1024

kept_length : (read kept : List ℕ) → kept ≡ take 1024 read → length kept ≡ min 1024 (length read)
kept_length read kept front = ap length front ∙ length-take 1024 read

pub held_bound : (read kept : List ℕ) (is_long : Bool) → Held read kept is_long → length kept ≤ 1024
held_bound read kept is_long held = omega (arith, kept_length read kept held.front)

pub held_alone : (read kept : List ℕ) (is_long : Bool) → Held read kept is_long → All (λ x. x ≢ 10) kept
held_alone read kept is_long held = subst (All (λ x. x ≢ 10)) (sym held.front) (All-take (λ x. x ≢ 10) 1024 read held.alone)

pub held_some : (read kept : List ℕ) (is_long : Bool) → Held read kept is_long → length kept ≢ 0 → 0 < length read
held_some read kept is_long held some = omega (arith, kept_length read kept held.front, some)

pub held_nothing : (kept : List ℕ) → kept ≡ [] → Held [] kept false
held_nothing kept none = record { alone = All-nil (λ x. x ≢ 10); front = none; long = λ is. absurd (cc); short = λ _. omega arith }

-- one octet more is kept
pub held_kept : (read kept : List ℕ) (is_long : Bool) (octet : ℕ) → Held read kept is_long → octet ≢ 10 → length kept < 1024
    → Held (read ++ octet ∷ []) (kept ++ octet ∷ []) is_long
held_kept read kept is_long octet held other room =
    let few : length read < 1024 = omega (arith, kept_length read kept held.front) in
    let more = length-append read (octet ∷ []) in
    record {
      alone = All-push (λ x. x ≢ 10) read octet held.alone other;
      front = ap (λ l. l ++ octet ∷ []) (held.front ∙ take_all 1024 read (omega arith))
          ∙ sym (take_all 1024 (read ++ octet ∷ []) (omega arith));
      long = λ is. absurd (omega (arith, held.long is));
      short = λ _. omega arith;
    }

-- one octet more is left out
pub held_dropped : (read kept : List ℕ) (is_long : Bool) (octet : ℕ) → Held read kept is_long → octet ≢ 10 → 1024 ≤ length kept
    → Held (read ++ octet ∷ []) kept true
held_dropped read kept is_long octet held other full =
    let many : 1024 ≤ length read = omega (arith, kept_length read kept held.front) in
    record {
      alone = All-push (λ x. x ≢ 10) read octet held.alone other;
      front = held.front ∙ sym (take-append-le 1024 read (octet ∷ []) many);
      long = λ _. omega (arith, length-append read (octet ∷ []));
      short = λ is. absurd (cc);
    }

-- nothing was read, and nothing is left
pub reads_nothing : (known left : Option (List ℕ)) (read kept : List ℕ) (is_long : Bool) → Held read kept is_long → length kept ≡ 0
    → Consumes known left read → IsAtEnd left → IfSome known (λ octets. Reads octets End kept left)
reads_nothing known left read kept is_long held none was end =
    at_end known left read kept (omega (arith, kept_length read kept held.front)) was end
  where
    at_end : (known left : Option (List ℕ)) (read kept : List ℕ) → length read ≡ 0 → Consumes known left read → IsAtEnd left
        → IfSome known (λ octets. Reads octets End kept left)
    at_end None left read kept none was end = tt
    at_end (Some octets) None read kept none was end = absurd was
    at_end (Some octets) (Some rest) [] kept none was end = was ∙ end
    at_end (Some octets) (Some rest) (x ∷ xs) kept none was end = absurd (omega arith)

-- a line was read
pub reads_line : (known left : Option (List ℕ)) (read kept : List ℕ) (is_long : Bool) → Held read kept is_long
    → IfSome known (λ octets. IsRead octets read left)
    → IfSome known (λ octets. Reads octets (if is_long then TooLong else Line) kept left)
reads_line None left read kept is_long held is = tt
reads_line (Some octets) left read kept true held is = (omega (arith, ap length is.line, held.long refl), is.rest)
reads_line (Some octets) left read kept false held is =
    let whole : kept ≡ read = held.front ∙ take_all 1024 read (held.short refl) in
    (is.some, whole ∙ sym is.line, omega (arith, ap length whole, held.short refl), is.rest)

-- the line that is held ends with the octets
pub ends_with_all : (known was left : Option (List ℕ)) (read kept : List ℕ) (is_long : Bool) (next : Next) → Held read kept is_long
    → length kept ≢ 0 → Consumes known was read → Consumes was left [] → IsAtEnd left → next ≡ (if is_long then TooLong else Line)
    → IfSome known (λ octets. Reads octets next kept left)
ends_with_all known was left read kept is_long next held some before now end is =
    let all : Consumes known left read =
    subst (λ octets. Consumes known left octets) (append-nil read) (Consumes-trans known was left read [] before now) in
    subst (λ n. IfSome known (λ octets. Reads octets n kept left)) (sym is)
    (reads_line known left read kept is_long held (up_to_end known left read held.alone (held_some read kept is_long held some) all end))

-- the line that is held ends with an LF
pub ends_with_lf : (known was left : Option (List ℕ)) (read kept : List ℕ) (is_long : Bool) (next : Next) → Held read kept is_long
    → Consumes known was read → Consumes was left (10 ∷ []) → next ≡ (if is_long then TooLong else Line)
    → IfSome known (λ octets. Reads octets next kept left)
ends_with_lf known was left read kept is_long next held before now is =
    subst (λ n. IfSome known (λ octets. Reads octets n kept left)) (sym is)
    (reads_line known left read kept is_long held
    (up_to_lf known left read held.alone (Consumes-trans known was left read (10 ∷ []) before now)))
