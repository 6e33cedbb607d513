-- An import goes on: what was read, tried and counted, and what comes then.
use Rattle.std.proofs.Common.{◌≡◌, ◌≢◌, inl, inr, ℕ, ◌+◌, ◌-◌, ◌^◌, Bool, true, false, true≢false, List, [], ◌∷◌, ◌++◌}
use Rattle.std.proofs.Common.{map, refl, sym, ◌∙◌, ap, subst}
use Rattle.std.proofs.Common.{Result, IfOk, arith, drop, length, take}
use Rattle.std.specs.Prelude.{Option, Some, None, Ok, Err, if◌then◌else◌, OnErr, is_err, is_some, min}
use Rattle.std.specs.Io.KnownBytes.{Consumes, IsAtEnd}
use Rattle.std.proofs.KnownBytes.{Consumes-nil, Consumes-trans}
use Rattle.std.proofs.lemmas.List.{length-append, length-drop, length-take, map-append}
use Rattle.model.specs.Stream.{Octets}
use Rattle.text_rnews.specs.Batch.{Member, Unread, fed, next, text, too_long, whole}
use Rattle.text_rnews.proofs.Fronts.{member_stays}
use Rattle.text_rnews.proofs.Passing.{fed_nothing, fed_twice}
use Rattle.spool.specs.View.{SpoolView}
use Rattle.volume_store.specs.declared.outcome.TextOutcome.{TextOutcome}
use Rattle.volume_store.specs.declared.outcome.TextOutcome.TheVariants.{Full}
use Rattle.volume_importing.specs.Imported.{AreCounted, BecomesOf, HasRead, Imports, IsNoted, IsReadTo, IsSame, Tried, Tries, counted}
use Rattle.volume_importing.specs.Imported.{has_no_group, is_filed, is_here, is_refused}
use Rattle.volume_importing.specs.declared.batch_filing.ImportCounts.{ImportCounts}
use Rattle.volume_importing.specs.declared.batch_filing.ImportStop.{ImportStop}

-- ---- what is tried

same_then : (a b c : SpoolView) → IsSame a b → IsSame b c → IsSame a c
same_then a b c one more = more ∙ ap (λ (s : SpoolView). record s { dirty = c.dirty }) one

tries_after : (old now new : SpoolView) (ts : List Tried) → IsSame old now → Tries now ts new → Tries old ts new
tries_after old now new [] same tries = same_then old now new same tries
tries_after old now new (t ∷ ts) same (mid, next, is, becomes, more) = (mid, next, same_then old now mid same is, becomes, more)

tries_then : (old now new : SpoolView) (ts more : List Tried) → Tries old ts now → Tries now more new → Tries old (ts ++ more) new
tries_then old now new [] more same tries = tries_after old now new more same tries
tries_then old now new (t ∷ ts) more (mid, next, is, becomes, rest) tries =
    (mid, next, is, becomes, tries_then next now new ts more rest tries)

-- ---- what is read

read_then : (members more : List Member) (unread left rest : Unread) → IsReadTo members unread left → IsReadTo more left rest →
    IsReadTo (members ++ more) unread rest
read_then [] more unread left rest same read = subst (λ (u : Unread). IsReadTo more u rest) (sym same) read
read_then (m ∷ members) more unread left rest (after, is, so_far) read =
    (after, is, read_then members more after left rest so_far read)

-- of more octets the same members are read
read_of_more : (members : List Member) (unread left : Unread) (more : Octets) → IsReadTo members unread left →
    IsReadTo members (fed unread more) (fed left more)
read_of_more [] unread left more same = ap (λ (u : Unread). fed u more) same
read_of_more (m ∷ members) unread left more (later, is, read) =
    (fed later more, member_stays unread later m more is, read_of_more members later left more read)

-- ---- what is counted

counted_on : (counts : TextOutcome → Bool) (n : ℕ) (os more : List TextOutcome) →
    counted counts n (os ++ more) ≡ counted counts (counted counts n os) more
counted_on counts n [] more = refl
counted_on counts n (outcome ∷ os) more = counted_on counts (if counts outcome then min (n + 1) (2 ^ 64 - 1) else n) os more

counted_then : (before now after : ImportCounts) (os more : List TextOutcome) → AreCounted before os now → AreCounted now more after →
    AreCounted before (os ++ more) after
counted_then before now after os more one two = record {
  filed = two.filed ∙ ap (λ (n : ℕ). counted is_filed n more) one.filed ∙ sym (counted_on is_filed before.filed os more);
  here = two.here ∙ ap (λ (n : ℕ). counted is_here n more) one.here ∙ sym (counted_on is_here before.here os more);
  no_group = two.no_group ∙ ap (λ (n : ℕ). counted has_no_group n more) one.no_group
      ∙ sym (counted_on has_no_group before.no_group os more);
  refused = two.refused ∙ ap (λ (n : ℕ). counted is_refused n more) one.refused
      ∙ sym (counted_on is_refused before.refused os more);
}

-- ---- an import

abbrev member_of : Tried → Member
member_of t = t.member

abbrev outcome_of : Tried → TextOutcome
outcome_of t = t.outcome

pub imports_nothing : (old new : SpoolView) (unread : Unread) (counts : ImportCounts) → IsSame old new →
    Imports old new unread unread counts counts
imports_nothing old new unread counts same = record {
  tried = [];
  read = refl;
  filed = same;
  counted = record { filed = refl; here = refl; no_group = refl; refused = refl };
}

pub imports_then : (old now new : SpoolView) (unread left rest : Unread) (before counts after : ImportCounts) →
    Imports old now unread left before counts → Imports now new left rest counts after → Imports old new unread rest before after
imports_then old now new unread left rest before counts after one two = record {
  tried = one.tried ++ two.tried;
  read = subst (λ (ms : List Member). IsReadTo ms unread rest) (sym (map-append member_of one.tried two.tried))
      (read_then (map member_of one.tried) (map member_of two.tried) unread left rest one.read two.read);
  filed = tries_then old now new one.tried two.tried one.filed two.filed;
  counted = subst (λ (os : List TextOutcome). AreCounted before os after) (sym (map-append outcome_of one.tried two.tried))
      (counted_then before counts after (map outcome_of one.tried) (map outcome_of two.tried) one.counted two.counted);
}

pub imports_of_more : (old new : SpoolView) (unread left : Unread) (more : Octets) (before after : ImportCounts) →
    Imports old new unread left before after → Imports old new (fed unread more) (fed left more) before after
imports_of_more old new unread left more before after imports = record {
  tried = imports.tried;
  read = read_of_more (map member_of imports.tried) unread left more imports.read;
  filed = imports.filed;
  counted = imports.counted;
}

-- a member is read, tried and counted; before and after it a batch may be made durable
pub imports_one : (old now later new : SpoolView) (unread left : Unread) (before after : ImportCounts) (t : Tried) →
    next unread ≡ Ok (Some (t.member, left)) → IsSame old now → BecomesOf now later t.member t.moment t.outcome → IsSame later new →
    AreCounted before (t.outcome ∷ []) after → Imports old new unread left before after
imports_one old now later new unread left before after t is same becomes kept counts = record {
  tried = t ∷ [];
  read = (left, is, refl);
  filed = (now, later, same, becomes, kept);
  counted = counts;
}

full_stays : (old new : SpoolView) (m : Member) (moment : ℕ) → BecomesOf old new m moment Full → new ≡ old
full_stays old new (text octets) moment becomes = becomes.2
full_stays old new (too_long size) moment becomes = becomes.1

-- a text for which there was no room counts for nothing, and the octets are left from it on
pub imports_noted : (old now later new : SpoolView) (unread left : Unread) (before after : ImportCounts) (t : Tried) →
    next unread ≡ Ok (Some (t.member, left)) → IsSame old now → BecomesOf now later t.member t.moment t.outcome →
    IsSame later new → IsNoted before t.outcome after → (rest : Unread) × Imports old new unread rest before after
imports_noted old now later new unread left before after t is same becomes kept (inl counts) =
    (left, imports_one old now later new unread left before after t is same becomes kept counts)
imports_noted old now later new unread left before after t is same becomes kept (inr full) =
    let full_one = subst (λ (o : TextOutcome). BecomesOf now later t.member t.moment o) full.0 becomes in
    let stayed : IsSame now later = subst (λ (s : SpoolView). IsSame now s) (sym (full_stays now later t.member t.moment full_one)) refl in
    let spool = same_then old later new (same_then old now later same stayed) kept in (
      unread,
      subst (λ (c : ImportCounts). Imports old new unread unread before c) (sym full.1) (imports_nothing old new unread before spool),
    )

-- ---- an input

-- what is written into a buffer leaves it as long as it was
pub long_as_before : (k n : ℕ) (into items : List ℕ) → length into ≡ n → length items ≡ n → k ≡ n →
    length (take k (into ++ drop (length into) items)) ≡ n
long_as_before k n into items one two three =
    omega (
      arith,
      one,
      two,
      three,
      length-take k (into ++ drop (length into) items),
      length-append into (drop (length into) items),
      length-drop (length into) items,
    )

pub none_of : {A : Type 0} (o : Option A) → is_some o ≡ false → o ≡ None
none_of None is = refl
none_of (Some a) is = absurd (true≢false is)

pub some_of : {A : Type 0} (o : Option A) → is_some o ≡ true → o ≢ None
some_of None is = λ none. true≢false (sym is)
some_of (Some a) is = λ none. true≢false (ap is_some none)

pub read_nothing : (s : SpoolView) (known : Option (List ℕ)) (held : Unread) (counts : ImportCounts) →
    HasRead s s known known held held counts counts
read_nothing s known held counts = record {
  octets = [];
  consumed = Consumes-nil known;
  imports = subst (λ (u : Unread). Imports s s u held counts counts) (sym (fed_nothing held)) (imports_nothing s s held counts refl);
}

-- a piece was read, and its texts were filed
pub read_more : (old mid new : SpoolView) (before now after : Option (List ℕ)) (held left rest : Unread) (piece : Octets)
    (counts more most : ImportCounts) → HasRead old mid before now held left counts more → Consumes now after piece →
    Imports mid new (fed left piece) rest more most → HasRead old new before after held rest counts most
read_more old mid new before now after held left rest piece counts more most read consumed imports =
    let all = imports_of_more old mid (fed held read.octets) left piece counts more read.imports in
    record {
      octets = read.octets ++ piece;
      consumed = Consumes-trans before now after read.octets piece read.consumed consumed;
      imports = subst (λ (u : Unread). Imports old new u rest counts most) (fed_twice held read.octets piece)
          (imports_then old mid new (fed (fed held read.octets) piece) (fed left piece) rest counts more most all imports);
    }

-- what was filed may be made durable
pub read_committed : (old now new : SpoolView) (before after : Option (List ℕ)) (held left : Unread) (counts more : ImportCounts) →
    HasRead old now before after held left counts more → IsSame now new → HasRead old new before after held left counts more
read_committed old now new before after held left counts more read same = record {
  octets = read.octets;
  consumed = read.consumed;
  imports = imports_then old now new (fed held read.octets) left left counts more more read.imports
      (imports_nothing now new left more same);
}

-- ---- what is answered

pub if_err : {T E P : Type 0} (r : Result T E) → P → OnErr r P
if_err (Ok x) is = tt
if_err (Err e) is = is

pub refused : {E : Type 0} (r : Result (Option ImportStop) E) → is_err r ≡ true → r ≢ Ok None
refused (Ok stop) is same = true≢false (sym is)
refused (Err error) is same = absurd (cc)

pub never_ends : {E : Type 0} (r : Result (Option ImportStop) E) → IfOk r (λ stop. stop ≢ None) → r ≢ Ok None
never_ends (Ok stop) is same = is (cc)
never_ends (Err error) is same = absurd (cc)

-- an import that came to a stop
pub stopped : {E : Type 0} (r : Result (Option ImportStop) E) (old new : SpoolView) (before after : Option (List ℕ)) (held left : Unread)
    (counts more : ImportCounts) → r ≢ Ok None → HasRead old new before after held left counts more →
    (rest : Unread) × HasRead old new before after held rest counts more × (r ≡ Ok None → (rest ≡ whole []) × IsAtEnd after)
stopped r old new before after held left counts more never read = (left, read, λ same. absurd (never same))
