-- The serials by ids, with one change more.
use Rattle.std.proofs.Common.{◌≡◌, inl, inr, ℕ, zero, suc, ◌+◌, ◌<◌, ◌≤◌, List, [], ◌∷◌, ◌++◌, length, get_or, refl, sym, ◌∙◌, ap, subst}
use Rattle.std.proofs.Common.{arith, take}
use Rattle.std.specs.Prelude.{◌*◌, ◌%◌, ◌^◌}
use Rattle.std.specs.List.{fold}
use Rattle.std.proofs.Common.{Bool, true, false, cond, length-append}
use Rattle.std.specs.Prelude.{Option, Some, None, IfSome, bytes_eq}
use Rattle.std.specs.Option.{option_and_then}
use Rattle.std.proofs.lemmas.Cmp.{eq_by_cmp_equiv, nat_cmp_total}
use Rattle.std.proofs.lemmas.List.{get_or_append_left, take_more}
use Rattle.std.proofs.lemmas.List.Sums.{fold-append}
use Rattle.std.proofs.lemmas.Map.Lookups.{exact_unsigned}
use Rattle.std.proofs.lemmas.Map.Views.{tells_apart}
use Rattle.std.proofs.lemmas.Option.{slice_get-get_or}
use Rattle.std.proofs.lemmas.Slice.Eq.{bytes_eq-Decides}
use Rattle.model.specs.Stream.{Octets}
use Rattle.model.specs.Indexed.{value_of}
use Rattle.model.proofs.Joined.{bytes_swap}
use Rattle.spool_index.specs.Finding.{note_at}
use Rattle.spool_index.specs.Ids.{IdsView, IsAdded, IsKeyed, IsPrinted, AreUpTo, fingerprint, has_id_at, is_id, is_same}
use Rattle.spool_index.specs.Ids.{serial_of_either, serial_under, serial_with}
use Rattle.spool_index.specs.Notes.{id_in}
use Rattle.spool_index.specs.declared.note.Note.{Note}
use Rattle.spool_index.specs.declared.note.Note.TheVariants as note

-- ---- the notes before a new one

abbrev more : List Note → Note → List Note
more notes n = notes ++ n ∷ []

note_stays : (notes : List Note) (n : Note) (serial : ℕ) → serial ≤ length notes → note_at (more notes n) serial ≡ note_at notes serial
note_stays notes n zero few = refl
note_stays notes n (suc k) few =
    slice_get-get_or (more notes n) k note.Group (omega (arith, few, length-append notes (n ∷ [])))
    ∙ ap Some (get_or_append_left notes (n ∷ []) note.Group k (omega arith))
    ∙ sym (slice_get-get_or notes k note.Group (omega arith))

note_new : (notes : List Note) (n : Note) → note_at (more notes n) (suc (length notes)) ≡ Some n
note_new [] n = refl
note_new (m ∷ notes) n = note_new notes n

id_stays : (notes : List Note) (n : Note) (wanted : Octets) (serial : ℕ) → serial ≤ length notes
    → has_id_at (more notes n) wanted serial ≡ has_id_at notes wanted serial
id_stays notes n wanted serial few = ap (λ (o : Option Note). is_id wanted (option_and_then id_in o)) (note_stays notes n serial few)

either_stays : (notes : List Note) (n : Note) (wanted : Octets) (o other : Option ℕ) → IfSome o (λ serial. serial ≤ length notes)
    → serial_of_either (more notes n) wanted o other ≡ serial_of_either notes wanted o other
either_stays notes n wanted None other few = refl
either_stays notes n wanted (Some serial) other few = ap (λ (b : Bool). cond b (Some serial) other) (id_stays notes n wanted serial few)

-- no id has another serial by a note more
pub ids_stay : (x : IdsView) (notes : List Note) (n : Note) → AreUpTo (length notes) x → (wanted : Octets)
    → serial_with x (more notes n) wanted ≡ serial_with x notes wanted
ids_stay x notes n up wanted =
    either_stays notes n wanted (serial_under x.prints (fingerprint wanted)) (value_of x.others wanted) (up (fingerprint wanted))

weaken : (count more : ℕ) → count ≤ more → (o : Option ℕ) → IfSome o (λ serial. serial ≤ count) → IfSome o (λ serial. serial ≤ more)
weaken count more few None at = at
weaken count more few (Some serial) at = omega (arith, at, few)

up_to_more : (x : IdsView) (count more : ℕ) → count ≤ more → AreUpTo count x → AreUpTo more x
up_to_more x count more few up = λ print. weaken count more few (serial_under x.prints print) (up print)

pub up_to_note : (x : IdsView) (notes : List Note) (n : Note) → AreUpTo (length notes) x → AreUpTo (length (more notes n)) x
up_to_note x notes n up = up_to_more x (length notes) (length (more notes n)) (omega (arith, length-append notes (n ∷ []))) up

-- ---- the fingerprint of an id, octet by octet

pub print_none : fingerprint [] ≡ 0
unfolding fingerprint
print_none = refl

pub print_more : (id : Octets) (i : ℕ) → i < length id
    → fingerprint (take (i + 1) id) ≡ (fingerprint (take i id) * 11400714819323198485 % 2 ^ 64 + get_or id i 0) % 2 ^ 64
unfolding fingerprint
print_more id i low =
    let step : ℕ → ℕ → ℕ = λ print octet. (print * 11400714819323198485 % 2 ^ 64 + octet) % 2 ^ 64 in
    ap (fold step 0) (take_more id i 0 low) ∙ fold-append step 0 (take i id) (get_or id i 0 ∷ [])

-- ---- one id more

others_only : (notes : List Note) (wanted : Octets) (o a b : Option ℕ) → serial_of_either notes wanted o a ≡ None
    → serial_of_either notes wanted o b ≡ b
others_only notes wanted None a b none = refl
others_only notes wanted (Some serial) a b none = by_test (has_id_at notes wanted serial) none where
  by_test : (t : Bool) → cond t (Some serial) a ≡ None → cond t (Some serial) b ≡ b
  by_test true clash = absurd (cc)
  by_test false clash = refl

module _ (x y : IdsView) (notes : List Note) (n : Note) (own : Octets) (serial : ℕ) (up : AreUpTo (length notes) x)
    (serial_is : serial ≡ length notes + 1) (its : id_in n ≡ Some own) where
  new_has : (wanted : Octets) → has_id_at (more notes n) wanted serial ≡ bytes_eq own wanted
  new_has wanted =
      let next : serial ≡ suc (length notes) = omega (arith, serial_is) in
      ap (has_id_at (more notes n) wanted) next
      ∙ ap (λ (o : Option Note). is_id wanted (option_and_then id_in o)) (note_new notes n)
      ∙ ap (is_id wanted) its

  printed : IsPrinted own serial x y → (wanted : Octets)
      → serial_with y (more notes n) wanted ≡ cond (bytes_eq wanted own) (Some serial) (serial_with x notes wanted)
  printed is wanted = by_key (bytes_eq wanted own) refl where
    under : (b : Bool) → is_same (fingerprint own) (fingerprint wanted) ≡ b → serial_with y (more notes n) wanted
        ≡ serial_of_either (more notes n) wanted (cond b (Some serial) (serial_under x.prints (fingerprint wanted)))
        (value_of x.others wanted)
    under b at =
        ap (λ (o : Option ℕ). serial_of_either (more notes n) wanted o (value_of y.others wanted))
        (is.prints (fingerprint wanted)
        ∙ ap (λ (c : Bool). cond c (Some serial) (serial_under x.prints (fingerprint wanted))) at)
        ∙ ap (λ (es : List (Octets × ℕ)). serial_of_either (more notes n) wanted
        (cond b (Some serial) (serial_under x.prints (fingerprint wanted))) (value_of es wanted)) is.others

    by_print : (b : Bool) → is_same (fingerprint own) (fingerprint wanted) ≡ b → bytes_eq wanted own ≡ false
        → serial_with y (more notes n) wanted ≡ serial_with x notes wanted
    by_print true at apart =
        under true at
        ∙ ap (λ (b : Bool). cond b (Some serial) (value_of x.others wanted)) (new_has wanted ∙ bytes_swap wanted own apart)
        ∙ sym (ap (λ (o : Option ℕ). serial_of_either notes wanted o (value_of x.others wanted))
        (ap (serial_under x.prints) (sym (tells_apart exact_unsigned (fingerprint own) (fingerprint wanted) at)) ∙ is.fresh))
    by_print false at apart = under false at ∙ ids_stay x notes n up wanted

    by_key : (b : Bool) → bytes_eq wanted own ≡ b
        → serial_with y (more notes n) wanted ≡ cond b (Some serial) (serial_with x notes wanted)
    by_key true at =
        let same : wanted ≡ own = (bytes_eq-Decides wanted own).0 at in
        under true (ap (λ (id : Octets). is_same (fingerprint own) (fingerprint id)) same
        ∙ (eq_by_cmp_equiv nat_cmp_total).refl (fingerprint own))
        ∙ ap (λ (b : Bool). cond b (Some serial) (value_of x.others wanted)) (new_has wanted ∙ (bytes_eq-Decides own wanted).1 (sym same))
    by_key false apart = by_print (is_same (fingerprint own) (fingerprint wanted)) refl apart

  keyed : serial_with x notes own ≡ None → IsKeyed own serial x y → (wanted : Octets)
      → serial_with y (more notes n) wanted ≡ cond (bytes_eq wanted own) (Some serial) (serial_with x notes wanted)
  keyed none is wanted =
      ap (λ (ps : List (ℕ × ℕ)). serial_of_either (more notes n) wanted (serial_under ps (fingerprint wanted)) (value_of y.others wanted))
      is.prints
      ∙ either_stays notes n wanted (serial_under x.prints (fingerprint wanted)) (value_of y.others wanted) (up (fingerprint wanted))
      ∙ by_key (bytes_eq wanted own) refl where
        found : (b : Bool) → bytes_eq wanted own ≡ b → value_of y.others wanted ≡ cond b (Some serial) (value_of x.others wanted)
        found b at = is.others wanted ∙ ap (λ (c : Bool). cond c (Some serial) (value_of x.others wanted)) at

        by_key : (b : Bool) → bytes_eq wanted own ≡ b
            → serial_of_either notes wanted (serial_under x.prints (fingerprint wanted)) (value_of y.others wanted)
            ≡ cond b (Some serial) (serial_with x notes wanted)
        by_key true at =
            let same : wanted ≡ own = (bytes_eq-Decides wanted own).0 at in
            others_only notes wanted (serial_under x.prints (fingerprint wanted)) (value_of x.others wanted) (value_of y.others wanted)
            (subst (λ (id : Octets). serial_with x notes id ≡ None) (sym same) none)
            ∙ found true at
        by_key false at = ap (serial_of_either notes wanted (serial_under x.prints (fingerprint wanted))) (found false at)

  pub ids_added : serial_with x notes own ≡ None → IsAdded own serial x y → (wanted : Octets)
      → serial_with y (more notes n) wanted ≡ cond (bytes_eq wanted own) (Some serial) (serial_with x notes wanted)
  ids_added none (inl is) = printed is
  ids_added none (inr is) = keyed none is

  pub added_up_to : IsAdded own serial x y → AreUpTo (length (more notes n)) y
  added_up_to (inl is) = λ print. subst (λ (o : Option ℕ). IfSome o (λ s. s ≤ length (more notes n))) (sym (is.prints print))
      (by_test (is_same (fingerprint own) print) print (up_to_note x notes n up print))
    where
      by_test : (b : Bool) (print : ℕ) → IfSome (serial_under x.prints print) (λ s. s ≤ length (more notes n))
          → IfSome (cond b (Some serial) (serial_under x.prints print)) (λ s. s ≤ length (more notes n))
      by_test true print old = omega (arith, serial_is, length-append notes (n ∷ []))
      by_test false print old = old
  added_up_to (inr is) = subst (λ (ps : List (ℕ × ℕ)). (print : ℕ) → IfSome (serial_under ps print) (λ s. s ≤ length (more notes n)))
      (sym is.prints) (up_to_note x notes n up)
