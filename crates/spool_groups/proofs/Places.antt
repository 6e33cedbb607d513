-- Look-ups in a map of texts.
use Rattle.std.proofs.Common.{◌≡◌, ℕ, List, [], ◌∷◌, map, refl, sym, ◌∙◌, ap, Bool, true, false, cond}
use Rattle.std.specs.Prelude.{Option, Some, bytes_eq}
use Rattle.std.specs.Map.{lookup}
use Rattle.std.specs.BTreeMap.{insert_entry, is_at}
use Rattle.std.specs.Cmp.Lexicographic.{slice_cmp}
use Rattle.std.specs.Ordering.{nat_cmp, match_ordering}
use Rattle.std.specs.declared.cmp.Ordering.{Ordering}
use Rattle.std.specs.declared.cmp.Ordering.TheVariants.{Less, Equal, Greater}
use Rattle.std.proofs.lemmas.Cmp.{tied_itself, nat_list_cmp_total}
use Rattle.std.proofs.lemmas.Map.Lookups.{exact_bytes}
use Rattle.std.proofs.lemmas.Map.Text.{is_eq-slice_cmp}
use Rattle.std.proofs.lemmas.Slice.Eq.{bytes_eq-Decides}

-- keys in the order of their texts
abbrev pub order : {K : Type 0} → (K → List ℕ) → K → K → Ordering
order text a b = slice_cmp nat_cmp (text a) (text b)

module _ {K X : Type 0} (text : K → List ℕ) where
  abbrev pub plain : List (K × X) → List (List ℕ × X)
  plain es = map {A = K × X} {B = List ℕ × X} (λ (e : K × X). (text e.0, e.1)) es

  pub found_plain : (q : List ℕ) (es : List (K × X))
      → lookup (is_at (λ k. slice_cmp nat_cmp q (text k))) es ≡ lookup (λ k. bytes_eq q k) (plain es)
  found_plain q [] = refl
  found_plain q (e ∷ es) = λ i. cond (is_eq-slice_cmp q (text e.0) i) (Some e.1) (found_plain q es i)

  pub found_inserted : (q : List ℕ) (k : K) (v : X) (es : List (K × X)) →
      lookup (λ a. bytes_eq q a) (plain (insert_entry (order text) es k v)) ≡ cond (bytes_eq q (text k)) (Some v)
      (lookup (λ a. bytes_eq q a) (plain es))
  found_inserted q k v [] = refl
  found_inserted q k v (e ∷ es) = by_order (order text k e.0) refl (found_inserted q k v es) where
    rest : Option X
    rest = lookup (λ a. bytes_eq q a) (plain es)

    at_equal : (b : Bool) → cond b (Some v) rest ≡ cond b (Some v) (cond b (Some e.1) rest)
    at_equal true = refl
    at_equal false = refl

    behind : (b d : Bool) (later : Option X) → (b ≡ true → d ≡ false) → later ≡ cond d (Some v) rest
        → cond b (Some e.1) later ≡ cond d (Some v) (cond b (Some e.1) rest)
    behind true d later apart is = ap (λ (c : Bool). cond c (Some v) (Some e.1)) (sym (apart refl))
    behind false d later apart is = is

    by_order : (o : Ordering) → order text k e.0 ≡ o
        → lookup (λ a. bytes_eq q a) (plain (insert_entry (order text) es k v)) ≡ cond (bytes_eq q (text k)) (Some v) rest →
        lookup (λ a. bytes_eq q a) (plain (match_ordering o ((k, v) ∷ e ∷ es) ((e.0, v) ∷ es) (e ∷ insert_entry (order text) es k v)))
        ≡ cond (bytes_eq q (text k)) (Some v) (cond (bytes_eq q (text e.0)) (Some e.1) rest)
    by_order Less is later = refl
    by_order Equal is later =
        let same : text e.0 ≡ text k = sym (exact_bytes (text k) (text e.0) is) in
        rw same (at_equal (bytes_eq q (text k)))
    by_order Greater is later = behind (bytes_eq q (text e.0)) (bytes_eq q (text k)) _ apart later where
      apart : bytes_eq q (text e.0) ≡ true → bytes_eq q (text k) ≡ false
      apart here = by_test (bytes_eq q (text k)) refl where
        by_test : (b : Bool) → bytes_eq q (text k) ≡ b → b ≡ false
        by_test false at = refl
        by_test true at =
            let one : q ≡ text e.0 = (bytes_eq-Decides q (text e.0)).0 here in
            let two : q ≡ text k = (bytes_eq-Decides q (text k)).0 at in
            let same : text k ≡ text e.0 = sym two ∙ one in
            let tied : order text k e.0 ≡ Equal = ap (λ (t : List ℕ). slice_cmp nat_cmp t (text e.0)) same
            ∙ tied_itself nat_list_cmp_total (text e.0) in
            absurd (let clash : Equal ≡ Greater = sym tied ∙ is in cc)
