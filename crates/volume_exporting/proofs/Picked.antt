-- What is picked of numbers.
use Rattle.std.proofs.Common.{◌≡◌, ℕ, zero, suc, ◌+◌, List, [], ◌∷◌, ◌++◌, refl, sym, ◌∙◌, ap, arith, add-one}
use Rattle.std.specs.Prelude.{Option, Some, None, option_map, unwrap_or}
use Rattle.std.specs.Option.{option_to_list}
use Rattle.std.specs.List.{cons_option, filter_map, range_with_len}
use Rattle.std.proofs.lemmas.List.Elements.{filter_map-append}
use Rattle.session_lookups.specs.Held.{Known, known}
use Rattle.model.specs.Spool.{NewsGroup, Spool}
use Rattle.volume_exporting.specs.Exported.{picked, serial_at, serials_of}

range-suc : (a n : ℕ) → range_with_len a (suc n) ≡ range_with_len a n ++ (a + n) ∷ []
range-suc a zero = let same : a ≡ a + 0 = omega arith in ap (λ k. k ∷ []) same
range-suc a (suc n) =
    let same : (a + 1) + n ≡ a + suc n = omega arith in
    ap (λ ks. a ∷ ks) (range-suc (a + 1) n ∙ ap (λ k. range_with_len (a + 1) n ++ k ∷ []) same)

single : (o : Option ℕ) → cons_option o [] ≡ option_to_list o
single None = refl
single (Some n) = refl

pub picked-more : (pick : ℕ → Option ℕ) (n : ℕ) → picked pick (n + 1) ≡ picked pick n ++ option_to_list (pick (n + 1))
picked-more pick n =
    let turned : 1 + n ≡ n + 1 = omega arith in
    ap (picked pick) (add-one n)
    ∙ ap (filter_map pick) (range-suc 1 n)
    ∙ filter_map-append pick (range_with_len 1 n) ((1 + n) ∷ [])
    ∙ ap (λ os. picked pick n ++ os) (single (pick (1 + n)))
    ∙ ap (λ k. picked pick n ++ option_to_list (pick k)) turned

-- of a group as the look-ups know it
pub picked-known : (S : Spool) (k : Known) (o : Option NewsGroup) → Some k ≡ option_map (known S) o →
    Some (picked (serial_at S k.listed.group.name) k.listed.high) ≡ option_map (λ group. serials_of S group.name) o
picked-known S k None is = cc
picked-known S k (Some group) is =
    let same : k ≡ known S group = ap (λ o. unwrap_or o k) is in
    ap (λ shown. Some (picked (serial_at S shown.listed.group.name) shown.listed.high)) same
