-- The right side of a message-id.
use Rattle.std.specs.Prelude.{◌≡◌, ℕ, ◌+◌, ◌-◌, ◌<◌, ◌≤◌, Bool, true, false, not, cond, ◌==◌, List, length, take, drop, get_or, bytes_eq}
use Rattle.std.specs.Prelude.{Option, Some, None, option_map, unwrap_or}
use Rattle.std.specs.List.{list_any, after_last}
use Rattle.std.proofs.Common.{◌∙◌, ap, refl, arith}
use Rattle.std.proofs.lemmas.Bool.{false_from_ne_true, not_from_false, not_from_true}
use Rattle.std.proofs.lemmas.List.Recursion.{or_at, or_from_places}
use Rattle.std.proofs.lemmas.List.Sums.{suffix_len_is}
use Rattle.model.specs.Names.{is_of_host}

abbrev is_at_sign : ℕ → Bool
is_at_sign x = x == 64

module _ (host id : List ℕ) where
  inside : List ℕ
  inside = take (length id - 1) id

  abbrev of_host : Option (List ℕ) → Bool
  of_host right = unwrap_or (option_map (λ r. bytes_eq r host) right) false

  -- without an @ there is none
  pub no_side : ((k : ℕ) → 0 ≤ k → k < length (take (length id - 1) id) → ¬ (is_at_sign (get_or (take (length id - 1) id) k 0) ≡ true))
      → is_of_host host id ≡ false
  no_side none =
      ap (λ b. of_host (cond b (Some (after_last is_at_sign (take (length id - 1) id))) None))
      (or_from_places (list_any is_at_sign) is_at_sign refl (λ _ _. refl) (take (length id - 1) id) 0
      (λ k within. false_from_ne_true _ (none k (omega arith) within)))

  -- it stands after the last @
  pub side_behind : (at : ℕ) → at < length (take (length id - 1) id) → is_at_sign (get_or (take (length id - 1) id) at 0) ≡ true
      → ((k : ℕ) → at < k → k < length (take (length id - 1) id) → ¬ (is_at_sign (get_or (take (length id - 1) id) k 0) ≡ true))
      → is_of_host host id ≡ bytes_eq (drop (at + 1) (take (length id - 1) id)) host
  side_behind at within is none =
      let xs : List ℕ = take (length id - 1) id in
      ap (λ b. of_host (cond b (Some (after_last is_at_sign xs)) None))
      (or_at (list_any is_at_sign) is_at_sign refl (λ _ _. refl) xs at 0 within is)
      ∙ ap (λ n. bytes_eq (drop (length xs - n) xs) host)
      (suffix_len_is (λ x. not (is_at_sign x)) xs (at + 1) 0 (omega arith)
      (λ k low high. not_from_false _ (false_from_ne_true _ (none k (omega arith) high)))
      (λ some. ap (λ n. not (is_at_sign (get_or xs n 0))) (omega arith) ∙ not_from_true _ is))
      ∙ ap (λ n. bytes_eq (drop n xs) host) (omega arith)
