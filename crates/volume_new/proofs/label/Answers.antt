use Rattle.std.proofs.Common.{◌≡◌, ◌∙◌, ℕ, ◌+◌, ◌-◌, ◌++◌, ◌∷◌, [], List, length, take, replicate, vec_len, ap, arith}
use Rattle.volume_new.proofs.Labels.{filled}
use Rattle.volume_new.proofs.label.Goals as goal

pub returns-clause-octets : goal.returns-clause-octets
returns-clause-octets c =
    let host = c.args.host.now in
    let number = c.to_le_bytes.result in
    let empty = c.in_ok-label.ensures.items in
    let first = c.in_ok-extend_from_slice.ensures.items in
    let second = c.in_ok-push.ensures.items in
    let third = c.in_ok-extend_from_slice-2.ensures.items in
    let octets : c.extend_from_slice-2.new.self.items ≡ (number ++ length host ∷ []) ++ host =
    third ∙ ap (λ (xs : List ℕ). xs ++ host) (second
    ∙ ap (λ (xs : List ℕ). xs ++ length host ∷ []) (first ∙ ap (λ (xs : List ℕ). xs ++ number) empty)) in
    let count : vec_len c.extend_from_slice-2.new.self ≡ 5 + length host =
    omega (
      arith,
      c.in_ok-label.ensures.len,
      c.in_ok-extend_from_slice.ensures.len,
      c.in_ok-push.ensures.len,
      c.in_ok-extend_from_slice-2.ensures.len,
      ap length c.to_le_bytes.ensures,
    ) in
    c.in_ok-resize.ensures.items ∙ ap (λ (xs : List ℕ). take 128 xs ++ replicate (128 - vec_len c.extend_from_slice-2.new.self) 0) octets
    ∙ filled number host (length host) (ap length c.to_le_bytes.ensures) c.requires (vec_len c.extend_from_slice-2.new.self) count
    ∙ ap (λ (le : List ℕ). le ++ length host ∷ host ++ replicate (123 - length host) 0) c.to_le_bytes.ensures
