-- Records in blocks.
use Rattle.std.proofs.Common.{◌≡◌, ◌≢◌, ◌⊎◌, inl, inr, ◌<◌, ◌≤◌, ℕ, ◌+◌, ◌*◌, ◌/◌, ◌%◌, List, [], length, get_or, set, Result, Ok, Err}
use Rattle.std.proofs.Common.{cond, is_ok, sym, ◌∙◌, ap, arith, length-set}
use Rattle.std.proofs.lemmas.List.{get_or-set_same, get_or-set_other}
use Rattle.std.proofs.lemmas.List.Elements.{All-set}
use Rattle.std.proofs.lemmas.Bool.{cases_eq, cases_order}
use Rattle.std.specs.Result.{OnOk}
use Rattle.disk.specs.Image.{part, overwritten}
use Rattle.disk.proofs.Images.{length-overwritten, part-overwritten, part-overwritten_apart}
use Rattle.model.specs.Stream.{Octets}
use Rattle.fs_layout.specs.Blocks.{PutsRecord, record_at}

pub puts_record : (first at : ℕ) (octets block : Octets) (old : List Octets) → first + at / 64 < length old
    → get_or old (first + at / 64) [] ≡ block → length block ≡ 4096 → length octets ≡ 64
    → PutsRecord first at octets old (set old (first + at / 64) (overwritten (at % 64 * 64) octets block))
puts_record first at octets block old there was whole size = record {
  count = length-set old (first + at / 64) (overwritten (at % 64 * 64) octets block);
  whole = λ all. All-set (λ b. length b ≡ 4096) old (first + at / 64) (overwritten (at % 64 * 64) octets block)
      (length-overwritten (at % 64 * 64) octets block fits ∙ whole) all;
  here =
      ap (λ (b : Octets). part (at % 64 * 64) 64 b) written
      ∙ ap (λ (n : ℕ). part (at % 64 * 64) n (overwritten (at % 64 * 64) octets block)) (sym size)
      ∙ part-overwritten (at % 64 * 64) octets block fits;
  other = other;
  blocks = λ n apart. get_or-set_other old (first + at / 64) n (overwritten (at % 64 * 64) octets block) [] apart;
}
  where
    fits : at % 64 * 64 + length octets ≤ length block
    fits = omega arith

    written : get_or (set old (first + at / 64) (overwritten (at % 64 * 64) octets block)) (first + at / 64) []
        ≡ overwritten (at % 64 * 64) octets block
    written = get_or-set_same old (first + at / 64) (overwritten (at % 64 * 64) octets block) [] there

    apart_in : (k : ℕ) → k ≢ at → k / 64 ≡ at / 64 → (k % 64 * 64 + 64 ≤ at % 64 * 64) ⊎ (at % 64 * 64 + length octets ≤ k % 64 * 64)
    apart_in k differs same = elim (cases_order (k % 64) (at % 64)) [
      | inl equal ↦ absurd (differs (omega arith))
      | inr ordered ↦ elim ordered [ inl below ↦ inl (omega arith) | inr above ↦ inr (omega arith) ]
    ]

    other : (k : ℕ) → k ≢ at → record_at first (set old (first + at / 64) (overwritten (at % 64 * 64) octets block)) k
        ≡ record_at first old k
    other k differs = elim (cases_eq (k / 64) (at / 64)) [
      | inl same ↦
          ap (λ (m : ℕ). part (k % 64 * 64) 64
          (get_or (set old (first + at / 64) (overwritten (at % 64 * 64) octets block)) (first + m) [])) same
          ∙ ap (λ (b : Octets). part (k % 64 * 64) 64 b) written
          ∙ part-overwritten_apart (at % 64 * 64) octets block fits (k % 64 * 64) 64 (apart_in k differs same)
          ∙ ap (λ (b : Octets). part (k % 64 * 64) 64 b) (sym was)
          ∙ ap (λ (m : ℕ). part (k % 64 * 64) 64 (get_or old (first + m) [])) (sym same)
      | inr apart ↦
          let elsewhere : first + k / 64 ≢ first + at / 64 = omega arith in
          ap (λ (b : Octets). part (k % 64 * 64) 64 b)
          (get_or-set_other old (first + at / 64) (first + k / 64) (overwritten (at % 64 * 64) octets block) [] elsewhere)
    ]

-- what follows of a put that was not refused
pub on_put : {T E : Type 0} (r : Result T E) (P : Type 0) (new old done : List Octets) → new ≡ cond (is_ok r) done old → (new ≡ done → P)
    → OnOk r P
on_put (Ok x) P new old done is then = then is
on_put (Err e) P new old done is then = tt
