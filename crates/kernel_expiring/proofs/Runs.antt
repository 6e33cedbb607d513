-- A run of old articles, number by number.
use Rattle.std.proofs.Common.{◌≡◌, ◌≢◌, ◌⊎◌, inl, inr, ℕ, ◌+◌, ◌-◌, ◌<◌, ◌≤◌, refl, ◌∙◌, ap, arith, Bool, true, false, cond}
use Rattle.std.specs.Prelude.{Option, None, nat_eq, nat_lt, option_map, slice_get, unwrap_or}
use Rattle.std.proofs.lemmas.Bool.Decides.{eqb_tells}
use Rattle.std.proofs.lemmas.Option.{slice_get_past}
use Rattle.model.specs.Stream.{Octets}
use Rattle.model.specs.Spool.{Spool, NewsArticle, filed_in, high, low}
use Rattle.kernel_expiring.specs.Ages.{IsLastOld, is_old}

-- the numbers from the lowest one to this one are old
pub record IsRun (S : Spool) (g : Octets) (since last : ℕ) : Type 0 where
  pub from : low S g ≤ last + 1
  pub old : (n : ℕ) → low S g ≤ n → n ≤ last → is_old S g since n ≡ true

-- behind the highest number there is no article
pub past_is_young : (S : Spool) (g : Octets) (since n : ℕ) → high S g < n → is_old S g since n ≡ false
past_is_young S g since n past = ap old (none (nat_lt n (low S g)) (nat_eq n 0)) where
  old : Option NewsArticle → Bool
  old o = unwrap_or (option_map (λ (a : NewsArticle). nat_lt a.moment since) o) false

  none : (below zero : Bool) → cond below None (cond zero None (slice_get (filed_in S g) (n - 1))) ≡ None
  none true zero = refl
  none false true = refl
  none false false = slice_get_past (filed_in S g) (n - 1) (omega (arith, past))

pub run_begins : (S : Spool) (g : Octets) (since last : ℕ) → last ≡ low S g - 1 → IsRun S g since last
run_begins S g since last is = record { from = omega (arith, is); old = λ n from to. absurd (omega (arith, is, from, to)) }

pub run_grows : (S : Spool) (g : Octets) (since last : ℕ) → IsRun S g since last → is_old S g since (last + 1) ≡ true
    → IsRun S g since (last + 1)
run_grows S g since last run next = record {
  from = omega (arith, run.from);
  old = λ n low high. by_last n low high (eqb_tells n (last + 1));
}
  where
    by_last : (n : ℕ) → low S g ≤ n → n ≤ last + 1
        → ((nat_eq n (last + 1) ≡ true) × (n ≡ last + 1)) ⊎ ((nat_eq n (last + 1) ≡ false) × (n ≢ last + 1)) → is_old S g since n ≡ true
    by_last n low high (inl same) = ap (is_old S g since) same.1 ∙ next
    by_last n low high (inr other) = run.old n low (omega (arith, high, other.1))

pub run_ends : (S : Spool) (g : Octets) (since last : ℕ) → low S g ≤ last → IsRun S g since last
    → is_old S g since (last + 1) ≡ false → IsLastOld S g since last
run_ends S g since last some run next = record { some = some; old = run.old; next = next }

pub no_run : (S : Spool) (g : Octets) (since last : ℕ) → last < low S g → IsRun S g since last
    → is_old S g since (last + 1) ≡ false → is_old S g since (low S g) ≡ false
no_run S g since last none run next = let at : low S g ≡ last + 1 = omega (arith, none, run.from) in ap (is_old S g since) at ∙ next
