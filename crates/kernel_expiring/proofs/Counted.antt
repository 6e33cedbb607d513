-- The articles that are gone among so many changes, and one change more.
use Rattle.std.proofs.Common.{◌≡◌, ℕ, ◌+◌, ◌≤◌, sym, ◌∙◌, ap, arith, Bool, true, false, cond, refl, [], ◌∷◌}
use Rattle.std.specs.Prelude.{Option, Some, None, if◌then◌else◌, is_some, length, map, nat_lt}
use Rattle.std.specs.List.{filter, range_with_len}
use Rattle.std.proofs.lemmas.Bool.{le-ltb}
use Rattle.std.proofs.lemmas.List.{length-append}
use Rattle.std.proofs.lemmas.List.FromFn.{filter_of_map_range_with_len_more}
use Rattle.session_lookups.specs.Held.{gone_with}
use Rattle.model.specs.Spool.{Spool}
use Rattle.kernel_expiring.specs.Gone.{gone_among}

-- so many articles are gone among the first changes, and no more than these are
pub record IsCount (S : Spool) (first passed gone : ℕ) : Type 0 where
  pub is : gone ≡ gone_among S first passed
  pub few : gone ≤ passed

grown : (S : Spool) (first passed : ℕ) (b : Bool) → is_some (gone_with S (first + passed)) ≡ b
    → gone_among S first (passed + 1) ≡ gone_among S first passed + cond b 1 0
grown S first passed b is =
    ap length (filter_of_map_range_with_len_more is_some (gone_with S) first passed (first + passed) refl)
    ∙ length-append (filter is_some (map (gone_with S) (range_with_len first passed))) _
    ∙ ap (λ n. gone_among S first passed + n) (one (gone_with S (first + passed)) b is)
  where
    one : (o : Option ℕ) (b : Bool) → is_some o ≡ b → length (cond (is_some o) (o ∷ []) []) ≡ cond b 1 0
    one o true is = ap (λ c. length (cond c (o ∷ []) [])) is
    one o false is = ap (λ c. length (cond c (o ∷ []) [])) is

pub one_more : (S : Spool) (first passed gone : ℕ) → is_some (gone_with S (first + passed)) ≡ true → IsCount S first passed gone
    → IsCount S first (passed + 1) (gone + 1)
one_more S first passed gone there before =
    record { is = omega (arith, grown S first passed true there, before.is); few = omega (arith, before.few) }

pub none_more : (S : Spool) (first passed gone : ℕ) → is_some (gone_with S (first + passed)) ≡ false → IsCount S first passed gone
    → IsCount S first (passed + 1) gone
none_more S first passed gone none before =
    record { is = omega (arith, grown S first passed false none, before.is); few = omega (arith, before.few) }

pub next_begins : (S : Spool) (first end : ℕ) → end ≡ first + 4096 → end ≤ length S
    → Some end ≡ (if nat_lt (length S) (first + 4096) then None else Some (first + 4096))
next_begins S first end is within =
    ap Some is ∙ ap (λ b. if b then None else Some (first + 4096)) (sym (le-ltb (length S) (first + 4096) (omega (arith, is, within))))
