-- Loads one after the other.
use Rattle.std.proofs.Common.{◌≡◌, inl, inr, ◌<◌, ◌≤◌, ℕ, ◌+◌, ◌-◌, ◌*◌, [], get_or, set, false, IsTrue, List, length, refl, sym, ◌∙◌, ap}
use Rattle.std.proofs.Common.{subst}
use Rattle.std.proofs.Common.{arith}
use Rattle.disk.specs.Device.{Device}
use Rattle.journal.specs.Inside.{IsAdmitted}
use Rattle.journal.specs.declared.Next.{Next}
use Rattle.std.proofs.lemmas.List.{ext_get_or, get_or-set_same, get_or-set_other}
use Rattle.std.proofs.lemmas.Bool.{cases_eq, cases_lt}
use Rattle.model.specs.Volume.{laid_over}
use Rattle.journal.specs.Journal.{JournalView, IsIdle, LeavesAdmitted, Admits, HasWholeBlocks, with_batch}
use Rattle.journal.proofs.During.{same_itself, same_then}
use Rattle.journal_loading.specs.Opening.{ArePut, Loads}

module _ {D : Type 0} (device : D → Device) where
  -- at the start
  pub loads_none : (journal : JournalView D) → IsIdle journal → LeavesAdmitted device journal → Loads device journal journal
  loads_none journal idle now = record {
    same = same_itself journal;
    blocks = λ tells. refl;
    idle = idle;
    time = record { size = refl; tells = refl; later = omega arith };
    writes = refl;
    syncs = refl;
    now = now;
    since = λ tells t c before left. inl left;
  }

  -- what one admits, the other does
  admits_same : (old new : JournalView D) → old.next ≡ new.next → old.label ≡ new.label → old.format ≡ new.format → old.blocks ≡ new.blocks
      → old.numbers ≡ new.numbers → old.images ≡ new.images → (c : List ℕ) → Admits old c → Admits new c
  admits_same old new next label format blocks numbers images c admits = (
    subst (λ (n : Next). IsAdmitted n new.label new.blocks (with_batch new) c) next
        (subst (λ (l : List ℕ). IsAdmitted old.next l new.blocks (with_batch new) c) label
        (subst (λ (b : List (List ℕ)). IsAdmitted old.next old.label b (with_batch new) c) blocks
        (subst (λ (b : List (List ℕ)). IsAdmitted old.next old.label old.blocks b c) batch admits.0))),
    omega (arith, admits.1, format),
  )
    where
      batch : with_batch old ≡ with_batch new
      batch =
          ap (λ (b : List (List ℕ)). laid_over b old.numbers old.images) blocks
          ∙ ap (λ (n : List ℕ). laid_over new.blocks n old.images) numbers
          ∙ ap (λ (i : List (List ℕ)). laid_over new.blocks new.numbers i) images

  pub loads_then : (old mid new : JournalView D) → Loads device old mid → Loads device mid new → Loads device old new
  loads_then old mid new first second = record {
    same = same_then old mid new first.same second.same;
    blocks = λ tells. second.blocks (told tells) ∙ first.blocks tells;
    idle = second.idle;
    time = record {
      size = second.time.size ∙ first.time.size;
      tells = second.time.tells ∙ first.time.tells;
      later = omega (arith, first.time.later, second.time.later);
    };
    writes = second.writes ∙ first.writes;
    syncs = second.syncs ∙ first.syncs;
    now = second.now;
    since = λ tells t c before left. elim (second.since (told tells) t c (omega (arith, first.time.later)) left) [
      | inr admits ↦ inr admits
      | inl earlier ↦ elim (first.since tells t c before earlier) [
        | inl was ↦ inl was
        | inr admits ↦ inr (admits_same mid new (first.idle ∙ sym second.idle) (sym second.same.label) (sym second.same.format)
            (sym (second.blocks (told tells))) (sym second.same.numbers) (sym second.same.images) c admits)
      ]
    ];
  }
    where
      told : IsTrue (device old.disk).tells → IsTrue (device mid.disk).tells
      told tells = first.time.tells ∙ tells

  -- as far as the first blocks
  pub record AreLoaded (number : ℕ) (start cache : List (List ℕ)) (old now : JournalView D) : Type 0 where
    pub loads : Loads device old now
    pub running : now.halted ≡ false
    pub failures : (device now.disk).failures ≡ (device old.disk).failures
    pub room : length cache ≡ length start
    pub blocks : IsTrue (device old.disk).tells → (k : ℕ) → k < number → k < length start → get_or cache k [] ≡ get_or old.blocks k []

  -- a piece after them
  pub loaded_more : (number octets : ℕ) (start cache cache' : List (List ℕ)) (old now new : JournalView D)
      → AreLoaded number start cache old now → length cache' ≡ length cache
      → (IsTrue (device now.disk).tells → ArePut number octets (λ k. get_or now.blocks (number + k) []) cache cache') → Loads device now new
      → new.halted ≡ false → (device new.disk).failures ≡ (device now.disk).failures
      → (next : ℕ) → ((k : ℕ) → k < next → k < length start → 4096 * k + 4096 ≤ 4096 * number + octets)
      → AreLoaded next start cache' old new
  loaded_more number octets start cache cache' old now new so_far size put loads running failures next fits = record {
    loads = loads_then old now new so_far.loads loads;
    running = running;
    failures = failures ∙ so_far.failures;
    room = size ∙ so_far.room;
    blocks = λ tells k below there.
        let told = so_far.loads.time.tells ∙ tells in
        elim (cases_lt k number) [
          | inl early ↦ (put told).before k early ∙ so_far.blocks tells k early there
          | inr later ↦
              let at : number + (k - number) ≡ k = omega (arith, later) in
              ap (λ (n : ℕ). get_or cache' n []) (sym at)
              ∙ (put told).put (k - number) (omega (arith, fits k below there, later))
              ∙ ap (λ (n : ℕ). get_or now.blocks n []) at
              ∙ ap (λ (b : List (List ℕ)). get_or b k []) (so_far.loads.blocks tells)
        ];
  }

  pub loaded_all : (number : ℕ) (start cache : List (List ℕ)) (old now : JournalView D) → AreLoaded number start cache old now
      → HasWholeBlocks device old → length start ≡ old.size → length start ≤ number → IsTrue (device old.disk).tells → cache ≡ old.blocks
  loaded_all number start cache old now so_far whole room all tells =
      let sizes = whole tells in
      ext_get_or [] cache old.blocks (so_far.room ∙ room ∙ sym sizes.count)
      (λ k low. so_far.blocks tells k (omega (arith, low, so_far.room, all)) (omega (arith, low, so_far.room)))

-- one block after the others
pub put_more : (start k : ℕ) (given : ℕ → List ℕ) (old now new : List (List ℕ)) → ArePut start (4096 * k) given old now
    → start + k < length now → new ≡ set now (start + k) (given k) → ArePut start (4096 * (k + 1)) given old new
put_more start k given old now new so_far there is = record {
  put = λ n fits.
      ap (λ (b : List (List ℕ)). get_or b (start + n) []) is
      ∙ elim (cases_eq n k) [
        | inl same ↦ ap (λ (m : ℕ). get_or (set now (start + k) (given k)) (start + m) []) same
            ∙ get_or-set_same now (start + k) (given k) [] there
            ∙ ap given (sym same)
        | inr other ↦ get_or-set_other now (start + k) (start + n) (given k) [] (λ e. other (omega (arith, e)))
            ∙ so_far.put n (omega (arith, fits, other))
      ];
  before = λ n early.
      ap (λ (b : List (List ℕ)). get_or b n []) is
      ∙ get_or-set_other now (start + k) n (given k) [] (λ e. absurd (omega (arith, e, early)))
      ∙ so_far.before n early;
}
