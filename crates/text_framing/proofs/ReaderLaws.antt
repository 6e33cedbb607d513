-- What a reader knows of the stream from what it searched.
use Rattle.std.specs.Prelude.{◌≡◌, ℕ, zero, suc, ◌+◌, ◌-◌, ◌<◌, ◌≤◌, ◌⊎◌, true, false, ◌==◌, List, [], ◌∷◌, ◌++◌, length, take, drop}
use Rattle.std.specs.Prelude.{replicate, Some, cond, flat_map}
use Rattle.std.proofs.Common.{sym, ◌∙◌, ap, inl, inr, arith, length-append, length-drop, append-nil}
use Rattle.std.proofs.Math.Seq.{take-append-add, drop-append-add}
use Rattle.std.proofs.lemmas.List.{length-replicate, length-take-le}
use Rattle.std.proofs.lemmas.Bool.{cases_lt, cond-false, ne_eqb, eqb-true}
use Rattle.model.specs.Stream.{ends_message, EndsAt, NeverEnds, lines, next, message_of, ReadsAlike}
use Rattle.model.specs.declared.message.Message.TheVariants.{TooLong}
use Rattle.model.specs.declared.message.Mode.{Mode}
use Rattle.model.proofs.Ends.{ends_message-append, ends_message-empty}
use Rattle.model.proofs.StreamLaws.{next-ends}
use Rattle.model.proofs.TooLongLaws.{too_long}
use Rattle.model.proofs.DroppedLaws.{zeros_hide, dropped_reads_alike}
use Rattle.model.proofs.LineLaws.{lines-empty}
use Rattle.text_framing.specs.Held.{NoneEnds, EndsFirst, Sheds}

-- a search from the start finds the end
pub EndsAt-first : (m : Mode) (stream : List ℕ) (n : ℕ) → EndsFirst m stream 0 n → EndsAt m stream n
EndsAt-first m stream n found = record { within = found.within; ends = found.ends; first = first }
  where
    first : (k : ℕ) → k < n → ends_message m (take k stream) ≡ false
    first zero below = ends_message-empty m
    first (suc k) below = found.first (suc k) (omega arith) below

-- if a search from the start finds no end, no message ends
pub NeverEnds-none : (m : Mode) (stream : List ℕ) → NoneEnds m stream 0 (length stream) → NeverEnds m stream
NeverEnds-none m stream none zero within = ends_message-empty m
NeverEnds-none m stream none (suc n) within = none (suc n) (omega arith) within

-- where no octets are left, the lines before them are all
pub flat_map_lines-empty : (f : List ℕ → List ℕ) (front rest all : List ℕ) → (length rest == 0) ≡ true
    → front ++ flat_map f (lines rest) ≡ all → front ≡ all
flat_map_lines-empty f front [] all empty done = sym (append-nil front) ∙ ap (λ l. front ++ flat_map f l) (sym lines-empty) ∙ done
flat_map_lines-empty f front (x ∷ rest) all empty done = absurd (omega (arith, eqb-true (length (x ∷ rest)) 0 empty))

-- what a reader keeps: of a long message many octets are dropped, and more follow them than an end takes
abbrev pub IsDropped : ℕ → ℕ → Type 0
IsDropped dropped searched = (dropped ≡ 0) ⊎ ((349_996 ≤ dropped) × (4 ≤ searched))

-- after dropped octets the search goes on
module _ (m : Mode) (unread : List ℕ) (d searched : ℕ) (dropped : IsDropped d searched)
    (before : NoneEnds m (replicate d 0 ++ unread) 0 (d + searched)) where
  -- there a prefix ends a message where its octets that are held do
  behind : (n : ℕ) → searched < n → n ≤ length unread
      → ends_message m (take (d + n) (replicate d 0 ++ unread)) ≡ ends_message m (take n unread)
  behind n far within = elim dropped [
    | inl none ↦ ap (λ k. ends_message m (take (k + n) (replicate k 0 ++ unread))) none
        ∙ ap (λ k. ends_message m (take k unread)) (omega arith)
    | inr some ↦
        let at : d + n ≡ length (replicate d 0) + n = omega (arith, length-replicate {A = ℕ} d 0) in
        ap (λ k. ends_message m (take k (replicate d 0 ++ unread))) at
        ∙ ap (ends_message m) (take-append-add (replicate d 0) unread n)
        ∙ ends_message-append m (replicate d 0) (take n unread) (omega (arith, some.1, length-take-le n unread within))
  ]

  -- prefixes up to the one with d + high octets end no message where those that are held don't
  pub NoneEnds-behind : (high : ℕ) → high ≤ length unread → NoneEnds m unread searched high
      → NoneEnds m (replicate d 0 ++ unread) 0 (d + high)
  NoneEnds-behind high within none n low below =
      elim (cases_lt (d + searched) n) [
        | inr near ↦ before n low near
        | inl far ↦ let at : n ≡ d + (n - d) = omega arith in
            ap (λ k. ends_message m (take k (replicate d 0 ++ unread))) at
            ∙ behind (n - d) (omega arith) (omega arith)
            ∙ none (n - d) (omega arith) (omega arith)
      ]

  size : length (replicate d 0 ++ unread) ≡ d + length unread
  size = omega (arith, length-append (replicate d 0) unread, length-replicate {A = ℕ} d 0)

  -- what the search finds is the end of the next message
  pub EndsAt-found : (n : ℕ) → EndsFirst m unread searched n → EndsAt m (replicate d 0 ++ unread) (d + n)
  EndsAt-found n found = record {
    within = omega (arith, size, found.within);
    ends = behind n found.after found.within ∙ found.ends;
    first = first;
  }
    where
      first : (k : ℕ) → k < d + n → ends_message m (take k (replicate d 0 ++ unread)) ≡ false
      first zero below = ends_message-empty m
      first (suc k) below =
          NoneEnds-behind (n - 1) (omega (arith, found.within)) (λ i low high. found.first i low (omega (arith, found.after)))
          (suc k) (omega arith) (omega (arith, found.after))

  -- where it finds none, there is none
  pub NeverEnds-found : NoneEnds m unread searched (length unread) → NeverEnds m (replicate d 0 ++ unread)
  NeverEnds-found none = NeverEnds-none m (replicate d 0 ++ unread)
      (λ n low high. NoneEnds-behind (length unread) (omega arith) none n low (omega (arith, size)))

  -- the message that is handed out
  pub next-found : (n : ℕ) → EndsFirst m unread searched n
      → next m (replicate d 0 ++ unread) ≡ Some (cond (d == 0) (message_of m (take n unread)) TooLong, drop n unread)
  next-found n found =
      let at = EndsAt-found n found in
      next-ends m (replicate d 0 ++ unread) (d + n) at
      ∙ elim dropped [
        | inl none ↦ ap (λ k. Some (message_of m (take (k + n) (replicate k 0 ++ unread)), drop (k + n) (replicate k 0 ++ unread))) none
            ∙ ap (λ k. Some (message_of m (take k unread), drop k unread)) (omega arith)
            ∙ ap (λ k. Some (cond (k == 0) (message_of m (take n unread)) TooLong, drop n unread)) (sym none)
        | inr some ↦ ap (λ text. Some (text, drop (d + n) (replicate d 0 ++ unread)))
            (too_long m (replicate d 0 ++ unread) (d + n) at (omega (arith, some.0, some.1, found.after))
            ∙ sym (cond-false (d == 0) (message_of m (take n unread)) TooLong (ne_eqb d 0 (λ none. absurd (omega (arith, some.0, none))))))
            ∙ ap (λ rest. Some (cond (d == 0) (message_of m (take n unread)) TooLong, rest))
            (ap (λ k. drop k (replicate d 0 ++ unread)) (omega (arith, length-replicate {A = ℕ} d 0))
            ∙ drop-append-add (replicate d 0) unread n)
      ]

  -- what is kept of the octets reads as they did, and ends no message
  pub Sheds-reads_alike : (k : ℕ) (kept : List ℕ) → Sheds d unread k kept → NoneEnds m unread searched (length unread)
      → ReadsAlike m (replicate d 0 ++ unread) (replicate k 0 ++ kept)
  Sheds-reads_alike k kept sheds none more = elim sheds [
    | inl same ↦ ap (λ l. next m (l ++ more)) (sym (ap (λ i. replicate i 0 ++ kept) same.1 ∙ ap (λ l. replicate d 0 ++ l) same.2))
    | inr long ↦
        let cut : length (replicate d 0 ++ unread) - 4 ≡ length (replicate d 0) + (length unread - 4) =
        omega (arith, size, long.0, length-replicate {A = ℕ} d 0) in
        dropped_reads_alike m (replicate d 0 ++ unread) (length (replicate d 0 ++ unread) - 4) k (omega (arith, size, long.0))
        (omega (arith, size, long.0)) long.1 (NeverEnds-found none) more
        ∙ ap (λ l. next m ((replicate k 0 ++ l) ++ more))
        (ap (λ i. drop i (replicate d 0 ++ unread)) cut ∙ drop-append-add (replicate d 0) unread (length unread - 4) ∙ sym long.2)
  ]

  pub Sheds-none_ends : (k : ℕ) (kept : List ℕ) → Sheds d unread k kept → NoneEnds m unread searched (length unread)
      → NoneEnds m (replicate k 0 ++ kept) 0 (k + length kept)
  Sheds-none_ends k kept sheds none n low high = elim sheds [
    | inl same ↦
        let plain : replicate k 0 ++ kept ≡ replicate d 0 ++ unread = ap (λ i. replicate i 0 ++ kept) same.1
        ∙ ap (λ l. replicate d 0 ++ l) same.2 in
        ap (λ l. ends_message m (take n l)) plain ∙ NeverEnds-found none n (omega (arith, size, same.1, ap length same.2))
    | inr long ↦
        let cut : length (replicate d 0 ++ unread) - 4 ≡ length (replicate d 0) + (length unread - 4) =
        omega (arith, size, long.0, length-replicate {A = ℕ} d 0) in
        let tail : drop (length (replicate d 0 ++ unread) - 4) (replicate d 0 ++ unread) ≡ kept =
        ap (λ i. drop i (replicate d 0 ++ unread)) cut ∙ drop-append-add (replicate d 0) unread (length unread - 4) ∙ sym long.2 in
        ap (λ l. ends_message m (take n (replicate k 0 ++ l))) (sym (append-nil _ ∙ tail))
        ∙ (zeros_hide m (replicate d 0 ++ unread) (length (replicate d 0 ++ unread) - 4) k [] (omega (arith, size, long.0)) long.1
        (NeverEnds-found none)).never n
        (omega (arith, ap length long.2, length-drop (length unread - 4) unread, long.0, length-replicate {A = ℕ} k 0))
  ]

  pub Sheds-dropped : (k : ℕ) (kept : List ℕ) → Sheds d unread k kept → searched ≤ length unread → IsDropped k (length kept)
  Sheds-dropped k kept sheds within = elim sheds [
    | inl same ↦ elim dropped [
      | inl none ↦ inl (same.1 ∙ none)
      | inr some ↦ inr (omega (arith, same.1, some.0), omega (arith, some.1, ap length same.2))
    ]
    | inr long ↦ inr (long.1, omega (arith, ap length long.2, length-drop (length unread - 4) unread, long.0))
  ]
