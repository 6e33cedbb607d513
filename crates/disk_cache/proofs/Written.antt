-- What the runs leave of an image: that of a read.
use Rattle.std.proofs.Common.{◌≡◌, ◌⊎◌, inl, inr, ◌<◌, ◌≤◌, ℕ, zero, suc, ◌+◌, ◌-◌, List, [], ◌∷◌, ◌++◌, length, get_or, take, drop, Option}
use Rattle.std.proofs.Common.{Some, None, refl, sym, ◌∙◌, ap, arith, append_assoc, length-append}
use Rattle.std.proofs.lemmas.List.{ext_get_or, take_more, drop_more, take_at, drop_at, length-take-le, take-append-drop}
use Rattle.disk.specs.Image.{overwritten}
use Rattle.disk.proofs.Images.{length-overwritten, overwritten_below, overwritten_inside, overwritten_above}
use Rattle.disk_cache.specs.Collected.{shown}
use Rattle.disk_cache.specs.Runs.{Run, join, runs_from}
use Rattle.disk_cache.proofs.RunLaws.{AreParts, join_cases, longer, runs_parts}
use Rattle.disk_cache.proofs.Showing.{place_cases}

-- the image after the runs, one after the other
abbrev pub all_written : List Run → List ℕ → List ℕ
all_written [] image = image
all_written (run ∷ runs) image = all_written runs (overwritten run.at run.octets image)

-- an octet and a run behind it are one write
overwritten_cons : (at octet : ℕ) (octets image : List ℕ) → at + 1 + length octets ≤ length image
    → overwritten at (octet ∷ octets) image ≡ overwritten (at + 1) octets (overwritten at (octet ∷ []) image)
overwritten_cons at octet octets image fits =
    ext_get_or 0 (overwritten at (octet ∷ octets) image) (overwritten (at + 1) octets (overwritten at (octet ∷ []) image)) (whole
    ∙ sym (behind ∙ front))
    (λ k within. each k (place_cases at (suc (length octets)) k))
  where
    front : length (overwritten at (octet ∷ []) image) ≡ length image
    front = length-overwritten at (octet ∷ []) image (omega (arith, fits))

    behind_fits : at + 1 + length octets ≤ length (overwritten at (octet ∷ []) image)
    behind_fits = omega (arith, fits, front)

    behind : length (overwritten (at + 1) octets (overwritten at (octet ∷ []) image)) ≡ length (overwritten at (octet ∷ []) image)
    behind = length-overwritten (at + 1) octets (overwritten at (octet ∷ []) image) behind_fits

    whole : length (overwritten at (octet ∷ octets) image) ≡ length image
    whole = length-overwritten at (octet ∷ octets) image (omega (arith, fits))

    inside : (k : ℕ) → at ≤ k → k < at + suc (length octets) → (i : ℕ) → k ≡ at + i
        → get_or (octet ∷ octets) i 0 ≡ get_or (overwritten (at + 1) octets (overwritten at (octet ∷ []) image)) k 0
    inside k low high zero is =
        let here : k - at ≡ 0 = omega (arith, is) in
        sym (overwritten_below (at + 1) octets (overwritten at (octet ∷ []) image) behind_fits k 0 (omega (arith, is))
        ∙ overwritten_inside at (octet ∷ []) image (omega (arith, fits)) k 0 low (omega (arith, is))
        ∙ ap (λ (i : ℕ). get_or (octet ∷ []) i 0) here)
    inside k low high (suc i) is =
        let here : k - (at + 1) ≡ i = omega (arith, is) in
        sym (overwritten_inside (at + 1) octets (overwritten at (octet ∷ []) image) behind_fits k 0 (omega (arith, is))
        (omega (arith, high)) ∙ ap (λ (j : ℕ). get_or octets j 0) here)

    each : (k : ℕ) → ((k < at) ⊎ (at + suc (length octets) ≤ k)) ⊎ ((at ≤ k) × (k < at + suc (length octets)))
        → get_or (overwritten at (octet ∷ octets) image) k 0 ≡ get_or (overwritten (at + 1) octets (overwritten at (octet ∷ []) image)) k 0
    each k (inl (inl below)) =
        overwritten_below at (octet ∷ octets) image (omega (arith, fits)) k 0 below
        ∙ sym (overwritten_below (at + 1) octets (overwritten at (octet ∷ []) image) behind_fits k 0 (omega (arith, below))
        ∙ overwritten_below at (octet ∷ []) image (omega (arith, fits)) k 0 below)
    each k (inl (inr above)) =
        overwritten_above at (octet ∷ octets) image (omega (arith, fits)) k 0 above
        ∙ sym (overwritten_above (at + 1) octets (overwritten at (octet ∷ []) image) behind_fits k 0 (omega (arith, above))
        ∙ overwritten_above at (octet ∷ []) image (omega (arith, fits)) k 0 (omega (arith, above)))
    each k (inr is) =
        let place : k ≡ at + (k - at) = omega (arith, is.0) in
        overwritten_inside at (octet ∷ octets) image (omega (arith, fits)) k 0 is.0 is.1 ∙ inside k is.0 is.1 (k - at) place

written_join : (cs : List (Option ℕ)) (at octet : ℕ) (runs : List Run) (image : List ℕ) → AreParts cs (at + 1) runs
    → at + 1 + length cs ≤ length image → all_written (join at octet runs) image ≡ all_written runs (overwritten at (octet ∷ []) image)
written_join cs at octet runs image parts fits =
    join_cases (λ (all : List Run). AreParts cs (at + 1) runs
    → all_written all image ≡ all_written runs (overwritten at (octet ∷ []) image)) at octet runs
    (λ parts. refl)
    (λ run rest is place parts. rw is (joined run rest place (rw is at parts)))
    parts
  where
    joined : (run : Run) (rest : List Run) → run.at ≡ at + 1 → AreParts cs (at + 1) (run ∷ rest)
        → all_written (longer at octet run ∷ rest) image ≡ all_written (run ∷ rest) (overwritten at (octet ∷ []) image)
    joined run rest place parts =
        let high = parts.0.high in
        ap (λ (i : List ℕ). all_written rest i) (overwritten_cons at octet run.octets image (omega (arith, high, fits, place)))
        ∙ ap (λ (n : ℕ). all_written rest (overwritten n run.octets (overwritten at (octet ∷ []) image))) (sym place)

pub written_shown : (cs : List (Option ℕ)) (at : ℕ) (image : List ℕ) → at + length cs ≤ length image
    → all_written (runs_from at cs) image ≡ take at image ++ shown cs (drop at image)
written_shown [] at image fits = sym (take-append-drop at image)
written_shown (None ∷ cs) at image fits =
    let more = drop_more image at 0 (omega (arith, fits)) in
    written_shown cs (at + 1) image (omega (arith, fits))
    ∙ ap (λ (l : List ℕ). l ++ shown cs (drop (at + 1) image)) (take_more image at 0 (omega (arith, fits)))
    ∙ append_assoc (take at image) (get_or image at 0 ∷ []) (shown cs (drop (at + 1) image))
    ∙ ap (λ (l : List ℕ). take at image ++ shown (None ∷ cs) l) (sym more)
written_shown (Some octet ∷ cs) at image fits =
    let more = drop_more image at 0 (omega (arith, fits)) in
    let size = length-overwritten at (octet ∷ []) image (omega (arith, fits)) in
    written_join cs at octet (runs_from (at + 1) cs) image (runs_parts cs (at + 1)) (omega (arith, fits))
    ∙ written_shown cs (at + 1) (overwritten at (octet ∷ []) image) (omega (arith, fits, size))
    ∙ ap (λ (l : List ℕ). l ++ shown cs (drop (at + 1) (overwritten at (octet ∷ []) image))) front
    ∙ ap (λ (l : List ℕ). (take at image ++ octet ∷ []) ++ shown cs l) back
    ∙ append_assoc (take at image) (octet ∷ []) (shown cs (drop (at + 1) image))
    ∙ ap (λ (l : List ℕ). take at image ++ shown (Some octet ∷ cs) l) (sym more)
  where
    front_size : length (take at image ++ octet ∷ []) ≡ at + 1
    front_size = omega (arith, length-append (take at image) (octet ∷ []), length-take-le at image (omega (arith, fits)))

    split : overwritten at (octet ∷ []) image ≡ (take at image ++ octet ∷ []) ++ drop (at + 1) image
    split = sym (append_assoc (take at image) (octet ∷ []) (drop (at + 1) image))

    front : take (at + 1) (overwritten at (octet ∷ []) image) ≡ take at image ++ octet ∷ []
    front = ap (λ (l : List ℕ). take (at + 1) l) split ∙ take_at (take at image ++ octet ∷ []) (drop (at + 1) image) (at + 1) front_size

    back : drop (at + 1) (overwritten at (octet ∷ []) image) ≡ drop (at + 1) image
    back = ap (λ (l : List ℕ). drop (at + 1) l) split ∙ drop_at (take at image ++ octet ∷ []) (drop (at + 1) image) (at + 1) front_size
