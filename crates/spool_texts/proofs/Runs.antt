-- Octets that are borrowed from a file.
use Rattle.std.proofs.Common.{◌≡◌, ◌≤◌, ℕ, ◌+◌, ◌-◌, length, take, drop, ◌∙◌, ap, arith}
use Rattle.std.proofs.lemmas.List.{drop-drop, drop-take, length-take, take-take}
use Rattle.std.specs.Prelude.{min}
use Rattle.model.specs.Stream.{Octets}
use Rattle.spool_texts.specs.Texts.{IsRun}

-- a part of these octets is a part of the content
pub part_of_run : (content octets : Octets) (at start stop width : ℕ) → IsRun content at octets → at ≤ start → start ≤ stop
    → stop - at ≤ length octets → width ≡ stop - start → take width (drop (start - at) octets) ≡ take (stop - start) (drop start content)
part_of_run content octets at start stop width run low order fits wide =
    let long : length octets ≡ min run.some (length (drop at content)) = ap (λ (l : Octets). length l) run.is
    ∙ length-take run.some (drop at content) in
    let more : run.some ≡ (start - at) + (run.some - (start - at)) = omega (arith, long) in
    let here : at + (start - at) ≡ start = omega arith in
    ap (λ (n : ℕ). take n (drop (start - at) octets)) wide
    ∙ ap (λ (l : Octets). take (stop - start) (drop (start - at) l)) run.is
    ∙ ap (λ (n : ℕ). take (stop - start) (drop (start - at) (take n (drop at content)))) more
    ∙ ap (λ (l : Octets). take (stop - start) l) (drop-take (start - at) (run.some - (start - at)) (drop at content))
    ∙ take-take (stop - start) (run.some - (start - at)) (drop (start - at) (drop at content)) (omega (arith, long))
    ∙ ap (λ (l : Octets). take (stop - start) l) (drop-drop (start - at) at content)
    ∙ ap (λ (n : ℕ). take (stop - start) (drop n content)) here
