-- Where the slash stands in the text of a network.
use Rattle.std.proofs.Common.{◌≡◌, ℕ, suc, ◌+◌, ◌-◌, ◌<◌, ◌≤◌, List, [], ◌∷◌, ◌++◌, length, get_or, take, drop, decimal, refl, sym, ap}
use Rattle.std.proofs.Common.{subst, ◌∙◌, append_assoc, add-one, length-append, inl, inr, lit≤, arith}
use Rattle.std.proofs.lemmas.List.{take-append-drop}
use Rattle.std.proofs.Math.Seq.{get_or-append_seam, get_or-append_right, take-append_seam, drop-append-add, drop-cons}
use Rattle.std.specs.Prelude.{codes}
use Rattle.std.specs.declared.net.ip_addr.IpAddr.{IpAddr}
use Rattle.std.specs.declared.net.ip_addr.IpAddr.TheVariants.{V4, V6}
use Rattle.std.specs.Net.Grammar.{IsIpText}
use Rattle.text_networks.specs.Addresses.{width_of}
use Rattle.text_networks.specs.Texts.{IsNetworkText}
use Rattle.text_networks.proofs.Numeral.{digit_of_decimal}

pub width_small : (a : IpAddr) → width_of a ≤ 128
width_small (V4 a) = lit≤ tt
width_small (V6 a) = lit≤ tt

-- the parts with the slash at the head of the second
regrouped : (text ip : List ℕ) (n : ℕ) → text ≡ ip ++ codes "/" ++ decimal n → text ≡ ip ++ (47 ∷ decimal n)
regrouped text ip n e = e ∙ append_assoc ip (47 ∷ []) (decimal n)

slash_at : (text ip : List ℕ) (n : ℕ) → text ≡ ip ++ (47 ∷ decimal n) → get_or text (length ip) 0 ≡ 47
slash_at text ip n e = ap (λ t. get_or t (length ip) 0) e ∙ get_or-append_seam ip 47 (decimal n) 0

length_of : (text ip : List ℕ) (n : ℕ) → text ≡ ip ++ (47 ∷ decimal n) → length text ≡ length ip + suc (length (decimal n))
length_of text ip n e = ap length e ∙ length-append ip (47 ∷ decimal n)

-- a text without a slash names no network but by an address
pub none_without_slash : (text : List ℕ) → ((a : IpAddr) → ¬ (IsIpText text a)) → ((i : ℕ) → i < length text → get_or text i 0 ≡ 47 → ⊥)
    → (a : IpAddr) (bits : ℕ) → ¬ (IsNetworkText text a bits)
none_without_slash text none no_slash a bits (inl h) = none a h.0
none_without_slash text none no_slash a bits (inr h) =
    let e = regrouped text h.0 bits h.1 in
    no_slash (length h.0) (omega (arith, length_of text h.0 bits e)) (slash_at text h.0 bits e)

-- the last slash stands before the length
slash_is_last : (text ip : List ℕ) (k n : ℕ) → k < length text → get_or text k 0 ≡ 47
    → ((i : ℕ) → k < i → i < length text → get_or text i 0 ≡ 47 → ⊥) → n ≤ 128 → text ≡ ip ++ (47 ∷ decimal n) → length ip ≡ k
slash_is_last text ip k n within here last small e =
    let size = length_of text ip n e in
    let not_after : k < length ip → ⊥ = λ after. last (length ip) after (omega (arith, size)) (slash_at text ip n e) in
    let not_before : length ip < k → ⊥ =
    λ before.
    let j = k - length ip - 1 in
    let digits_at : get_or text k 0 ≡ get_or (47 ∷ decimal n) (k - length ip) 0 =
    ap (λ t. get_or t k 0) e ∙ get_or-append_right ip (47 ∷ decimal n) k 0 (omega arith) in
    let index : k - length ip ≡ suc j = omega arith in
    let digit : get_or text k 0 ≡ get_or (decimal n) j 0 = digits_at ∙ ap (λ i. get_or (47 ∷ decimal n) i 0) index in
    omega (arith, digit_of_decimal (decimal n) n j (omega (arith, small)) refl (omega (arith, size)), digit, here)
    in
    omega (arith, not_after, not_before)

-- so the text is cut there
pub cut_at_slash : (text ip : List ℕ) (k n : ℕ) → k < length text → get_or text k 0 ≡ 47
    → ((i : ℕ) → k < i → i < length text → get_or text i 0 ≡ 47 → ⊥) → n ≤ 128 → text ≡ ip ++ codes "/" ++ decimal n
    → (take k text ≡ ip) × (drop (k + 1) text ≡ decimal n)
cut_at_slash text ip k n within here last small spelled =
    let e = regrouped text ip n spelled in
    let same : length ip ≡ k = slash_is_last text ip k n within here last small e in (
      ap (take k) e ∙ ap (λ j. take j (ip ++ (47 ∷ decimal n))) (sym same) ∙ take-append_seam ip (47 ∷ decimal n),
      ap (drop (k + 1)) e ∙ ap (λ j. drop (j + 1) (ip ++ (47 ∷ decimal n))) (sym same) ∙ drop-append-add ip (47 ∷ decimal n) 1,
    )

-- the parts on both sides of a slash are the text
pub joined_at_slash : (text : List ℕ) (k n : ℕ) → k < length text → get_or text k 0 ≡ 47 → drop (k + 1) text ≡ decimal n
    → text ≡ take k text ++ codes "/" ++ decimal n
joined_at_slash text k n within here rest =
    let whole = drop-cons text k 0 within in
    let rest' : drop (suc k) text ≡ decimal n = ap (λ j. drop j text) (sym (add-one k)) ∙ rest in
    let tail : drop k text ≡ 47 ∷ decimal n = cc in
    sym (take-append-drop k text) ∙ ap (λ t. take k text ++ t) tail ∙ sym (append_assoc (take k text) (47 ∷ []) (decimal n))

-- at the last slash a text names no network whose parts are not what they should be
pub none_at_slash : (text : List ℕ) (k : ℕ) → k < length text → get_or text k 0 ≡ 47
    → ((i : ℕ) → k < i → i < length text → get_or text i 0 ≡ 47 → ⊥) → ((a : IpAddr) → ¬ (IsIpText text a))
    → ((a : IpAddr) (n : ℕ) → IsIpText (take k text) a → n ≤ width_of a → ¬ (drop (k + 1) text ≡ decimal n))
    → (a : IpAddr) (bits : ℕ) → ¬ (IsNetworkText text a bits)
none_at_slash text k within here last none parts a bits (inl h) = none a h.0
none_at_slash text k within here last none parts a bits (inr h) =
    let cut = cut_at_slash text h.0 k bits within here last (omega (arith, h.3, width_small a)) h.1 in
    parts a bits (subst (λ ip. IsIpText ip a) (sym cut.0) h.2) h.3 cut.1
