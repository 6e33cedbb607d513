-- What the first changes count for, and one change more.
use Rattle.std.proofs.Common.{◌≡◌, ◌<◌, ℕ, ◌+◌, ◌^◌, add-one, sym, ◌∙◌, ap, arith, subst}
use Rattle.std.proofs.lemmas.List.FromFn.{sum_by-map-range_with_len_more}
use Rattle.model.specs.Spool.{Spool}
use Rattle.volume_states.specs.declared.state.Gone.{Gone}
use Rattle.volume_states.specs.Gone.{Counts, IsGoneUpTo, share_with, total}

total_more : (field : Gone → ℕ) (S : Spool) (n : ℕ) → total field S (n + 1) ≡ total field S n + field (share_with S (n + 1))
total_more field S n =
    let turned : 1 + n ≡ n + 1 = omega arith in
    sum_by-map-range_with_len_more field (share_with S) 1 n (n + 1) turned

count_more : (all more sum old new : ℕ) → sum ≡ all + more → Counts old all → Counts new (old + more) → Counts new sum
count_more all more sum old new is before one = λ fits.
    let few : all < 2 ^ 64 = omega (arith, is, fits) in
    let same : old ≡ all = before few in
    let fits_one : old + more < 2 ^ 64 = omega (arith, is, fits, same) in
    let added : new ≡ old + more = one fits_one in
    omega (arith, is, same, added)

pub gone_more : (S : Spool) (n : ℕ) (old share new : Gone) → share ≡ share_with S (n + 1)
    → Counts new.articles (old.articles + share.articles) → Counts new.texts (old.texts + share.texts)
    → Counts new.octets (old.octets + share.octets) → IsGoneUpTo S n old → IsGoneUpTo S (n + 1) new
gone_more S n old share new is articles texts octets before =
    let same : share_with S (n + 1) ≡ share = sym is in
    record {
      articles = count_more _ share.articles _ _ _
          (total_more (λ s. s.articles) S n ∙ ap (λ (s : Gone). total (λ s. s.articles) S n + s.articles) same) before.articles articles;
      texts = count_more _ share.texts _ _ _
          (total_more (λ s. s.texts) S n ∙ ap (λ (s : Gone). total (λ s. s.texts) S n + s.texts) same) before.texts texts;
      octets = count_more _ share.octets _ _ _
          (total_more (λ s. s.octets) S n ∙ ap (λ (s : Gone). total (λ s. s.octets) S n + s.octets) same) before.octets octets;
    }
