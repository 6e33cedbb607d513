-- The articles of a spool that are in none of their groups any more, and what a renewal gives back of them.
use Rattle.std.specs.Prelude.{◌≡◌, ℕ, ◌-◌, ◌<◌, ◌^◌, if◌then◌else◌, nat_lt, List, [], length, map, is_some, option_map, unwrap_or}
use Rattle.std.specs.List.{range_with_len, sum_by}
use Rattle.session_lookups.specs.Held.{article_with, gone_with, text_of}
use Rattle.model.specs.Article.{id}
use Rattle.model.specs.Spool.{Spool}
use Rattle.model.specs.Stream.{Octets}
use Rattle.model_renewed.specs.Renewed.{husk}
use Rattle.volume_states.specs.declared.state.Gone.{Gone}

-- an article that is gone counts as a text if it is longer than its husk. In the pack the husk takes 17 octets beside its own, and the
-- text has these more at least, wherever it stands
abbrev pub share_of : Octets → List Octets → Gone
share_of text groups = record {
  articles = 1;
  texts = if nat_lt (length (husk (id text) groups)) (length text) then 1 else 0;
  octets = (length text - length (husk (id text) groups)) - 17;
}

abbrev pub nothing : Gone
nothing = record { articles = 0; texts = 0; octets = 0 }

-- the groups in which the article with this serial was filed
abbrev pub groups_filed : Spool → ℕ → List Octets
groups_filed S n = unwrap_or (option_map (λ a. a.groups) (article_with S n)) []

-- what the change with this serial counts for: nothing, unless it filed an article that is gone
abbrev pub share_with : Spool → ℕ → Gone
share_with S n = if is_some (gone_with S n) then share_of (text_of S n) (groups_filed S n) else nothing

-- what the first changes count for
abbrev pub total : (Gone → ℕ) → Spool → ℕ → ℕ
total field S n = sum_by field (map (share_with S) (range_with_len 1 n))

-- the count is this one, if a u64 can hold it
abbrev pub Counts : ℕ → ℕ → Type 0
Counts count all = all < 2 ^ 64 → count ≡ all

-- of the first changes
pub record IsGoneUpTo (S : Spool) (n : ℕ) (g : Gone) : Type 0 where
  pub articles : Counts g.articles (total (λ s. s.articles) S n)
  pub texts : Counts g.texts (total (λ s. s.texts) S n)
  pub octets : Counts g.octets (total (λ s. s.octets) S n)

abbrev pub IsGone : Spool → Gone → Type 0
IsGone S g = IsGoneUpTo S (length S) g
