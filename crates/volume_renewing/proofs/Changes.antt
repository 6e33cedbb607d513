-- What is left of a change, by its serial.
use Rattle.std.proofs.Common.{◌≡◌, ℕ, ◌+◌, ◌-◌, ◌≤◌, Bool, true, false, cond, [], refl, sym, ◌∙◌, ap, arith, add-one}
use Rattle.std.specs.Prelude.{Some, None, if◌then◌else◌, is_some, option_and_then, slice_get}
use Rattle.model.specs.Article.{Carried, cause}
use Rattle.model.specs.Spool.{Spool, article_filed, entries, gone_at, is_gone, news_article}
use Rattle.model.specs.declared.change.Change.{Change}
use Rattle.model.specs.declared.change.Change.TheVariants.{Article}
use Rattle.model.specs.declared.change.Filing.{Filing}
use Rattle.session_lookups.specs.Held.{gone_with}
use Rattle.model_renewed.specs.Renewed.{husk_of, renewed, renewed_change}
use Rattle.model.proofs.LawfulLaws.{next_follows}
use Rattle.model_renewed.proofs.Renewing.{entry_there, renewed_at}
use Rattle.spool.specs.Laws.{changes_lawful}
use Rattle.spool.specs.View.{SpoolView}

-- whether the article with this serial is gone
pub gone_by_serial : (S : Spool) (k : ℕ) (f : Filing) → slice_get S k ≡ Some (Article f)
    → gone_with S (k + 1) ≡ cond (is_gone S (news_article (1 + k) f)) (Some (gone_at S (news_article (1 + k) f))) None
unfolding entries
gone_by_serial S k f is =
    ap (gone_with S) (add-one k)
    ∙ ap (λ o. option_and_then (λ a. cond (is_gone S a) (Some (gone_at S a)) None) (option_and_then article_filed o))
    (entry_there 1 S k (Article f) is)

there : (b : Bool) (n : ℕ) → is_some (cond b (Some n) None) ≡ b
there true n = refl
there false n = refl

module _ (S : Spool) (serial : ℕ) (low : 1 ≤ serial) where
  serial_is : serial - 1 + 1 ≡ serial
  serial_is = omega (arith, low)

  -- what is left of another change than an article, or of an article
  pub left_at : (c : Change) → slice_get S (serial - 1) ≡ Some c
      → slice_get (renewed S) (serial - 1) ≡ Some (renewed_change S (record { serial = 1 + (serial - 1); change = c }))
  left_at c is = renewed_at S (serial - 1) c is

  pub article_left : (f left : Filing) (b : Bool) → slice_get S (serial - 1) ≡ Some (Article f)
      → b ≡ is_some (gone_with S serial) → left ≡ (if b then husk_of f else f)
      → slice_get (renewed S) (serial - 1) ≡ Some (Article left)
  article_left f left b is gone left_is =
      let known : gone_with S serial
      ≡ cond (is_gone S (news_article (1 + (serial - 1)) f)) (Some (gone_at S (news_article (1 + (serial - 1)) f))) None =
      ap (gone_with S) (sym serial_is) ∙ gone_by_serial S (serial - 1) f is in
      let same : b ≡ is_gone S (news_article (1 + (serial - 1)) f) =
      gone ∙ ap is_some known ∙ there (is_gone S (news_article (1 + (serial - 1)) f)) (gone_at S (news_article (1 + (serial - 1)) f)) in
      left_at (Article f) is
      ∙ ap (λ (t : Bool). Some (Article (if t then husk_of f else f))) (sym same)
      ∙ ap (λ (g : Filing). Some (Article g)) (sym left_is)

-- each article of a spool was carried
pub carried_at : (s : SpoolView) (k : ℕ) (f : Filing) → slice_get s.changes k ≡ Some (Article f) → cause Carried f.text ≡ None
carried_at s k f is = (next_follows s.host [] s.changes k (Article f) (changes_lawful s) is).carried
