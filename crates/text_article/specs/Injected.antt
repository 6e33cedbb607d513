-- What a posted article keeps of its stored text.
use Rattle.std.specs.Prelude.{◌≡◌, ◌+◌, ◌++◌, ◌≤◌, codes, length, map, take}
use Rattle.model.specs.Article.{content, fields as text_fields}
use Rattle.std.specs.Cow.{cow_slice_items}
use Rattle.text_fields.specs.Header.{IsHeader}
use Rattle.text_article.specs.declared.injected.Injected.TheInside.{Inside}

-- where the posted text begins and the header ends, the added fields and the posted ones, and the content of Newsgroups
pub record IsInjected (a : Inside) : Type 0 where
  pub front : a.front ≤ length a.text.items
  pub header : IsHeader a.text.items a.header
  pub room : a.header + 2 ≤ length a.text.items
  pub fields : text_fields (take a.front a.text.items) ++ map (λ field. field.now) a.fields.items ≡ text_fields a.text.items
  pub newsgroups : cow_slice_items a.newsgroups ≡ content (codes "Newsgroups") a.text.items
