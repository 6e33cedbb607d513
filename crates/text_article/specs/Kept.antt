-- What an article keeps of its text.
use Rattle.std.specs.Prelude.{◌≡◌, ◌+◌, ◌≤◌, codes, length, map}
use Rattle.model.specs.Article.{content, fields}
use Rattle.std.specs.Cow.{cow_slice_items}
use Rattle.text_fields.specs.Header.{IsHeader}
use Rattle.text_article.specs.declared.Article.TheInside.{Inside}

-- where the header ends, the fields, and the content of Newsgroups
pub record IsKept (a : Inside) : Type 0 where
  pub header : IsHeader a.text.now a.header
  pub room : a.header + 2 ≤ length a.text.now
  pub fields : map (λ field. field.now) a.fields.items ≡ fields a.text.now
  pub newsgroups : cow_slice_items a.newsgroups ≡ content (codes "Newsgroups") a.text.now
