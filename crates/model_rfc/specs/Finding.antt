-- Which article a command sends, and what of it (RFC 3977, sections 6.2.1 to 6.2.4).
use Rattle.std.specs.Prelude.{◌≡◌, ℕ, true, List, ◌∷◌, [], ◌++◌, flat_map, codes, decimal}
use Rattle.std.specs.List.{list_all, join_with_byte}
use Rattle.model.specs.Stream.{Octets, line}
use Rattle.model.specs.Article as article
use Rattle.model.specs.Spool.{NewsArticle}
use Rattle.model.specs.declared.command.Part.{Part}
use Rattle.model.specs.declared.command.Part.TheVariants as part
use Rattle.model.specs.declared.session.Answer.{Answer}
use Rattle.model.specs.declared.session.Session.{Session}
use Rattle.model_rfc.specs.Grammar.{is_line_octet}
use Rattle.model_rfc.specs.Responses.{sent}
use Rattle.model_rfc.specs.States.{Stays}
use Rattle.model_rfc.specs.Overviews.{body_lines, header_lines}

-- the code of ARTICLE, HEAD, BODY or STAT where there is such an article
abbrev pub code_for : Part → Octets
code_for part.Whole = codes "220"
code_for part.Head = codes "221"
code_for part.Body = codes "222"
code_for part.Nothing = codes "223"

-- what follows the line, of an article with these lines: all of them (6.2.1.2), its headers (6.2.2.2), its body (6.2.3.2), or nothing
-- (6.2.4.2)
abbrev pub block_for : Part → List Octets → Octets
block_for part.Whole lines = sent lines
block_for part.Head lines = sent (header_lines lines)
block_for part.Body lines = sent (body_lines lines)
block_for part.Nothing lines = []

-- an answer is of this article, whose text has these lines; it has this number, and leaves this session
pub record IsOfArticle (x : Session) (p : Part) (number : ℕ) (filed : NewsArticle) (a : Answer) : Type 0 where
  pub stays : Stays x a
  pub lines : List Octets
  pub clean : list_all (list_all is_line_octet) lines ≡ true
  pub text_is : filed.text ≡ flat_map line lines
  pub reply_is : a.reply ≡ line (join_with_byte 32 (code_for p ∷ decimal number ∷ article.id filed.text ∷ [])) ++ block_for p lines
