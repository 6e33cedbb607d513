use Rattle.std.proofs.Common.{◌∙◌, ap, ◌+◌, length}
use Rattle.model.specs.Stream.{lines}
use Rattle.model.specs.Article.{header_lines}
use Rattle.text_fields.proofs.HeaderLaws.{lines-drop}
use Rattle.text_article.proofs.Article.line_count.Goals as goal

pub returns : goal.returns
returns c =
    let text = c.args.self.now in
    c.line_count.ensures ∙ ap (λ octets. length (lines octets)) c.body.ensures
    ∙ ap length (lines-drop (length (header_lines text) + 1) text)
