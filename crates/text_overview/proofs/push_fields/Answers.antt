use Rattle.std.proofs.Common.{codes, List}
use Rattle.std.proofs.lemmas.Result.{on_ok_weaker}
use Rattle.model.specs.Stream.{Octets}
use Rattle.model.specs.Article.{fields}
use Rattle.text_overview.specs.Rest.{shown_field}
use Rattle.text_overview.proofs.RestLaws.{joined-five}
use Rattle.text_overview.proofs.push_fields.Goals as goal

pub returns : goal.returns
returns c =
    let header : List Octets = fields c.args.article.now in
    on_ok_weaker c.push_field-5.result (λ last.
    joined-five c.args.line.now.items c.push_field.new.line.items c.push_field-2.new.line.items c.push_field-3.new.line.items
    c.push_field-4.new.line.items c.push_field-5.new.line.items (codes "\t") (shown_field (codes "Subject") header)
    (shown_field (codes "From") header) (shown_field (codes "Date") header) (shown_field (codes "Message-ID") header)
    (shown_field (codes "References") header) c.in_ok-push_field.ensures c.in_ok-push_field-2.ensures c.in_ok-push_field-3.ensures
    c.in_ok-push_field-4.ensures last) c.push_field-5.ensures
