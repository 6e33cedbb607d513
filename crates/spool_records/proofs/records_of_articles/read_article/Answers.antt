use Rattle.std.proofs.lemmas.Grind.{common_steps}
use Rattle.std.proofs.Common.{◌≡◌, refl, rules, length, ap, ◌∙◌, arith}
use Rattle.model.specs.Spool.{news_article}
use Rattle.spool_records.proofs.Cuts.{article_is, text_is}
use Rattle.spool_records.proofs.records_of_articles.read_article.Goals as goal

pub returns-then-text-head : goal.returns-then-text-head
returns-then-text-head c = λ n f early short is.
    let a = news_article n f in
    let head = c.in-Some.head in
    let its = article_is a c.args.octets.now head.serial head.moment head.text head.groups c.in-Some.rest.now c.in-Some.ensures.0 short
    (search rules) (omega (arith, early)) c.in-Some.ensures.1 is in
    let cut = rw c.in-Some-2.is at c.in_ok-groups.ensures in
    let same : c.in-Some-2.text.now ≡ a.text =
    text_is a c.in-Some-2.groups.items c.in-Some.rest.now c.in-Some-2.text.now (cut.0 ∙ its.count_is) its.rest_is cut.1 in
    absurd (omega (arith, ap length same, its.text_is))

pub returns-in_default-at : goal.returns-in_default-at
returns-in_default-at c = λ n f early short is.
    let head = c.in-Some.head in
    let its = article_is (news_article n f) c.args.octets.now head.serial head.moment head.text head.groups c.in-Some.rest.now
    c.in-Some.ensures.0 short (search rules) (omega (arith, early)) c.in-Some.ensures.1 is in
    absurd (omega (arith, c.in_default-at.ensures.none.0 refl, its.moment_is, early))

pub returns : goal.returns
returns c = grind (arith, common_steps)
