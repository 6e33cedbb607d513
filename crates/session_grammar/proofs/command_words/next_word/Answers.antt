use Rattle.std.proofs.Common.{◌≡◌, ◌∙◌, ap, sym, ◌∷◌, length, arith, ◌<◌}
use Rattle.std.specs.Prelude.{take, drop}
use Rattle.std.proofs.lemmas.Bool.{eqb-false}
use Rattle.model.specs.Commands.{words}
use Rattle.session_grammar.proofs.WordLaws.{words-found}
use Rattle.session_grammar.proofs.command_words.next_word.Goals as goal

pub returns : goal.returns
returns c =
    let rest = c.skip_blanks-rest.result.now in
    let some : length rest ≡ 0 → ⊥ = eqb-false (length rest) 0 (sym c.if-is_empty.ensures) in
    let filled : 0 < length rest = omega arith in
    sym c.skip_blanks-rest.ensures.same
    ∙ words-found rest filled c.skip_blanks-rest.ensures.begins c.memchr2.result c.memchr2.ensures
    ∙ ap (λ n. take n rest ∷ words (drop n rest)) (sym c.unwrap_or-end.ensures)
    ∙ ap (λ l. l ∷ words (drop c.unwrap_or-end.result rest)) (sym c.split_at.ensures.front)
    ∙ ap (λ l. c.split_at.result.0.now ∷ words l) (sym c.split_at.ensures.back)
