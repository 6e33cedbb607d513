use Rattle.std.proofs.Common.{◌≡◌, [], ◌==◌}
use Rattle.text_networks.specs.Proxies.{words_of}
use Rattle.text_networks.proofs.Words.{some_word}
use Rattle.text_networks.proofs.proxies.four_words.Goals as goal

pub returns-in-Some-cut-3-clause-none : goal.returns-in-Some-cut-3-clause-none
returns-in-Some-cut-3-clause-none c =
    λ p q r s e.
    let none : words_of c.in-Some-cut-3.field-0.1.now ≡ [] = cc (
      e,
      c.in-Some.ensures.some,
      c.in-Some-cut.ensures.some,
      c.in-Some-cut-2.ensures.some,
      c.in-Some-cut-3.ensures.some,
    ) in
    some_word (λ octet. octet == 32) c.in-Some-cut-3.field-0.1.now none
