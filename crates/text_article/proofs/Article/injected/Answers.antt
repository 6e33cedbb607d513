use Rattle.std.proofs.Common.{◌≡◌, ◌<◌, ◌≤◌, ◌+◌, ◌-◌, ◌++◌, ◌^◌, ◌∙◌, sym, ap, subst, length, take, List, ℕ, arith}
use Rattle.std.specs.Prelude.{None, codes}
use Rattle.std.proofs.lemmas.List.{length-append}
use Rattle.std.proofs.Math.Seq.{take-append_seam}
use Rattle.model.specs.Article.{Posted, cause, content, fields, injected}
use Rattle.text_fields.specs.Header.{IsHeader}
use Rattle.text_article.specs.Stored.{front}
use Rattle.text_article.proofs.InjectedLaws.{injected_fields, injected_header, injected_newsgroups}
use Rattle.text_article.proofs.Article.injected.Goals as goal

pub overflow_sub-front : goal.overflow_sub-front
overflow_sub-front c =
    let text = c.self.inside.text.now in
    let before = front c.args.host.now c.args.serial c.args.moment (fields text) in
    let same = c.in_ok-text.ensures ∙ ap (injected c.args.host.now c.args.serial c.args.moment) (sym c.self.view_is) in
    let size : c.len.result ≡ length before + length text = c.len.ensures ∙ c.in_ok-text.text.ok.0 ∙ ap length same
    ∙ length-append before text in
    omega (arith, size)

pub invariant_of-result : goal.invariant_of-result
invariant_of-result c =
    let host = c.args.host.now in
    let n = c.args.serial in
    let t = c.args.moment in
    let text = c.self.inside.text.now in
    let h = c.self.inside.header in
    let stored = c.in_ok-text.text.items in
    let before = front host n t (fields text) in
    let same : stored ≡ injected host n t text = c.in_ok-text.ensures ∙ ap (injected host n t) (sym c.self.view_is) in
    let none : cause (Posted host n) text ≡ None =
    subst (λ (x : List ℕ). cause (Posted host n) x ≡ None) (sym c.self.view_is) c.requires.cause in
    let small : n < 2 ^ 64 = omega (arith, c.ranges.serial.fits) in
    let room : h + 2 ≤ length text = c.self.invariant.room in
    let size : c.len.result ≡ length before + length text = c.len.ensures ∙ c.in_ok-text.text.ok.0 ∙ ap length same
    ∙ length-append before text in
    let begins : c.len.result - length text ≡ length before = omega (arith, size) in
    let at : IsHeader (injected host n t text) (length before + h) =
    injected_header host text n t c.requires.host small none h c.self.invariant.header room in
    record {
      front = omega (arith, size, ap length same, length-append before text);
      header = subst (λ (p : List ℕ × ℕ). IsHeader p.0 (p.1 + h)) (λ i. (sym same i, sym begins i)) at;
      room = omega (arith, room, size, ap length same, length-append before text);
      fields =
          (λ i. fields (take (begins i) (same i)) ++ c.self.invariant.fields i)
          ∙ ap (λ (l : List ℕ). fields l ++ fields text) (take-append_seam before text)
          ∙ injected_fields host text n t c.requires.host small none ∙ ap fields (sym same);
      newsgroups =
          c.self.invariant.newsgroups ∙ sym (injected_newsgroups host text n t c.requires.host small none)
          ∙ ap (content (codes "Newsgroups")) (sym same);
    }
