use Rattle.std.proofs.Common.{sym, ◌∙◌, ap, subst, codes, map, Bor, List, ℕ}
use Rattle.text_article.specs.Causes.{content_in, has_good_groups}
use Rattle.text_article.specs.Parts.{AreFaults}
use Rattle.text_article.proofs.text_reading.parts_of.Goals as goal

pub returns-in-Some : goal.returns-in-Some
returns-in-Some c = sym c.shape_cause.ensures ∙ c.in-Some.is

pub returns : goal.returns
returns c =
    let all = λ (fs : List (Bor (List ℕ))). map (λ (f : Bor (List ℕ)). f.now) fs in
    let newsgroups = c.in_ok-newsgroups.ensures ∙ ap (λ (fs : List (Bor (List ℕ))). content_in (codes "Newsgroups") (all fs))
    c.deref.ensures.value ∙ ap (content_in (codes "Newsgroups")) c.in_ok-fields.ensures in
    record {
      shape = sym c.shape_cause.ensures ∙ c.in_default.is;
      fields = c.in_ok-fields.ensures;
      newsgroups = newsgroups;
      faults =
          subst (AreFaults c.faults_of-faults.result) (ap all c.deref-3.ensures.value ∙ c.in_ok-fields.ensures)
          c.faults_of-faults.ensures.faults;
      groups =
          c.faults_of-faults.ensures.groups ∙ c.in_ok-good_groups.ensures
          ∙ ap has_good_groups (c.deref-2.ensures.value ∙ newsgroups);
    }
