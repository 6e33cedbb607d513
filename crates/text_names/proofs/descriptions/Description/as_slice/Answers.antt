use Rattle.std.proofs.Common.{rules, ◌≤◌, ℕ, List, length, subst}
use Rattle.std.specs.Prelude.{IsTrue}
use Rattle.std.specs.List.{list_all}
use Rattle.model.specs.Lawful.{is_description_octet}
use Rattle.text_names.proofs.Described.{described}
use Rattle.text_names.proofs.descriptions.Description.as_slice.Goals as goal

pub returns-clause-value : goal.returns-clause-value
returns-clause-value c = search rules

pub returns-clause-short : goal.returns-clause-short
returns-clause-short c =
    subst (λ (text : List ℕ). length text ≤ 200) c.self.view_is (described c.self.inside.octets.items c.self.invariant).0

pub returns-clause-printable : goal.returns-clause-printable
returns-clause-printable c =
    subst (λ (text : List ℕ). IsTrue (list_all is_description_octet text)) c.self.view_is
    (described c.self.inside.octets.items c.self.invariant).1
