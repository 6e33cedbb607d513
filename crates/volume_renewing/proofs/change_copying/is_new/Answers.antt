use Rattle.std.proofs.Common.{◌≡◌, length, sym, ◌∙◌, ap, true}
use Rattle.std.specs.Prelude.{bytes_eq}
use Rattle.std.proofs.lemmas.List.{nil_from_length}
use Rattle.std.proofs.lemmas.Slice.Eq.{bytes_eq-Decides}
use Rattle.model.specs.Spool.{Spool}
use Rattle.spool.specs.View.{SpoolView}
use Rattle.volume_renewing.proofs.change_copying.is_new.Goals as goal

pub returns-then-len-ne0-clause-no : goal.returns-then-len-ne0-clause-no
returns-then-len-ne0-clause-no g c = λ new.
    absurd (c.if-len-ne0.true (c.len.ensures.all ∙ ap (λ (S : Spool). length S) new.empty))

pub returns-clause-yes : goal.returns-clause-yes
returns-clause-yes g c = λ yes.
    let one : c.host.result.now ≡ c.args.new.now.spool.host = c.host.ensures ∙ ap (λ (s : SpoolView). s.host) c.spool.ensures in
    let same : bytes_eq c.args.new.now.spool.host c.args.old.now.host ≡ true =
    sym (λ i. bytes_eq (one i) (c.host-2.ensures i)) ∙ sym c.is_same.ensures ∙ yes in
    record {
      empty = nil_from_length c.args.new.now.spool.changes (sym c.len.ensures.all ∙ c.if-len-ne0.false);
      host = (bytes_eq-Decides c.args.new.now.spool.host c.args.old.now.host).0 same;
    }

pub returns-clause-no : goal.returns-clause-no
returns-clause-no g c = λ new.
    let one : c.host.result.now ≡ c.args.new.now.spool.host = c.host.ensures ∙ ap (λ (s : SpoolView). s.host) c.spool.ensures in
    c.is_same.ensures ∙ (λ i. bytes_eq (one i) (c.host-2.ensures i))
    ∙ (bytes_eq-Decides c.args.new.now.spool.host c.args.old.now.host).1 new.host
