use Rattle.std.proofs.Common.{ℕ, List, [], ◌∷◌, ◌++◌, ap, ◌∙◌}
use Rattle.byteorder.specs.Endian.{little_bytes}
use Rattle.model.specs.Spool.{news_group}
use Rattle.spool_records.proofs.Cuts.{group_joined}
use Rattle.spool_records.proofs.records_of_groups.group_record.Goals as goal

pub returns : goal.returns
returns c =
    c.in_ok-extend_from_slice-3.ensures.items
    ∙ ap (λ (o : List ℕ). c.push.new.self.items ++ o) c.as_slice-description.ensures
    ∙ ap (λ (o : List ℕ). o ++ c.args.group.now.description) (c.in_ok-push.ensures.items
    ∙ ap (λ (o : List ℕ). o ++ c.octet.result ∷ []) (c.in_ok-extend_from_slice-2.ensures.items
    ∙ ap (λ (o : List ℕ). o ++ c.to_le_bytes-2.result) (c.in_ok-extend_from_slice.ensures.items
    ∙ ap (λ (o : List ℕ). o ++ c.to_le_bytes.result) c.in_ok-octets.ensures.items)))
    ∙ group_joined (news_group c.args.serial c.args.group.now) c.to_le_bytes.result c.to_le_bytes-2.result c.octet.result
    c.to_le_bytes.ensures
    (c.to_le_bytes-2.ensures ∙ ap (little_bytes 8) c.seconds.ensures.value) c.octet.ensures
