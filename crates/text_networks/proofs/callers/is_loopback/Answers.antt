use Rattle.text_networks.proofs.Family.{loopback}
use Rattle.text_networks.proofs.callers.is_loopback.Goals as goal

pub returns : goal.returns
returns c =
    let same = loopback c.args.address c.to_canonical.result c.to_canonical.ensures in
    (λ t. same.0 (c.is_loopback.ensures.0 t), λ h. c.is_loopback.ensures.1 (same.1 h))
