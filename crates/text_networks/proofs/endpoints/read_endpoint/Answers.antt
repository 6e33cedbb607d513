use Rattle.std.proofs.Common.{◌≡◌, sym, ap, ◌∙◌, arith}
use Rattle.std.proofs.lemmas.Bool.{false≢true}
use Rattle.std.proofs.NetLemmas.Theorems.{IsSocketText_unique}
use Rattle.std.specs.Net.Socket.{socket_port}
use Rattle.text_networks.proofs.endpoints.read_endpoint.Goals as goal
use Rattle.text_networks.proofs.endpoints.read_endpoint.Goals.{
  else-port-ne0-via-then-port-ne0+else-has_no_zone,
  else-port-ne0-via-else-port-ne0,
}

pub returns-else-port-ne0-clause-none : goal.returns-else-port-ne0-clause-none
returns-else-port-ne0-clause-none c =
    λ e h.
    let same : c.in-Ok.endpoint ≡ e = IsSocketText_unique c.args.text.now c.in-Ok.endpoint e c.in-Ok.ensures.value h.0 in
    elim c.else-port-ne0.branch [
      | else-port-ne0-via-then-port-ne0+else-has_no_zone w ↦
          false≢true (sym w.if-has_no_zone.false ∙ w.has_no_zone.ensures.1 h.2)
      | else-port-ne0-via-else-port-ne0 w ↦ let port : socket_port e ≡ c.port.result =
          ap socket_port (sym same) ∙ sym c.port.ensures in h.1 (omega (arith, port, w.if-port-ne0.false))
    ]
