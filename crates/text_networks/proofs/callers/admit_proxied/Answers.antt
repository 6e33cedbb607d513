use Rattle.std.proofs.Common.{sym, subst}
use Rattle.std.specs.declared.net.socket_addr.SocketAddr.{SocketAddr}
use Rattle.std.specs.Net.Socket.{socket_ip}
use Rattle.text_networks.specs.Networks.{MayCall}
use Rattle.text_networks.specs.Proxies.{IsOfProxy}
use Rattle.text_networks.proofs.callers.admit_proxied.Goals as goal

pub returns-in-Some-clause-ok : goal.returns-in-Some-clause-ok
returns-in-Some-clause-ok c = (
  subst (IsOfProxy c.args.proxy.peer c.args.named) (sym c.in-Some.ensures.some.address) c.named_by-peer.ensures,
  subst (λ (p : SocketAddr). MayCall c.args.networks.now (socket_ip p)) (sym c.in-Some.ensures.some.address) c.in-Some.ensures.some.may,
)
