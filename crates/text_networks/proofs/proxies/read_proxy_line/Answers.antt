use Rattle.text_networks.proofs.Families.{none_map}
use Rattle.text_networks.proofs.proxies.read_proxy_line.Goals as goal

pub returns-clause-none : goal.returns-clause-none
returns-clause-none c = none_map c.read_text.result (λ none p h. none p h.text) c.read_text.ensures.none
