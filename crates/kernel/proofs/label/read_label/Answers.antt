use Rattle.std.proofs.Common.{◌≡◌, ◌<◌, ◌≤◌, ℕ, true, get_or, subst, sym, drop, length, ◌∙◌, ap, arith, rules}
use Rattle.std.specs.List.{list_all}
use Rattle.model.specs.Layout.{IsLabel}
use Rattle.model.specs.Names.{is_host}
use Rattle.byteorder.specs.Endian.{little_number}
use Rattle.kernel.specs.Label.{HasRoom}
use Rattle.kernel.proofs.LabelLaws.{differ, host_end, host_in, is_zero, makes_label, reads_host, reads_zeros, to_the_end}
use Rattle.kernel.proofs.label.read_label.Goals as goal
use Rattle.kernel.proofs.label.read_label.Goals.{then-not-is_host-via-then-not-is_host}
use Rattle.kernel.proofs.label.read_label.Goals.{then-not-is_host-via-else-not-is_host+then-not-are_zeros}

pub returns-then-not-is_host-clause-none : goal.returns-then-not-is_host-clause-none
returns-then-not-is_host-clause-none c = λ _ inodes host is.
    let octets = c.args.octets.now in
    elim c.then-not-is_host.branch [
      | then-not-is_host-via-then-not-is_host w ↦
          differ c.is_host.result (is_host (host_in octets)) c.is_host.ensures
          (reads_host octets c.args.blocks inodes host is) w.if-not-is_host.true
      | then-not-is_host-via-else-not-is_host+then-not-are_zeros w ↦
          differ w.are_zeros.result (list_all is_zero (drop (host_end octets) octets)) (w.are_zeros.ensures
          ∙ ap (list_all is_zero) (to_the_end (host_end octets) octets))
          (reads_zeros octets c.args.blocks inodes host is) w.if-not-are_zeros.true
    ]

pub returns-clause-some : goal.returns-clause-some
returns-clause-some c =
    let octets = c.args.octets.now in
    let number : c.from-inodes.result ≡ little_number 4 octets = search rules in
    let room : HasRoom c.from-inodes.result c.args.blocks = search rules in
    let named : is_host (host_in octets) ≡ true = sym c.is_host.ensures ∙ c.if-not-is_host.false in
    let zeros : list_all is_zero (drop (host_end octets) octets) ≡ true =
    sym (c.are_zeros.ensures ∙ ap (list_all is_zero) (to_the_end (host_end octets) octets)) ∙ c.if-not-are_zeros.false in
    let size : length octets ≡ 128 = search rules in
    let short : get_or octets 4 0 ≤ 64 = search rules in
    let each : (k : ℕ) → get_or octets k 0 < 256 = λ k. omega (arith, c.type_inv.octets k) in
    subst (λ (n : ℕ). IsLabel octets c.args.blocks n (host_in octets)) (sym number)
    (makes_label octets c.args.blocks size each (subst (λ (n : ℕ). HasRoom n c.args.blocks) number room) named short zeros)
