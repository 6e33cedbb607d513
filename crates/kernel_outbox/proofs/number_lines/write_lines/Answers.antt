use Rattle.std.proofs.Common.{◌≡◌, ◌-◌, ◌+◌, ap, ◌∙◌, arith}
use Rattle.std.proofs.Math.ListN.{drop_of_length-le}
use Rattle.kernel_outbox.specs.Numbers.{number_lines}
use Rattle.kernel_outbox.proofs.number_lines.write_lines.Goals as goal

pub loop-left-init : goal.loop-left-init
loop-left-init c =
    let none : 0 ≡ c.args.count - c.args.count = omega arith in
    record {
      some = omega arith;
      room = omega arith;
      within = omega arith;
      lines = drop_of_length-le c.args.octets.now {i = 1408} (omega (arith, c.told-octets))
          ∙ ap (λ n. number_lines (c.args.first + c.args.count) n) none;
    }
