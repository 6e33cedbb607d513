-- Devices as time goes on.
use Rattle.std.proofs.Common.{◌∙◌, arith}
use Rattle.disk.specs.Device.{Device, Elapses}

-- one stretch of time after another
pub elapses_then : (first mid last : Device) → Elapses first mid → Elapses mid last → Elapses first last
elapses_then first mid last is next = record {
  size = next.size ∙ is.size;
  tells = next.tells ∙ is.tells;
  later = omega (arith, is.later, next.later);
}
