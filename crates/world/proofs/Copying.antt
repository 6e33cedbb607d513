-- Between two batches a clean block has its octets on the device, and a volume of the device's blocks stands for the durable changes.
use Rattle.std.proofs.Common.{◌≡◌, ℕ, ◌<◌, Bool, true, false, length, Some, None, refl, sym, ◌∙◌, arith}
use Rattle.std.specs.Prelude.{not, nat_lt}
use Rattle.std.proofs.lemmas.Bool.{and_parts, ltb-true}
use Rattle.disk.specs.Device.{Device}
use Rattle.kernel.specs.Kernel.{KernelView, is_clean, is_dirty}
use Rattle.world.specs.Copying.{IsCopied, MayBeCopied}
use Rattle.world.specs.Tied.{IsWorld, LieBehind, Phase, Quiet, Flying, IsToBeTold}
use Rattle.world.specs.World.{WorldView, kernel_of}
use Rattle.world.proofs.Fitting.{stands_for}

clean_parts : (kernel : KernelView) (k : ℕ) → is_clean kernel k ≡ true → (k < length kernel.blocks) × (is_dirty kernel k ≡ false)
clean_parts kernel k is =
    let parts = and_parts (nat_lt k (length kernel.blocks)) (not (is_dirty kernel k)) is in
    (ltb-true k (length kernel.blocks) parts.0, other (is_dirty kernel k) parts.1)
  where
    other : (b : Bool) → not b ≡ true → b ≡ false
    other true h = absurd (cc h)
    other false h = refl

pub may_be_copied : {D : Type 0} (device : D → Device) (world : WorldView D) → IsWorld device world
    → MayBeCopied (device world.journal.disk).tells world
may_be_copied device world h tells none = go h.tied.phase where
  go : Phase (device world.journal.disk).tells world.journal (kernel_of world) world.untold → IsCopied world
  go (Quiet q) =
      let lies : LieBehind (kernel_of world) world.journal.blocks (kernel_of world).durable = q.blocks tells in
      record {
        clean = λ k is. let parts = clean_parts (kernel_of world) k is in lies.agrees.clean k parts.0 parts.1;
        opens = λ image volume format. stands_for (device world.journal.disk).tells world world.journal.blocks (kernel_of world).durable
            image h.tied lies.agrees.size lies.holds volume (omega (arith, format));
      }
  go (Flying last f) = absurd (let no : Some last ≡ None = sym f.flies ∙ none in cc)
  go (IsToBeTold last c) = absurd (let no : Some last ≡ None = sym c.flies ∙ none in cc)
