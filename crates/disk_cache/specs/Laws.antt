-- A cache keeps the laws of a device.
use Rattle.std.specs.Prelude.{◌≡◌, ◌≤◌, ℕ, IsTrue, List, length}
use Rattle.std.proofs.Common.{inr, ⊎_elim, ◌∙◌}
use Rattle.disk.specs.Device.{Device}
use Rattle.disk_cache.specs.Cache.{CacheView, cache_device}
use Rattle.disk_cache.specs.Over.{over_same, over_shown}

module _ {D : Type 0} (device : D → Device) where
  pub cache_image_size : ((d : D) (c : List ℕ) → IsTrue (device d).tells → (device d).may_leave c → length c ≡ (device d).size)
      → (w : CacheView D) (c : List ℕ) → IsTrue (cache_device device w).tells → (cache_device device w).may_leave c
      → length c ≡ (cache_device device w).size
  cache_image_size law w c tells left = left.1.1.size ∙ law w.disk left.0 tells left.1.0

  pub cache_counts_content : ((d : D) → IsTrue (device d).tells → (device d).may_leave (device d).content)
      → (w : CacheView D) → IsTrue (cache_device device w).tells → (cache_device device w).may_leave (cache_device device w).content
  cache_counts_content law w tells = ((device w.disk).content, (law w.disk tells, over_shown w.collected (device w.disk).content))

  pub cache_counts_now : (w : CacheView D) (t : ℕ) (c : List ℕ) → IsTrue (cache_device device w).tells → t ≤ (cache_device device w).clock
      → (cache_device device w).may_leave c → (cache_device device w).left_since t c
  cache_counts_now w t c tells before now = inr now

  pub cache_only_now : ((d : D) (c : List ℕ) → IsTrue (device d).tells → (device d).left_since (device d).clock c → (device d).may_leave c)
      → (w : CacheView D) (c : List ℕ) → IsTrue (cache_device device w).tells
      → (cache_device device w).left_since (cache_device device w).clock c → (cache_device device w).may_leave c
  cache_only_now law w c tells left = ⊎_elim (λ under. (c, (law w.disk c tells under, over_same w.collected c))) (λ now. now) left
