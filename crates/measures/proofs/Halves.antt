-- Half the sum of the two ends of the values, in 32 bits.
use Rattle.std.proofs.Common.{◌≡◌, ◌<◌, List, length, ℤ, ◌+ℤ◌, w32, SFits, to_z, of_z}
use lib.Signed.{shr_z}
use Rattle.reading.specs.declared.scale.Reading.{Reading}
use Rattle.reading.specs.Scale.{Level, Scaled}
use Rattle.measures.specs.Largest.{largest_prefers}
use Rattle.measures.specs.Spans.{span_levels}
use Rattle.measures.specs.Values.{largest, smallest, values}
use Rattle.measures.proofs.Signs

module _ (rs : List Reading) (low high : ℤ) (e : low ≡ smallest (values rs)) (f : high ≡ largest (values rs)) (scaled : Scaled rs) (some : 0 < length rs) where
  levels : Level low × Level high
  levels = span_levels rs scaled some low high e f

  -- the sum fits
  pub sum_fits : SFits w32 (to_z w32 (of_z w32 low) +ℤ to_z w32 (of_z w32 high))
  sum_fits = rw (Signs.sum_back low high levels.0 levels.1) (Signs.sum_fits low high levels.0 levels.1)

  -- and half of it is what is preferred
  pub half_preferred :
      to_z w32 (of_z w32 (shr_z (to_z w32 (of_z w32 (to_z w32 (of_z w32 low) +ℤ to_z w32 (of_z w32 high)))) 2)) ≡ largest_prefers rs
  half_preferred = cc (Signs.half_back low high levels.0 levels.1)
