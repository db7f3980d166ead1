-- The largest distance as a fold over the readings.
use Rattle.std.proofs.Common.{◌≡◌, ℕ, max, List, [], ◌∷◌, fold, ℤ, arith}
use Rattle.reading.specs.declared.scale.Reading.{Reading}
use Rattle.measures.specs.Largest.{largest_departs}
use Rattle.measures.specs.Values.{distance}

folds_from : (rs : List Reading) (v : ℤ) (m : ℕ) → max m (largest_departs rs v) ≡ fold (λ n (r : Reading). max n (distance r.value v)) m rs
folds_from [] v m = omega arith
folds_from (r ∷ rs) v m = omega (arith, folds_from rs v (max m (distance r.value v)))

pub departs_folds : (rs : List Reading) (v : ℤ) → largest_departs rs v ≡ fold (λ n (r : Reading). max n (distance r.value v)) 0 rs
departs_folds rs v = omega (arith, folds_from rs v 0)
