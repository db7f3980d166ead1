-- Numbers in 32 bits: levels, and sums of two, fit, and to the bits and back they are what they were.
use Rattle.std.proofs.Common.{◌≡◌, ◌<◌, ◌^◌, ℤ, ◌+ℤ◌, arith, w32, SFits, to_z, of_z}
use lib.Signed.{mag, mag_shr, shr_z}
use Rattle.std.proofs.lemmas.Int.{ints, to_z-of_z}
use Rattle.reading.specs.Scale.{Level}
use Rattle.isotonic.specs.Scales.{level_bounds}

pub back : (v : ℤ) → mag v < 2 ^ 31 → to_z w32 (of_z w32 v) ≡ v
back v fits = to_z-of_z w32 v (record { sfits = fits })

pub level_back : (v : ℤ) → Level v → to_z w32 (of_z w32 v) ≡ v
level_back v level = let b = level_bounds v level in omega (arith, ints)

-- a level fits
pub level_fits : (v : ℤ) → Level v → SFits w32 v
level_fits v level = let b = level_bounds v level in omega (arith, ints)

-- so does the sum of two levels
pub sum_fits : (a b : ℤ) → Level a → Level b → SFits w32 (a +ℤ b)
sum_fits a b la lb =
    let x = level_bounds a la in
    let y = level_bounds b lb in
    omega (arith, ints)

-- two levels to the bits and back have the sum that they had
pub sum_back : (a b : ℤ) → Level a → Level b → to_z w32 (of_z w32 a) +ℤ to_z w32 (of_z w32 b) ≡ a +ℤ b
sum_back a b la lb =
    let fa = level_fits a la in
    let fb = level_fits b lb in
    simp to_z-of_z

-- half a sum of two levels
pub half_back :
    (a b : ℤ) → Level a → Level b
    → to_z w32 (of_z w32 (shr_z (to_z w32 (of_z w32 (to_z w32 (of_z w32 a) +ℤ to_z w32 (of_z w32 b)))) 2)) ≡ shr_z (a +ℤ b) 2
half_back a b la lb =
    let fs = sum_fits a b la lb in
    let fh : SFits w32 (shr_z (a +ℤ b) 2) = record { sfits = omega (arith, mag_shr (a +ℤ b) 2, fs.sfits) } in
    rw (sum_back a b la lb) (simp to_z-of_z)
