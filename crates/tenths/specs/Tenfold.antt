-- The laws of L in tenths. A tenth of the larger is the larger of the tenths, and tenths keep the order; the rest is as of L.
use Rattle.std.proofs.Common.{arith}
use Rattle.isotonic.specs.Laws.{JoinedDeparturesCombine, NearerDepartsNoMore, OneDepartsWithin}
use Rattle.std.specs.Prelude.{max}
use Rattle.measures.specs.Farthest.{departs_joined, largest_bounded}
use Rattle.measures.specs.Largest.{largest_prefers}
use Rattle.measures.specs.Middles.{largest_nearer}
use Rattle.tenths.specs.Tenth.{tenths_departs}

pub tenths_joined : JoinedDeparturesCombine tenths_departs (λ x y. max x y)
tenths_joined xs ys v all_x all_y level = omega (arith, departs_joined xs ys v)

pub tenths_bounded : OneDepartsWithin tenths_departs
tenths_bounded r v scaled level = omega (arith, largest_bounded r v scaled level)

pub tenths_nearer : NearerDepartsNoMore tenths_departs largest_prefers
tenths_nearer xs all some = ((largest_nearer xs all some).0, λ u v level lies. omega (arith, (largest_nearer xs all some).1 u v level lies))
