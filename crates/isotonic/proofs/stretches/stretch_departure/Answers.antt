use Rattle.std.proofs.Common.{arith}
use Rattle.std.proofs.lemmas.Bool.Decides.{nat_tests}
use Rattle.std.proofs.lemmas.Int.{to_z-of_z}
use Rattle.reading.specs.Readings.{rows_of}
use Rattle.isotonic.proofs.Within.{departs_within}
use Rattle.isotonic.proofs.stretches.stretch_departure.Goals as goal

pub returns-clause-within : goal.returns-clause-within
returns-clause-within g c =
    let m = c.args.measure in
    let law = g.met.M.Measure in
    let within = departs_within (g.M.Measure.departs m) _ (law.empty m) (law.joined m) (law.combining m) (law.bounded m) (rows_of c.stretch.result) c.args.level c.stretch.result.scaled in
    λ d e. grind (arith, nat_tests, to_z-of_z, within)
