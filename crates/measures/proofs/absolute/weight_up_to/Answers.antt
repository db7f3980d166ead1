use Rattle.std.proofs.Common.{rules, arith, ◌^◌, w32, to_z, of_z}
use Rattle.std.proofs.lemmas.Iterator.{YieldsList-from_map, YieldsList-from_slice}
use Rattle.std.proofs.lemmas.Iterator.Consumers.{fits_by_from_yields_list}
use Rattle.reading.specs.declared.scale.Reading.{Reading}
use Rattle.measures.specs.Absolute.{counted}
use Rattle.measures.proofs.Counts.{up_to_few}
use Rattle.measures.proofs.absolute.weight_up_to.Goals as goal

pub sum-requires-clause-fits : goal.sum-requires-clause-fits
sum-requires-clause-fits c =
    let level = to_z w32 (of_z w32 c.args.level) in
    let rows = c.rows.result.now in
    let weight = λ (r : Reading). counted r level in
    let few = up_to_few c.args.sample.list.rows.now level c.args.sample.list.scaled c.args.sample.few in
    fits_by_from_yields_list weight rows c.map.result (2 ^ 64)
    (YieldsList-from_map _ weight (YieldsList-from_slice rows (cc)) c.map.ensures.closure (λ x r q k. search rules))
    (rw c.rows.ensures (omega arith))
