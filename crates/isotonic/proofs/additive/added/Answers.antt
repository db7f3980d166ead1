use Rattle.std.proofs.Common.{rules, ◌≡◌, ℕ, ◌*◌, ◌%◌, ◌^◌, ◌≤◌, length, sum_by, ◌∙◌, arith, w32, to_z, of_z}
use Rattle.std.proofs.lemmas.Int.{to_z-of_z}
use Rattle.std.proofs.lemmas.Iterator.{YieldsList-from_map, YieldsList-from_slice}
use Rattle.std.proofs.lemmas.Iterator.Consumers.{fits_by_from_yields_list, sum_by_from_yields_List}
use Rattle.isotonic.specs.Bounds.{one_most}
use Rattle.isotonic.specs.Costs.{total}
use Rattle.isotonic.proofs.Sums.{sum_held, sum_within}
use Rattle.reading.specs.Scale.{OnScale}
use Rattle.reading.specs.declared.scale.Reading.{Reading}
use Rattle.isotonic.proofs.additive.added.Given.{Over}
use Rattle.isotonic.proofs.additive.added.Goals.{After-map}
use Rattle.isotonic.proofs.additive.added.Goals as goal

module _ (g : Over) (c : After-map g) where
  -- a cost as a word holds it, at the level as its bits hold it
  abbrev held : Reading → ℕ
  held r = g.C.Additive.costs c.args.cost r (to_z w32 (of_z w32 c.args.level)) % 2 ^ 64

  -- such costs add up to the whole, which is not much
  whole :
      (sum_by held c.rows.result.now ≡ total (g.C.Additive.costs c.args.cost) c.args.list.rows.now c.args.level)
      × (sum_by held c.rows.result.now ≤ length c.args.list.rows.now * one_most)
  whole =
      let f = λ (r : Reading). g.C.Additive.costs c.args.cost r c.args.level in
      let small = λ (r : Reading) (on : OnScale r). g.met.C.Additive.small c.args.cost r c.args.level on c.requires.level in
      let e = sum_held f one_most small (omega arith) c.args.list.rows.now c.args.list.scaled in
      let fits = c.ranges.level in
      rw c.rows.ensures (simp to_z-of_z (e, omega (arith, e, sum_within f one_most small c.args.list.rows.now c.args.list.scaled)))

pub sum-requires-clause-fits : goal.sum-requires-clause-fits
sum-requires-clause-fits g c =
    fits_by_from_yields_list (held g c) _ c.map.result (2 ^ 64)
    (YieldsList-from_map _ (held g c) (YieldsList-from_slice c.rows.result.now (cc)) c.map.ensures.closure (λ x r q k. search rules))
    (omega (arith, whole g c, c.requires.few))

pub returns : goal.returns
returns g c =
    let m = (goal.at.returns g c).After-map in
    sum_by_from_yields_List (held g m) _ c.map.result c.sum.result c.sum.ensures.ran
    (YieldsList-from_map _ (held g m) (YieldsList-from_slice c.rows.result.now (cc)) c.map.ensures.closure (λ x r q k. search rules))
    ∙ (whole g m).0
