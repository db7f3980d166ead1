-- How far a list can depart at a level, and what is answered for it: by the bound of one reading, times its length.
use Rattle.std.proofs.Common.{◌≡◌, ℕ, ◌*◌, ◌≤◌, Bool, true, false, leb, List, [], ◌∷◌, length, ℤ, Some, sym, refl, arith}
use Rattle.std.specs.Bool.{then_some}
use Rattle.std.proofs.lemmas.Bool.{and_parts}
use Rattle.std.proofs.lemmas.List.Elements.{All-cons, All-head, All-nil, All-tail}
use Rattle.reading.specs.declared.scale.Reading.{Reading}
use Rattle.reading.specs.Scale.{Level, OnScale, Scaled, is_level, limit}
use Rattle.isotonic.specs.Answers.{departure_answer, has_departure}
use Rattle.isotonic.specs.Bounds.{one_most}
use Rattle.isotonic.specs.Laws.{CombinesInAnyOrder, EmptyDepartsByZero, JoinedDeparturesCombine, OneDepartsWithin}

-- where there is an answer, the test passed, and it is what was to be answered
pub given_some : {X : Type 0} (test : Bool) (x d : X) → then_some test x ≡ Some d → (test ≡ true) × (x ≡ d)
given_some true x d e = (refl, (cc))
given_some false x d e = absurd (let z : ◌≡◌ {A = ℕ} 0 1 = cc in omega arith)

module _ (dep : List Reading → ℤ → ℕ) (comb : ℕ → ℕ → ℕ) (empty : EmptyDepartsByZero dep) (joined : JoinedDeparturesCombine dep comb)
    (combining : CombinesInAnyOrder comb) (bounded : OneDepartsWithin dep) where
  pub departs_within : (rs : List Reading) (v : ℤ) → Scaled rs → Level v → dep rs v ≤ one_most * length rs
  departs_within [] v all level = omega (arith, empty v level)
  departs_within (r ∷ rs) v all level =
      let one = All-head OnScale r rs all in
      let behind = All-tail OnScale r rs all in
      let rest = departs_within rs v behind level in
      let first = bounded r v one level in
      let whole = joined (r ∷ []) rs v (All-cons OnScale r [] one (All-nil OnScale)) behind level in
      omega (arith, combining.at_most_sum (dep (r ∷ []) v) (dep rs v))

  -- no more than that is answered for it either
  pub answer_within : (rs : List Reading) (v : ℤ) (d : ℕ) → Scaled rs → departure_answer dep rs v ≡ Some d → d ≤ one_most * length rs
  answer_within rs v d all e =
      let told = given_some (has_departure rs v) (dep rs v) d e in
      let level = (and_parts (leb (length rs) limit) (is_level v) told.0).1 in
      rw (sym told.1) (departs_within rs v all level)
