-- The ends of the values that a loop has read, from the ends of the scale on.
use Rattle.std.proofs.Common.{◌≡◌, ℕ, ◌+◌, ◌<◌, ◌≤◌, List, length, get_or, take, ℤ, pos, negsuc, fold, sym, ◌∙◌, subst, w32, to_z, of_z}
use Rattle.std.specs.Int.{int_max, int_min}
use Rattle.std.proofs.lemmas.List.{take_all}
use Rattle.std.proofs.lemmas.List.Folds.{fold-map}
use Rattle.std.proofs.lemmas.List.Sums.{fold_more}
use Rattle.reading.specs.declared.scale.Reading.{Reading}
use Rattle.reading.specs.Scale.{Scaled}
use Rattle.isotonic.specs.Scales.{value_level}
use Rattle.measures.specs.Extremes.{largest_within, smallest_within}
use Rattle.measures.specs.Spans.{some_values, values_above, values_below}
use Rattle.measures.specs.Values.{largest, smallest, values}
use Rattle.measures.proofs.Signs.{level_back}

abbrev pub low_end : List Reading → ℤ
low_end rs = fold (λ v (r : Reading). int_min v r.value) (pos 30000) rs

abbrev pub high_end : List Reading → ℤ
high_end rs = fold (λ v (r : Reading). int_max v r.value) (negsuc 29999) rs

module _ (seen rs : List Reading) (i : ℕ) (same : seen ≡ rs) (scaled : Scaled rs) where
  -- one reading more
  pub ends_more :
      (d : Reading) → i < length seen → let value = to_z w32 (of_z w32 (get_or seen i d).value) in
      (low_end (take (i + 1) seen) ≡ int_min (low_end (take i seen)) value) × (high_end (take (i + 1) seen) ≡ int_max (high_end (take i seen)) value)
  ends_more d h =
      let r = get_or seen i d in
      let level = value_level r (subst Scaled (sym same) scaled i d h) in
      rw (level_back r.value level)
      (fold_more (λ v (r : Reading). int_min v r.value) (pos 30000) seen i d h, fold_more (λ v (r : Reading). int_max v r.value) (negsuc 29999) seen i d h)

  -- and of all
  module _ (some : 0 < length rs) (over : length seen ≤ i) where
    whole : take i seen ≡ rs
    whole = take_all i seen over ∙ same

    pub low_whole : smallest (values rs) ≡ low_end (take i seen)
    low_whole =
        rw whole
        (sym (smallest_within (pos 30000) (values rs) (some_values rs some) (values_below rs scaled)) ∙ fold-map int_min (λ (r : Reading). r.value) (pos 30000) rs)

    pub high_whole : largest (values rs) ≡ high_end (take i seen)
    high_whole =
        rw whole
        (sym (largest_within (negsuc 29999) (values rs) (some_values rs some) (values_above rs scaled)) ∙ fold-map int_max (λ (r : Reading). r.value) (negsuc 29999) rs)
