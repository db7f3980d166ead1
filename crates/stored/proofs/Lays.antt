-- The stored form as it is laid down: a column word by word, and the whole part by part.
use Rattle.std.proofs.Common.{◌≡◌, ℕ, ◌+◌, ◌*◌, ◌<◌, ◌≤◌, List, [], ◌++◌, length, get_or, take, Ok, refl, ap, ◌∙◌, arith}
use Rattle.std.proofs.lemmas.Bool.Decides.{nat_tests}
use Rattle.std.proofs.lemmas.List.{flat_map_more, length-append, length-take, take_more}
use Rattle.reading.proofs.Puts.{put_then, take_put}
use Rattle.reading.specs.Lists.{filled, put_from}
use Rattle.reading.specs.Scale.{limit, Scaled}
use Rattle.reading.specs.declared.scale.Reading.{Reading}
use Rattle.stored.specs.declared.columns.Column.{Column}
use Rattle.stored.specs.declared.columns.Column.TheVariants.{Values, Weights}
use Rattle.stored.specs.Forms.{cell_of, column_bytes, decoded, encoded, storable}
use Rattle.stored.specs.Words.{split}
use Rattle.stored.proofs.Trips.{length_column, length_encoded, reads_back}

-- one word more of a column, laid behind those that are there
pub column_laid :
    (column : Column) (rs : List Reading) (out cur : List ℕ) (at i : ℕ) (d : Reading) → i < length rs → 2 * (at + length rs) ≤ length out
    → cur ≡ put_from (2 * at) (column_bytes column (take i rs)) out
    → put_from (2 * (at + i)) (split (cell_of column (get_or rs i d))) cur ≡ put_from (2 * at) (column_bytes column (take (i + 1) rs)) out
column_laid column rs out cur at i d h room so_far =
    let cell = split (cell_of column (get_or rs i d)) in
    let long = length_column column (take i rs) in
    let k = length-take i rs in
    let laid = put_then out (2 * at) (column_bytes column (take i rs)) cell (2 * (at + i)) (omega arith) (omega arith) in
    let more = flat_map_more (λ r. split (cell_of column r)) [] (take i rs) (get_or rs i d) in
    let next = take_more rs i d h in
    cc

-- what is laid one behind the other; in this order of the premises the check finds the lemmas by itself
module _ (rs : List Reading) (n : ℕ) (out one two three four : List ℕ) (counted : n ≡ length rs) (a : one ≡ put_from 0 (split n) out) (b : two ≡ put_from 2 (split n) one) (c : three ≡ put_from 4 (column_bytes Values rs) two) (d : four ≡ put_from (2 * (2 + n)) (column_bytes Weights rs) three) (room : 4 + 4 * n ≤ length out) where
  -- the two sizes, the values and the weights are the stored bytes
  pub whole_laid : four ≡ put_from 0 (encoded rs) out
  whole_laid =
      let sizes = split n ++ split n in
      let values = column_bytes Values rs in
      let weights = column_bytes Weights rs in
      let vl = length_column Values rs in
      let wl = length_column Weights rs in
      let two_is = put_then out 0 (split n) (split n) 2 refl (omega arith) in
      let three_is = put_then out 0 sizes values 4 refl (omega arith) in
      let four_is = put_then out 0 (sizes ++ values) weights (2 * (2 + n)) (omega (arith, length-append sizes values)) (omega arith) in
      cc

  -- and they read back
  pub whole_back : Scaled rs → n ≤ limit → decoded (take (4 + 4 * n) four) ≡ Ok rs
  whole_back all few =
      reads_back _ rs (ap (take (4 + 4 * n)) whole_laid ∙ take_put (encoded rs) out (4 + 4 * n) (omega (arith, length_encoded rs)) room) all (omega arith)

-- and where there is no room for all of it, nothing is laid
pub none_laid : (rs : List Reading) (out : List ℕ) → length out < 4 + 4 * length rs → filled (storable rs) out ≡ out
none_laid rs out h = grind (arith, nat_tests, length_encoded)
