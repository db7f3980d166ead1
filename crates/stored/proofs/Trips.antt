-- What is written reads back as the same readings, and rows and bytes that read are written as the same bytes.
use Rattle.std.proofs.Common.{◌≡◌, ℕ, suc, ◌+◌, ◌*◌, ◌<◌, ◌≤◌, true, List, [], ◌∷◌, ◌++◌, map, length, take, drop, ℤ, pos, negsuc, Ok, sym, refl, ap, ◌∙◌, arith}
use Rattle.std.specs.List.{flat_map, zip}
use Rattle.std.proofs.lemmas.Bool.{and_parts}
use Rattle.std.proofs.lemmas.Bool.Decides.{nat_tests}
use Rattle.std.proofs.lemmas.List.{drop_at, length-append, length-drop, length-map, length-take, take-append-drop, take_at}
use Rattle.std.proofs.lemmas.Grind.{flat_map-append}
use Rattle.std.proofs.lemmas.List.Folds.{flat_map-map}
use Rattle.std.proofs.lemmas.List.Elements.{All-append, All-head, All-map, All-tail, All-take, All-weaker}
use Rattle.std.proofs.lemmas.Simd.{map-map}
use Rattle.std.proofs.lemmas.Slice.Zip.{length-zip, seconds-zip}
use Rattle.reading.specs.declared.scale.Reading.{Reading}
use Rattle.reading.specs.Scale.{limit, is_level, is_weight, OnScale, Scaled}
use Rattle.stored.specs.declared.columns.Column.{Column}
use Rattle.stored.specs.declared.columns.Column.TheVariants.{Values, Weights}
use Rattle.stored.specs.Forms.{paired, stored_rows, all_admitted, sized, decoded, cell_of, column_bytes, encoded}
use Rattle.stored.specs.Words.{word, split, words, from_complement, to_complement}
use Rattle.stored.proofs.Admits.{all_admits}
use Rattle.stored.proofs.Stored.{stored_words}
use Rattle.stored.proofs.Pairs.{Bytes, Numbers, length_words, split_word, split_words, to_from_complement, word_split, words_below, words_split}

value_cell : (v : ℤ) → is_level v ≡ true → (to_complement v < 65536) × (from_complement (to_complement v) ≡ v)
value_cell (pos n) h = grind (arith, nat_tests)
value_cell (negsuc n) h = grind (arith, nat_tests)

-- what being on the scale says of the two stored numbers
value_of : (r : Reading) → OnScale r → (to_complement r.value < 65536) × (from_complement (to_complement r.value) ≡ r.value)
value_of r h = value_cell r.value (and_parts (is_level r.value) (is_weight r.weight) h).0

cell_below : (column : Column) (r : Reading) → OnScale r → cell_of column r < 65536
cell_below Values r h = (value_of r h).0
cell_below Weights r h = grind (arith, nat_tests)

cells_below : (column : Column) (rs : List Reading) → Scaled rs → Numbers (map (cell_of column) rs)
cells_below column rs all = All-map (λ x. x < 65536) (cell_of column) rs (All-weaker OnScale (λ r. cell_of column r < 65536) (cell_below column) rs all)

pub length_column : (column : Column) (rs : List Reading) → length (column_bytes column rs) ≡ 2 * length rs
length_column column [] = refl
length_column column (r ∷ rs) = let rest = length_column column rs in omega arith

-- both columns as bytes, and as the numbers that they store
columns_split : (rs : List Reading) → column_bytes Values rs ++ column_bytes Weights rs ≡ flat_map split (map (cell_of Values) rs ++ map (cell_of Weights) rs)
columns_split rs = simp (flat_map-append, flat_map-map)

pairs_back : (rs : List Reading) → Scaled rs → paired (map from_complement (map (cell_of Values) rs)) (map (cell_of Weights) rs) ≡ rs
pairs_back [] all = refl
pairs_back (r ∷ rs) all =
    let here = value_of r (All-head OnScale r rs all) in
    let rest = pairs_back rs (All-tail OnScale r rs all) in
    rw (here.1, rest)

rows_back : (rs : List Reading) → Scaled rs → stored_rows (length rs) (column_bytes Values rs ++ column_bytes Weights rs) ≡ rs
rows_back rs all =
    let vs = map (cell_of Values) rs in
    let ws = map (cell_of Weights) rs in
    let cells = columns_split rs in
    let stored = stored_words (length rs) (flat_map split (vs ++ ws)) in
    let numbers = words_split (vs ++ ws) (All-append (λ n. n < 65536) vs ws (cells_below Values rs all) (cells_below Weights rs all)) in
    let front = take_at vs ws (length rs) (length-map rs (cell_of Values)) in
    let back = drop_at vs ws (length rs) (length-map rs (cell_of Values)) in
    let rows = pairs_back rs all in
    cc

-- two sizes that agree, within the limit, before as many bytes as they say
pub sized_is : (m n : ℕ) (rest : List ℕ) → m ≡ n → m ≤ limit → length rest ≡ 4 * m → sized m n rest ≡ all_admitted 1 (stored_rows m rest)
sized_is m n rest same few long = grind (arith, nat_tests)

pub length_encoded : (rs : List Reading) → length (encoded rs) ≡ 4 + 4 * length rs
length_encoded rs =
    omega (arith, length-append (column_bytes Values rs) (column_bytes Weights rs), length_column Values rs, length_column Weights rs)

-- what is written reads back
pub reads_back : (bs : List ℕ) (rs : List Reading) → bs ≡ encoded rs → Scaled rs → length rs ≤ limit → decoded bs ≡ Ok rs
reads_back bs rs e all few =
    let rest = column_bytes Values rs ++ column_bytes Weights rs in
    let n = word_split (length rs) (omega arith) in
    let sizes = sized_is (length rs) (length rs) rest refl few (omega (arith, length_encoded rs)) in
    let rows = rows_back rs all in
    let granted = all_admits 1 rs all in
    cc

values_of_paired : (ns ws : List ℕ) → length ns ≡ length ws → Numbers ns → map (cell_of Values) (paired (map from_complement ns) ws) ≡ ns
values_of_paired [] ws e all = refl
values_of_paired (n ∷ ns) [] e all = absurd (omega arith)
values_of_paired (n ∷ ns) (w ∷ ws) e all =
    let here = to_from_complement n (all 0 0 (omega arith)) in
    let rest = values_of_paired ns ws (omega arith) (All-tail (λ x. x < 65536) n ns all) in
    cc

weights_of_paired : (vs : List ℤ) (ws : List ℕ) → length ws ≡ length vs → map (cell_of Weights) (paired vs ws) ≡ ws
weights_of_paired vs ws e = map-map (cell_of Weights) _ (zip vs ws) ∙ seconds-zip vs ws e

-- there are as many rows as were said, and their columns are the bytes that they came from
pub rows_exact :
    (n : ℕ) (rest : List ℕ) → length rest ≡ 4 * n
    → (length (stored_rows n rest) ≡ n) × (Bytes rest → column_bytes Values (stored_rows n rest) ++ column_bytes Weights (stored_rows n rest) ≡ rest)
rows_exact n rest long =
    let front = take n (words rest) in
    let vs = map from_complement front in
    let ws = drop n (words rest) in
    rw (stored_words n rest) (
      simp (length-map, length-zip, length-take, length-drop, length_words) (omega arith),
      λ all.
          let low = All-take (λ x. x < 65536) n (words rest) (words_below rest all) in
          let v = values_of_paired front ws (simp (length-take, length-drop, length_words) (omega arith)) low in
          let w = weights_of_paired vs ws (simp (length-map, length-take, length-drop, length_words) (omega arith)) in
          let cells = columns_split (paired vs ws) in
          let whole = take-append-drop n (words rest) in
          let back = split_words rest (omega arith) all in
          cc,
    )

-- bytes that read are those that writing gives
pub reads_exact :
    (a b c d n : ℕ) (rest : List ℕ) → Bytes (a ∷ b ∷ c ∷ d ∷ rest) → word a b ≡ n → word c d ≡ n → length rest ≡ 4 * n
    → encoded (stored_rows n rest) ≡ a ∷ b ∷ c ∷ d ∷ rest
reads_exact a b c d n rest all first second long =
    let exact = rows_exact n rest long in
    let p : split (length (stored_rows n rest)) ≡ a ∷ b ∷ [] = ap split (exact.0 ∙ sym first) ∙ split_word a b (all 0 0 (omega arith)) (all 1 0 (omega arith)) in
    let q : split (length (stored_rows n rest)) ≡ c ∷ d ∷ [] = ap split (exact.0 ∙ sym second) ∙ split_word c d (all 2 0 (omega arith)) (all 3 0 (omega arith)) in
    let columns = column_bytes Values (stored_rows n rest) ++ column_bytes Weights (stored_rows n rest) in
    ap (λ xs. xs ++ (split (length (stored_rows n rest)) ++ columns)) p
    ∙ ap (λ xs. a ∷ b ∷ (xs ++ columns)) q
    ∙ ap (λ xs. a ∷ b ∷ c ∷ d ∷ xs) (exact.1 (λ k e i. all (suc (suc (suc (suc k)))) e (omega arith)))
