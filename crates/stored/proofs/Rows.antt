-- The rows of a table: how many, which a walk has before it, which stands where, and that they are those of the stored bytes.
use Rattle.std.proofs.Common.{◌≡◌, ℕ, zero, suc, ◌+◌, ◌*◌, ◌/◌, ◌<◌, List, [], ◌∷◌, Iter, map, length, get_or, min, take, drop, ℤ, refl, ap, ◌∙◌, arith}
use Rattle.std.specs.List.{zip}
use Rattle.std.specs.Slice.Iter.{iter_rest}
use Rattle.std.specs.declared.iter.Enumerate.{Enumerate}
use Rattle.std.specs.declared.iter.Zip.{Zip}
use Rattle.std.specs.Simd.{first_chunks}
use Rattle.std.proofs.lemmas.List.{drop-map, get_or-drop, get_or-map, get_or-take, length-drop, length-map, length-take, take-map}
use Rattle.std.proofs.lemmas.Slice.Zip.{length-zip}
use Rattle.reading.specs.declared.scale.Reading.{Reading}
use Rattle.stored.specs.Forms.{paired, stored_rows}
use Rattle.stored.specs.Rows.{rows_from}
use Rattle.stored.specs.Words.{word_at, pair_number, words, from_complement}
use Rattle.stored.proofs.Pairs.{length_words, words_at, words_chunks}
use Rattle.stored.proofs.Stored.{stored_words}

pub length_rows : (vs ws : List (List ℕ)) → length (rows_from vs ws) ≡ min (length vs) (length ws)
length_rows vs ws = length-map (zip vs ws) _ ∙ length-zip vs ws

-- no rows, where a column is at its end
pub rows_none : (vs ws : List (List ℕ)) → min (length vs) (length ws) ≡ 0 → rows_from vs ws ≡ []
rows_none [] ws e = refl
rows_none (v ∷ vs) [] e = refl
rows_none (v ∷ vs) (w ∷ ws) e = absurd (omega arith)

-- the rows that a numbered walk over two columns side by side has before it
abbrev pub ahead : Enumerate (Zip (Iter (List ℕ)) (Iter (List ℕ))) → List Reading
ahead w = rows_from (iter_rest w.iter.a) (iter_rest w.iter.b)

rows_paired : (vs ws : List (List ℕ)) → paired (map from_complement (map pair_number vs)) (map pair_number ws) ≡ rows_from vs ws
rows_paired [] ws = refl
rows_paired (v ∷ vs) [] = refl
rows_paired (v ∷ vs) (w ∷ ws) = let rest = rows_paired vs ws in cc

-- the rows of n pairs of bytes and of the n behind them are those that are stored
pub rows_stored :
    (n : ℕ) (rest : List ℕ) → length rest ≡ 4 * n
    → stored_rows n rest ≡ rows_from (take n (first_chunks 2 (2 * n) rest)) (drop n (first_chunks 2 (2 * n) rest))
rows_stored n rest long =
    let cells = first_chunks 2 (2 * n) rest in
    let stored = stored_words n rest in
    let half : length rest / 2 ≡ 2 * n = omega arith in
    let numbers = words_chunks rest in
    let front = take-map pair_number n cells in
    let back = drop-map pair_number n cells in
    let rows = rows_paired (take n cells) (drop n cells) in
    cc

-- a value beside each weight: each in its place
paired_at :
    (vs : List ℤ) (ws : List ℕ) (i : ℕ) (d : Reading) (x : ℤ) (y : ℕ) → i < length vs → i < length ws
    → get_or (paired vs ws) i d ≡ record { value = get_or vs i x; weight = get_or ws i y }
paired_at [] ws i d x y p q = absurd (omega arith)
paired_at (v ∷ vs) [] i d x y p q = absurd (omega arith)
paired_at (v ∷ vs) (w ∷ ws) zero d x y p q = refl
paired_at (v ∷ vs) (w ∷ ws) (suc i) d x y p q = paired_at vs ws i d x y (omega arith) (omega arith)

module _ (n : ℕ) (rest : List ℕ) (long : length rest ≡ 4 * n) where
  -- the values' bytes, two for each row
  pub front_long : length (take (2 * n) rest) ≡ 2 * n
  front_long = simp length-take (omega arith)

  -- the weights' bytes, two for each row
  pub back_long : length (drop (2 * n) rest) ≡ 2 * n
  back_long = simp length-drop (omega arith)

  -- as many values as rows
  values_long : length (map from_complement (words (take (2 * n) rest))) ≡ n
  values_long = let fl = front_long in omega (arith, length-map (words (take (2 * n) rest)) from_complement, length_words (take (2 * n) rest))

  -- as many weights as rows
  weights_long : length (words (drop (2 * n) rest)) ≡ n
  weights_long = let bl = back_long in omega (arith, length_words (drop (2 * n) rest))

  -- the row at index i: its value among the first 2n bytes, its weight among the last
  pub rows_at :
      (i : ℕ) (d : Reading) → i < n
      → get_or (stored_rows n rest) i d
      ≡ record {
        value = from_complement (word_at rest i);
        weight = word_at rest (n + i);
      }
  rows_at i d h =
      let low : 2 * i < 2 * n = omega arith in
      let high : 2 * i + 1 < 2 * n = omega arith in
      let fl = front_long in
      let bl = back_long in
      let a : get_or (take (2 * n) rest) (2 * i) 0 ≡ get_or rest (2 * i) 0 = get_or-take (2 * n) rest (2 * i) 0 low in
      let b : get_or (take (2 * n) rest) (2 * i + 1) 0 ≡ get_or rest (2 * i + 1) 0 = get_or-take (2 * n) rest (2 * i + 1) 0 high in
      let e : 2 * n + 2 * i ≡ 2 * (n + i) = omega arith in
      let c : get_or (drop (2 * n) rest) (2 * i) 0 ≡ get_or rest (2 * (n + i)) 0 = get_or-drop (2 * n) rest (2 * i) 0 ∙ ap (λ k. get_or rest k 0) e in
      let g : 2 * n + (2 * i + 1) ≡ 2 * (n + i) + 1 = omega arith in
      let f : get_or (drop (2 * n) rest) (2 * i + 1) 0 ≡ get_or rest (2 * (n + i) + 1) 0 = get_or-drop (2 * n) rest (2 * i + 1) 0 ∙ ap (λ k. get_or rest k 0) g in
      let v : get_or (map from_complement (words (take (2 * n) rest))) i (from_complement 0) ≡ from_complement (word_at rest i) =
      get_or-map from_complement (words (take (2 * n) rest)) i 0 (from_complement 0) (omega (arith, length_words (take (2 * n) rest)))
      ∙ ap from_complement (words_at (take (2 * n) rest) n i 0 fl h ∙ cc) in
      let w : get_or (words (drop (2 * n) rest)) i 0 ≡ word_at rest (n + i) =
      words_at (drop (2 * n) rest) n i 0 bl h ∙ cc in
      paired_at (map from_complement (words (take (2 * n) rest))) (words (drop (2 * n) rest)) i d (from_complement 0) 0 (omega (arith, values_long)) (omega (arith, weights_long))
      ∙ cc
