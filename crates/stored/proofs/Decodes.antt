-- What stored bytes decode to: the rows behind the sizes, and no two stored profiles the same.
use Rattle.std.proofs.Common.{◌≡◌, ℕ, suc, ◌+◌, ◌-◌, ◌*◌, ◌/◌, ◌<◌, ◌≤◌, List, [], ◌∷◌, length, get_or, take, drop, Ok, Fits, w8, ap, ◌∙◌, arith}
use Rattle.std.specs.Simd.{first_chunks}
use Rattle.std.proofs.lemmas.Bool.Decides.{nat_tests}
use Rattle.std.proofs.lemmas.List.{take_rest}
use Rattle.std.proofs.lemmas.List.Elements.{All-from_get_or}
use Rattle.reading.specs.declared.scale.Reading.{Reading}
use Rattle.reading.specs.Scale.{limit}
use Rattle.stored.specs.Forms.{stored_rows, all_admitted, decoded, encoded}
use Rattle.stored.specs.Rows.{rows_from}
use Rattle.stored.specs.Words.{word, pair_number}
use Rattle.stored.proofs.Admits.{all_admitted_same}
use Rattle.stored.proofs.Pairs.{Bytes, split_word}
use Rattle.stored.proofs.Rows.{rows_stored}
use Rattle.stored.proofs.Trips.{rows_exact, sized_is}

-- bytes taken two by two: behind the pairs of the sizes, which agree, are the pairs of the table, cut in two
pub table_decoded :
    (bs : List ℕ) (n : ℕ) (pairs vs ws : List (List ℕ)) → vs ≡ take n (take (length pairs - 2) (drop 2 pairs)) → ws ≡ drop n (take (length pairs - 2) (drop 2 pairs))
    → pairs ≡ first_chunks 2 (length bs / 2) bs → n ≡ pair_number (get_or pairs 0 []) → n ≡ pair_number (get_or pairs 1 [])
    → length bs ≡ 4 + 4 * n → n ≤ limit → decoded bs ≡ all_admitted 1 (rows_from vs ws)
table_decoded [] n pairs vs ws front back p first second long few = absurd (omega arith)
table_decoded (a ∷ []) n pairs vs ws front back p first second long few = absurd (omega arith)
table_decoded (a ∷ b ∷ []) n pairs vs ws front back p first second long few = absurd (omega arith)
table_decoded (a ∷ b ∷ c ∷ []) n pairs vs ws front back p first second long few = absurd (omega arith)
table_decoded (a ∷ b ∷ c ∷ d ∷ rest) n pairs vs ws front back p first second long few =
    let half : length (a ∷ b ∷ c ∷ d ∷ rest) / 2 ≡ suc (suc (2 * n)) = omega arith in
    let q : pairs ≡ (a ∷ b ∷ []) ∷ (c ∷ d ∷ []) ∷ first_chunks 2 (2 * n) rest = p ∙ ap (λ k. first_chunks 2 k (a ∷ b ∷ c ∷ d ∷ rest)) half in
    let m : n ≡ word a b = first ∙ ap (λ ps. pair_number (get_or ps 0 [])) q in
    let k : n ≡ word c d = second ∙ ap (λ ps. pair_number (get_or ps 1 [])) q in
    let cells : drop 2 pairs ≡ first_chunks 2 (2 * n) rest = ap (drop 2) q in
    let all = take_rest pairs 2 in
    let rows = rows_stored n rest (omega arith) in
    let whole = sized_is n (word c d) rest k few (omega arith) in
    cc

-- readings that bytes decode to are the rows behind the sizes, and are encoded as those very bytes
pub decoded_granted :
    (bs : List ℕ) (rs : List Reading) → decoded bs ≡ Ok rs
    → (rs ≡ stored_rows (length rs) (drop 4 bs)) × (length bs ≡ 4 + 4 * length rs) × (Bytes bs → encoded rs ≡ bs)
decoded_granted [] rs h = absurd cc
decoded_granted (a ∷ []) rs h = absurd cc
decoded_granted (a ∷ b ∷ []) rs h = absurd cc
decoded_granted (a ∷ b ∷ c ∷ []) rs h = absurd cc
decoded_granted (a ∷ b ∷ c ∷ d ∷ rest) rs h =
    let n = word a b in
    let same = all_admitted_same 1 (stored_rows n rest) rs in
    let granted : (n ≡ word c d) × (length rest ≡ 4 * n) × (rs ≡ stored_rows n rest) = grind (arith, nat_tests) in
    let exact = rows_exact n rest granted.1 in
    let counted : length rs ≡ n = cc in (
      cc,
      omega (arith, granted.1),
      λ all.
          let first = split_word a b (all 0 0 (omega arith)) (all 1 0 (omega arith)) in
          let second = split_word c d (all 2 0 (omega arith)) (all 3 0 (omega arith)) in
          let columns = exact.1 (λ k e i. all (suc (suc (suc (suc k)))) e (omega arith)) in
          cc,
    )

-- stored bytes, each as a slice of bytes has it, are what the readings that they hold are encoded as
pub decoded_exact : (bs : List ℕ) → ((k : ℕ) → Fits w8 (get_or bs k 0)) → (rs : List Reading) → decoded bs ≡ Ok rs → encoded rs ≡ bs
decoded_exact bs fits rs h = (decoded_granted bs rs h).2 (All-from_get_or (λ x. x < 256) bs 0 (λ k h. (fits k).fits))
