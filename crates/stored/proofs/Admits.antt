-- When readings are all admitted, one by one from the first too, and that they are then the readings that came.
use Rattle.std.proofs.Common.{◌≡◌, ℕ, ◌+◌, ◌<◌, ◌≤◌, List, [], ◌∷◌, ◌++◌, length, get_or, take, drop, Ok, Err, Result, sym, refl, ap, ◌∙◌, arith}
use Rattle.std.proofs.lemmas.Bool.Decides.{nat_tests}
use Rattle.std.proofs.lemmas.List.{append_assoc, append-nil, at_drop_more, at_drop_all, take_all, take_more}
use Rattle.std.proofs.lemmas.List.Elements.{All-head, All-tail}
use Rattle.reading.specs.declared.refusals.Refusal.{Refusal}
use Rattle.reading.specs.declared.scale.Reading.{Reading}
use Rattle.reading.specs.Results.{then}
use Rattle.reading.specs.Scale.{OnScale, Scaled, admitted}
use Rattle.stored.specs.Forms.{all_admitted}

pub all_admits : (p : ℕ) (rs : List Reading) → Scaled rs → all_admitted p rs ≡ Ok rs
all_admits p [] all = refl
all_admits p (r ∷ rs) all =
    let here = All-head OnScale r rs all in
    let rest = all_admits (p + 1) rs (All-tail OnScale r rs all) in
    grind (arith, nat_tests)

-- what is granted is the list itself
pub all_admitted_whole : (p : ℕ) (rs : List Reading) → then (all_admitted p rs) (λ _. Ok rs) ≡ all_admitted p rs
all_admitted_whole p [] = refl
all_admitted_whole p (r ∷ rs) = let rest = all_admitted_whole (p + 1) rs in grind (arith, nat_tests)

pub all_admitted_same : (p : ℕ) (rs xs : List Reading) → all_admitted p rs ≡ Ok xs → xs ≡ rs
all_admitted_same p rs xs h = let whole = all_admitted_whole p rs in cc

-- readings admitted so far, from the first on
abbrev pub SoFar : List Reading → ℕ → Type 0
SoFar rs i = all_admitted 1 rs ≡ then (all_admitted (i + 1) (drop i rs)) (λ xs. Ok (take i rs ++ xs))

-- what is granted and changed, and then gone on with, is gone on with changed
then_ok : {X Y Z E : Type 0} (r : Result X E) (f : X → Y) (g : Y → Result Z E) → then (then r (λ x. Ok (f x))) g ≡ then r (λ x. g (f x))
then_ok (Ok x) f g = refl
then_ok (Err e) f g = refl

-- what is granted and passed on as it is stays what it was
then_id : {X E : Type 0} (r : Result X E) → then r (λ x. Ok x) ≡ r
then_id (Ok x) = refl
then_id (Err e) = refl

-- at the start none had to be admitted
pub none_so_far : (rs : List Reading) → SoFar rs 0
none_so_far rs = sym (then_id (all_admitted 1 rs))

module _ (rs : List Reading) (i : ℕ) (d : Reading) (within : i < length rs) (so_far : SoFar rs i) where
  -- the next reading is the first of those that are left
  at_next : all_admitted (i + 1) (drop i rs) ≡ all_admitted (i + 1) (get_or rs i d ∷ drop (i + 1) rs)
  at_next = at_drop_more (all_admitted (i + 1)) rs i d within

  -- one reading more is admitted
  pub admitted_more : (x : Reading) → Ok x ≡ admitted (get_or rs i d) (i + 1) → SoFar rs (i + 1)
  admitted_more x h =
      let tail = all_admitted (i + 1 + 1) (drop (i + 1) rs) in
      so_far
      ∙ ap (λ r. then r (λ xs. Ok (take i rs ++ xs)))
      (at_next ∙ ap (λ r. then r (λ _. then tail (λ xs. Ok (get_or rs i d ∷ xs)))) (sym h))
      ∙ then_ok tail (λ xs. get_or rs i d ∷ xs) (λ xs. Ok (take i rs ++ xs))
      ∙ ap (λ (f : List Reading → Result (List Reading) Refusal). then tail f)
      (λ j xs. Ok ((sym (append_assoc (take i rs) (get_or rs i d ∷ []) xs) ∙ ap (λ ys. ys ++ xs) (sym (take_more rs i d within))) j))

  -- a reading that is refused refuses the list
  pub refused_here : (e : Refusal) → Err e ≡ admitted (get_or rs i d) (i + 1) → all_admitted 1 rs ≡ Err e
  refused_here e h =
      so_far
      ∙ ap (λ r. then r (λ xs. Ok (take i rs ++ xs)))
      (at_next ∙ ap (λ r. then r (λ _. then (all_admitted (i + 1 + 1) (drop (i + 1) rs)) (λ xs. Ok (get_or rs i d ∷ xs)))) (sym h))

-- all admitted: the list itself
pub admitted_all : (rs : List Reading) (i : ℕ) → length rs ≤ i → SoFar rs i → all_admitted 1 rs ≡ Ok rs
admitted_all rs i h so_far =
    so_far ∙ ap (λ r. then r (λ xs. Ok (take i rs ++ xs))) (at_drop_all (all_admitted (i + 1)) rs i h) ∙ ap Ok (append-nil (take i rs) ∙ take_all i rs h)
