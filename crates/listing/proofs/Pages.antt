-- Texts put on a page one after another are one text put on it, so a text is put on it byte by byte.
use Rattle.std.proofs.Common.{◌≡◌, ℕ, ◌+◌, ◌<◌, ◌≤◌, List, [], ◌∷◌, ◌++◌, length, take, slice_index_or, ap, ◌∙◌, arith}
use Rattle.std.proofs.lemmas.List.{length-append, take_more}
use Rattle.reading.proofs.Puts.{put_then}
use Rattle.reading.specs.Lists.{put_from}
use Rattle.listing.specs.declared.page.Page.{Page}
use Rattle.listing.specs.Pages.{Printed}

module _ (a b c : Page) (xs ys : List ℕ) (p : Printed a xs b) (q : Printed b ys c) where
  both_bytes :
      c.count ≤ length a.bytes.now
      → (c.count ≡ a.count + length (xs ++ ys)) × (c.bytes.now ≡ put_from a.count (xs ++ ys) a.bytes.now)
  both_bytes h =
      let long = length-append xs ys in
      let first = p.bytes (omega arith) in
      let second = q.bytes (omega arith) in (
        omega (arith, first.0, second.0),
        second.1
            ∙ ap (put_from b.count ys) first.1
            ∙ put_then a.bytes.now a.count xs ys b.count first.0 (omega (arith, first.0, second.0)),
      )

  pub printed_then : Printed a (xs ++ ys) c
  printed_then =
      let long = length-append xs ys in
      record { lender = q.lender ∙ p.lender; room = q.room ∙ p.room; count = omega arith; bytes = both_bytes }

-- one byte more of a text
pub printed_next :
    (a b c : Page) (xs : List ℕ) (n : ℕ) → Printed a (take n xs) b → n < length xs → Printed b (slice_index_or xs n 0 ∷ []) c
    → Printed a (take (n + 1) xs) c
printed_next a b c xs n p h q = rw (take_more xs n 0 h) (printed_then a b c _ _ p q)
