-- What a page holds after text was put on it. Assumes nothing.
use Rattle.std.specs.Prelude.{◌≡◌, ℕ, ◌+◌, ◌-◌, ◌^◌, ◌≤◌, min, List, length}
use Rattle.reading.specs.Lists.{put_from}
use Rattle.listing.specs.declared.page.Page.{Page}

-- the text is counted, as far as a word can count, and where it ends on the page it stands there behind what came before
pub record Printed (before : Page) (text : List ℕ) (after : Page) : Type 0 where
  pub lender : after.bytes.ghost_name ≡ before.bytes.ghost_name
  pub room : length after.bytes.now ≡ length before.bytes.now
  pub count : after.count ≡ min (before.count + length text) (2 ^ 64 - 1)
  pub bytes :
      after.count ≤ length before.bytes.now
      → (after.count ≡ before.count + length text) × (after.bytes.now ≡ put_from before.count text before.bytes.now)
