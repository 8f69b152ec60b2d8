-- A page: a row of the caller's, written up to a place.
use Rattle.std.specs.Prelude.{ℕ, List, ◌≡◌}
use Rattle.std.specs.Borrow.{MutBor}
use Rattle.text.specs.Output.{puts, page}
use Rattle.text.specs.declared.page.Page.{Page}

-- a page of a row, written up to a place
pub record Opens (row : MutBor (List ℕ)) (at : ℕ) (p : Page) : Type 0 where
  pub same_row : p.row.ghost_name ≡ row.ghost_name
  pub opened : page p.row.now p.at ≡ page row.now at

-- a text was written on a page: its row and its place are after it what the text makes of them, and it is the same row still
pub record Puts (before : Page) (text : List ℕ) (after : Page) : Type 0 where
  pub same_row : after.row.ghost_name ≡ before.row.ghost_name
  pub written : page after.row.now after.at ≡ puts (page before.row.now before.at) text
