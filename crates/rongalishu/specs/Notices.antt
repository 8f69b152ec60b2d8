-- Notices as rows, with a result row beside them: how many bytes were written, and the place in a log.
use Rattle.std.specs.Prelude.{ℕ, ◌≡◌, true, false, List, [], ◌∷◌, ltb, length, get_or}
use Rattle.rules.specs.Refusals.{wrong_rows}
use Rattle.notice_rows.specs.declared.Written.{Written}
use Rattle.notice_rows.specs.declared.Step.{Step}
use Rattle.notice_rows.specs.Calls.{WritesRow, StepsRow}
use Rattle.rongalishu.specs.Results.{resulting}

-- what was written, told in a row that has its place
pub record WrittenTold (fields room row : List ℕ) (r : ℕ) (Room-after row_after_lem : List ℕ) : Type 0 where
  pub told : Written
  pub writes : WritesRow fields room told Room-after
  pub answers : r ≡ told.answer
  pub row_is : row_after_lem ≡ resulting r (told.bytes ∷ []) row

pub record WrittenGiven (fields room row : List ℕ) (r : ℕ) (Room-after row_after_lem : List ℕ) : Type 0 where
  pub too_short : ltb (length row) 1 ≡ true → (r ≡ wrong_rows) × ((Room-after ≡ room) × (row_after_lem ≡ row))
  pub tells : ltb (length row) 1 ≡ false → WrittenTold fields room row r Room-after row_after_lem

-- what a log has at the place that a row tells, and the place after it
pub record NextTold (log row fields : List ℕ) (r : ℕ) (row_after_lem fields-after : List ℕ) : Type 0 where
  pub told : Step
  pub steps : StepsRow log (get_or row 0 0) fields told fields-after
  pub answers : r ≡ told.answer
  pub row_is : row_after_lem ≡ resulting r (told.place ∷ []) row

pub record NextGiven (log row fields : List ℕ) (r : ℕ) (row_after_lem fields-after : List ℕ) : Type 0 where
  pub too_short : ltb (length row) 1 ≡ true → (r ≡ wrong_rows) × ((row_after_lem ≡ row) × (fields-after ≡ fields))
  pub tells : ltb (length row) 1 ≡ false → NextTold log row fields r row_after_lem fields-after
