-- A journal and its sums that come in windows, and what playing them one after the other is.
use Rattle.std.specs.Prelude.{ℕ, ◌*◌, ◌≡◌, Bool, true, List, [], ◌++◌, length}
use Rattle.journals.specs.declared.Start.{Start}
use Rattle.journals.specs.Start.{sum_bytes, Hearer, Stage, view, hears_in}

-- bytes of a file, from a place on
pub record Part (file bytes : List ℕ) (place : ℕ) : Type 0 where
  pub before : List ℕ
  pub later : List ℕ
  pub is : file ≡ before ++ (bytes ++ later)
  pub there : length before ≡ place

-- a window of the journal from the start's place on, with no byte behind it where it is the last, and sums from the next notice's on
pub record Lent (journal sums : List ℕ) (s : Start) (window beside : List ℕ) (over : Bool) : Type 0 where
  pub bytes : Part journal window s.place
  pub summed : Part sums beside (s.heard * sum_bytes)
  pub ended : over ≡ true → bytes.later ≡ []

-- windows played one after the other, each where the one before went on, as long as it goes on
pub data InWindows {A : Type 0} (h : Hearer A) (journal sums : List ℕ) (x₀ : Stage A) : Stage A → Type 0 where
  no_window : InWindows h journal sums x₀ x₀
  next_window : {x : Stage A} {window beside : List ℕ} {over : Bool} → InWindows h journal sums x₀ x
      → Lent journal sums x.start window beside over
      → InWindows h journal sums x₀ (hears_in h (view window beside x.start.place x.start.heard over) x)
