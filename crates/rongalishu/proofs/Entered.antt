-- An event that is built and then put to a row is the event that it is built as.
use Prim.Native.Nat.{ℕ}
use mathlib.Core.Path.{◌≡◌, ap, ◌∙◌}
use mathlib.Core.List.{List}
use Rattle.story.specs.declared.Event.{Event}
use Rattle.row_calls.specs.Answers.{row_event, row_after_event}

pub as_event_lem : (row : List ℕ) (r : ℕ) (after : List ℕ) (e f : Event) → e ≡ f → (r ≡ row_event row e) × (after ≡ row_after_event row e) →
    (r ≡ row_event row f) × (after ≡ row_after_event row f)
as_event_lem row r after e f same p = (p.0 ∙ ap (row_event row) same, p.1 ∙ ap (row_after_event row) same)
