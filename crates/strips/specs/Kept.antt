-- The row of numbers that is kept while a log is drawn: for each id since when each lane is as it is and since when its doors are held, and
-- up to where each row of the picture is drawn. Where two marks would lie on the same column of a row they are one.
use Rattle.std.specs.Prelude.{ℕ, ◌+◌, ◌*◌, Bool, List, ltb, get_or, set}
use Rattle.rules.specs.Refusals.{pick}

abbrev pub own_places : ℕ
own_places = 32

abbrev pub kept_in : ℕ → ℕ → ℕ
kept_in i j = i * own_places + j

-- of an id: since when lane l is as it is, and its doors are held
abbrev pub since_at : ℕ → ℕ → ℕ
since_at i l = kept_in i (0 + l)

abbrev pub doors_since_at : ℕ → ℕ
doors_since_at i = kept_in i 12

-- up to where the rows of its lanes, doors, events and lives are drawn, and the labels of the last two
abbrev pub lanes_at : ℕ → ℕ → ℕ
lanes_at i l = kept_in i (13 + l)

abbrev pub doors_at : ℕ → ℕ
doors_at i = kept_in i 25

abbrev pub events_at : ℕ → ℕ
events_at i = kept_in i 26

abbrev pub event_labels_at : ℕ → ℕ
event_labels_at i = kept_in i 27

abbrev pub lives_at : ℕ → ℕ
lives_at i = kept_in i 28

abbrev pub life_labels_at : ℕ → ℕ
life_labels_at i = kept_in i 29

-- the same of refusals and their labels; and the lanes held in the curve's last step
abbrev pub refusals_at : ℕ
refusals_at = 512

abbrev pub refusal_labels_at : ℕ
refusal_labels_at = 513

abbrev pub level_at : ℕ
level_at = 514

abbrev pub kept_length : ℕ
kept_length = 515

-- what was drawn last in a row ends left of x: a mark is new there, and its row is drawn up to its end
abbrev pub is_new : List ℕ → ℕ → ℕ → Bool
is_new kept j x = ltb (get_or kept j 0) x

unfoldable pub drawn_to : List ℕ → ℕ → ℕ → ℕ → List ℕ
drawn_to kept j x end = pick (is_new kept j x) (set kept j end) kept
