-- The room that the program lends, and that every picture of a box fits into it.
use Rattle.std.specs.Prelude.{ℕ, ◌≤◌, length}
use Rattle.rules.specs.Limits.{count_max, plan_places}
use Rattle.box_charts.specs.declared.Begun.{Begun}
use Rattle.box_charts.specs.Picture.{box_drawing}

-- no picture is longer
abbrev pub picture_room : ℕ
picture_room = 4_999_999

-- of a title with no more lanes and cells than a title may have, whatever the numbers
abbrev pub EveryBoxFits : Type 0
EveryBoxFits = (b : Begun) (place : ℕ → ℕ) (n : ℕ) → b.lanes ≤ count_max → n ≤ plan_places → length (box_drawing b place n) ≤ picture_room
