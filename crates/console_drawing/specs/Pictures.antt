-- The lanes of a title as a small picture (docs/CONSOLE.md, "Drawn on a terminal"): a line for each lane below the cap, a sign for each tick.
use Rattle.std.specs.Prelude.{ℕ, ◌+◌, Bool, not, List, [], ◌∷◌, ◌++◌, leb, ltb, eqb}
use Rattle.rules.specs.Limits.{both, id_max}
use Rattle.rules.specs.Refusals.{pick}
use Rattle.story.specs.declared.Title.{Title}
use Rattle.story.specs.declared.State.{State}
use Rattle.story.specs.Kept.{absent_mode, title_at, state_ok, tick_at, ruling, kept_held}
use Rattle.text.specs.Texts.{text}
use Rattle.text.specs.Digits.{decimal}
use Rattle.console_answers.specs.Entries.{each}
use Rattle.console_limits.specs.Quantities.{ticks_most}

-- the signs, as UTF-8 has them: full U+2588, hatched U+2592, and a point in the middle, U+00B7
abbrev pub active_sign : List ℕ
active_sign = 226 ∷ 150 ∷ 136 ∷ []

abbrev pub sending_sign : List ℕ
sending_sign = 226 ∷ 150 ∷ 146 ∷ []

abbrev pub free_sign : List ℕ
free_sign = 194 ∷ 183 ∷ []

-- lane l in tick n: active, sending what it owes, or not held
unfoldable pub sign_text : Title → ℕ → ℕ → List ℕ
sign_text t l n = pick (ltb l (ruling t)) active_sign (pick (kept_held t l n) sending_sign free_sign)

-- as many ticks as `lanes` shows at most, from tick n on
abbrev pub signs_text : Title → ℕ → ℕ → List ℕ
signs_text t l n = each (λ (j : ℕ). sign_text t l (n + j)) ticks_most

-- numbers from here on have two digits
abbrev pub two_digits : ℕ
two_digits = 10

-- the lane's number, with spaces behind it up to where the signs of every lane begin
unfoldable pub lane_head : ℕ → List ℕ
lane_head l = (text "lane " ++ decimal l) ++ pick (ltb l two_digits) (text "  ") (text " ")

unfoldable pub sign_line : Title → ℕ → ℕ → List ℕ
sign_line t n l = (lane_head l ++ signs_text t l n) ++ text "\n"

-- there is a title of an id to draw, in a state within its limits
unfoldable pub is_drawable : State → ℕ → Bool
is_drawable s i = both (leb i id_max) (both (state_ok s) (not (eqb (title_at s i).mode absent_mode)))

-- its lanes, from the tick of the last accepted event on
unfoldable pub title_picture : State → ℕ → List ℕ
title_picture s i =
    pick (is_drawable s i) (each (sign_line (title_at s i) (tick_at (title_at s i) s.last)) (title_at s i).film.cap) []
