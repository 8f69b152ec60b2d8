-- The words of refusals, by their number (docs/CONSOLE.md, "Refusals"; 01, "Numbers that calls give back").
use Rattle.std.specs.Prelude.{ℕ, Bool, List, [], ◌∷◌, ◌++◌, get_or, eqb}
use Rattle.rules.specs.Limits.{either, within}
use Rattle.rules.specs.Refusals.{pick, out_of_turn, below_floor, above_cap, too_soon}
use Rattle.text.specs.Texts.{text}
use Rattle.text.specs.Digits.{decimal}

-- what each refusal means, in words, by its number
abbrev pub refusals : List (List ℕ)
refusals =
    text "done" ∷
    text "number out of range" ∷
    text "earlier than an accepted event" ∷
    text "title not there or lane not held" ∷
    text "id still in use" ∷
    text "title is closing" ∷
    text "count unchanged" ∷
    text "title has an event at this time" ∷
    text "not at a permitted slot start" ∷
    text "too few free lanes" ∷
    text "rows do not match or room too short" ∷
    text "malformed notice" ∷
    text "notice out of turn" ∷
    text "below the floor" ∷
    text "above the cap" ∷
    text "floor above its cap" ∷
    text "change too soon" ∷
    text "doors already held or lifted" ∷
    text "an event would fall after the clock's last time" ∷
    text "a skip-forward title has a steady count and no doors to hold" ∷ []

unfoldable pub refusal_words : ℕ → List ℕ
refusal_words n = get_or refusals n []

-- number and words
unfoldable pub meaning_text : ℕ → List ℕ
meaning_text n = (decimal n ++ text " ") ++ refusal_words n

-- 12, 13, 14 and 16 name a number, with words that lead to it
abbrev pub is_naming : ℕ → Bool
is_naming n = either (eqb n too_soon) (within out_of_turn above_cap n)

unfoldable pub naming_words : ℕ → List ℕ
naming_words n =
    pick (eqb n out_of_turn) (text ", expected is ") (pick (eqb n too_soon) (text ", not before ") (text ", which is "))

-- the answer to a refused call: number, words, and the number that they name
unfoldable pub refusal_text : ℕ → ℕ → List ℕ
refusal_text n named = meaning_text n ++ pick (is_naming n) (naming_words n ++ decimal named) []

-- of a count that is below floor A or above cap K, by the refusal's number: the one that it missed
unfoldable pub missed : ℕ → ℕ → ℕ → ℕ
missed n A K = pick (eqb n below_floor) A K
