-- What each refusal's number means, and that the first match wins (01, "Numbers that calls give back").
use Rattle.std.specs.Prelude.{ℕ, Bool, true, false, not, List, [], ◌∷◌, ltb, eqb}
use Rattle.rules.specs.Limits.{both}

abbrev pub done : ℕ
done = 0

-- a number outside its limits
abbrev pub outside_limits : ℕ
outside_limits = 1

-- before the last accepted event
abbrev pub too_early : ℕ
too_early = 2

-- no such title, or lane not held then
abbrev pub not_there : ℕ
not_there = 3

-- id open or not yet released
abbrev pub id_taken : ℕ
id_taken = 4

abbrev pub is_closing : ℕ
is_closing = 5

-- count unchanged
abbrev pub unchanged : ℕ
unchanged = 6

-- second event of this title at one moment
abbrev pub second_event : ℕ
second_event = 7

-- not at a permitted slot start
abbrev pub not_at_slot : ℕ
not_at_slot = 8

-- not enough lanes
abbrev pub no_lanes : ℕ
no_lanes = 9

-- rows of different length, or lent room too short
abbrev pub wrong_rows : ℕ
wrong_rows = 10

-- notice not well formed
abbrev pub malformed : ℕ
malformed = 11

-- notice out of turn
abbrev pub out_of_turn : ℕ
out_of_turn = 12

-- count below the floor
abbrev pub below_floor : ℕ
below_floor = 13

-- count above the cap
abbrev pub above_cap : ℕ
above_cap = 14

-- floor above its cap
abbrev pub floor_above_cap : ℕ
floor_above_cap = 15

-- a change less than one floor slot after the last opening or change
abbrev pub too_soon : ℕ
too_soon = 16

-- a held title is held, or one that isn't is lifted
abbrev pub doors_unchanged : ℕ
doors_unchanged = 17

-- an event would fall after the clock's last time
abbrev pub past_clock : ℕ
past_clock = 18

-- a skip-forward title, whose count is steady and whose doors stay as they are
abbrev pub is_steady : ℕ
is_steady = 19

-- one of two values, by a test
abbrev pub pick : {A : Type 0} → Bool → A → A → A
pick true a b = a
pick false a b = b

-- one place of a call's order: the number it gives back, and whether it hits
pub record Rule : Type 0 where
  pub number : ℕ
  pub hits : Bool

abbrev pub refuse : ℕ → Bool → Rule
refuse n b = record { number = n; hits = b }

-- the answer of a call whose refusals are listed in order: the first that hits, or done
unfoldable pub first_hit : List Rule → ℕ
first_hit [] = done
first_hit (r ∷ rs) = pick r.hits r.number (first_hit rs)

-- the rules of an order before the one of number n, and those behind it
abbrev pub before : ℕ → List Rule → List Rule
before n [] = []
before n (r ∷ rs) = pick (eqb r.number n) [] (r ∷ before n rs)

abbrev pub behind : ℕ → List Rule → List Rule
behind n [] = []
behind n (r ∷ rs) = pick (eqb r.number n) rs (behind n rs)

-- whether the rule of number n hits, false where the list has none
unfoldable pub hits_of : ℕ → List Rule → Bool
hits_of n [] = false
hits_of n (r ∷ rs) = pick (eqb r.number n) r.hits (hits_of n rs)

-- no rule answers done, and no number stands twice: what the checker computes of each list
unfoldable pub numbered : List Rule → Bool
numbered [] = true
numbered (r ∷ rs) = both (ltb 0 r.number) (numbered rs)

unfoldable pub is_listed : ℕ → List Rule → Bool
is_listed n [] = false
is_listed n (r ∷ rs) = pick (eqb r.number n) true (is_listed n rs)

unfoldable pub distinct : List Rule → Bool
distinct [] = true
distinct (r ∷ rs) = both (not (is_listed r.number rs)) (distinct rs)
