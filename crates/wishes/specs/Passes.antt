-- The wishes that a pass over the ids collects.
use Rattle.std.specs.Prelude.{ℕ, zero, suc, ◌+◌, Bool, List, ltb, get_or, set}
use Rattle.rules.specs.Limits.{both}
use Rattle.rules.specs.Refusals.{pick}
use Rattle.story.specs.declared.Title.{Title}
use Rattle.story.specs.declared.State.{State}
use Rattle.story.specs.Kept.{title_at}
use Rattle.sharers.specs.Sharers.{is_sharer}
use Rattle.sharers.specs.Rows.{no_row}
use Rattle.wishes.specs.declared.Wishes.{Wishes}

-- a title takes part, and its share is above its count, or else below it
abbrev pub wants_move : Bool → Title → ℕ → Bool
wants_move up t share = both (is_sharer t) (pick up (ltb t.count share) (ltb share t.count))

-- the same of an id, by a row of shares
abbrev pub moves_at : Bool → State → List ℕ → ℕ → Bool
moves_at up s shares i = wants_move up (title_at s i) (get_or shares i 0)

abbrev pub no_wishes : Wishes
no_wishes = record { many = 0; titles = no_row; counts = no_row }

-- one wish more, behind the others
abbrev pub with_wish : Wishes → ℕ → ℕ → Wishes
with_wish w i count =
    record { many = w.many + 1; titles = set w.titles w.many i; counts = set w.counts w.many count }

-- behind the wishes that stand, those of the ids below n that pass a test
unfoldable pub pass_to : (ℕ → Bool) → (ℕ → ℕ) → Wishes → ℕ → Wishes
pass_to p count w zero = w
pass_to p count w (suc n) = pick (p n) (with_wish (pass_to p count w n) n (count n)) (pass_to p count w n)
