-- Which changes the sharing of the pool asks for (02, 11 and 12): what each title that takes part gets, and the counts that
-- differ, drops before raises and each lowest id first.
use Rattle.std.specs.Prelude.{ℕ, zero, suc, Bool, List, [], ◌∷◌, ◌++◌, map, ltb, get_or}
use Rattle.rules.specs.Limits.{both, titles_max}
use Rattle.rules.specs.Search.{how_many}
use Rattle.sharing.specs.Choice.{shared}
use Rattle.story.specs.declared.State.{State}
use Rattle.story.specs.Kept.{title_at}
use Rattle.sharers.specs.Sharers.{takes_part, shared_pool, ids_where, rated}
use Rattle.wishes.specs.declared.Wishes.{Wishes}

-- what the sharing gives to a title that takes part
unfoldable pub share_of : State → List ℕ → ℕ → ℕ
share_of s rates i = get_or (shared (shared_pool s) (rated s rates)) (how_many (takes_part s) i) 0

-- the sharing gives a title less than it has, or more
abbrev pub is_drop : State → List ℕ → ℕ → Bool
is_drop s rates i = both (takes_part s i) (ltb (share_of s rates i) (title_at s i).count)

abbrev pub is_raise : State → List ℕ → ℕ → Bool
is_raise s rates i = both (takes_part s i) (ltb (title_at s i).count (share_of s rates i))

-- a change that is wished for: of a title to a count
pub record Wish : Type 0 where
  pub title : ℕ
  pub count : ℕ

abbrev pub wish_for : State → List ℕ → ℕ → Wish
wish_for s rates i = record { title = i; count = share_of s rates i }

-- first the drops, then the raises
unfoldable pub wishes : State → List ℕ → List Wish
wishes s rates = map (wish_for s rates) (ids_where (is_drop s rates) titles_max ++ ids_where (is_raise s rates) titles_max)

-- the wishes that stand in the first n places of two rows
abbrev pub wish_at : List ℕ → List ℕ → ℕ → Wish
wish_at ids counts j = record { title = get_or ids j 0; count = get_or counts j 0 }

unfoldable pub wishes_to : List ℕ → List ℕ → ℕ → List Wish
wishes_to ids counts zero = []
wishes_to ids counts (suc n) = wishes_to ids counts n ++ (wish_at ids counts n ∷ [])

abbrev pub wishes_in : Wishes → List Wish
wishes_in w = wishes_to w.titles w.counts w.many
