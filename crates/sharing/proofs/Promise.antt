-- What a caller may rely on beyond the contract's equations: the counts
-- written are a choice to be preferred to every choice, with the least sum, and no other choice is; later places stay,
-- and a refusal writes nothing. Rests on the search (proofs/Search).
use mathlib.Core.Path.{◌≡◌, refl, sym, ap, ◌∙◌}
use mathlib.Core.Bool.{true}
use mathlib.Core.List.{List}
use mathlib.Core.Logic.{◌⊎◌, inl, inr}
use Prim.Native.Nat.{ℕ, ◌≤◌, ◌<◌}
use native.Mathlib.Omega.{arith}
use lib.ListN.{length, drop, take}
use lib.Seq.{drop_at, take_at}
use Rattle.rules.specs.Refusals.{done}
use Rattle.sharing_titles.specs.declared.titles.Rated.{Rated}
use Rattle.sharing_titles.specs.Titles.{titles}
use Rattle.sharing_choice.specs.Choice.{Choice, Shared, prefers, wait_sum, at_least, shared}
use Rattle.sharing.specs.Verdict.{verdict_of, row_after}
use Rattle.sharing_choice.proofs.Order.{or_view}
use Rattle.sharing_choice.proofs.Search.{search_finds, only_one}
use Rattle.sharing_titles.proofs.titles.Laws.{titles_length, titles_floors}
use Rattle.sharing.proofs.verdict.Laws.{ready, row_done, row_refused}

-- the least sum, as 01 says it
pub least : (pool : ℕ) (ts : List Rated) (x y : List ℕ) → Shared pool ts x → Choice pool ts y → wait_sum ts x ≤ wait_sum ts y
unfolding prefers
least pool ts x y s c = go (or_view (wait_sum ts x) (wait_sum ts y) (at_least x y) (s.best y c))
  where
    go : (wait_sum ts x < wait_sum ts y) ⊎ ((wait_sum ts x ≡ wait_sum ts y) × (at_least x y ≡ true)) → wait_sum ts x ≤ wait_sum ts y
    go (inl l) = omega arith
    go (inr e) = omega arith

module _ (pool : ℕ) (rates lengths floors caps row : List ℕ) where
  module _ (ok : verdict_of pool rates lengths floors caps (length row) ≡ done) where
    -- where nothing is refused, the search's counts are to be preferred to every choice
    pub is_shared : Shared pool (titles rates lengths floors caps) (shared pool (titles rates lengths floors caps))
    is_shared =
        let r = ready pool rates lengths floors caps row ok in
        search_finds pool (titles rates lengths floors caps) (λ i h. (r.sound.weighable.each i h).floor_cap)
        (rw (titles_floors rates lengths floors caps r.sound.even) r.room)

    -- and no others are
    pub only_shared : (x : List ℕ) → Shared pool (titles rates lengths floors caps) x
        → x ≡ shared pool (titles rates lengths floors caps)
    only_shared x s = only_one pool (titles rates lengths floors caps) x _ s is_shared

    -- as many counts as titles
    pub places : length (shared pool (titles rates lengths floors caps)) ≡ length rates
    places =
        is_shared.choice.way.places
        ∙ titles_length rates lengths floors caps (ready pool rates lengths floors caps row ok).sound.even

    -- the first places hold the counts, and the later places stay
    pub first_places :
        take (length rates) (row_after pool rates lengths floors caps row)
        ≡ shared pool (titles rates lengths floors caps)
    first_places =
        ap (take (length rates)) (sym (row_done pool rates lengths floors caps row ok refl))
        ∙ take_at (shared pool (titles rates lengths floors caps)) _ (length rates) places

    pub later_places : drop (length rates) (row_after pool rates lengths floors caps row) ≡ drop (length rates) row
    later_places =
        ap (drop (length rates)) (sym (row_done pool rates lengths floors caps row ok refl))
        ∙ drop_at (shared pool (titles rates lengths floors caps)) _ (length rates) places

  -- a refusal writes nothing
  pub refusal_writes_nothing : (verdict_of pool rates lengths floors caps (length row) ≡ done → ⊥)
      → row_after pool rates lengths floors caps row ≡ row
  refusal_writes_nothing no_Ok = sym (row_refused pool rates lengths floors caps row no_Ok)
