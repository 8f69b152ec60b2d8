-- A record that shows all that another shows, and more, lets play through every admission that the other does.
-- Rests on what a result says of a record.
use mathlib.Core.Path.{◌≡◌}
use mathlib.Core.Bool.{true}
use mathlib.Core.List.{List}
use Prim.Native.Nat.{ℕ, suc, ◌+◌, ◌≤◌, ◌<◌}
use native.Mathlib.Omega.{arith}
use borrow.Author.Tests.{leb-true, le-leb}
use Rattle.rules.specs.Limits.{count_max}
use Rattle.rules.proofs.Tests.{both_l, both_r, both_in}
use Rattle.rules.proofs.Search.{some_in, some_out, how_many_wider, how_many_mono}
use Rattle.grid.specs.Ticks.{cells}
use Rattle.story.specs.Life.{Life, is_admission}
use Rattle.judging.specs.Record.{ticks_in, is_shown, is_in_time}
use Rattle.judging.specs.Judged.{is_covered, is_judged, is_played, played_in, Covers}
use Rattle.judging.proofs.Plays.{plays_through, played_has_all, played_in_lem, played_out}

module _ (L : Life) (high : L.film.cap ≤ count_max) (r q : List ℕ) (more : Covers L r q) where
  more_in_time : (a c : ℕ) → c < cells L.film.cap → a + c < ticks_in r → is_in_time r a c ≡ true → is_in_time q a c ≡ true
  unfolding is_in_time
  more_in_time a c l in-record h =
      let seen = some_out (λ j. is_shown r c (a + j)) (suc c) h in
      let soon : seen.0 < suc c = seen.1 in
      some_in (λ j. is_shown q c (a + j)) (suc c) seen.0 soon (more.shows c (a + seen.0) l (omega arith) seen.2)

  judged_fits : (a : ℕ) → is_judged L r a ≡ true → a + cells L.film.cap ≤ ticks_in r
  unfolding is_judged is_covered
  judged_fits a j = leb-true _ _ (both_r (is_admission L a) _ j)

  more_judged : (a : ℕ) → is_judged L r a ≡ true → is_judged L q a ≡ true
  unfolding is_judged is_covered
  more_judged a j =
      both_in (is_admission L a) _ (both_l (is_admission L a) _ j)
      (le-leb (a + cells L.film.cap) (ticks_in q) (omega (arith, judged_fits a j, more.longer)))

  pub more_shown : (a : ℕ) → is_played L r a ≡ true → is_played L q a ≡ true
  more_shown a h =
      let p = played_out L r a h in
      let fits : a + cells L.film.cap ≤ ticks_in r = judged_fits a p.0 in
      played_in_lem L q a (more_judged a p.0)
      (plays_through L q a (λ c l film. more_in_time a c l (omega arith) (played_has_all L r a high p.1 c l film)))

  -- and so no fewer
  pub no_fewer_played : played_in L r ≤ played_in L q
  no_fewer_played =
      omega (
        arith,
        how_many_wider (is_played L r) (is_played L q) (ticks_in r) (λ a l h. more_shown a h),
        how_many_mono (is_played L q) (ticks_in r) (ticks_in q) more.longer,
      )
