-- Laws of the number of a lane, as the code meets its cases. Rest on its definition.
use mathlib.Core.Path.{◌≡◌, sym, ap, ◌∙◌}
use mathlib.Core.Bool.{Bool, true, false}
use Prim.Native.Nat.{ℕ, ◌^◌, ◌≤◌, ◌<◌}
use native.Mathlib.Omega.{arith}
use borrow.Author.Tests.{lt-ltb, le-ltb}
use lib.Dec.{ltb}
use lib.Pow.{pow_mono}
use Rattle.rules.specs.Limits.{both, count_max}
use Rattle.rules.proofs.Tests.{both_in, pick_true, pick_false}
use Rattle.story.specs.declared.Title.{Title}
use Rattle.story.specs.Kept.{scheme_in, kept_held, shows}
use Rattle.owed.specs.Shown.{shown_tick}
use Rattle.judging.specs.Record.{nothing_seen}
use Rattle.playouts.specs.inner.Steps.{standing_number}

-- a cell has 16 bits
pub few_bits : (K n : ℕ) → K ≤ count_max → n < 2 ^ K → n < 2 ^ 16
few_bits K n high low = let most : 2 ^ K ≤ 2 ^ count_max = pow_mono high in omega arith

module _ (t : Title) (l u : ℕ) where
  pub number_held : (shown cell : ℕ) (held : Bool) → l < t.film.cap → held ≡ kept_held t l u → held ≡ true → shown ≡ shown_tick t l u →
      cell ≡ (scheme_in t).on_lane l shown → cell ≡ standing_number t l u
  unfolding standing_number shows shown_tick
  number_held shown cell held low is on at carries =
      carries
      ∙ ap (λ n. (scheme_in t).on_lane l n) at
      ∙ sym (pick_true (both (ltb l t.film.cap) (kept_held t l u)) (shows t l u) nothing_seen (both_in (ltb l t.film.cap) (kept_held t l u) (lt-ltb l t.film.cap low) (sym is ∙ on)))

  pub number_none : (held : Bool) → l < t.film.cap → held ≡ kept_held t l u → held ≡ false → nothing_seen ≡ standing_number t l u
  unfolding standing_number
  number_none held low is off =
      sym (pick_false (both (ltb l t.film.cap) (kept_held t l u)) (shows t l u) nothing_seen (ap (λ b. both b (kept_held t l u)) (lt-ltb l t.film.cap low) ∙ sym is ∙ off))

  pub number_beyond : t.film.cap ≤ l → nothing_seen ≡ standing_number t l u
  unfolding standing_number
  number_beyond high =
      sym (pick_false (both (ltb l t.film.cap) (kept_held t l u)) (shows t l u) nothing_seen (ap (λ b. both b (kept_held t l u)) (le-ltb l t.film.cap high)))
