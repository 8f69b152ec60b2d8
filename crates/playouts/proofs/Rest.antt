-- What is printed from a later tick on is the rest of what is printed from an earlier one. Rests on the text of numbers being that of
-- its first lines and of those behind them, and on ticks of a ms at least.
use mathlib.Core.Path.{◌≡◌, sym, ap, ◌∙◌, refl}
use mathlib.Core.Bool.{true}
use mathlib.Core.List.{List, ◌++◌, append-nil, append_assoc}
use Prim.Native.Nat.{ℕ, zero, suc, ◌+◌, ◌*◌, ◌%◌, ◌≤◌, ◌<◌}
use native.Mathlib.Omega.{arith}
use native.Mathlib.Nat.{mul-le-mul_left, mul-le-mul_right}
use borrow.Author.Tests.{ltb-true, leb-true, le-leb}
use Rattle.rules.specs.Limits.{asked_max, lane_places}
use Rattle.rules.specs.Refusals.{done}
use Rattle.notice.specs.Log.{Bytes}
use Rattle.story.specs.Life.{Life}
use Rattle.story.specs.Story.{moment_of, tick_length}
use Rattle.story.specs.Kept.{title_at}
use Rattle.agent.specs.Played.{agent_played, life_in}
use Rattle.judging.specs.Record.{ticks_max}
use Rattle.airing.specs.Air.{in_limits}
use Rattle.playouts.specs.Playout.{playout_limits, was_opened, last_tick_of, is_askable, playout_answer, playout_number}
use Rattle.playouts.specs.Lines.{behind_place, place_line, number_lines, playout_text}
use Rattle.playouts.proofs.Answers.{Granted, granted, grants, limits_in, from_high, ticks_high, alike}

-- behind whole lines the text goes on as from its start
lines_behind : (f g : ℕ → ℕ) (a : ℕ) → a % lane_places ≡ 0 → ((j : ℕ) → f (a + j) ≡ g j) → (m : ℕ) →
    number_lines f (a + m) ≡ number_lines f a ++ number_lines g m
unfolding number_lines place_line behind_place
lines_behind f g a whole same zero =
    let none : a + 0 ≡ a = omega arith in
    ap (number_lines f) none ∙ sym (append-nil (number_lines f a))
lines_behind f g a whole same (suc m) =
    let next : a + suc m ≡ suc (a + m) = omega arith in
    let lane : (a + m) % lane_places ≡ m % lane_places = omega arith in
    ap (number_lines f) next
    ∙ rw (lane, same m, lines_behind f g a whole same m) (append_assoc (number_lines f a) (number_lines g m) (place_line g m))

module _ (pool : ℕ) (log : List ℕ) (title from k n : ℕ) where
  number_behind : (j : ℕ) → playout_number pool log title from (k * lane_places + j) ≡ playout_number pool log title (from + k) j
  unfolding playout_number
  number_behind j =
      let same : from * lane_places + (k * lane_places + j) ≡ (from + k) * lane_places + j = omega arith in
      rw same refl

  -- where the whole is granted, so are both parts
  module _ (small : Bytes log) (some-k : 1 ≤ k) (some-n : 1 ≤ n) (ok : playout_answer pool log title from (k + n) ≡ done) where
    abbrev L : Life
    L = life_in pool log title

    all : Granted pool log title from (k + n)
    all = granted pool log title from (k + n) ok

    fits : in_limits pool title ≡ true
    fits = limits_in pool title from (k + n) all.limits

    -- a tick is a ms at least
    tick_some : 0 < tick_length L
    unfolding was_opened
    tick_some =
        let same = alike pool title fits log small in
        let some : 0 < (title_at (agent_played pool log).state title).film.cap = omega (arith, same.cap, ltb-true 0 L.film.cap all.opened) in
        rw (same.tick some) (same.some some)

    last_asked : moment_of L (last_tick_of from (k + n)) ≤ asked_max
    unfolding is_askable
    last_asked = leb-true (moment_of L (last_tick_of from (k + n))) asked_max all.asked

    few : k + n ≤ ticks_max
    few = ticks_high pool title from (k + n) all.limits

    early : (u : ℕ) → u ≤ last_tick_of from (k + n) → is_askable L u ≡ true
    unfolding is_askable
    early u le =
        let m : u * tick_length L ≤ last_tick_of from (k + n) * tick_length L = mul-le-mul_right (tick_length L) le in
        le-leb (moment_of L u) asked_max (omega (arith, last_asked))

    from_low : from + k ≤ asked_max
    from_low =
        let u : ℕ = last_tick_of from (k + n) in
        let m : u * 1 ≤ u * tick_length L = mul-le-mul_left u tick_some in
        omega (arith, last_asked)

    window : (a b : ℕ) → a ≤ asked_max → 1 ≤ b → b ≤ ticks_max → playout_limits pool title a b ≡ true
    unfolding playout_limits
    window a b soon some low = rw (fits, le-leb a asked_max soon, le-leb 1 b some, le-leb b ticks_max low) refl

    first_granted : playout_answer pool log title from k ≡ done
    first_granted =
        grants pool log title from k
        (record {
          limits = window from k (from_high pool title from (k + n) all.limits) some-k (omega (arith, few));
          whole = all.whole;
          opened = all.opened;
          asked = early (last_tick_of from k) (omega arith);
        })

    then_granted : playout_answer pool log title (from + k) n ≡ done
    then_granted =
        grants pool log title (from + k) n
        (record {
          limits = window (from + k) n from_low some-n (omega (arith, few));
          whole = all.whole;
          opened = all.opened;
          asked = early (last_tick_of (from + k) n) (omega arith);
        })

    pub rest : playout_text pool log title from (k + n) ≡ playout_text pool log title from k ++ playout_text pool log title (from + k) n
    unfolding playout_text
    rest =
        let places : (k + n) * lane_places ≡ k * lane_places + n * lane_places = omega arith in
        rw (ok, first_granted, then_granted, places)
        (lines_behind (playout_number pool log title from) (playout_number pool log title (from + k)) (k * lane_places) (omega arith) number_behind (n * lane_places))
