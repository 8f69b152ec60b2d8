-- What a skip-forward title owes on a lane that is dropped after its count had ended: of the turn that runs then, and of the next. Rests on
-- what its boxes await.
use mathlib.Core.Path.{◌≡◌, refl, sym, ap, ◌∙◌}
use mathlib.Core.Bool.{Bool, true, false}
use mathlib.Core.Logic.{⊎_elim}
use Prim.Native.Nat.{ℕ, zero, suc, ◌+◌, ◌-◌, ◌*◌, ◌/◌, ◌%◌, ◌^◌, ◌≤◌, ◌<◌, min}
use native.Mathlib.Omega.{arith}
use native.Mathlib.Nat.{mod-lt, div-add-mod, pos_of_ne-zero}
use lib.Dec.{ltb, eqb}
use lib.ListN.{get_or}
use lib.Pow.{pow_pos}
use borrow.Author.Tests.{eqb-true, eqb-false, lt-ltb, le-ltb, ltb-true, ltb-false}
use Rattle.rules.specs.Limits.{both}
use Rattle.rules.specs.Refusals.{pick}
use Rattle.rules.specs.Search.{first, how_many}
use Rattle.rules.proofs.Tests.{decide, both_l, both_r, both_in, both_none, same, pick_true, pick_false}
use Rattle.grid.specs.Ticks.{rounded_up}
use Rattle.grid.proofs.Numbers.{mod_unique}
use Rattle.scheme.specs.Scheme.{steady_kind, steady_cell, period}
use Rattle.scheme.proofs.ByKind.{steady_scheme}
use Rattle.scheme.proofs.Clock.{tick_pos}
use Rattle.scheme.proofs.SteadyLanes.{period_fits}
use Rattle.story.specs.declared.Title.{Title}
use Rattle.story.specs.Life.{reach}
use Rattle.story.specs.Kept.{scheme_in, title_tick, kept_owed, kept_within, kept_nth}
use Rattle.measures.specs.Readable.{Filmed}
use Rattle.stretches.specs.declared.turns.Turns.{Turns}
use Rattle.stretches.specs.inner.Turns.{turn_till, turn_left, turn_due, TurnsAt}
use Rattle.stretches.proofs.Counted.{prefix, nth_is, nth_none}
use Rattle.stretches.proofs.OnLanes.{awaited_own}
use Rattle.stretches.proofs.FilmCells.{film_cells_lem}

pub period_pos : (l : ℕ) → 0 < period l
period_pos zero = omega arith
period_pos (suc i) = pow_pos i

-- within a turn the cells come in order
turn_cell : (l u o : ℕ) → o < turn_left l u → steady_cell l (u + o) ≡ steady_cell l u + o
unfolding steady_cell
turn_cell zero u o b =
    let m : u % 1 < 1 = mod-lt u (omega arith) in
    omega arith
turn_cell (suc i) u o b =
    let w : ℕ = 2 ^ i in
    let m : u % w < w = mod-lt u (pow_pos i) in
    let e : w * (u / w) + u % w ≡ u = div-add-mod u w in
    let f : (u + o) % w ≡ u % w + o = mod_unique w (u % w + o) (u + o) 0 (u / w) (omega arith) (omega arith) in
    omega arith

-- the boxes' window, as one bound
window : (l u end : ℕ) → both (ltb 0 end) (ltb (u + 1) (end + period l)) ≡ ltb u (turn_till l end)
unfolding turn_till
window l u end =
    let p : 0 < period l = period_pos l in
    ⊎_elim
    (λ z. rw (pick_true (eqb end 0) 0 (end + (period l - 1)) z, le-ltb 0 end (omega (arith, eqb-true end 0 z)), le-ltb u 0 (omega arith)) refl)
    (λ z.
    rw (pick_false (eqb end 0) 0 (end + (period l - 1)) z, lt-ltb 0 end (pos_of_ne-zero (eqb-false end 0 z)))
    (same (ltb (u + 1) (end + period l)) (ltb u (end + (period l - 1)))
    (λ t. let h : u + 1 < end + period l = ltb-true (u + 1) (end + period l) t in lt-ltb u (end + (period l - 1)) (omega arith))
    (λ t. let h : u < end + (period l - 1) = ltb-true u (end + (period l - 1)) t in lt-ltb (u + 1) (end + period l) (omega arith))))
    (decide (eqb end 0))

module _ (t : Title) (l : ℕ) (is : t.film.kind ≡ steady_kind) (f : Filmed t.film) (has : l < t.film.cap) where
  tick_owed : (u : ℕ) → kept_owed t l u
      ≡ both (ltb (steady_cell l u) (rounded_up t.film.length (title_tick t))) (ltb u (turn_till l (get_or t.ends t.film.cap 0)))
  unfolding kept_owed
  tick_owed u =
      let own : (scheme_in t).on_lane l u ≡ steady_cell l u = rw (steady_scheme t.film.kind t.film.floor t.film.cap is) refl in
      let wait = awaited_own t is l ((scheme_in t).on_lane l u) u refl (f.flat is) has ∙ window l u (get_or t.ends t.film.cap 0) in
      let film = film_cells_lem t.film.length (title_tick t) (steady_cell l u) (tick_pos t.film.kind t.film.length t.film.floor t.film.cap f.sized.low f.cut.low f.cut.fit) in
      rw (wait, own, film) refl

  turn_owed : (u o : ℕ) → o < turn_left l u → kept_owed t l (u + o) ≡ ltb o (turn_due t.film l (get_or t.ends t.film.cap 0) u)
  unfolding turn_due
  turn_owed u o b =
      let F : ℕ = rounded_up t.film.length (title_tick t) in
      let m : ℕ = turn_till l (get_or t.ends t.film.cap 0) in
      let c : ℕ = steady_cell l u in
      tick_owed (u + o)
      ∙ rw (turn_cell l u o b)
      (same (both (ltb (c + o) F) (ltb (u + o) m)) (ltb o (min (m - u) (F - c)))
      (λ y.
      let p : c + o < F = ltb-true (c + o) F (both_l (ltb (c + o) F) (ltb (u + o) m) y) in
      let q : u + o < m = ltb-true (u + o) m (both_r (ltb (c + o) F) (ltb (u + o) m) y) in
      lt-ltb o (min (m - u) (F - c)) (omega arith))
      (λ y.
      let p : o < min (m - u) (F - c) = ltb-true o (min (m - u) (F - c)) y in
      both_in (ltb (c + o) F) (ltb (u + o) m) (lt-ltb (c + o) F (omega arith)) (lt-ltb (u + o) m (omega arith))))

  past_turns : (u : ℕ) → turn_till l (get_or t.ends t.film.cap 0) ≤ u → kept_owed t l u ≡ false
  past_turns u late =
      tick_owed u
      ∙ rw (le-ltb u (turn_till l (get_or t.ends t.film.cap 0)) late) (both_none (ltb (steady_cell l u) (rounded_up t.film.length (title_tick t))))

  -- ---- dropped at tick T, when the count had ended

  module _ (T : ℕ) (past : get_or t.ends t.film.cap 0 ≤ T) (r : Turns) (turns : TurnsAt t.film l (get_or t.ends t.film.cap 0) T r) where
    soon : turn_till l (get_or t.ends t.film.cap 0) < T + period l
    unfolding turn_till
    soon =
        let e : ℕ = get_or t.ends t.film.cap 0 in
        let p : 0 < period l = period_pos l in
        elim (eqb e 0) as (λ b. pick b 0 (e + (period l - 1)) < T + period l) [ true ↦ omega arith | false ↦ omega arith ]

    next_turn : turn_left l (T + turn_left l T) ≡ period l
    next_turn =
        let w : ℕ = period l in
        let m : T % w < w = mod-lt T (period_pos l) in
        let e : w * (T / w) + T % w ≡ T = div-add-mod T w in
        let f : (T + (w - T % w)) % w ≡ 0 = mod_unique w 0 (T + (w - T % w)) 0 (T / w + 1) (period_pos l) (omega arith) in
        omega arith

    in_first : (o : ℕ) → o < r.left → kept_owed t l (T + (0 + o)) ≡ ltb o (turn_due t.film l (get_or t.ends t.film.cap 0) T)
    in_first o b =
        let e : T + (0 + o) ≡ T + o = omega arith in
        rw e (turn_owed T o (omega (arith, turns.left)))

    in_second : (o : ℕ) → o < period l → kept_owed t l (T + (r.left + o)) ≡ ltb o r.second
    in_second o b =
        let e : T + (r.left + o) ≡ T + turn_left l T + o = omega (arith, turns.left) in
        rw (e, turns.second) (turn_owed (T + turn_left l T) o (omega (arith, next_turn)))

    within_turn : r.second ≤ period l
    unfolding turn_due
    within_turn = omega (arith, soon, turns.second)

    first_counted : (o : ℕ) → o ≤ r.left → o ≤ turn_due t.film l (get_or t.ends t.film.cap 0) T → how_many (λ o. kept_owed t l (T + o)) o ≡ o
    unfolding how_many
    first_counted o b d =
        let p : ℕ → Bool = λ o. kept_owed t l (T + o) in
        let z : 0 + o ≡ o = omega arith in
        let c : how_many p (0 + o) ≡ how_many p 0 + min o (turn_due t.film l (get_or t.ends t.film.cap 0) T) = prefix p 0 o (turn_due t.film l (get_or t.ends t.film.cap 0) T) (λ j k. in_first j (omega arith)) in
        ap (how_many p) (sym z) ∙ c ∙ omega arith

    first_turn : how_many (λ o. kept_owed t l (T + o)) r.left ≡ r.first
    unfolding how_many
    first_turn =
        let p : ℕ → Bool = λ o. kept_owed t l (T + o) in
        let z : 0 + r.left ≡ r.left = omega arith in
        let c : how_many p (0 + r.left) ≡ how_many p 0 + min r.left (turn_due t.film l (get_or t.ends t.film.cap 0) T) = prefix p 0 r.left (turn_due t.film l (get_or t.ends t.film.cap 0) T) in_first in
        ap (how_many p) (sym z) ∙ c ∙ omega (arith, turns.first, turns.left)

    second_counted : (o : ℕ) → o ≤ r.second → how_many (λ o. kept_owed t l (T + o)) (r.left + o) ≡ r.first + o
    second_counted o b =
        prefix (λ o. kept_owed t l (T + o)) r.left o r.second (λ j k. in_second j (omega (arith, within_turn))) ∙ omega (arith, first_turn)

    -- nothing is owed after both
    flat : (n N : ℕ) → turn_till l (get_or t.ends t.film.cap 0) ≤ T + n → n ≤ N → how_many (λ o. kept_owed t l (T + o)) N ≡ how_many (λ o. kept_owed t l (T + o)) n
    flat n N late b =
        let p : ℕ → Bool = λ o. kept_owed t l (T + o) in
        let q : n + (N - n) ≡ N = omega arith in
        ap (how_many p) (sym q) ∙ prefix p n (N - n) 0 (λ o k. past_turns (T + (n + o)) (omega arith) ∙ sym (le-ltb o 0 (omega arith))) ∙ omega arith

    both_turns : how_many (λ o. kept_owed t l (T + o)) (r.left + period l) ≡ r.first + r.second
    both_turns = prefix (λ o. kept_owed t l (T + o)) r.left (period l) r.second in_second ∙ omega (arith, first_turn, within_turn)

    pub turns_owe : kept_within t l T (reach t.film.cap) ≡ r.first + r.second
    unfolding kept_within reach
    turns_owe =
        let w : period l ≤ 2 ^ (t.film.cap - 1) = period_fits t.film.cap l has in
        let p : ℕ → Bool = λ o. kept_owed t l (T + o) in
        ⊎_elim
        (λ x.
        let far : 2 ^ (t.film.cap - 1) < r.left + period l = ltb-true (2 ^ (t.film.cap - 1)) (r.left + period l) x in
        sym (flat (2 ^ (t.film.cap - 1)) (r.left + period l) (omega (arith, soon)) (omega arith)) ∙ both_turns)
        (λ x.
        let far : r.left + period l ≤ 2 ^ (t.film.cap - 1) = ltb-false (2 ^ (t.film.cap - 1)) (r.left + period l) x in
        flat (r.left + period l) (2 ^ (t.film.cap - 1)) (omega (arith, soon)) far ∙ both_turns)
        (decide (ltb (2 ^ (t.film.cap - 1)) (r.left + period l)))

    pub nth_first : (n : ℕ) → n < r.first → n ≡ first (kept_nth t l T n) (reach t.film.cap)
    unfolding kept_nth kept_within reach turn_due
    nth_first n b =
        let w : period l ≤ 2 ^ (t.film.cap - 1) = period_fits t.film.cap l has in
        let d : n < turn_due t.film l (get_or t.ends t.film.cap 0) T = omega (arith, turns.first) in
        let e : T + (0 + n) ≡ T + n = omega arith in
        let here : kept_owed t l (T + n) ≡ true = rw e at (in_first n (omega (arith, turns.first, turns.left)) ∙ lt-ltb n (turn_due t.film l (get_or t.ends t.film.cap 0) T) d) in
        sym (nth_is (λ o. kept_owed t l (T + o)) (2 ^ (t.film.cap - 1)) n n (omega (arith, soon)) here (first_counted n (omega (arith, turns.first, turns.left)) (omega arith)))

    pub nth_second : (n : ℕ) → r.first ≤ n → n < r.first + r.second → r.left + (n - r.first) ≡ first (kept_nth t l T n) (reach t.film.cap)
    unfolding kept_nth kept_within reach turn_due
    nth_second n a b =
        let w : period l ≤ 2 ^ (t.film.cap - 1) = period_fits t.film.cap l has in
        let o : ℕ = n - r.first in
        let here : kept_owed t l (T + (r.left + o)) ≡ true = in_second o (omega (arith, within_turn)) ∙ lt-ltb o r.second (omega arith) in
        sym (nth_is (λ o. kept_owed t l (T + o)) (2 ^ (t.film.cap - 1)) n (r.left + o) (omega (arith, soon, turns.second, turns.left)) here (second_counted o (omega arith) ∙ omega arith))

    pub nth_none_left : (n : ℕ) → r.first + r.second ≤ n → reach t.film.cap ≡ first (kept_nth t l T n) (reach t.film.cap)
    unfolding kept_nth kept_within
    nth_none_left n few = sym (nth_none (λ o. kept_owed t l (T + o)) (reach t.film.cap) n (omega (arith, turns_owe)))
