-- Skip-forward titles (02, 12): a box has the next block in time for a skip, over every accepted sequence, and what a lane
-- owes at a close: what the boxes of the tick before it still await. Rests on `planned_received` and on the steady lanes' laws.
use mathlib.Core.Path.{◌≡◌, sym, ap, ◌∙◌}
use mathlib.Core.Bool.{Bool, true}
use mathlib.Core.List.{List}
use Prim.Native.Nat.{ℕ, suc, ◌+◌, ◌-◌, ◌^◌, ◌≤◌, ◌<◌}
use native.Mathlib.Omega.{arith}
use native.Mathlib.Nat.{le_antisymm}
use lib.Dec.{ltb}
use lib.Pow.{pow_pos}
use borrow.Author.Tests.{ltb-true, lt-ltb, eq-eqb}
use Rattle.rules.specs.Limits.{both, pool_max, titles_max}
use Rattle.rules.specs.Search.{how_many}
use Rattle.rules.proofs.Tests.{same, fails}
use Rattle.rules.proofs.Search.{how_many_flat}
use Rattle.scheme.specs.Scheme.{Scheme, steady, steady_kind, steady_cell, period, takes, tick_for}
use Rattle.scheme.proofs.Takes.{taken_in_lem, taken_out}
use Rattle.scheme.proofs.Clock.{film_within}
use Rattle.scheme.proofs.SteadyLanes.{one_lane}
use Rattle.scheme.proofs.ByKind.{steady_scheme}
use Rattle.scheme.proofs.Turns.{ahead}
use Rattle.story.specs.Life.{Life, scheme, is_film, usual_cell, is_planned, is_admission, is_awaited, is_owed, reach, owed_within, owes}
use Rattle.story.specs.declared.Event.{Event}
use Rattle.story.specs.Story.{Accepted, life_at, ReceivedBy, Begins}
use Rattle.story.specs.Ruled.{Ruled}
use Rattle.story.proofs.Admissions.{admitted}
use Rattle.story.proofs.Owed.{awaited_in, awaited_out, owed_out}
use Rattle.story.proofs.Boxes.{planned_received, begun_lively}

module _ (L : Life) (kind : L.film.kind ≡ steady_kind) where
  -- its scheme is the steady one,
  pub is_steady_lem : scheme L ≡ steady
  is_steady_lem = steady_scheme L.film.kind L.film.floor L.film.cap kind

  -- and one count rules while boxes may begin
  pub one_count : Ruled L → (a : ℕ) → is_admission L a ≡ true → L.rule a ≡ L.film.cap
  one_count ruled a ad =
      let k = admitted L ruled a ad in
      le_antisymm (ruled.high a) (omega (arith, k.low, ruled.flat kind))

  pub planned_is : (k a c t : ℕ) → takes (scheme L) k a c t ≡ takes steady k a c t
  planned_is k a c t = ap (λ S. takes S k a c t) is_steady_lem

  cell_is : (l t : ℕ) → usual_cell L l t ≡ steady_cell l t
  cell_is l t = ap (λ (S : Scheme). S.on_lane l t) is_steady_lem

-- ---- ahead of what plays

-- while block c plays, block c + 1, if it has film, has been taken or is on air: a lane has it on air by then, whatever accepted
-- events follow, a close included
pub next_ahead : (lanes : ℕ) (es : List Event) → lanes ≤ pool_max → Accepted lanes es → (i τ a c : ℕ) → i < titles_max →
    (life_at es i τ).film.kind ≡ steady_kind → Begins es i τ a → is_film (life_at es i τ) (suc c) ≡ true →
    ReceivedBy es i (life_at es i τ) a (suc c) (a + c)
unfolding tick_for
next_ahead lanes es high acc i τ a c id kind b film =
    let L : Life = life_at es i τ in
    let ruled = (begun_lively lanes es high acc i τ a id b).ruled in
    let block = film_within L.film.length (2 ^ (L.film.cap - 1)) (suc c) (pow_pos (L.film.cap - 1))
    (rw (eq-eqb L.film.kind steady_kind kind) at film) in
    let n = ahead L.film.cap a c block in
    let planned : is_planned L a (suc c) n.0 ≡ true =
    ap (λ k. takes (scheme L) k a (suc c) n.0) (one_count L kind ruled a b.admission)
    ∙ planned_is L kind L.film.cap a (suc c) n.0
    ∙ n.2 in
    let r = planned_received lanes es high acc i τ a (suc c) n.0 id b film planned in
    record {
      lane = r.lane;
      tick = r.tick;
      lane_low = r.lane_low;
      from_start = r.from_start;
      by_then = omega (arith, r.by_then, n.1);
      same_opening = r.same_opening;
      carries = r.carries;
    }

-- ---- what is owed at a close

-- of a life that ends at tick a + 1 the boxes of tick a were the last
module _ (L : Life) (kind : L.film.kind ≡ steady_kind) (ruled : Ruled L) (a : ℕ) (last : is_admission L a ≡ true)
    (l : ℕ) (lane : l < L.film.cap) where
  -- they await the lane's cell for one period, and no box before them does for longer
  awaits : (t : ℕ) → suc a ≤ t → is_awaited L (suc a) (usual_cell L l t) t ≡ ltb t (a + period l)
  awaits t from = same (is_awaited L (suc a) (usual_cell L l t) t) (ltb t (a + period l)) there back
    where
      there : is_awaited L (suc a) (usual_cell L l t) t ≡ true → ltb t (a + period l) ≡ true
      there h =
          let o = awaited_out L (suc a) (usual_cell L l t) t h in
          let n = taken_out steady (L.rule o.0) o.0 (usual_cell L l t) t
          (sym (planned_is L kind (L.rule o.0) o.0 (usual_cell L l t) t) ∙ o.3) in
          let e : n.0 ≡ l = one_lane n.0 l t t (n.1.carries ∙ cell_is L kind l t) in
          lt-ltb t (a + period l) (omega (arith, o.1, n.1.before, ap period e))

      back : ltb t (a + period l) ≡ true → is_awaited L (suc a) (usual_cell L l t) t ≡ true
      back h =
          let count : l < L.rule a = omega (arith, one_count L kind ruled a last, lane) in
          awaited_in L (suc a) (usual_cell L l t) t a (omega arith) last
          (planned_is L kind (L.rule a) a (usual_cell L l t) t
          ∙ taken_in_lem steady (L.rule a) a (usual_cell L l t) t l
          (record { channel = count; from = omega arith; before = ltb-true t (a + period l) h; carries = sym (cell_is L kind l t) }))

  -- so the lane owes its cells of film in the ticks from the close on up to, not including, a + its period
  pub owed_exactly : (t : ℕ) → suc a ≤ t → is_owed L l (suc a) t ≡ both (is_film L (usual_cell L l t)) (ltb t (a + period l))
  unfolding is_owed
  owed_exactly t from = ap (both (is_film L (usual_cell L l t))) (awaits t from)

  -- and a lane whose cells come every tick, as lanes 0 and 1 do, owes nothing
  pub owes_nothing : period l ≡ 1 → owes L l (suc a) ≡ 0
  unfolding owes owed_within how_many
  owes_nothing one =
      let e : reach L.film.cap ≡ 0 + reach L.film.cap = omega arith in
      let p : ℕ → Bool = λ o. is_owed L l (suc a) (suc a + o) in
      ap (how_many p) e
      ∙ how_many_flat p 0 (reach L.film.cap)
      (λ o b. fails (p o)
      (λ h. omega (
        arith,
        one,
        ltb-true (suc a + o) (a + period l)
            (sym (awaits (suc a + o) (omega arith)) ∙ owed_out L l (suc a) (suc a + o) h),
      )))
