-- A cell's plan tick is its first showing, from the start on, on lanes 0 to k - 1; a cell that no box takes is never
-- shown. Once over floor, cap and count. And lanes that show the same are seen the same. Rests on the grid's laws of lanes, and on when a box takes each cell.
use mathlib.Core.Path.{◌≡◌, refl, sym, ap, ◌∙◌}
use mathlib.Core.Bool.{Bool, true}
use mathlib.Core.Logic.{⊎_elim}
use Prim.Native.Nat.{ℕ, ◌+◌, ◌-◌, ◌^◌, ◌≤◌, ◌<◌}
use native.Mathlib.Omega.{arith}
use lib.Dec.{ltb, eqb}
use borrow.Author.Tests.{ltb-true, ltb-false, lt-ltb, eqb-true, eq-eqb}
use Rattle.rules.specs.Search.{some, first}
use Rattle.rules.proofs.Tests.{decide, fails}
use Rattle.rules.proofs.Search.{some_in, some_out, first_hit_lem, first_least, some_ext, first_ext}
use Rattle.grid.specs.Ticks.{slot}
use Rattle.grid.specs.Channels.{InG}
use Rattle.grid.specs.Lanes.{lane_cell}
use Rattle.grid.specs.Bounds.{Carrier}
use Rattle.plans.specs.Padded.{plan_at}
use Rattle.grid.proofs.Lanes.{cell_of_lane, lane_of_cell}
use Rattle.grid.proofs.Carriers.{carries_only, carrier_one, carried_cell}
use Rattle.scheme.specs.Scheme.{padded, starts}
use Rattle.scheme.proofs.Takes.{Taken, taken_out, window_end}
use Rattle.scheme.proofs.Padded.{spans_fit}
use Rattle.scheme.proofs.Waits.{once}
use Rattle.plans.proofs.padded.Places.{plan_in_lem, plan_never}
use Rattle.rom.specs.Showing.{is_on_lanes, shown_after, seen_within}

-- of lanes that agree below k
pub seen_ext : (f g : ℕ → ℕ → ℕ) (k a n c : ℕ) → ((l t : ℕ) → l < k → f l t ≡ g l t) → seen_within f k a n c ≡ seen_within g k a n c
unfolding seen_within shown_after is_on_lanes
seen_ext f g k a n c e =
    let same : first (λ o. some (λ i. eqb (f i (a + o)) c) k) n ≡ first (λ o. some (λ i. eqb (g i (a + o)) c) k) n =
    first_ext _ _ n (λ o _. some_ext _ _ k (λ i b. ap (λ x. eqb x c) (e i (a + o) b))) in
    rw same refl

module _ (A K k : ℕ) (low : A ≤ k) (high : k ≤ K) where
  shown_in : (t c : ℕ) → InG A K k t c → is_on_lanes (lane_cell A K) k t c ≡ true
  unfolding is_on_lanes
  shown_in t c m =
      let r = lane_of_cell A K k t c low high m in
      some_in (λ i. eqb (lane_cell A K i t) c) k r.0 r.1 (eq-eqb (lane_cell A K r.0 t) c r.2)

  shown_out : (t c : ℕ) → is_on_lanes (lane_cell A K) k t c ≡ true → InG A K k t c
  unfolding is_on_lanes
  shown_out t c h =
      let r = some_out (λ i. eqb (lane_cell A K i t) c) k h in
      let m = cell_of_lane A K k r.0 t low high r.1 in
      (m.0, m.1, m.2 ∙ eqb-true (lane_cell A K r.0 t) c r.2)

  -- a cell of G(k, t) is on the channel that carries it
  on_carrier : (t c : ℕ) (m : InG A K k t c) → Carrier K k c m.0
  on_carrier t c m = let l : m.0 < k = m.1 in rw m.2 at (carries_only A K k m.0 t (omega arith))

  -- and none of the last w
  shown_cell : (t c : ℕ) → InG A K k t c → c < 2 ^ K - slot K k
  shown_cell t c m = carried_cell K k c m.0 high m.1 (on_carrier t c m)

  module _ (a c : ℕ) (floor : 0 < A) (start : starts (padded A K) k a ≡ true) where
    abbrev shown_at : ℕ → Bool
    shown_at o = is_on_lanes (lane_cell A K) k (a + o) c

    -- before a cell is taken, no lane shows it
    taken_first : (o f d : ℕ) → Taken (padded A K) k a c (a + o) d → f ≤ o → shown_at f ≡ true → f ≡ o
    taken_first o f d h l s =
        let m = shown_out (a + f) c s in
        let chan : d < k = h.channel in
        let same : m.0 ≡ d = carrier_one K k c m.0 d (on_carrier (a + f) c m) (on_carrier (a + o) c (d, chan, h.carries)) in
        let early : Taken (padded A K) k a c (a + f) d =
        record { channel = chan; from = omega arith; before = omega (arith, h.before); carries = rw same at m.2 } in
        omega (arith, (once A K k a c (a + f) d (a + o) d start early h).0)

    taken_seen : c < 2 ^ K - slot K k → seen_within (lane_cell A K) k a (2 ^ (K - 1)) c ≡ plan_at A K k a c
    unfolding seen_within shown_after
    taken_seen l =
        let n : ℕ = 2 ^ (K - 1) in
        let o : ℕ = plan_at A K k a c in
        let p = (plan_in_lem A K k a c high start l).0 in
        let r = taken_out (padded A K) k a c (a + o) p in
        let b : o < n = omega (arith, window_end (padded A K) K k a c (a + o) (λ d. spans_fit K k d high) p) in
        let s : shown_at o ≡ true = shown_in (a + o) c (r.0, r.1.channel, r.1.carries) in
        let f : first shown_at n ≤ o = first_least shown_at n o s in
        let i : first shown_at n < n = omega arith in
        rw (lt-ltb (first shown_at n) n i) (taken_first o (first shown_at n) r.0 r.1 f (first_hit_lem shown_at n i))

    never_seen : 2 ^ K - slot K k ≤ c → seen_within (lane_cell A K) k a (2 ^ (K - 1)) c ≡ plan_at A K k a c
    unfolding seen_within shown_after
    never_seen l =
        let n : ℕ = 2 ^ (K - 1) in
        let f : ℕ = first shown_at n in
        rw (fails (ltb f n)
        (λ t. omega (arith, shown_cell (a + f) c (shown_out (a + f) c (first_hit_lem shown_at n (ltb-true f n t))))))
        (sym (plan_never A K k a c high start l))

    -- half as many ticks as there are cells show all that a box takes
    pub seen_plan : seen_within (lane_cell A K) k a (2 ^ (K - 1)) c ≡ plan_at A K k a c
    seen_plan =
        ⊎_elim (λ t. taken_seen (ltb-true c (2 ^ K - slot K k) t)) (λ t. never_seen (ltb-false c (2 ^ K - slot K k) t))
        (decide (ltb c (2 ^ K - slot K k)))
