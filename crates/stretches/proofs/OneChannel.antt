-- Under a count a cell goes out on one channel only, so that the latest boxes of the count want it from there or not at
-- all: where it goes out, just while they take that channel. A lane's own cell goes out under every count that has the
-- lane. Rests on the grid's laws of lanes and of the one channel of a cell.
use mathlib.Core.Path.{◌≡◌, sym, ap, ◌∙◌}
use mathlib.Core.Bool.{Bool, true}
use Prim.Native.Nat.{ℕ, suc, ◌+◌, ◌*◌, ◌^◌, ◌≤◌, ◌<◌}
use native.Mathlib.Omega.{arith}
use lib.Dec.{leb, ltb, eqb}
use lib.ListN.{get_or}
use borrow.Author.Tests.{eqb-true, ltb-true, lt-ltb, le-leb, leb-true}
use Rattle.rules.specs.Limits.{both}
use Rattle.rules.specs.Search.{some}
use Rattle.rules.proofs.Tests.{both_l, both_r, both_in, both_true}
use Rattle.rules.proofs.Search.{some_in, some_out}
use Rattle.grid.specs.Ticks.{slot}
use Rattle.grid.specs.Channels.{channel_cell}
use Rattle.grid.specs.Lanes.{is_in_g, lane_cell}
use Rattle.grid.specs.Bounds.{Carrier}
use Rattle.grid.proofs.Lanes.{is_in_g_in, cell_of_lane}
use Rattle.grid.proofs.Carriers.{carries_only, carrier_one, some_one, in_carried}
use Rattle.scheme.specs.Scheme.{Scheme, padded, steady_kind}
use Rattle.scheme.proofs.ByKind.{padded_scheme}
use Rattle.story.specs.declared.Title.{Title}
use Rattle.story.specs.Kept.{scheme_in, wants_from, wants, kept_awaited}

module _ (A K c end x u : ℕ) where
  wants_carried : (d : ℕ) → Carrier K c x d
      → some (wants_from (padded A K) end x u c) c ≡ both (ltb d c) (wants_from (padded A K) end x u c d)
  unfolding wants_from
  wants_carried d h = some_one (wants_from (padded A K) end x u c) c d only
    where
      only : (e : ℕ) → e < c → wants_from (padded A K) end x u c e ≡ true → e ≡ d
      only e l b =
          let w : ℕ = slot K c in
          let on : channel_cell A K c e u ≡ x =
          eqb-true (channel_cell A K c e u) x
          (both_r (ltb (u + w) (end + w * 2 ^ e)) (eqb (channel_cell A K c e u) x) b) in
          carrier_one K c x e d (rw on at (carries_only A K c e u (omega arith))) h

  -- and where the cell goes out at the tick, just while they take that channel
  module _ (d : ℕ) (h : Carrier K c x d) (on : is_in_g A K c u x ≡ true) where
    carried : both (ltb d c) (eqb (channel_cell A K c d u) x) ≡ true
    carried = sym (in_carried A K c u x d h) ∙ on

    pub channel_low : d < c
    channel_low = ltb-true d c (both_l (ltb d c) (eqb (channel_cell A K c d u) x) carried)

    pub wants_window : 0 < end → wants (padded A K) end x u c ≡ ltb (u + slot K c) (end + slot K c * 2 ^ d)
    unfolding wants wants_from
    wants_window ruled =
        rw (lt-ltb 0 end ruled)
        (wants_carried d h
        ∙ rw (both_l (ltb d c) (eqb (channel_cell A K c d u) x) carried, both_r (ltb d c) (eqb (channel_cell A K c d u) x) carried)
        (both_true (ltb (u + slot K c) (end + slot K c * 2 ^ d))))

-- of a count of a title on the padded grid
pub padded_wants : (t : Title) (x u c : ℕ) → (t.film.kind ≡ steady_kind → ⊥)
    → wants (padded t.film.floor t.film.cap) (get_or t.ends c 0) x u c ≡ wants (scheme_in t) (get_or t.ends c 0) x u c
padded_wants t x u c off =
    ap (λ (S : Scheme). wants S (get_or t.ends c 0) x u c) (sym (padded_scheme t.film.kind t.film.floor t.film.cap off))

-- and of the counts that have lane l, which all have its cell
pub own_cell : (A K l k u x : ℕ) → k ≤ K → l < k → x ≡ lane_cell A K l u → A ≤ k → is_in_g A K k u x ≡ true
own_cell A K l k u x high has e low = rw e (is_in_g_in A K k u (lane_cell A K l u) (cell_of_lane A K k l u low high has))

-- the boxes of some count that await a cell
pub some_awaits : (t : Title) (l u x : ℕ) → kept_awaited t l x u ≡ true →
    (c : ℕ) × (l < c) × (t.film.floor ≤ c) × (c ≤ t.film.cap) × (wants (scheme_in t) (get_or t.ends c 0) x u c ≡ true)
unfolding kept_awaited
some_awaits t l u x b =
    let p : ℕ → Bool = λ c. both (ltb l c) (both (leb t.film.floor c) (wants (scheme_in t) (get_or t.ends c 0) x u c)) in
    let r = some_out p (suc t.film.cap) b in
    let c : ℕ = r.0 in
    let takes : Bool = wants (scheme_in t) (get_or t.ends c 0) x u c in (
      c,
      ltb-true l c (both_l (ltb l c) (both (leb t.film.floor c) takes) r.2),
      leb-true t.film.floor c (both_l (leb t.film.floor c) takes (both_r (ltb l c) (both (leb t.film.floor c) takes) r.2)),
      omega (arith, r.1),
      both_r (leb t.film.floor c) takes (both_r (ltb l c) (both (leb t.film.floor c) takes) r.2),
    )

pub awaits_in : (t : Title) (l u x c : ℕ) → l < c → t.film.floor ≤ c → c ≤ t.film.cap → wants (scheme_in t) (get_or t.ends c 0) x u c ≡ true →
    kept_awaited t l x u ≡ true
unfolding kept_awaited
awaits_in t l u x c has low fit takes =
    some_in (λ c. both (ltb l c) (both (leb t.film.floor c) (wants (scheme_in t) (get_or t.ends c 0) x u c))) (suc t.film.cap) c (omega arith)
    (both_in (ltb l c) (both (leb t.film.floor c) (wants (scheme_in t) (get_or t.ends c 0) x u c)) (lt-ltb l c has)
    (both_in (leb t.film.floor c) (wants (scheme_in t) (get_or t.ends c 0) x u c) (le-leb t.film.floor c low) takes))
