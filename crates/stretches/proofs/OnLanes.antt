-- What the boxes of a skip-forward title still await: all began under its one count, and take a lane's cell from that lane
-- alone, for one period. Rests on the law that no two lanes have a cell in common.
use mathlib.Core.Path.{◌≡◌, refl, sym, ◌∙◌}
use mathlib.Core.Bool.{Bool, true}
use Prim.Native.Nat.{ℕ, suc, ◌+◌, ◌≤◌, ◌<◌}
use native.Mathlib.Omega.{arith}
use native.Mathlib.Nat.{le_antisymm}
use lib.Dec.{leb, ltb, eqb}
use lib.ListN.{get_or}
use borrow.Author.Tests.{leb-true, le-leb, lt-ltb, eqb-true, eq-eqb}
use Rattle.rules.specs.Limits.{both}
use Rattle.rules.proofs.Tests.{both_l, both_r, both_true}
use Rattle.grid.proofs.Carriers.{some_one}
use Rattle.scheme.specs.Scheme.{steady_kind, steady_cell, period}
use Rattle.scheme.proofs.SteadyLanes.{one_lane}
use Rattle.scheme.proofs.ByKind.{steady_scheme}
use Rattle.story.specs.declared.Title.{Title}
use Rattle.story.specs.Kept.{scheme_in, wants_from, wants, kept_awaited}

module _ (t : Title) (is : t.film.kind ≡ steady_kind) (l x u : ℕ) (own : x ≡ (scheme_in t).on_lane l u) where
  own_cell : x ≡ steady_cell l u
  own_cell = rw (steady_scheme t.film.kind t.film.floor t.film.cap is) at own

  wants_on : (c d : ℕ) → wants_from (scheme_in t) (get_or t.ends c 0) x u c d ≡ both (ltb (u + 1) (get_or t.ends c 0 + period d)) (eqb (steady_cell d u) x)
  unfolding wants_from
  wants_on c d = rw (steady_scheme t.film.kind t.film.floor t.film.cap is) refl

  wants_own : (c : ℕ) → l < c → wants (scheme_in t) (get_or t.ends c 0) x u c ≡ both (ltb 0 (get_or t.ends c 0)) (ltb (u + 1) (get_or t.ends c 0 + period l))
  unfolding wants
  wants_own c has =
      let late : Bool = ltb (u + 1) (get_or t.ends c 0 + period l) in
      rw (some_one (wants_from (scheme_in t) (get_or t.ends c 0) x u c) c l only, wants_on c l, lt-ltb l c has, eq-eqb (steady_cell l u) x (sym own_cell), both_true late) refl
    where
      only : (e : ℕ) → e < c → wants_from (scheme_in t) (get_or t.ends c 0) x u c e ≡ true → e ≡ l
      only e b h =
          let on : steady_cell e u ≡ x =
          eqb-true (steady_cell e u) x (both_r (ltb (u + 1) (get_or t.ends c 0 + period e)) (eqb (steady_cell e u) x) (sym (wants_on c e) ∙ h)) in
          one_lane e l u u (on ∙ own_cell)

  pub awaited_own : t.film.floor ≡ t.film.cap → l < t.film.cap →
      kept_awaited t l x u ≡ both (ltb 0 (get_or t.ends t.film.cap 0)) (ltb (u + 1) (get_or t.ends t.film.cap 0 + period l))
  unfolding kept_awaited
  awaited_own flat has =
      some_one (λ c. both (ltb l c) (both (leb t.film.floor c) (wants (scheme_in t) (get_or t.ends c 0) x u c))) (suc t.film.cap) t.film.cap only
      ∙ rw (lt-ltb t.film.cap (suc t.film.cap) (omega arith), lt-ltb l t.film.cap has, le-leb t.film.floor t.film.cap (omega arith)) (wants_own t.film.cap has)
    where
      only : (e : ℕ) → e < suc t.film.cap → both (ltb l e) (both (leb t.film.floor e) (wants (scheme_in t) (get_or t.ends e 0) x u e)) ≡ true → e ≡ t.film.cap
      only e b h =
          let low : t.film.floor ≤ e =
          leb-true t.film.floor e (both_l (leb t.film.floor e) (wants (scheme_in t) (get_or t.ends e 0) x u e) (both_r (ltb l e) (both (leb t.film.floor e) (wants (scheme_in t) (get_or t.ends e 0) x u e)) h)) in
          le_antisymm (omega arith) (omega arith)
