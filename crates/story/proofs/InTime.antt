-- No box runs dry, for one title's life: each cell that holds film is on air on one of the title's lanes at or after
-- the box's start and no later than the cell's turn, whatever the rule does after it. Rests on the laws of a scheme (every
-- such cell is in the plan, on a channel, and so on a lane) and on the laws of owed ticks.
use mathlib.Core.Path.{◌≡◌, sym, ap, ◌∙◌}
use mathlib.Core.Bool.{Bool, true, false, false≢true}
use mathlib.Core.Logic.{⊎_elim}
use Prim.Native.Nat.{ℕ, ◌+◌, ◌-◌, ◌≤◌, ◌<◌}
use native.Mathlib.Omega.{arith}
use native.Mathlib.Nat.{le_antisymm}
use lib.Dec.{ltb}
use borrow.Author.Tests.{ltb-true, ltb-false, lt-ltb}
use Rattle.rules.specs.Search.{after}
use Rattle.rules.proofs.Tests.{decide}
use Rattle.rules.proofs.Search
use Rattle.scheme.proofs.Takes.{taken_out}
use Rattle.story.specs.Life.{Life, scheme, is_film, usual_cell, is_planned, is_admission, is_active, dropped_at, is_owed, reach}
use Rattle.story.specs.Life.{owed_within, cell, on_air}
use Rattle.story.specs.Ruled.{Ruled}
use Rattle.story.proofs.Admissions.{admitted}
use Rattle.story.proofs.Owed.{after_between, awaited_in, owed_in, owed_reach, sends_owed, rank_le, air_sends}
use Rattle.story.proofs.Owed.{air_active}

-- of two ticks with different answers, in this order, the first is earlier
pub earlier : (p : ℕ → Bool) (a u : ℕ) → a ≤ u → p a ≡ true → p u ≡ false → a < u
earlier p a u le on off =
    ⊎_elim (λ t. ltb-true a u t)
    (λ t. let e : a ≡ u = le_antisymm le (ltb-false a u t) in absurd (false≢true (sym off ∙ rw e at on)))
    (decide (ltb a u))

-- a test that fails at u has failed ever since it last passed
pub silent : (p : ℕ → Bool) (u t : ℕ) → p u ≡ false → after p u ≤ t → t ≤ u → p t ≡ false
silent p u t off lo hi =
    ⊎_elim (λ b. Search.after_none p u t lo b) (λ e. rw e off) (Search.below_suc t u (omega arith))

pub active_below : (L : Life) (l t : ℕ) → l < L.rule t → is_active L l t ≡ true
unfolding is_active
active_below L l t b = lt-ltb l (L.rule t) b

module _ (L : Life) (ruled : Ruled L) where
  -- a tick of a plan whose cell holds film and whose lane has been dropped meanwhile is owed; its cell goes out by then
  pub dropped_in_time : (a l u : ℕ) → is_admission L a ≡ true → l < L.rule a →
      is_planned L a (usual_cell L l u) u ≡ true → is_film L (usual_cell L l u) ≡ true → is_active L l u ≡ false →
      (t : ℕ) × (a ≤ t) × (t ≤ u) × (on_air L l t ≡ cell (usual_cell L l u))
  unfolding dropped_at
  dropped_in_time a l u ad b pl film off =
      let p : ℕ → Bool = is_active L l in
      let T : ℕ = after p u in
      let up : T ≤ u = Search.after_le p u in
      let start : a ≤ u = (taken_out (scheme L) (L.rule a) a (usual_cell L l u) u pl).1.from in
      let then : p a ≡ true = active_below L l a b in
      let late : a < T = Search.after_above p u a (earlier p a u start then off) then in
      let o : ℕ = u - T in
      let eo : T + o ≡ u = omega arith in
      let owed : is_owed L l T (T + o) ≡ true =
      rw eo (owed_in L l T u film (awaited_in L T (usual_cell L l u) u a late ad pl)) in
      let near : o < reach L.film.cap = omega (arith, owed_reach L l T ruled (T + o) owed) in
      let i : ℕ = owed_within L l T o in
      let no_later : i ≤ o = rank_le L l T o in
      let t : ℕ = T + i in
      let same : after p t ≡ T = after_between p u t (omega arith) (omega arith) in
      let quiet : p t ≡ false = silent p u t off (omega arith) (omega arith) in
      let gone : t - T ≡ i = omega arith in
      let out : on_air L l t ≡ cell (usual_cell L l (T + o)) =
      air_sends L l t quiet ∙ rw (same, gone) (sends_owed L l T o near owed) in
      (t, omega arith, omega arith, out ∙ ap (λ (x : ℕ). cell (usual_cell L l x)) eo)

  -- every cell with film in the plan of an admission is on air on a lane, from the start on and no later than its
  -- planned tick
  pub planned_in_time : (a c u : ℕ) → is_admission L a ≡ true → is_planned L a c u ≡ true → is_film L c ≡ true →
      (l : ℕ) × (l < L.film.cap) × (t : ℕ) × (a ≤ t) × (t ≤ u) × (on_air L l t ≡ cell c)
  planned_in_time a c u ad pl film =
      let k : ℕ = L.rule a in
      let high : k ≤ L.film.cap = ruled.high a in
      let s = taken_out (scheme L) k a c u pl in
      let lane = ruled.laws.on_lane_holds k s.0 u (admitted L ruled a ad).low high s.1.channel in
      let l : ℕ = lane.0 in
      let e : usual_cell L l u ≡ c = lane.2 ∙ s.1.carries in
      let pl' : is_planned L a (usual_cell L l u) u ≡ true = rw e pl in
      let film' : is_film L (usual_cell L l u) ≡ true = rw e film in
      ⊎_elim
      (λ on. (l, omega (arith, lane.1), u, s.1.from, omega arith, air_active L l u on ∙ ap cell e))
      (λ off.
      let d = dropped_in_time a l u ad lane.1 pl' film' off in
      (l, omega (arith, lane.1), d.0, d.1, d.2, d.3 ∙ ap cell e))
      (decide (is_active L l u))
