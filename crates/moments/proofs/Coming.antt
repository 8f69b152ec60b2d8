-- Over all times, within the clock or not: a title's rules permit a change again and again, so that a change that finds its lanes at some
-- time is due at some time, and at a first one. Rests on the laws of permitted times and of due ones.
use mathlib.Core.Path.{◌≡◌, refl, sym, ap, ◌∙◌}
use mathlib.Core.Bool.{Bool, true}
use mathlib.Core.Logic.{⊎_elim}
use Prim.Native.Nat.{ℕ, suc, ◌+◌, ◌-◌, ◌%◌, ◌≤◌, min, max}
use native.Mathlib.Omega.{arith}
use lib.Dec.{eqb}
use borrow.Author.Tests.{eqb-true, eqb-false}
use Rattle.rules.specs.Search.{first}
use Rattle.rules.proofs.Tests.{decide, both_in}
use Rattle.rules.proofs.Search
use Rattle.grid.proofs.Numbers.{ne_zero_pos}
use Rattle.story.specs.declared.Title.{Title}
use Rattle.story.specs.declared.State.{State}
use Rattle.story.specs.Kept.{title_at, settled_at}
use Rattle.story.specs.Calls.{at_slot_start}
use Rattle.measures.specs.Readable.{Filmed}
use Rattle.moments.specs.Moments.{is_permitted, has_lanes, is_due, FirstDue}
use Rattle.moments.specs.Searched.{Found, turns, permits}
use Rattle.moments.specs.Searched.{slot_ms}
use Rattle.moments.proofs.Permitted.{start_here, start_next, turn_first, turn_second, permitted_settled}
use Rattle.moments.proofs.Due.{lanes_stay, permitted_by}

module _ (t : Title) (c : ℕ) (film : Filmed t.film) where
  start_comes : (x : ℕ) → (r : ℕ) × Found (at_slot_start t c) x r r
  start_comes x =
      let m : ℕ = (x - t.opened) % slot_ms t c in
      ⊎_elim (λ z. (x, start_here t c film x x (omega arith) (eqb-true m 0 z)))
      (λ z.
      let r : ℕ = x + (slot_ms t c - m) in
      (r, start_next t c film x m refl (ne_zero_pos m (eqb-false m 0 z)) r (omega arith)))
      (decide (eqb m 0))

  turn_comes : (x : ℕ) → (r : ℕ) × Found (turns t c) x r r
  turn_comes x =
      let a = start_comes x in
      let b = start_comes (a.0 + 1) in
      ⊎_elim (λ z. (b.0, turn_second t c (omega arith) a.1 (eqb-true a.0 t.last z) b.1))
      (λ z. (a.0, turn_first t c (omega arith) a.1 (eqb-false a.0 t.last z)))
      (decide (eqb a.0 t.last))

  -- from any time on there is a first that the title's rules permit
  pub permitted_comes : (τ : ℕ) → (r : ℕ) × Found (permits t c) τ r r
  permitted_comes τ = let a = turn_comes (max τ (settled_at t)) in (a.0, permitted_settled t c a.1)

-- from any time on a change is due at a first time, once it finds its lanes at some time
pub due_comes : (s : State) (i k : ℕ) → Filmed (title_at s i).film → (τ σ : ℕ) → has_lanes s i k σ ≡ true →
    (r : ℕ) × FirstDue s i k τ r
unfolding is_due
due_comes s i k film τ σ lanes =
    let p = permitted_comes (title_at s i) (min (title_at s i).count k) film (max τ σ) in
    let on : is_due s i k p.0 ≡ true =
    both_in (is_permitted s i k p.0) (has_lanes s i k p.0) (permitted_by s i k p.0 ∙ p.1.hit)
    (lanes_stay s i k σ p.0 (omega (arith, p.1.after)) lanes) in
    let q : ℕ → Bool = λ o. is_due s i k (τ + o) in
    let n : ℕ = suc (p.0 - τ) in
    let e : τ + (p.0 - τ) ≡ p.0 = omega (arith, p.1.after) in
    let least : first q n ≤ p.0 - τ = Search.first_least q n (p.0 - τ) (ap (is_due s i k) e ∙ on) in (
      τ + first q n,
      record {
        after = omega arith;
        due = Search.first_hit_lem q n (omega arith);
        no_earlier = λ υ lo hi.
            let f : τ + (υ - τ) ≡ υ = omega arith in
            sym (ap (is_due s i k) f) ∙ Search.first_before q n (υ - τ) (omega arith);
      },
    )
