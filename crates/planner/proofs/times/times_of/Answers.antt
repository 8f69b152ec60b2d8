-- `times_of` meets its contract. The loop's invariant: the wishes passed have come true, from the given state and time on, and
-- their moments stand in the places passed.
use mathlib.Core.Path.{◌≡◌, refl, sym, ap, ◌∙◌}
use mathlib.Core.List.{map}
use Prim.Native.Nat.{ℕ}
use native.Mathlib.Omega.{arith}
use native.Mathlib.Numerals.{add-one}
use native.Mathlib.Nat.{le_antisymm}
use lib.ListN.{length-set}
use Rattle.wishes.specs.Wishes.{wish_at, wishes_to}
use Rattle.planner.specs.Moves.{listed}
use Rattle.planner.specs.inner.Steps.{last_moment, first_of}
use Rattle.planner.proofs.Running.{running_none, still_fits, fit_changeable, running_more, row_more}
use Rattle.planner.proofs.times.times_of.Goals as goal

pub loop-j-init : goal.loop-j-init
unfolding first_of wishes_to listed
loop-j-init c =
    let start = c in
    (refl, running_none start.args.s start.args.time start.requires.s_value start.requires.time_le_event_time_max.0, refl)

pub due_at-last-requires : goal.due_at-last-requires
due_at-last-requires c = let l = c.loop-j in
    let start = c in
    let a = start.args in
    let w = wish_at a.w.titles a.w.counts l.j in
    let r = l.invariant.1 in
    let f = still_fits a.s l.q w r.framed (start.requires.wishes_fit l.j c.loop-j-test.true) in
    record { s_value = r.ok; id_le_id_max = (f.an_id, (f.is_open, f.high)); id_bound = (f.low, omega (arith, r.high, start.requires.time_le_event_time_max.0)) }

pub moved-q-requires : goal.moved-q-requires
moved-q-requires c = let l = c.loop-j in
    let start = c in
    let a = start.args in
    let w = wish_at a.w.titles a.w.counts l.j in
    let r = l.invariant.1 in
    let f = still_fits a.s l.q w r.framed (start.requires.wishes_fit l.j c.loop-j-test.true) in
    record { id_le_id_max = (f.an_id, omega (arith, c.due_at-last.ensures.high)); changeable = fit_changeable l.q w r.ok f }

pub loop-j-preserved : goal.loop-j-preserved
unfolding wishes_to
loop-j-preserved c =
    let l = c.loop-j in
    let start = c in
    let a = start.args in
    let ws = wishes_to a.w.titles a.w.counts l.j in
    let w = wish_at a.w.titles a.w.counts l.j in
    let d = c.due_at-last in
    let fit = start.requires.wishes_fit l.j c.loop-j-test.true in (
      simp length-set l.invariant.0,
      rw add-one
          (running_more a.s a.time ws w l.q l.last d.result l.invariant.1 d.ensures.is
          c.moved-q.result fit d.ensures.high c.moved-q.ensures),
      rw add-one
          (row_more a.s a.time ws w l.q l.last d.result l.invariant.1 d.ensures.is
          l.row l.j (omega arith) l.invariant.2),
    )

pub returns : goal.returns
returns c =
    let l = c.loop-j in
    let a = c.args in
    let all : l.j ≡ a.w.many = le_antisymm l.auto.j-end c.loop-j-test.false in
    record {
      last = l.invariant.1.moment ∙ ap (λ (n : ℕ). last_moment a.s a.time (wishes_to a.w.titles a.w.counts n)) all;
      row = sym (ap (λ (n : ℕ). first_of l.row n) all)
          ∙ l.invariant.2
          ∙ ap (λ (n : ℕ). map (λ m. m.time) (listed a.s a.time (wishes_to a.w.titles a.w.counts n))) all;
    }
