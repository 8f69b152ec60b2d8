-- `title_held` meets its contract: a slot without a title holds none; where nothing was dropped the active lanes are held; another is counted
-- at its tick.
use mathlib.Core.Path.{sym, ◌∙◌}
use Prim.Native.Nat.{◌≤◌}
use native.Mathlib.Omega.{arith}
use borrow.Author.Tests.{eq-eqb, ne_eqb}
use Rattle.rules.specs.Limits.{count_max}
use Rattle.story.specs.Kept.{ruling, tick_at, title_held}
use Rattle.measures.proofs.Within.{readable}
use Rattle.agent_rows.specs.Packed.{title_from}
use Rattle.agent_rows.proofs.Lanes.{cap_high, ruling_fit, never_dropped}
use Rattle.agent_rows.proofs.holding.title_held.Goals as goal

pub returns-then-mode-eq-ABSENT : goal.returns-then-mode-eq-ABSENT
unfolding title_held
returns-then-mode-eq-ABSENT c = record { is = simp (eq-eqb _ _ c.if-mode-eq-ABSENT.true); low = omega arith; high = omega arith }

pub drops_from-requires : goal.drops_from-requires
drops_from-requires c = let s = c in
    record { title_places_in_bounds = s.requires.title_places_in_bounds; at_bound = cap_high (title_from s.args.row.now s.args.at) s.requires.at_value }

pub returns-then-drops_from-eq0 : goal.returns-then-drops_from-eq0
unfolding title_held
returns-then-drops_from-eq0 c =
    let counted = c in
    let s = counted in
    let r = s.args.row.now in
    let t = title_from r s.args.at in
    let there = counted.if-mode-eq-ABSENT.false in
    let is-ruling = counted.ruling-active.ensures in
    let fit : ruling t ≤ t.film.cap = ruling_fit t s.requires.at_value there in
    let high : t.film.cap ≤ count_max = cap_high t s.requires.at_value in
    record {
      is = simp (ne_eqb _ _ there)
          (is-ruling
          ∙ sym (never_dropped r s.args.at (tick_at t s.args.time) fit high (λ l low below. rw c.if-drops_from-eq0.true at (c.drops_from.ensures l (rw is-ruling low) below))));
      low = omega arith;
      high = omega (arith, is-ruling);
    }

pub tick_at-requires : goal.tick_at-requires
tick_at-requires c = let at-if1 = c in
    let s = at-if1 in
    record { title_places_in_bounds = s.requires.title_places_in_bounds; filmed = readable (title_from s.args.row.now s.args.at) s.requires.at_value at-if1.if-mode-eq-ABSENT.false }

pub held_at-requires : goal.held_at-requires
held_at-requires c = let counted = c in
    let s = counted in
    let t = title_from s.args.row.now s.args.at in
    record { title_places_in_bounds = s.requires.title_places_in_bounds; at_value = (s.requires.at_value, (counted.ruling-active.ensures, rw counted.ruling-active.ensures (ruling_fit t s.requires.at_value counted.if-mode-eq-ABSENT.false))) }

pub returns : goal.returns
unfolding title_held
returns c =
    record {
      is = simp (ne_eqb _ _ c.if-mode-eq-ABSENT.false, ← c.tick_at.ensures.is) c.held_at.ensures.is;
      low = omega arith;
      high = omega arith;
    }
