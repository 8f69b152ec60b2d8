-- `ticks_at` meets its contract: the cell is the definition's, and the smallest of three numbers is taken.
use mathlib.Core.Path.{refl, ◌∙◌}
use Prim.Native.Nat.{ℕ, ◌+◌, ◌-◌, ◌*◌, ◌^◌, ◌≤◌, ◌<◌}
use native.Mathlib.Omega.{arith}
use native.Mathlib.Nat.{mod-lt}
use Rattle.stretches.proofs.LowSteps.{width_pos, width_high, own_pos, own_high}
use Rattle.stretches.proofs.Steps.{small}
use Rattle.stretches.proofs.low.ticks_at.Tie as tie
use Rattle.stretches.proofs.low.ticks_at.Lts as lts
use Rattle.stretches.proofs.low.ticks_at.Reads as reads
use Rattle.stretches.proofs.low.ticks_at.Goals as goal

-- a segment's place leaves room
cell_room : (c : lts.Start tie.the-claims reads.Pre reads.Post) (q : ℕ) → q < 2 ^ c.args.s.lane → (c.args.s.own - 1 + q) * c.args.s.width ≤ 2 ^ 25
cell_room c q l =
    small (c.args.s.own - 1 + q) c.args.s.width (omega (arith, own_high c.args.s c.requires, c.requires.owns)) (width_high c.args.s c.requires)

pub overflow_sub-cell : goal.overflow_sub-cell
overflow_sub-cell c = own_pos c.args.s c.requires

pub overflow_add-cell : goal.overflow_add-cell
overflow_add-cell c =
    let s = c in
    record { fits = omega (arith, own_high s.args.s s.requires, c.place_at.ensures.less, s.requires.owns) }

pub overflow_mul-cell : goal.overflow_mul-cell
overflow_mul-cell c =
    let s = c in
    record { fits = omega (arith, cell_room s.before.before.before c.place_at.result c.place_at.ensures.less) }

pub nonzero_rem-cell : goal.nonzero_rem-cell
nonzero_rem-cell c = let s = c in width_pos s.args.s s.requires

pub overflow_add-cell-2 : goal.overflow_add-cell-2
overflow_add-cell-2 c =
    let s = c in
    record {
      fits = omega (
        arith,
        cell_room s.before.before.before.before c.place_at.result c.place_at.ensures.less,
        mod-lt s.args.tick (width_pos s.args.s s.requires),
        width_high s.args.s s.requires,
      );
    }

pub returns : goal.returns
returns c =
    let s = c in
    let p = c.place_at in
    c.min-2.ensures
    ∙ rw
    (c.min.ensures, c.saturating_sub-2.ensures, c.saturating_sub.ensures, p.ensures.is, s.requires.wide, s.requires.owns) refl
