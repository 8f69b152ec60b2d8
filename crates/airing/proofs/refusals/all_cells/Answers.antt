-- `airing::refusals::all_cells` meets its contract: the loop's value is the test of every number passed.
use Prim.Native.Nat.{◌^◌}
use mathlib.Core.Path.{refl, ap, ◌∙◌}
use native.Mathlib.Omega.{arith}
use native.Mathlib.Numerals.{add-one}
use native.Mathlib.Nat.{le_antisymm}
use lib.Dec.{ltb, eqb}
use lib.ListN.{get_or}
use Rattle.rules.specs.Limits.{both, either}
use Rattle.rules.specs.Search.{every}
use Rattle.rules.proofs.Tests.{and_both}
use Rattle.judging.specs.Record.{nothing_seen}
use Rattle.airing.specs.Air.{all_cells}
use Rattle.airing.proofs.refusals.all_cells.Goals as goal

pub loop-seen-init : goal.loop-seen-init
unfolding every
loop-seen-init c = refl

pub loop-seen-preserved : goal.loop-seen-preserved
unfolding every
loop-seen-preserved c =
    let l = c.loop-seen in
    and_both c.is_cell-ok.result l.ok ∙ ap (both c.is_cell-ok.result) l.invariant ∙ rw add-one (rw c.is_cell-ok.ensures refl)

pub returns : goal.returns
unfolding all_cells
returns c =
    let l = c.loop-seen in
    let r = c.args.«record».now in
    let all = le_antisymm (omega arith) (omega (arith, c.loop-seen-test.false)) in
    l.invariant
    ∙ ap (λ n. every (λ j. either (eqb (get_or r j 0) nothing_seen) (ltb (get_or r j 0) n)) l.seen-index) c.pow2-cells.ensures.is
    ∙ ap (every (λ j. either (eqb (get_or r j 0) nothing_seen) (ltb (get_or r j 0) (2 ^ c.args.cap)))) all
