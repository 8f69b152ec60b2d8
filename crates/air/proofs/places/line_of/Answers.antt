-- `air::places::line_of` meets its contract: byte by byte.
use mathlib.Core.Path.{refl, ap, ◌∙◌}
use native.Mathlib.Nat.{le_antisymm}
use native.Mathlib.Numerals.{add-one}
use native.Mathlib.Omega.{arith}
use lib.ListN.{get_or}
use Rattle.air.specs.declared.places.Passed.{Passed}
use Rattle.air.specs.Places.{passing, passed_to, kept_line, line_to, line_in}
use Rattle.air.proofs.places.line_of.Goals as goal

pub loop-b-init : goal.loop-b-init
unfolding passed_to line_to
loop-b-init c = (refl, refl)

pub loop-b-preserved : goal.loop-b-preserved
unfolding passed_to line_to
loop-b-preserved c =
    let x = c.args in
    let l = c.loop-b in
    let b = get_or x.text.now l.b-index 0 in (
      c.pass-passed.ensures ∙ rw add-one (ap (λ (p : Passed). passing p b) l.invariant.0),
      c.keep_line-line.ensures
          ∙ rw add-one (ap (λ (p : Passed). kept_line l.line p x.k) l.invariant.0 ∙ ap (λ n. kept_line n (passed_to x.text.now l.b-index) x.k) l.invariant.1),
    )

pub returns : goal.returns
unfolding line_in
returns c =
    let x = c.args in
    let l = c.loop-b in
    l.invariant.1 ∙ ap (line_to x.text.now x.k) (le_antisymm (omega arith) c.loop-b-test.false)
