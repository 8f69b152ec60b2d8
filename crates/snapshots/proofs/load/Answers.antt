-- `load` meets its contract: a row of the right length gets the numbers of bytes that are a snapshot.
use native.Mathlib.Omega.{arith}
use mathlib.Core.Path.{sym, ◌∙◌}
use Rattle.snapshots.proofs.Answered.{load_odd, load_none, load_done, fitting_size}
use Rattle.snapshots.proofs.load.Goals as goal

pub returns-then-row-ne-NUMBERS : goal.returns-then-row-ne-NUMBERS
returns-then-row-ne-NUMBERS c = load_odd _ _ c.if-row-ne-NUMBERS.true

pub fill-requires : goal.fill-requires
fill-requires c =
    let tested = c in
    let right = tested in
    let size = fitting_size right.args.bytes.now (sym tested.fits.ensures ∙ tested.if-fits.true) in
    omega (arith, size, right.if-row-ne-NUMBERS.false)

pub returns-then-fits : goal.returns-then-fits
returns-then-fits c =
    let filled = c in
    let tested = filled in
    let right = tested in
    rw (filled.fill.ensures, right.if-row-ne-NUMBERS.false) (load_done _ _ right.if-row-ne-NUMBERS.false (sym tested.fits.ensures ∙ tested.if-fits.true))

pub returns : goal.returns
returns c = load_none _ _ c.if-row-ne-NUMBERS.false (sym c.fits.ensures ∙ c.if-fits.false)
