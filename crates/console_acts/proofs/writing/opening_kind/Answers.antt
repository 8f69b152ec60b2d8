-- `console_acts::writing::opening_kind` meets its contract: each way out decides the scheme.
use mathlib.Core.Path.{refl}
use borrow.Author.Tests.{eq-eqb, ne_eqb}
use Rattle.console_acts.proofs.writing.opening_kind.Goals as goal

pub returns-then-kind-eq-STEADY : goal.returns-then-kind-eq-STEADY
returns-then-kind-eq-STEADY c = rw (eq-eqb _ _ c.if-kind-eq-STEADY.true, ← c.as_four_bytes.ensures, ← c.as_byte.ensures) refl

pub returns : goal.returns
returns c = rw (
  ne_eqb _ _ c.if-kind-eq-STEADY.false,
  ← c.as_four_bytes-2.ensures,
  ← c.as_byte-2.ensures,
  ← c.as_byte-3.ensures,
  ← c.as_byte-4.ensures,
)
    refl
