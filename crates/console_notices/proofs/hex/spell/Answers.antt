-- `console_notices::hex::spell` meets its contract: the digits between the places, which the room holds.
use native.Mathlib.Omega.{arith}
use Rattle.std.proofs.Common.{inl, inr}
use Rattle.console_notices.proofs.Spelling.{none_past, none_before, spelt}
use Rattle.console_notices.proofs.hex.spell.Goals as goal

pub returns-in_default : goal.returns-in_default
returns-in_default c =
    elim c.in_default.ensures.lookup.0 [
      | inl x ↦ (none_before _ _ _ x, omega arith)
      | inr x ↦ (none_past _ c.args.from _ x, omega arith)
    ]

pub returns : goal.returns
returns c =
    let x = c.args in
    let found = c.in-Some.ensures.lookup.0 in
    spelt x.s.now x.from x.to x.room.now _ _ found.1 c.requires.0 c.requires.1 (rw found.2 at c.decode.ensures)
