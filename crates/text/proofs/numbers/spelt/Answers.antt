-- `text::numbers::spelt` meets its contract: what is left to spell, from each place passed, gives what the whole gives.
use Prim.Native.Nat.{◌+◌}
use mathlib.Core.Path.{sym, ◌∙◌, ap}
use native.Mathlib.Omega.{arith}
use lib.ListN.{drop}
use Rattle.text.specs.declared.numbers.Number.{Number}
use Rattle.text.specs.Numbers.{capped}
use Rattle.text.proofs.Spelling.{spell, spells, spell_on, spell_stop, spell_end}
use Rattle.text.proofs.numbers.spelt.Goals as goal

pub loop-i-init : goal.loop-i-init
unfolding capped
loop-i-init c = spells 0 _

pub loop-i-preserved : goal.loop-i-preserved
loop-i-preserved c =
    let s = c.args.s.now in
    let l = c.loop-i in
    ap (λ (m : Number). spell m (drop (l.i + 1) s)) c.grow-n.ensures
    ∙ spell_on l.n s l.i (omega arith) (sym c.is_digit.ensures ∙ c.if-not-is_digit.false)
    ∙ l.invariant

pub returns-then-not-is_digit : goal.returns-then-not-is_digit
returns-then-not-is_digit c =
    let s = c.args.s.now in
    let l = c.loop-i in
    spell_stop l.n s l.i (omega arith) (sym c.is_digit.ensures ∙ c.if-not-is_digit.true) ∙ l.invariant

pub returns : goal.returns
returns c =
    let s = c.args.s.now in
    let l = c.loop-i in
    spell_end l.n s l.i (omega arith) ∙ l.invariant
