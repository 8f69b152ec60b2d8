-- `giving::fill` meets its contract: the floors and the lanes that they leave spare are the pool.
use mathlib.Core.Path.{◌≡◌, ap, ◌∙◌}
use Prim.Native.Nat.{ℕ, ◌+◌, ◌-◌}
use native.Mathlib.Omega.{arith}
use Rattle.sharing_titles.specs.Titles.{titles, row_total}
use Rattle.sharing_choice.specs.Choice.{shared}
use Rattle.sharing_choice.proofs.giving.fill.Goals as goal

pub returns : goal.returns
returns c =
    let at_give = c in
    let at-total = at_give in
    let at_copy = at-total in
    let s = at_copy in
    let ts = titles s.args.rates.now s.args.lengths.now s.args.floors.now s.args.caps.now in
    let f = at-total.floor_total in
    let e : row_total s.args.floors.now + (s.args.pool - f.result) ≡ s.args.pool =
    omega (arith, f.ensures, s.requires.room) in
    at_give.give.ensures ∙ ap (λ (n : ℕ). shared n ts) e
