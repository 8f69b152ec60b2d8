-- `wishes_of` meets its contract: two passes over the shares, the drops first.
use native.Mathlib.Omega.{arith}
use Rattle.wishes.proofs.passes.Both.{first_many, wishes_few, wishes_are}
use Rattle.wishes.proofs.wishes_of.Goals as goal

pub pass-requires : goal.pass-requires
pass-requires c = omega arith

pub pass-requires-2 : goal.pass-requires-2
pass-requires-2 c = rw c.pass.ensures (first_many _ _ _)

pub returns : goal.returns
returns c = let at-shares = c in
    let a = at-shares.args in
    let shares = at-shares.shares_of-shares in
    rw (c.pass-2.ensures, c.pass.ensures)
    record { result_value = wishes_are a.s shares.result a.rates.now shares.ensures; many_le_titles_max = wishes_few a.s shares.result }
