-- `fitting::is_notice` meets its contract: the tests by the kind are those of the table.
use lib.Dec.{ltb}
use lib.ListN.{get_or}
use native.Mathlib.Omega.{arith}
use Rattle.rules.proofs.Tests.{and_both}
use Rattle.notice_rows.proofs.Widths.{by_the_kind}
use Rattle.notice_rows.proofs.fitting.is_notice.Goals as goal

pub returns : goal.returns
returns c =
    let f = c.args.fields.now in
    rw (c.data_fits.ensures, and_both (ltb (get_or f 2 0) 256) (ltb (get_or f 1 0) 4_294_967_296))
    (by_the_kind f (omega (arith, c.type_inv.fields 3)))
