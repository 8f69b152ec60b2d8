-- `kept_ok` meets its contract: each row is as long as its type says.
use Rattle.rules.specs.Limits.{count_places, lane_places}
use mathlib.Core.Path.{◌≡◌}
use native.Mathlib.Omega.{arith}
use lib.ListN.{length}
use borrow.Author.Rules.{rules}
use Rattle.limits.proofs.kept_ok.Goals as goal

pub row_within-requires : goal.row_within-requires
row_within-requires c =
    let e : length c.args.t.ends ≡ count_places = search rules in
    omega arith

pub row_within-requires-then-row_within : goal.row_within-requires-then-row_within
row_within-requires-then-row_within c =
    let e : length c.args.t.dropped ≡ lane_places = search rules in
    omega arith

pub row_within-requires-then-row_within-2 : goal.row_within-requires-then-row_within-2
row_within-requires-then-row_within-2 c =
    let e : length c.args.t.owed ≡ lane_places = search rules in
    omega arith
