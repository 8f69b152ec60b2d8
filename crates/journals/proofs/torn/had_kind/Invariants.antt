-- What the loop keeps: none of the kinds passed is the bytes' own.
use mathlib.Core.Path.{◌≡◌}
use mathlib.Core.Bool.{false}
use Rattle.rules.specs.Search.{some}
use Rattle.journals.specs.Torn.{is_kind}
use Rattle.journals.proofs.torn.had_kind.Given as goal

abbrev pub invariant-loop-kind : goal.invariant-loop-kind
invariant-loop-kind l = some (is_kind l.rest l.total) l.kind ≡ false
