-- `scanning::scan::is_later` meets its contract, by whether a notice was taken.
use mathlib.Core.Path.{sym, ap}
use borrow.Author.Rules.{rules}
use Rattle.scanning.specs.Scan.{is_later}
use Rattle.scanning.proofs.scan.is_later.Goals as goal

pub returns-in-Some : goal.returns-in-Some
returns-in-Some c = sym (ap (λ l. is_later l c.args.sequence) c.in-Some.is)
