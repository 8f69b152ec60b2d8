-- `words::lines::behind` meets its contract: behind the newline, or at the text's end.
use native.Mathlib.Omega.{arith}
use Rattle.words.proofs.Listed.{after_newline, after_all}
use Rattle.words.proofs.lines.behind.Goals as goal

pub returns-then-end-text : goal.returns-then-end-text
returns-then-end-text c = (after_newline _ _ _ c.run_end-end.ensures, omega arith)

pub returns-else-end-text : goal.returns-else-end-text
returns-else-end-text c = (after_all _ _ _ c.run_end-end.ensures c.if-end-text.false, omega arith)
