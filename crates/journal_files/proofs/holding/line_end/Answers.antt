-- `journal_files::holding::line_end`: a run of bytes ends within the window.
use Rattle.std.proofs.Common.{◌≤◌, length, sym, subst}
use Rattle.text.proofs.Runs.{run_end_low, run_end_high}
use Rattle.journal_files.proofs.holding.line_end.Goals as goal

pub returns : goal.returns
returns c =
    subst (λ r. (c.args.from ≤ r) × (r ≤ length c.args.window.now)) (sym c.run_end.ensures)
    (run_end_low _ _ _, run_end_high _ _ _ c.requires)
