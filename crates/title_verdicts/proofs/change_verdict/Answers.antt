-- `change_verdict` meets its contract: a title that stands has a film.
use mathlib.Core.Path.{sym}
use Rattle.measures.proofs.Within.{tuned_high}
use Rattle.title_verdicts.proofs.Stands.{standing_changeable}
use Rattle.title_verdicts.proofs.change_verdict.Goals as goal

pub count_verdict-requires : goal.count_verdict-requires
count_verdict-requires c =
    let ready = standing_changeable c.args.t c.args.time c.requires (sym c.in_ok-standing.ensures) in
    record { filmed = ready.owing.film; count_le_cap = (ready.ruled, tuned_high c.args.t c.requires) }
