-- `doors_verdict` meets its contract: a title that stands has a film.
use mathlib.Core.Path.{sym}
use Rattle.title_verdicts.proofs.Stands.{standing_changeable}
use Rattle.title_verdicts.proofs.doors_verdict.Goals as goal

pub held_verdict-requires : goal.held_verdict-requires
held_verdict-requires c =
    let ready = standing_changeable c.args.t c.args.time c.requires (sym c.in_ok-standing.ensures) in
    record { filmed = ready.owing.film; count_le_cap = ready.ruled }
