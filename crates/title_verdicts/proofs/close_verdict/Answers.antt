-- `close_verdict` meets its contract: a title that stands has a film.
use mathlib.Core.Path.{sym}
use Rattle.title_verdicts.proofs.Stands.{standing_changeable}
use Rattle.title_verdicts.proofs.close_verdict.Goals as goal

pub turn_verdict-requires : goal.turn_verdict-requires
turn_verdict-requires c =
    let ready = standing_changeable c.args.t c.args.time c.requires (sym c.in_ok-standing.ensures) in
    record { filmed = ready.owing.film; count_le_cap = ready.owing.film.cut.fit }
