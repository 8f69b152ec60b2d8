-- `titles::title_at` meets its contract: the four numbers at a place are the title there (`titles_at_lem`).
use mathlib.Core.Path.{sym}
use Rattle.sharing_titles.proofs.titles.Laws.{titles_at_lem}
use Rattle.sharing_titles.proofs.titles.title_at.Goals as goal

pub returns : goal.returns
returns c =
    let s = c.before.before.before.before in
    sym (titles_at_lem _ _ _ _ s.requires.same_lengths s.args.i s.requires.i_in_bounds)
