-- `holds_film` meets its contract: a cell's start is at most 2^count_max lengths, and fits. Rests on the laws of ticks.
use borrow.Author.Rules.{rules}
use Rattle.grid.proofs.Ticks.{film_room}
use Rattle.scheme.specs.Scheme.{film_in}
use Rattle.scheme.proofs.holds_film.Goals as goal

pub overflow_mul-result : goal.overflow_mul-result
overflow_mul-result c =
    record {
      fits = film_room c.args.cell c.args.cap c.tick.result c.args.length c.requires.cell_bound
          c.requires.floor_cap.high c.tick.ensures.high c.requires.length.high;
    }

pub returns : goal.returns
unfolding film_in
returns c = cc c.tick.ensures.is
