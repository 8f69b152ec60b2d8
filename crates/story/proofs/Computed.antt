-- To compute a fact from the story's definitions is to open them all. Each of these has some on its line, and `computed` has them
-- all, so that a computed fact says `unfolding computed` in the place of the list.
use Rattle.rules.specs.Refusals.{first_hit}
use Rattle.rules.specs.Search.{some, every, first, how_many, after, total}
use Rattle.grid.specs.Ticks.{tick_of, rounded_up, slot, cell_of}
use Rattle.grid.specs.Channels.{floor_rem, shift, segment, channel_cell}
use Rattle.grid.specs.Lanes.{is_in_g, is_added, added_channel, lane_cell}
use Rattle.scheme.specs.Scheme.{scheme_of, starts, takes, takes_from, tick_for, film_in, steady_cell}
use Rattle.story.specs.Life.{is_admission, is_active, dropped_at, is_awaited, is_owed, reach, owed_within, owes}
use Rattle.story.specs.Life.{is_nth, nth_owed, sends, on_air, is_held}
use Rattle.story.specs.Story.{tick_in, life_of, latest_of, tuned_of, up_to, held_in, held_over, answer_to, accepted}

-- the grid
unfoldable pub computed_grid : Unit {0}
unfolding tick_of rounded_up slot cell_of floor_rem shift segment channel_cell is_in_g is_added added_channel lane_cell
computed_grid = tt

-- both schemes, and the searches
unfoldable pub computed_scheme : Unit {0}
unfolding some every first how_many after total scheme_of starts takes takes_from tick_for film_in steady_cell computed_grid
computed_scheme = tt

-- a life
unfoldable pub computed_life : Unit {0}
unfolding is_admission is_active dropped_at is_awaited is_owed reach owed_within owes is_nth nth_owed sends on_air is_held computed_scheme
computed_life = tt

-- a sequence of events, and what it answers
unfoldable pub computed : Unit {0}
unfolding first_hit tick_in life_of latest_of tuned_of up_to held_in held_over answer_to accepted computed_life
computed = tt
