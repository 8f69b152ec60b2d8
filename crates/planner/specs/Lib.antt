-- What the planner lists (02, request 11), what its call answers, and what it promises of the list. `sharers` specs/Sharers says which titles
-- take part, and what is left of the pool to share (`shared_pool`; 02, request 12); `wishes` specs/Wishes what the sharing gives each
-- (`share_of`), and which changes that asks for, drops before raises (`wishes`); `moments` specs/Moments when a change is due (`is_due`) and
-- what the earliest such time is (`earliest`: the first over all times of the clock, one by one). `planner` specs/Moves is the list, each
-- wish at its earliest time from the event before it on, in the state that the events before it leave (`listed`); specs/Outcome has the
-- call's answer and rows, specs/Carried the words of the promise. The call meets them for every state and row, those included that no
-- events reach (`planner::planner`, contract `Answered`).
-- specs/Promise is the page of what is promised, of every reached state; proofs/Promise shows it.
-- - Every listed event is accepted at its time by the scheduler's own call, in the list's order, and none could have come earlier:
--   `carried`, where each event `Comes`. The state after the list is reached: `reached_after`.
-- - The counts after the last are the sharing's: `brought`, by which status shows each title that takes part its share, and every other
--   what it had (specs/Carried `goal_of`); `wishes` proofs/Wished `is_sharing`: the shares are the counts that the sharing takes.
-- - 18 is answered where some event would fall after the clock's last time, its earliest time over all times and not only those of the
--   clock, and nowhere else: `past`; `planner` proofs/Passed `past_clock_lem`, `in_clock`.
-- - A list is there where the floors fit what is shared and the events the clock: `ListOrPast`, by proofs/Promise `a_list`. It never waits
--   in vain: `moments` proofs/Coming `due_comes`, permitted times come again and again; `planner` proofs/DueChanges `enough`, once every
--   list has gone what all titles are to have has room (proofs/Goals `goals_fit`); proofs/WishesLeft `drop_fits`, a drop needs no lanes.
-- proofs/Example is an evening whose list has a drop and a raise.
pub mod Moves
pub mod Outcome
pub mod Carried
pub mod Promise
pub mod inner
