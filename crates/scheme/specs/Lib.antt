-- The schemes by which titles are sent, and the laws that they keep (01, "Lanes are ours"; 02, request 12). A scheme has slots, the cell on
-- each channel and on each lane, and for how long a box takes a channel (specs/Scheme `Scheme`); `takes` is the plan of a box by it.
-- `padded` is the grid's, `steady` that of a skip-forward title: lane 0 repeats the first block, lane i from 1 on the blocks from 2^(i-1)
-- up to its double (`steady_cell`). The story speaks of a title's scheme alone.
-- - What both share stands once: slot starts, what a box takes and when, what holds film (specs/Scheme `starts`, `takes_from`, `takes`,
--   `taken_after`, `film_in`), and the seven laws that the story asks for, that lanes repeat among them (specs/Lawful). Each scheme meets
--   them once: proofs/Padded `padded_lawful`, proofs/Steady `steady_lawful`, proofs/LawfulKinds `lawful`. Life, owed cells, holding, the
--   pool and no box runs dry stand once, over any lawful scheme, so `story` specs/Demands speaks of titles of both kinds.
-- - Every block with film comes no later than its turn: `scheme` specs/Lawful `in_time`, proofs/Turns `comes`; over every accepted
--   sequence, a close in the middle included, it is `story` specs/Demands `boxes`. While block n plays, block n + 1, if it has film, has
--   been taken or is on air: `scheme` proofs/Turns `ahead`, `film_ahead`; over every accepted sequence `story` specs/Demands `ahead`.
-- - At a close lane i of a skip-forward title owes what its boxes still await, its cells of film in the 2^(i-1) - 1 ticks from the close
--   on, and lanes 0 and 1 owe nothing: `story` proofs/SkipForward `owed_exactly`, `owes_nothing`; proofs/Example `forward_sends`,
--   `forward_held` computes one.
pub mod Scheme
pub mod Lawful
