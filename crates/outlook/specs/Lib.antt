-- What an operator would type next, of any state and any event, if nobody else acts. specs/Outlook defines it: `first_accepted` and
-- `next_start` of an event, `room_from`, `id_free_from`, each by `moments` specs/Moments `earliest`, the first over all times of the clock, one
-- by one; `free_lanes` and `presence_of` of a time. The calls meet them for every state and every event, those included that no events
-- reach: `outlook::when`, `start_from`, `room_from`, `id_free_from`, `free_lanes` and `presence`.
-- specs/Foreseen is the page of what is promised; proofs/Foreseen shows it (`foreseen`), and proofs/ForeseenReached what is said of reached
-- states (`foreseen_reached`).
-- - An event is accepted at the time that is given, refused at every earlier one from its own on, and never accepted where no time is given:
--   `AcceptedWhen`.
-- - Behind an 8 the event gets 0 or 9 at the next start, and every time before it is refused: `StartBehindEight`.
-- - Behind a 9 there is room from the time that is given on, and at none before, and an opening is accepted then: `RoomBehindNine`. Behind a
--   4 the id is free likewise: `FreeBehindFour`.
-- - In a reached state free lanes and lanes held make up the pool, and what became of a title is what the events say: `ForeseenReached`.
-- `when` of an opening is the first time with the id free and with room. proofs/Unique: each call has one outcome. proofs/Example is an evening
-- with a 9, an 8, a 4 and a refusal that lasts.
pub mod Outlook
pub mod Foreseen
pub mod inner
