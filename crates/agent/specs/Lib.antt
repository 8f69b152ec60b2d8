-- What an agent does with a notice, and what a series of notices leaves it with (01, "Notices": order is part of the message). specs/Boxes
-- is the page to read first: demand 3 again, from received bytes on. `agent::take` and `agent::heed` are equations to the definitions that
-- it is about (specs/Turns `notice_answer`, `noticed`).
-- - Over any series of byte strings those that count have sequences 1, 2, 3, ..: proofs/Order `follows`.
-- - Two agents that follow one log are equal once they have reached the same sequence: proofs/OneLog `one_log`. An agent that is handed the
--   notices of a head-end's accepted events is in the head-end's own state: proofs/HeadEnd `follows_head_end`. With the same accepted
--   events, whatever was refused on either side, lane questions, status and lanes held are alike: proofs/Alike `alike`, `lanes_alike`,
--   `status_alike`.
-- - A drop that overtakes its raise, for any agent that waits for a notice and any two notices in that plight: proofs/Overtaken
--   `answers_twelve`, `stays_as_it_is`, and once the missing notice and the drop come in turn, `as_in_order`, the agent that heard both in
--   order. It has three notices in the wrong order, with an instance of `one_log` (`caught_up`) and one of `alike` (`as_the_head_end`).
-- - Which orders matter (02, request 14): proofs/OneMoment `orders_alike`, `logs_alike`, `orders_stay_alike`: the notices of two orders
--   that are accepted, as series of byte strings each numbered from 1 on (specs/Series `sent`), leave equal agents, with more events behind
--   the two, and with whatever byte strings come after; the two have sequences below 2^32. `refused_order`: an agent that is handed the
--   refusing order as two numbered notices answers 9 and then 12, and stays as it was (specs/Turns `Stops`; proofs/Turns `goes_no_further`
--   says it of any refused notice); `second_refused`: where there is room for one it answers 0, then 9, and 12 to whatever is numbered on.
--   proofs/OneMomentExample computes both.
pub mod Turns
pub mod Series
pub mod Boxes
pub mod Played
