-- What the console says behind a refusal, so that an operator knows what to type next: by `reason_text` of an event, by `lane_reason` of a lane
-- question. specs/Promise is the page of what is promised; proofs/Promise shows it of every state: `event_promise` of the events that can be
-- spelt, `lane_promise` of lane questions. What 1 says of a fresh pool and of status: proofs/Naming `fresh_out` and `status_out`. The events
-- that can be spelt are those of lines and notices: `console_desk` proofs/Spelt. What is said behind any other question: `console_limits`.
-- That two outcomes of a call here are equal: `text` proofs/Unique `puts_one_outcome`.
pub mod Lanes
pub mod Events
pub mod Promise
