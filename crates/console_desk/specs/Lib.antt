-- What a line of the console is answered, and what it leaves. The head-end's desk answers by the same definitions all that is no event
-- (`line_text`), and its events with `followed_text`. specs/Asks: what the questions are answered, which change nothing, each by its own room
-- (`ask_text`). specs/Behind: what stands behind a refusal, so that an operator knows what to type next, of a line that would change the agent
-- (`behind_in`); proofs/Spelt shows what `console_reasons` specs/Promise promises of the events that lines and notices spell, `line_promise` and
-- `notice_promise`. That two outcomes of `put_behind` or of a question are equal: `text` proofs/Unique `puts_one_outcome`.
pub mod Behind
pub mod Asks
pub mod Desk
