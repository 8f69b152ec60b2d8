-- What every answer of the console is made of: rows of numbers (specs/Entries), what a call answered (specs/Outcomes), and what is wrong with
-- a line, with the usages of commands that help lists too (specs/Faults). The table of usages stands in the order of the commands, and
-- help lists every command (proofs/Examples `usages_begin`, `help_leaves_out`).
pub mod Entries
pub mod Outcomes
pub mod Faults
