-- What a question of all titles answers, and from when on a title may change again.
pub mod Asked
