-- The search over all choices, as `sharing_choice` has it.
pub use Rattle.sharing_choice.proofs.Search.{search_finds}
