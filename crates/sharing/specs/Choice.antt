-- Which counts the sharing chooses, as `sharing_choice` has it.
unfoldable pub use Rattle.sharing_choice.specs.Choice.{wait_sum, less_or, at_least, prefers, from, ways, better, best_of, shared}
pub use Rattle.sharing_choice.specs.Choice.{Shared}
