-- A title's part of the sum, as `sharing_titles` has it.
unfoldable pub use Rattle.sharing_titles.specs.Term.{term}
