-- The titles, as `sharing_titles` has them.
unfoldable pub use Rattle.sharing_titles.specs.Titles.{titles, row_total}
pub use Rattle.sharing_titles.specs.Titles.{unrated, rated_title}
pub use Rattle.sharing_titles.specs.declared.titles.Rated.{Rated}
