-- The lanes held over all titles but one: what an event's title is counted with.
use Rattle.std.specs.Prelude.{ℕ, eqb}
use Rattle.rules.specs.Limits.{titles_max}
use Rattle.rules.specs.Refusals.{pick}
use Rattle.rules.specs.Search.{total}
use Rattle.story.specs.declared.State.{State}
use Rattle.story.specs.Kept.{title_at, title_held}

unfoldable pub others_held : State → ℕ → ℕ → ℕ
others_held s i τ = total (λ j. pick (eqb j i) 0 (title_held (title_at s j) τ)) titles_max
