-- Of which tick a held lane shows the cell (01, "Events").
use Rattle.std.specs.Prelude.{ℕ, ltb}
use Rattle.rules.specs.Refusals.{pick}
use Rattle.story.specs.declared.Title.{Title}
use Rattle.story.specs.Kept.{ruling, sending_tick}

-- the tick whose cell lane l shows at tick n: that tick while it is active, else the one whose turn it is
unfoldable pub shown_tick : Title → ℕ → ℕ → ℕ
shown_tick t l n = pick (ltb l (ruling t)) n (sending_tick t l n)
