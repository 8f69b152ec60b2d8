-- What stands behind the refusal of a question (docs/CONSOLE.md, "Refusals"): behind 1 which number is out of its limits, and
-- behind 2 when the event was that the question's time is earlier than.
use Rattle.std.specs.Prelude.{ℕ, List, [], ◌++◌, eqb}
use Rattle.rules.specs.Refusals.{pick, outside_limits, too_early}
use Rattle.text.specs.Texts.{text}
use Rattle.text.specs.Digits.{decimal}
use Rattle.console_limits.specs.Outside.{out_text}

-- of a question that is not asked of a state, by its command and its numbers
unfoldable pub limit_reason : ℕ → ℕ → List ℕ → List ℕ
limit_reason a c ns = pick (eqb a outside_limits) (out_text c ns) []

-- when the last accepted event was
unfoldable pub last_text : ℕ → List ℕ
last_text τ = text ", the last is at " ++ decimal τ

-- of one that is, whose last accepted event was at τ
unfoldable pub asked_reason : ℕ → ℕ → List ℕ → ℕ → List ℕ
asked_reason a c ns τ = pick (eqb a too_early) (last_text τ) (limit_reason a c ns)
