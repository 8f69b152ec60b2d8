-- The sharing's order of refusals as it stood before 02's request 4, with 6 for a floor above its cap.
use Rattle.std.specs.Prelude.{not, List, [], ◌∷◌, ℕ, ltb}
use Rattle.rules.specs.Limits.{within, both, pool_min, pool_max}
use Rattle.rules.specs.Refusals.{Rule, refuse, outside_limits, no_lanes, wrong_rows}
use Rattle.sharing_titles.specs.Titles.{titles, row_total}
use Rattle.sharing.specs.Verdict.{rows_fit, allowed, ordered, each_title}

-- 10 1 6 9
abbrev pub former_share_rules : ℕ → List ℕ → List ℕ → List ℕ → List ℕ → ℕ → List Rule
former_share_rules pool rates lengths floors caps room =
    refuse wrong_rows (not (rows_fit rates lengths floors caps room))
    ∷ refuse outside_limits
    (not (both (within pool_min pool_max pool) (each_title allowed (titles rates lengths floors caps))))
    ∷ refuse 6 (not (each_title ordered (titles rates lengths floors caps)))
    ∷ refuse no_lanes (ltb pool (row_total floors))
    ∷ []
