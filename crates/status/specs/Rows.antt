-- The rows of status (01, "Status").
use Rattle.std.specs.Prelude.{Bool, List, ℕ, leb, get_or, length}
use Rattle.rules.specs.Limits.{id_max}
use Rattle.rules.specs.Search.{every}

-- every number of a row is an id
unfoldable pub ids_ok : List ℕ → Bool
ids_ok ids = every (λ j. leb (get_or ids j 0) id_max) (length ids)
