-- The stretch of time for which a lane is as it is: active, or sending what it owes up to its release.
use Rattle.std.specs.Prelude.{ℕ, min, Bool, Option, Some, None, leb, ltb, eqb, get_or}
use Rattle.rules.specs.Refusals.{pick}
use Rattle.story.specs.declared.Title.{Title}
use Rattle.story.specs.Kept.{absent_mode, ruling}
use Rattle.moments.specs.Searched.{release_moment}
use Rattle.strips.specs.declared.states.Stretch.{Stretch}

-- lane l, not active since a moment, as far as τ: where it owed cells it sends them until its release
unfoldable pub sending_stretch : Title → ℕ → ℕ → ℕ → Option Stretch
sending_stretch t l since τ =
    pick (eqb (get_or t.owed l 0) 0) None
    (Some (record { from = since; to = min (release_moment t l) τ; owed = Some (get_or t.owed l 0) }))

-- lane l, as it is since a moment
unfoldable pub stretch_since : Title → ℕ → ℕ → ℕ → Option Stretch
stretch_since t l since τ =
    pick (eqb t.mode absent_mode) None
    (pick (ltb l (ruling t)) (Some (record { from = since; to = τ; owed = None })) (sending_stretch t l since τ))

-- lane l becomes active, or no longer is, where count k rules from now on
unfoldable pub switches : Title → ℕ → ℕ → Bool
switches t k l = pick (ltb l (ruling t)) (leb k l) (ltb l k)
