-- Laws of stretches.
use Prim.Native.Nat.{ℕ, min}
use mathlib.Core.Path.{◌≡◌}
use Rattle.std.proofs.Common.{Some}
use borrow.Author.Tests.{ne_eqb}
use lib.ListN.{get_or}
use Rattle.story.specs.declared.Title.{Title}
use Rattle.moments.specs.Searched.{release_moment}
use Rattle.strips.specs.States.{sending_stretch}

-- a lane that owed cells sends up to its release
pub sends : (t : Title) (l since τ m x : ℕ) → (get_or t.owed l 0 ≡ 0 → ⊥) → m ≡ release_moment t l → x ≡ min m τ →
    Some (record { from = since; to = x; owed = Some (get_or t.owed l 0) }) ≡ sending_stretch t l since τ
unfolding sending_stretch
sends t l since τ m x some e f = rw (ne_eqb _ _ some, f, e)
