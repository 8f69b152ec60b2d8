-- Nothing stands behind an answer 0.
use Prim.Native.Nat.{ℕ}
use mathlib.Core.Path.{◌≡◌, refl}
use mathlib.Core.List.{List, []}
use Rattle.rules.specs.Refusals.{done}
use Rattle.console_limits.specs.Asked.{limit_reason, asked_reason}

pub done_limits : (a c : ℕ) (ns : List ℕ) → a ≡ done → limit_reason a c ns ≡ []
unfolding limit_reason
done_limits a c ns z = rw z refl

pub done_asked : (a c : ℕ) (ns : List ℕ) (τ : ℕ) → a ≡ done → asked_reason a c ns τ ≡ []
unfolding asked_reason limit_reason
done_asked a c ns τ z = rw z refl
