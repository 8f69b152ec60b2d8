-- A floor above its cap has the number 15 where it had 6, and nothing else moved: the same sharings are done and the
-- same refused.
-- Rests on the laws of former answers.
use mathlib.Core.Path.{◌≡◌, sym, ap, ◌∙◌}
use mathlib.Core.List.{List}
use Prim.Native.Nat.{ℕ}
use lib.Dec.{eqb}
use Rattle.rules.specs.Refusals.{first_hit, done}
use Rattle.rules.specs.Former.{formerly}
use Rattle.rules.proofs.Former.{formerly_done, renumbered, former_hit}
use Rattle.sharing.specs.Verdict.{verdict_of}
use Rattle.sharing.specs.Former.{former_share_rules}

module _ (pool : ℕ) (rates lengths floors caps : List ℕ) (room : ℕ) where
  pub same_place : formerly (verdict_of pool rates lengths floors caps room) ≡ first_hit (former_share_rules pool rates lengths floors caps room)
  unfolding verdict_of renumbered
  same_place = former_hit _

  -- the test by which the lent row is written or left
  pub same_calls : eqb (first_hit (former_share_rules pool rates lengths floors caps room)) done ≡ eqb (verdict_of pool rates lengths floors caps room) done
  same_calls = sym (ap (λ m. eqb m done) same_place) ∙ formerly_done (verdict_of pool rates lengths floors caps room)
