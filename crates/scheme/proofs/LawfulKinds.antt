-- Whichever scheme a title has is lawful. Rests on both.
use mathlib.Core.Path.{◌≡◌}
use mathlib.Core.Logic.{⊎_elim}
use Prim.Native.Nat.{ℕ, ◌≤◌, ◌<◌}
use native.Mathlib.Omega.{arith}
use lib.Dec.{eqb}
use borrow.Author.Tests.{eqb-true}
use Rattle.rules.proofs.Tests.{decide}
use Rattle.scheme.specs.Scheme.{steady_kind, scheme_of, tick_for}
use Rattle.scheme.specs.Lawful.{Lawful}
use Rattle.scheme.proofs.Padded.{padded_lawful}
use Rattle.scheme.proofs.Steady.{steady_lawful}

pub lawful : (kind D A K : ℕ) → 0 < A → A ≤ K → (kind ≡ steady_kind → A ≡ K) → Lawful (scheme_of kind A K) D (tick_for kind D A K) A K
unfolding scheme_of tick_for
lawful kind D A K pos fit flat =
    ⊎_elim
    (λ x.
    let e : A ≡ K = flat (eqb-true kind steady_kind x) in
    rw (x, e) (steady_lawful D K (omega arith)))
    (λ x. rw x (padded_lawful D A K pos fit))
    (decide (eqb kind steady_kind))
