-- `presence` meets its contract: each way out decides the tests up to it.
use mathlib.Core.Path.{◌≡◌}
use mathlib.Core.Bool.{true}
use Prim.Native.Nat.{ℕ, ◌≤◌}
use native.Mathlib.Omega.{arith}
use lib.Dec.{leb}
use borrow.Author.Tests.{leb-true, eq-eqb, ne_eqb}
use Rattle.rules.specs.Limits.{both, id_max}
use Rattle.rules.proofs.Tests.{both_l, both_r}
use Rattle.story.specs.Kept.{state_ok}
use Rattle.measures.proofs.Within.{all_readable}
use Rattle.outlook.specs.Outlook.{presence_of}
use mathlib.Core.Bool.{Bool}
use Rattle.story.specs.declared.State.{State}
use mathlib.Core.Path.{sym, ◌∙◌}
use Rattle.rules.proofs.Tests.{both_in}
use borrow.Author.Tests.{le-leb, lt-leb}
use Rattle.outlook.proofs.presence.Goals.{else-state_ok-via-then-state_ok+else-id-le-ID_MAX, else-state_ok-via-else-state_ok}
use Rattle.outlook.proofs.presence.Goals as goal

-- past the first test the state and the id are within their limits
inside : (s : State) (i : ℕ) (b : Bool) → b ≡ state_ok s → b ≡ true → i ≤ id_max → both (state_ok s) (leb i id_max) ≡ true
inside s i b is ok low = both_in _ _ (sym is ∙ ok) (le-leb _ _ low)

pub title_of-t-requires : goal.title_of-t-requires
title_of-t-requires c = let ok = inside c.args.s c.args.id _ c.state_ok.ensures c.if-state_ok.true c.if-id-le-ID_MAX.true in search (both_l, both_r, leb-true)

pub returns-then-t-eq-ABSENT : goal.returns-then-t-eq-ABSENT
unfolding presence_of
returns-then-t-eq-ABSENT c =
    let at-title = c in
    simp (inside at-title.args.s at-title.args.id _ at-title.state_ok.ensures at-title.if-state_ok.true at-title.if-id-le-ID_MAX.true, ← at-title.title_of-t.ensures, eq-eqb _ _ c.if-t-eq-ABSENT.true)

pub is_there-requires : goal.is_there-requires
is_there-requires c =
    let at-title = c in
    let a = at-title.args in
    let ok = inside at-title.args.s at-title.args.id _ at-title.state_ok.ensures at-title.if-state_ok.true at-title.if-id-le-ID_MAX.true in
    let i : a.id ≤ id_max = search (both_l, both_r, leb-true) in
    let t = at-title.title_of-t in
    rw t.ensures (all_readable a.s (both_l _ _ ok) a.id (omega arith))

pub returns-then-is_there : goal.returns-then-is_there
unfolding presence_of
returns-then-is_there c =
    let at-title = c in
    simp (
      inside at-title.args.s at-title.args.id _ at-title.state_ok.ensures at-title.if-state_ok.true at-title.if-id-le-ID_MAX.true,
      ← at-title.title_of-t.ensures,
      ne_eqb _ _ c.if-t-eq-ABSENT.false,
      ← c.is_there.ensures,
      c.if-is_there.true,
    )

pub returns-then-id-le-ID_MAX : goal.returns-then-id-le-ID_MAX
unfolding presence_of
returns-then-id-le-ID_MAX c =
    let at-title = c in
    simp (
      inside at-title.args.s at-title.args.id _ at-title.state_ok.ensures at-title.if-state_ok.true at-title.if-id-le-ID_MAX.true,
      ← at-title.title_of-t.ensures,
      ne_eqb _ _ c.if-t-eq-ABSENT.false,
      ← c.is_there.ensures,
      c.if-is_there.false,
    )

pub returns : goal.returns
unfolding presence_of
returns c =
    elim c.else-state_ok.branch [
      | else-state_ok-via-then-state_ok+else-id-le-ID_MAX w ↦ simp (← c.state_ok.ensures, w.if-state_ok.true, lt-leb _ _ w.if-id-le-ID_MAX.false)
      | else-state_ok-via-else-state_ok w ↦ simp (← c.state_ok.ensures, w.if-state_ok.false)
    ]
