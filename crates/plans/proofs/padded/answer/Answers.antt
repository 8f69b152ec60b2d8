-- `plans::padded::answer` meets its contract: each way out is one refusal of the list, or done.
-- Rests on the laws of refusals.
use mathlib.Core.Path.{◌≡◌, sym, ◌∙◌}
use mathlib.Core.Bool.{Bool}
use Prim.Native.Nat.{ℕ}
use native.Mathlib.Omega.{arith}
use Rattle.scheme.specs.Scheme.{padded, padded_kind, scheme_of, starts}
use Rattle.plans.proofs.padded.Refusals.{refused_limits, refused_cap, refused_below, refused_above, refused_slot}
use Rattle.plans.proofs.padded.Refusals.{refused_rows, accepted, counted}
use Rattle.plans.proofs.padded.answer.Goals as goal

pub returns-then-not-in_limits : goal.returns-then-not-in_limits
returns-then-not-in_limits c = sym (refused_limits _ _ _ _ _ (sym c.in_limits.ensures ∙ c.if-not-in_limits.true))

pub returns-then-cap-floor : goal.returns-then-cap-floor
returns-then-cap-floor c = sym (refused_cap _ _ _ _ _ (sym c.in_limits.ensures ∙ c.if-not-in_limits.false) c.if-cap-floor.true)

pub returns-then-count-floor : goal.returns-then-count-floor
returns-then-count-floor c =
    sym (refused_below _ _ _ _ _ (sym c.in_limits.ensures ∙ c.if-not-in_limits.false) c.if-cap-floor.false c.if-count-floor.true)

pub returns-then-cap-count : goal.returns-then-cap-count
returns-then-cap-count c =
    sym
    (refused_above _ _ _ _ _ (sym c.in_limits.ensures ∙ c.if-not-in_limits.false) c.if-cap-floor.false c.if-count-floor.false c.if-cap-count.true)

-- what the test of the arrival says, by the padded grid
started : (A K k a : ℕ) (r b : Bool) → r ≡ starts (scheme_of padded_kind A K) k a → r ≡ b → starts (padded A K) k a ≡ b
unfolding scheme_of
started A K k a r b e f = sym e ∙ f

pub starts-requires : goal.starts-requires
starts-requires c =
    let ranked = counted _ _ _ _ c.args.places (sym c.in_limits.ensures ∙ c.if-not-in_limits.false) c.if-count-floor.false c.if-cap-count.false in
    record { fit = ranked.fit; high = ranked.high }

pub returns-then-not-starts : goal.returns-then-not-starts
returns-then-not-starts c =
    let inside = sym c.in_limits.ensures ∙ c.if-not-in_limits.false in
    sym
    (refused_slot _ _ _ _ _ inside (counted _ _ _ _ c.args.places inside c.if-count-floor.false c.if-cap-count.false)
    (started _ _ _ _ _ _ c.starts.ensures c.if-not-starts.true))

pub pow2-requires : goal.pow2-requires
pow2-requires c =
    (counted _ _ _ _ c.args.places (sym c.in_limits.ensures ∙ c.if-not-in_limits.false) c.if-count-floor.false c.if-cap-count.false).high

pub returns-then-places-pow2 : goal.returns-then-places-pow2
returns-then-places-pow2 c =
    let inside = sym c.in_limits.ensures ∙ c.if-not-in_limits.false in
    sym
    (refused_rows _ _ _ _ _ inside (counted _ _ _ _ c.args.places inside c.if-count-floor.false c.if-cap-count.false)
    (started _ _ _ _ _ _ c.starts.ensures c.if-not-starts.false) (omega (arith, c.pow2.ensures.is, c.if-places-pow2.true)))

pub returns : goal.returns
returns c =
    let inside = sym c.in_limits.ensures ∙ c.if-not-in_limits.false in
    sym
    (accepted _ _ _ _ _ inside (counted _ _ _ _ c.args.places inside c.if-count-floor.false c.if-cap-count.false)
    (started _ _ _ _ _ _ c.starts.ensures c.if-not-starts.false) (omega (arith, c.pow2.ensures.is, c.if-places-pow2.false)))
