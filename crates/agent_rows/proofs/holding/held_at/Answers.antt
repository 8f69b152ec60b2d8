-- `held_at` meets its contract: the loop's number is the count of the lanes passed, the active ones all held.
use Prim.Native.Nat.{ℕ, ◌+◌, ◌≤◌}
use mathlib.Core.Path.{◌≡◌, sym, ap, ap₂, ◌∙◌}
use native.Mathlib.Omega.{arith}
use native.Mathlib.Numerals.{add-one}
use native.Mathlib.Nat.{le_antisymm, le_refl}
use lib.ListN.{get_or}
use Rattle.rules.specs.Refusals.{pick}
use Rattle.rules.specs.Limits.{count_max}
use Rattle.rules.specs.Search.{how_many}
use Rattle.measures.proofs.Active.{active_held, byte_pick, byte_le}
use Rattle.agent_rows.specs.Layout.{cap_at}
use Rattle.agent_rows.specs.Packed.{title_from}
use Rattle.agent_rows.proofs.Lanes.{cap_high}
use Rattle.agent_rows.proofs.holding.held_at.Tie as tie
use Rattle.agent_rows.proofs.holding.held_at.Lts as lts
use Rattle.agent_rows.proofs.holding.held_at.Reads as reads
use Rattle.agent_rows.proofs.holding.held_at.Goals as goal

-- no cap is above the largest count
cap_fits : (c : lts.In-loop tie.the-claims reads.Pre reads.Post goal.the-invariant-loop-lane goal.the-decreases-loop-lane tie.handed_clauses) →
    let a = c.args in
    get_or a.row.now (a.at + cap_at) 0 ≤ count_max
cap_fits c =
    let s = c in
    cap_high (title_from s.args.row.now s.args.at) s.requires.at_value.0

pub loop-lane-init : goal.loop-lane-init
loop-lane-init c =
    let a = c.args in
    (sym (active_held (title_from a.row.now a.at) a.tick a.active (omega arith)), le_refl _)

pub is_sending-requires : goal.is_sending-requires
is_sending-requires c = let s = c in record { title_places_in_bounds = s.requires.title_places_in_bounds; at_value = (s.requires.at_value.0, (omega arith, omega arith)) }

pub overflow_add-n : goal.overflow_add-n
overflow_add-n c = let f = cap_fits c.before.before.before in omega (arith, byte_le c.is_sending.result)

pub loop-lane-preserved : goal.loop-lane-preserved
unfolding how_many
loop-lane-preserved c =
    let l = c.loop-lane in (
      rw (add-one l.lane)
          (ap₂ (λ (x y : ℕ). x + y) l.invariant.0 (c.from-n.ensures ∙ byte_pick c.is_sending.result ∙ ap (λ b. pick b 1 0) c.is_sending.ensures)),
      omega (arith, byte_le c.is_sending.result),
    )

pub returns : goal.returns
returns c =
    let l = c.loop-lane in
    let s = c in
    let done : l.lane ≡ get_or s.args.row.now (s.args.at + cap_at) 0 = le_antisymm (l.auto.lane-end s.requires.at_value.1.1) c.loop-lane-test.false in
    record {
      is = l.invariant.0 ∙ ap (how_many _) done;
      low = omega arith;
      high = omega (arith, done, cap_high (title_from s.args.row.now s.args.at) s.requires.at_value.0);
    }
