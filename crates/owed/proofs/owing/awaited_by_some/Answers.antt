-- `awaited_by_some` meets its contract: the loop's value is the test of some count passed, and no count up to the lane had
-- it. Rests on the law that a count with the lane has its cell.
use Prim.Native.Nat.{suc, ◌+◌, ◌≤◌}
use mathlib.Core.Path.{◌≡◌, refl, sym, ap, ◌∙◌}
use native.Mathlib.Omega.{arith}
use native.Mathlib.Numerals.{add-one}
use lib.Dec.{ltb, leb}
use lib.ListN.{get_or}
use borrow.Author.Tests.{lt-ltb, le-ltb}
use Rattle.rules.specs.Limits.{both, count_places}
use Rattle.rules.specs.Search.{some}
use Rattle.rules.proofs.Search.{some_in, some_none}
use Rattle.measures.proofs.Within.{in_row}
use Rattle.story.specs.Kept.{scheme_in, wants, kept_awaited}
use Rattle.stretches.proofs.OneChannel.{padded_wants, own_cell}
use Rattle.owed.proofs.owing.awaited_by_some.Goals.{After-owed_to}
use Rattle.owed.proofs.owing.awaited_by_some.Goals as goal

pub loop-count-init : goal.loop-count-init
loop-count-init c =
    let a = c.args in (
      omega arith,
      some_none (λ k. both (ltb a.lane k) (both (leb a.t.film.floor k) (wants (scheme_in a.t) (get_or a.t.ends k 0) a.cell a.tick k)))
          (a.lane + 1)
          (λ k l. rw (le-ltb a.lane k (omega arith)) refl),
    )

pub owed_to-requires : goal.owed_to-requires
owed_to-requires c =
    let a = c.args in
    let k = c.loop-count.count in
    let has = c.loop-count.invariant.0 in
    let low : k ≤ a.t.film.cap = omega arith in
    let film = c.requires.owing.film.cut in
    record {
      count_cap = record { fit = low; high = film.high };
      end_le_asked_max = (in_row a.t.ends count_places k c.requires.owing.ends (omega (arith, low, film.high)), (c.requires.cell.0.within, c.requires.lane_lt_cap.1));
      cell_value = λ floor. own_cell a.t.film.floor a.t.film.cap a.lane k a.tick a.cell low has c.requires.cell.0.is floor;
    }

-- the test of a count
asked : (c : After-owed_to) →
    let a = c.args in
    let k = c.loop-count.count in
    c.owed_to.result ≡ both (ltb a.lane k) (both (leb a.t.film.floor k) (wants (scheme_in a.t) (get_or a.t.ends k 0) a.cell a.tick k))
asked c =
    let a = c.args in
    let k = c.loop-count.count in
    rw (lt-ltb a.lane k c.loop-count.invariant.0)
    (c.owed_to.ensures ∙ ap (both (leb a.t.film.floor k)) (padded_wants a.t a.cell a.tick k c.requires.cell.1))

pub returns-then-owed_to : goal.returns-then-owed_to
unfolding kept_awaited
returns-then-owed_to c =
    sym (some_in _ (suc c.args.t.film.cap) c.loop-count.count (omega arith) (sym (asked c.before) ∙ c.if-owed_to.true))

pub loop-count-preserved : goal.loop-count-preserved
unfolding some
loop-count-preserved c =
    (omega arith, rw (add-one, ← asked c.before, c.if-owed_to.false) c.loop-count.invariant.1)

pub returns : goal.returns
unfolding kept_awaited
returns c =
    let l = c.loop-count in
    let all : l.count ≡ suc c.args.t.film.cap = omega (arith, l.auto.count-end) in
    sym (rw all at l.invariant.1)
