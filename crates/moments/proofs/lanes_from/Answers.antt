-- `lanes_from` meets its contract: a drop finds its lanes at once, and a raise is tried in the state that it would leave.
use mathlib.Core.Path.{◌≡◌, ap, ◌∙◌}
use Prim.Native.Nat.{ℕ, ◌≤◌, ◌<◌}
use native.Mathlib.Omega.{arith}
use Rattle.story.specs.declared.Title.{Title}
use Rattle.story.specs.declared.State.{State}
use Rattle.story.specs.Kept.{title_at}
use Rattle.story.specs.Next.{with_title, changed_title, change_next}
use Rattle.moments.proofs.Due.{open_changeable, raise_timed, drop_finds_lanes, raise_finds_lanes}
use Rattle.moments.proofs.lanes_from.Goals as goal

-- the state that the raise would leave, made step by step
raise_made : (s : State) (i k τ : ℕ) {t q : Title} {z : State} → t ≡ title_at s i → q ≡ changed_title t τ k →
    z ≡ with_title s i q τ → z ≡ change_next s i τ k
raise_made s i k τ is changed made =
    made ∙ ap (λ t. with_title s i t τ) (changed ∙ ap (λ t. changed_title t τ k) is)

pub returns-then-count-t : goal.returns-then-count-t
returns-then-count-t c =
    let start = c in
    let a = start.args in
    let e = ap (λ (t : Title). t.count) c.title_of-t.ensures in
    drop_finds_lanes a.s a.id a.count a.from start.requires.from_bound (omega (arith, e, c.if-count-t.true))

pub changed_title-requires : goal.changed_title-requires
changed_title-requires c = let start = c in
    let a = start.args in
    let t = c.title_of-t in
    let id = start.requires.id_le_id_max in
    let z = open_changeable a.s start.requires.s_value a.id (omega (arith, id.0)) id.1 t.result t.ensures in
    record { changeable = z; time_le_asked_max = omega (arith, start.requires.from_bound) }

pub free_from-requires : goal.free_from-requires
free_from-requires c = let start = c in
    let a = start.args in
    let t = c.title_of-t in
    let q = raise_made a.s a.id a.count a.from t.ensures c.changed_title.ensures c.with_title.ensures in
    let up : (title_at a.s a.id).count ≤ a.count =
    omega (arith, ap (λ (t : Title). t.count) t.ensures, c.if-count-t.false) in
    let id = start.requires.id_le_id_max in
    record { all_timed = rw q (raise_timed a.s start.requires.s_value a.id a.count a.from (omega (arith, id.0)) id.1 up); from_bound = start.requires.from_bound }

pub returns : goal.returns
returns c =
    let start = c in
    let a = start.args in
    let t = c.title_of-t in
    let made = c.with_title.ensures in
    let q = raise_made a.s a.id a.count a.from t.ensures c.changed_title.ensures made in
    let up : (title_at a.s a.id).count < a.count =
    omega (arith, ap (λ (t : Title). t.count) t.ensures, c.if-count-t.false) in
    raise_finds_lanes a.s a.id a.count a.from c.free_from.result up (rw q at c.free_from.ensures)
