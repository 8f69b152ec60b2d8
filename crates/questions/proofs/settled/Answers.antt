-- `settled` meets its contract: a state within its limits has a readable title, tuned within its limit.
use Rattle.std.proofs.Common.{◌≡◌, sym, ◌∙◌, ◌≤◌, true, arith, rules}
use Rattle.rules.specs.Limits.{id_max, asked_max}
use Rattle.story.specs.Kept.{state_ok}
use Rattle.measures.specs.Readable.{Readable}
use Rattle.measures.proofs.Within.{title_ok_lem, tuned_high, readable}
use Rattle.questions.proofs.settled.Goals as goal
use Rattle.questions.proofs.settled.Goals.{then-state_ok, else-state_ok}

pub settled_at-requires : goal.settled_at-requires
settled_at-requires c =
    let a = c.args in
    let s : state_ok a.s ≡ true =
    elim c.if-state_ok.branch [ then-state_ok w ↦ sym c.state_ok.ensures ∙ w.if-state_ok.true | else-state_ok w ↦ cc ] in
    let i : a.id ≤ id_max = elim c.if-state_ok.branch [ then-state_ok w ↦ search rules | else-state_ok w ↦ cc ] in
    let ok = title_ok_lem a.s s a.id (omega arith) in
    let t = c.title_of-t in
    let film : Readable t.result = rw t.ensures (readable _ ok) in
    let tuned : t.result.tuned ≤ asked_max = rw t.ensures (tuned_high _ ok) in
    record { filmed = film c.if-t-eq-ABSENT.false; tuned_le_asked_max = tuned }
