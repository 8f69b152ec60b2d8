-- `console_pools::titles::put_rows` meets its contract: the rows that status filled in stand behind its answer.
use Prim.Native.Nat.{ℕ, ◌-◌, ◌≤◌}
use mathlib.Core.Path.{◌≡◌, sym, ap, ◌∙◌}
use mathlib.Core.List.{List, ◌∷◌}
use native.Mathlib.Omega.{arith}
use lib.ListN.{length, get_or, take, drop, length-drop}
use lib.Seq.{drop-cons, take_all}
use Rattle.text.proofs.Pages.{told_as}
use Rattle.story.specs.declared.State.{State}
use Rattle.console_pools.specs.Titles.{status_text}
use Rattle.console_pools.proofs.Answered.{status_told, status_refused}
use Rattle.console_pools.proofs.titles.put_rows.Goals as goal

-- the part of a line behind its time
abbrev part : List ℕ → List ℕ
part l = take (length l - 1) (drop 1 l)

is_rest : (l : List ℕ) → part l ≡ drop 1 l
is_rest l = let all : length (drop 1 l) ≤ length l - 1 = omega (arith, length-drop 1 l) in take_all (length l - 1) (drop 1 l) all

part_length : (l : List ℕ) → length l - 1 ≡ length (part l)
part_length l = sym (ap length (is_rest l) ∙ length-drop 1 l)

-- the status of the ids behind the time, by that part of the line
by_rest : (s : State) (line : List ℕ) → status_text s (get_or line 0 0) (part line) ≡ status_text s (get_or line 0 0) (drop 1 line)
by_rest s line = ap (λ (ids : List ℕ). status_text s (get_or line 0 0) ids) (is_rest line)

pub returns-then-answer-eq-DONE : goal.returns-then-answer-eq-DONE
returns-then-answer-eq-DONE c =
    let x = c.args in
    let h = c.requires.1 in
    let line = x.asked.now in
    let back = ap length (sym (is_rest line)) in
    let told = c.status-answer.ensures in
    told_as (by_rest x.s line)
    (status_told x.s (get_or line 0 0) _ (part line) x.counts.now x.held.now x.marks.now
    (h.0 ∙ back) (h.1.0 ∙ back) (h.1.1 ∙ back) told.value c.put_done.ensures _ _ _ _ (part_length line)
    told.counts_after told.held_after told.marks_after c.if-answer-eq-DONE.true c.put_beside.ensures)

pub returns-else-answer-eq-DONE : goal.returns-else-answer-eq-DONE
returns-else-answer-eq-DONE c =
    let x = c.args in
    let h = c.requires.1 in
    let line = x.asked.now in
    let back = ap length (sym (is_rest line)) in
    told_as (by_rest x.s line)
    (status_refused x.s (get_or line 0 0) _ (part line) x.counts.now x.held.now x.marks.now
    (h.0 ∙ back) (h.1.0 ∙ back) (h.1.1 ∙ back) c.status-answer.ensures.value c.put_done.ensures line
    (drop-cons line 0 0 c.requires.0 ∙ ap (λ (ids : List ℕ). get_or line 0 0 ∷ ids) (sym (is_rest line)))
    c.if-answer-eq-DONE.false c.put_asked.ensures)
