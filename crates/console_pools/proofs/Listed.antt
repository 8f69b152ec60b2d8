-- What the planner gave, put behind a place, is what the definitions say: its list behind a 0, or the refusal and its reason. Rests on
-- the planner's own account of its answer and of the rows that it leaves.
use Prim.Native.Nat.{ℕ, ◌≤◌, ◌<◌}
use mathlib.Core.Path.{◌≡◌, sym, ◌∙◌, ap}
use mathlib.Core.List.{List, [], map}
use native.Mathlib.Omega.{arith}
use borrow.Author.Tests.{lt-ltb}
use lib.ListN.{length, take, drop, length-append, length-map, get_or-append}
use Rattle.rules.specs.Refusals.{done}
use Rattle.story.specs.declared.State.{State}
use Rattle.planner.specs.Moves.{Move}
use Rattle.planner.specs.Outcome.{Answered, given, room_of, row_from}
use Rattle.text.specs.declared.page.Page.{Page}
use Rattle.text.specs.Pages.{Puts}
use Rattle.text.proofs.Pages.{told_as}
use Rattle.console_pools.specs.Beside.{entry_at, beside_at, beside}
use Rattle.console_answers.specs.Outcomes.{done_text}
use Rattle.console_pools.specs.Moves.{list_text, planner_text}
use Rattle.console_answers.proofs.Rows.{each_same, counted}
use Rattle.console_answers.proofs.Answered.{told_plain, refused_for}
use Rattle.console_commands.specs.Commands.{do_planner}
use Rattle.console_limits.specs.Asked.{asked_reason}
use Rattle.console_limits.proofs.Silent.{done_asked}

-- so many places of a row are lent three times: that is the room
pub lent : (n m : ℕ) (row : List ℕ) → length row ≡ m → n ≤ m → room_of (take n row) (take n row) (take n row) ≡ n
lent n m row e h = rw (sym (counted n m row e h)) (omega arith)

-- a row with one number of each event first tells these, up to the last event
stands : (f : Move → ℕ) (ms : List Move) (row row' : List ℕ) → row' ≡ row_from f ms row → (j : ℕ) → j < length ms
    → entry_at row' j ≡ entry_at (map f ms) j
unfolding entry_at
stands f ms row row' e j h =
    let few : j < length (map f ms) = rw (length-map ms f) h in
    let many : j < length (row_from f ms row) = omega (arith, few, length-append (map f ms) (drop (length ms) row)) in
    rw (e, lt-ltb _ _ many, lt-ltb _ _ few, get_or-append (map f ms) (drop (length ms) row) 0 j few)

module _ (s : State) (τ : ℕ) (rates is ts ks : List ℕ) (a n : ℕ) (is' ts' ks' : List ℕ)
    (e : Answered s τ rates is ts ks a n is' ts' ks') where
  abbrev ms : List Move
  ms = given s τ rates (room_of is ts ks)

  listed : beside is' ts' ks' [] n ≡ list_text ms
  unfolding list_text beside_at
  listed =
      ap (beside is' ts' ks' []) e.many
      ∙ each_same _ _ (length ms)
      (λ j h. rw (stands _ ms is is' e.ids j h, stands _ ms ts ts' e.times j h, stands _ ms ks ks' e.counts j h))

  module _ (ns : List ℕ) {p q r : Page} (g : Puts p (done_text a 0) q) where
    pub planner_refused : (a ≡ done → ⊥) → Puts q (asked_reason a do_planner ns s.last) r → Puts p (planner_text ns s τ rates (room_of is ts ks)) r
    unfolding planner_text
    planner_refused z f = rw (sym e.answer) (refused_for 0 _ _ g z f)

    pub planner_told : a ≡ done → Puts q (beside is' ts' ks' [] n) r → Puts p (planner_text ns s τ rates (room_of is ts ks)) r
    unfolding planner_text
    planner_told z f = rw (sym e.answer) (told_plain 0 _ _ g z (told_as listed f) (done_asked a do_planner ns s.last z))
