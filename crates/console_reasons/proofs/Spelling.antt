-- What 1 says of an event is so, where a line or a notice spelt it: the number that is named is out of its limits, and none before it;
-- where none is named, the state is out of its own. Rests on `console_limits` proofs/Naming.
use Prim.Native.Nat.{ℕ}
use mathlib.Core.Path.{◌≡◌, refl, sym, ◌∙◌}
use mathlib.Core.Bool.{Bool, true, false, not, false≢true}
use mathlib.Core.Logic.{⊎_elim}
use mathlib.Core.List.{[], ◌∷◌}
use native.Mathlib.Omega.{arith}
use borrow.Author.Tests.{eqb-true}
use lib.Dec.{leb, eqb}
use Rattle.rules.specs.Limits.{both, within, id_max, event_time_max, count_min, count_max}
use Rattle.rules.specs.Refusals.{pick, outside_limits}
use Rattle.rules.proofs.Tests.{both_l, both_r, both_in, either_out}
use Rattle.rules.proofs.Refusals.{first_hit_lem, hits_of, distinct, is_listed}
use Rattle.scheme.specs.Scheme.{padded_kind, steady_kind}
use Rattle.story.specs.declared.State.{State}
use Rattle.story.specs.declared.Film.{Film}
use Rattle.story.specs.declared.Act.{Act}
use Rattle.story.specs.declared.Act.TheVariants.{Opens, Changes, Closes, Doors}
use Rattle.story.specs.declared.Event.{Event}
use Rattle.story.specs.Kept.{state_ok}
use Rattle.story.specs.Orders.{open_order, change_order, close_order, doors_order}
use Rattle.story.specs.Story.{act_limits, steady_limits, padded_limits}
use Rattle.story.specs.Calls.{event_ok, tests_in, call_answer}
use Rattle.story.specs.Runs.{answered}
use Rattle.console_commands.specs.Commands.{do_open, do_change, do_close, do_skip}
use Rattle.console_limits.specs.Quantities.{bounds_of, bounds_table, quantity_at, column_of, row_of, quantity_table}
use Rattle.console_limits.specs.Outside.{SaysOut}
use Rattle.console_reasons.specs.Events.{command_for, numbers_for, numbers_of, is_spelt}
use Rattle.console_limits.proofs.Naming.{within_all, by_limits}

both_assoc : (a b c : Bool) → both (both a b) c ≡ both a (both b c)
both_assoc true b c = refl
both_assoc false b c = refl

-- the id and the time of an event are within their limits
abbrev common_ok : ℕ → ℕ → Bool
common_ok i τ = both (leb i id_max) (leb τ event_time_max)

module _ (s : State) (i τ : ℕ) where
  -- an event that is answered 1 has a number out of its limits, or the state has
  outside_hit : (a : Act) → call_answer s i τ a ≡ outside_limits → not (act_limits a (event_ok s i τ)) ≡ true
  unfolding call_answer hits_of distinct is_listed
  outside_hit (Opens f k) h = (first_hit_lem (open_order (tests_in s i τ (Opens f k))) refl outside_limits (omega arith) h).0
  outside_hit (Changes k) h = (first_hit_lem (change_order (tests_in s i τ (Changes k))) refl outside_limits (omega arith) h).0
  outside_hit Closes h = (first_hit_lem (close_order (tests_in s i τ Closes)) refl outside_limits (omega arith) h).0
  outside_hit (Doors b) h = (first_hit_lem (doors_order (tests_in s i τ (Doors b))) refl outside_limits (omega arith) h).0

  -- the same with the state apart from the numbers
  apart : (rest : Bool) → not (both (event_ok s i τ) rest) ≡ true → not (both (state_ok s) (both (common_ok i τ) rest)) ≡ true
  apart rest h = rw (both_assoc (state_ok s) (common_ok i τ) rest) at h

  change_out : (k : ℕ) → not (act_limits (Changes k) (event_ok s i τ)) ≡ true → SaysOut (state_ok s) do_change (i ∷ τ ∷ k ∷ [])
  unfolding quantity_at column_of row_of quantity_table bounds_of bounds_table
  change_out k h =
      by_limits do_change (i ∷ τ ∷ k ∷ []) (state_ok s) (both (common_ok i τ) (within count_min count_max k))
      (apart (within count_min count_max k) h)
      (λ none.
      let inside = within_all do_change (i ∷ τ ∷ k ∷ []) none in
      both_in _ _
      (both_in _ _ (both_r (leb 0 i) (leb i id_max) (inside 0 (omega arith))) (both_r (leb 0 τ) (leb τ event_time_max) (inside 1 (omega arith))))
      (inside 2 (omega arith)))

  plain_out : not (event_ok s i τ) ≡ true → SaysOut (state_ok s) do_close (i ∷ τ ∷ [])
  unfolding quantity_at column_of row_of quantity_table bounds_of bounds_table
  plain_out h =
      by_limits do_close (i ∷ τ ∷ []) (state_ok s) (common_ok i τ) h
      (λ none.
      let inside = within_all do_close (i ∷ τ ∷ []) none in
      both_in _ _ (both_r (leb 0 i) (leb i id_max) (inside 0 (omega arith))) (both_r (leb 0 τ) (leb τ event_time_max) (inside 1 (omega arith))))

  module _ (f : Film) (k : ℕ) where
    skip_out : (f.kind ≡ steady_kind) → both (eqb f.floor k) (eqb f.cap k) ≡ true
        → not (both (event_ok s i τ) (both (leb f.kind steady_kind) (steady_limits f k))) ≡ true
        → SaysOut (state_ok s) do_skip (i ∷ τ ∷ f.length ∷ k ∷ [])
    unfolding quantity_at column_of row_of quantity_table bounds_of bounds_table
    skip_out kind level h =
        by_limits do_skip (i ∷ τ ∷ f.length ∷ k ∷ []) (state_ok s)
        (both (common_ok i τ) (both (leb f.kind steady_kind) (steady_limits f k)))
        (apart (both (leb f.kind steady_kind) (steady_limits f k)) h)
        (λ none.
        let inside = within_all do_skip (i ∷ τ ∷ f.length ∷ k ∷ []) none in
        both_in _ _
        (both_in _ _ (both_r (leb 0 i) (leb i id_max) (inside 0 (omega arith))) (both_r (leb 0 τ) (leb τ event_time_max) (inside 1 (omega arith))))
        (both_in (leb f.kind steady_kind) _ (rw kind refl) (both_in _ _ (inside 2 (omega arith)) (both_in _ _ (inside 3 (omega arith)) level))))

    open_out : (f.kind ≡ padded_kind)
        → not (both (event_ok s i τ) (both (leb f.kind steady_kind) (padded_limits f k))) ≡ true
        → SaysOut (state_ok s) do_open (i ∷ τ ∷ f.length ∷ f.floor ∷ f.cap ∷ k ∷ [])
    unfolding quantity_at column_of row_of quantity_table bounds_of bounds_table
    open_out kind h =
        by_limits do_open (i ∷ τ ∷ f.length ∷ f.floor ∷ f.cap ∷ k ∷ []) (state_ok s)
        (both (common_ok i τ) (both (leb f.kind steady_kind) (padded_limits f k)))
        (apart (both (leb f.kind steady_kind) (padded_limits f k)) h)
        (λ none.
        let inside = within_all do_open (i ∷ τ ∷ f.length ∷ f.floor ∷ f.cap ∷ k ∷ []) none in
        both_in _ _
        (both_in _ _ (both_r (leb 0 i) (leb i id_max) (inside 0 (omega arith))) (both_r (leb 0 τ) (leb τ event_time_max) (inside 1 (omega arith))))
        (both_in (leb f.kind steady_kind) _ (rw kind refl)
        (both_in _ _ (inside 2 (omega arith))
        (both_in _ _ (inside 3 (omega arith)) (both_in _ _ (inside 4 (omega arith)) (inside 5 (omega arith)))))))

    -- of a skip-forward title, and of one on the padded grid
    opening_out : is_spelt (Opens f k) ≡ true → not (act_limits (Opens f k) (event_ok s i τ)) ≡ true
        → SaysOut (state_ok s) (command_for (Opens f k)) (i ∷ τ ∷ numbers_for (Opens f k))
    opening_out spelt h = go (eqb f.kind steady_kind) refl h
      where
        go : (b : Bool) → eqb f.kind steady_kind ≡ b
            → not (both (event_ok s i τ) (both (leb f.kind steady_kind) (pick b (steady_limits f k) (padded_limits f k)))) ≡ true
            → SaysOut (state_ok s) (pick b do_skip do_open)
            (i ∷ τ ∷ pick b (f.length ∷ k ∷ []) (f.length ∷ f.floor ∷ f.cap ∷ k ∷ []))
        go true e l =
            let kind : f.kind ≡ steady_kind = eqb-true f.kind steady_kind e in
            skip_out kind (both_r (eqb steady_kind steady_kind) _ (rw kind at spelt)) l
        go false e l =
            open_out
            (⊎_elim (λ p. eqb-true f.kind padded_kind p)
            (λ q. absurd (false≢true (sym e ∙ both_l (eqb f.kind steady_kind) _ q)))
            (either_out (eqb f.kind padded_kind) _ spelt))
            l

-- every event that can be spelt
pub event_out_lem : (s : State) (e : Event) → is_spelt e.act ≡ true → answered s e ≡ outside_limits
    → SaysOut (state_ok s) (command_for e.act) (numbers_of e)
event_out_lem s e spelt h = go e.act spelt (outside_hit s e.title e.time e.act h)
  where
    go : (a : Act) → is_spelt a ≡ true → not (act_limits a (event_ok s e.title e.time)) ≡ true
        → SaysOut (state_ok s) (command_for a) (e.title ∷ e.time ∷ numbers_for a)
    go (Opens f k) sp l = opening_out s e.title e.time f k sp l
    go (Changes k) sp l = change_out s e.title e.time k l
    go Closes sp l = plain_out s e.title e.time l
    go (Doors b) sp l = plain_out s e.title e.time l
