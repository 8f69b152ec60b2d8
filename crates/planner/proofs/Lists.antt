-- What the parts of the code come to together: the wishes in their rows fit the state that they are wished for, and each way
-- out of the list settles answer and rows. Rests on the laws of one wish more and of the answer's parts.
use mathlib.Core.Path.{◌≡◌, sym, ap, ◌∙◌}
use mathlib.Core.List.{List, ◌++◌, map}
use Prim.Native.Nat.{ℕ, ◌≤◌, ◌<◌}
use native.Mathlib.Omega.{arith}
use lib.Dec.{ltb}
use lib.ListN.{length, drop}
use borrow.Author.Tests.{lt-ltb, le-ltb}
use Rattle.rules.specs.Limits.{event_time_max, titles_max}
use Rattle.rules.specs.Refusals.{wrong_rows, past_clock}
use Rattle.story.specs.declared.State.{State}
use Rattle.wishes.specs.declared.Wishes.{Wishes}
use Rattle.wishes.specs.Wishes.{Wish, wishes, wishes_in}
use Rattle.wishes.proofs.Wished.{Each, Wished}
use Rattle.planner.specs.declared.times.Times.{Times}
use Rattle.planner.specs.Moves.{Move, listed, falls_past}
use Rattle.planner.specs.Outcome.{moves, room_of, row_from, Answered}
use Rattle.planner.specs.inner.Steps.{standing_answer, WishesFit, last_moment, first_of, ListTimed}
use Rattle.planner.proofs.Steps.{falls_last, listed_length, listed_titles, listed_counts, wishes_length, wishes_titles}
use Rattle.planner.proofs.Steps.{wishes_counts, each_at}
use Rattle.planner.proofs.Answers.{stands, no_room_lem, past_clock_lem, all_listed, refused_answered, listed_answered}

module _ (s : State) (rates : List ℕ) (w : Wishes) (is-wished : wishes_in w ≡ wishes s rates) where
  -- the wishes of a sharing fit the state
  pub all_fit : Each (Wished s rates) (wishes s rates) → WishesFit s w
  all_fit all j below =
      let x = each_at (Wished s rates) w.titles w.counts w.many j (rw is-wished all) below in
      record { an_id = omega (arith, x.an_id); is_open = x.is_open; low = x.low; high = x.high }

  as_many : length (wishes s rates) ≡ w.many
  as_many = sym (ap (λ (ws : List Wish). length ws) is-wished) ∙ wishes_length w.titles w.counts w.many

  -- rows of a list of moves, by the rows that the code has
  module _ (τ : ℕ) where
    moves_many : w.many ≡ length (moves s τ rates)
    moves_many = sym (listed_length s τ (wishes s rates) ∙ as_many)

    moves_titles : first_of w.titles w.many ≡ map (λ m. m.title) (moves s τ rates)
    moves_titles =
        sym
        (listed_titles s τ (wishes s rates)
        ∙ sym (ap (λ (ws : List Wish). map (λ x. x.title) ws) is-wished)
        ∙ wishes_titles w.titles w.counts w.many)

    moves_counts : first_of w.counts w.many ≡ map (λ m. m.count) (moves s τ rates)
    moves_counts =
        sym
        (listed_counts s τ (wishes s rates)
        ∙ sym (ap (λ (ws : List Wish). map (λ x. x.count) ws) is-wished)
        ∙ wishes_counts w.titles w.counts w.many)

    -- first places written are a row of the list
    row_from_lem : (f : Move → ℕ) (first row after : List ℕ) → first ≡ map f (moves s τ rates) →
        after ≡ first ++ drop w.many row → after ≡ row_from f (moves s τ rates) row
    row_from_lem f first row after e r =
        r
        ∙ ap (λ (xs : List ℕ). xs ++ drop w.many row) e
        ∙ ap (λ (n : ℕ). map f (moves s τ rates) ++ drop n row) moves_many

    module _ (is ts ks : List ℕ) (none : standing_answer s τ rates ≡ 0) (sixteen : length rates ≡ titles_max) where
      pub short_rows : (r n : ℕ) → r ≡ wrong_rows → n ≡ 0 → room_of is ts ks < w.many → Answered s τ rates is ts ks r n is ts ks
      short_rows r n e z short =
          refused_answered s τ rates is ts ks r n
          (e ∙ sym (no_room_lem s τ rates (room_of is ts ks) none sixteen (omega (arith, as_many))))
          z
          (λ x. omega arith)

      module _ (t : Times) (timed : ListTimed s τ w t) (fit : w.many ≤ room_of is ts ks) where
        falls : falls_past (moves s τ rates) ≡ ltb event_time_max t.last
        falls =
            falls_last s τ (wishes s rates) (stands s τ rates none).time
            ∙ ap (λ (n : ℕ). ltb event_time_max n)
            (sym (timed.last ∙ ap (λ (ws : List Wish). last_moment s τ ws) is-wished))

        pub too_late : (r n : ℕ) → r ≡ past_clock → n ≡ 0 → event_time_max < t.last → Answered s τ rates is ts ks r n is ts ks
        too_late r n e z late =
            refused_answered s τ rates is ts ks r n
            (e
            ∙ sym
            (past_clock_lem s τ rates (room_of is ts ks) none sixteen (omega (arith, as_many))
            (falls ∙ lt-ltb event_time_max t.last late)))
            z
            (λ x. omega arith)

        pub all_written : (is' ts' ks' : List ℕ) → t.last ≤ event_time_max →
            is' ≡ first_of w.titles w.many ++ drop w.many is → ts' ≡ first_of t.row w.many ++ drop w.many ts →
            ks' ≡ first_of w.counts w.many ++ drop w.many ks → Answered s τ rates is ts ks 0 w.many is' ts' ks'
        all_written is' ts' ks' in_clock ids times counts =
            listed_answered s τ rates is ts ks w.many is' ts' ks'
            (all_listed s τ rates (room_of is ts ks) none sixteen (omega (arith, as_many))
            (falls ∙ le-ltb event_time_max t.last in_clock))
            moves_many
            (row_from_lem (λ m. m.title) (first_of w.titles w.many) is is' moves_titles ids)
            (row_from_lem (λ m. m.time) (first_of t.row w.many) ts ts'
            (timed.row ∙ ap (λ (ws : List Wish). map (λ x. x.time) (listed s τ ws)) is-wished)
            times)
            (row_from_lem (λ m. m.count) (first_of w.counts w.many) ks ks' moves_counts counts)
