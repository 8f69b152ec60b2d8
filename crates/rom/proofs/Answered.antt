-- The lane question: where a title's scheme, floor and cap are the box's, answer and cell are the computing call's; an
-- answered question has such a title; and what is looked up in a table that was filled is that title's. Rests on the laws of
-- refusals, of lane questions and of the table.
use mathlib.Core.Path.{◌≡◌, refl, sym, ◌∙◌}
use mathlib.Core.Bool.{Bool, true, false, not}
use mathlib.Core.List.{List}
use mathlib.Core.Logic.{⊎_elim}
use Prim.Native.Nat.{ℕ, ◌≤◌, ◌<◌}
use native.Mathlib.Omega.{arith}
use lib.Dec.{leb, eqb}
use lib.ListN.{length}
use borrow.Author.Tests.{eq-eqb, ne_eqb, eqb-true, eqb-false, le-leb, lt-leb}
use Rattle.rules.specs.Limits.{both, either, id_max}
use Rattle.rules.specs.Refusals.{pick, first_hit, outside_limits, wrong_rows}
use Rattle.rules.proofs.Tests.{decide, either_false_l, either_false_r}
use Rattle.grid.specs.Lanes.{lane_cell}
use Rattle.scheme.specs.Scheme.{steady_kind}
use Rattle.scheme.proofs.ByKind.{padded_scheme}
use Rattle.story.specs.declared.Title.{Title}
use Rattle.story.specs.declared.State.{State}
use Rattle.story.specs.Kept.{absent_mode, title_at, is_steady_title, scheme_in, tick_at, shows}
use Rattle.story.specs.Calls.{lane_answer, lane_shows}
use Rattle.owed.specs.Shown.{shown_tick}
use Rattle.owed.proofs.Shown.{shown_cell}
use Rattle.questions.proofs.Lane.{lane_id, lane_slot, lane_capped}
use Rattle.rom_table.specs.Table.{rom_floor, rom_cap, rom_entries, is_other, IsTable, table_cell}
use Rattle.rom_table.proofs.OwnNumbers.{own, own_numbers_lem}
use Rattle.rom_table.proofs.Entries.{table_cell_lem}
use Rattle.rom.specs.Lanes.{is_foreign, rom_lane_answer, rom_lane_shows, table_lane_answer, table_lane_shows, Own}

-- ---- which titles the box has

own_title : (t : Title) → (t.mode ≡ absent_mode → ⊥) → is_foreign t ≡ false → Own t
own_title t there h =
    let e : either (is_steady_title t) (is_other t.film.floor t.film.cap) ≡ false = rw (ne_eqb t.mode absent_mode there) at h in
    let w = own_numbers_lem t.film.floor t.film.cap (either_false_r (is_steady_title t) (is_other t.film.floor t.film.cap) e) in
    record {
      kind = eqb-false t.film.kind steady_kind (either_false_l (is_steady_title t) (is_other t.film.floor t.film.cap) e);
      floor = w.0;
      cap = w.1;
    }

title_own : (t : Title) → Own t → is_foreign t ≡ false
title_own t o = rw (ne_eqb t.film.kind steady_kind o.kind, own t.film.floor t.film.cap o.floor o.cap) (never_both (not (eqb t.mode absent_mode)))
  where
    never_both : (b : Bool) → both b false ≡ false
    never_both true = refl
    never_both false = refl

-- ---- the answer

module _ (s : State) (i l τ : ℕ) where
  -- the rule in front
  abbrev first_rule : Bool
  first_rule = both (leb i id_max) (is_foreign (title_at s i))

  pub rule_hits : first_rule ≡ true → rom_lane_answer s i l τ ≡ outside_limits
  unfolding rom_lane_answer first_hit
  rule_hits h = rw h refl

  pub rule_passed : first_rule ≡ false → rom_lane_answer s i l τ ≡ lane_answer s i l τ
  unfolding rom_lane_answer lane_answer first_hit
  rule_passed h = rw h refl

  pub far_id : id_max < i → first_rule ≡ false
  far_id h = rw (lt-leb i id_max h) refl

  pub foreign_id : i ≤ id_max → (b : Bool) → is_foreign (title_at s i) ≡ b → first_rule ≡ b
  foreign_id h b e = rw (le-leb i id_max h, e) refl

  own_passed : Own (title_at s i) → first_rule ≡ false
  own_passed o = rw (title_own (title_at s i) o) (go (leb i id_max))
    where
      go : (b : Bool) → both b false ≡ false
      go true = refl
      go false = refl

  -- a question that is answered
  module _ (none : rom_lane_answer s i l τ ≡ 0) where
    passed : first_rule ≡ false
    passed = ⊎_elim (λ h. absurd (omega (arith, rule_hits h))) (λ h. h) (decide first_rule)

    pub rom_answered : lane_answer s i l τ ≡ 0
    rom_answered = sym (rule_passed passed) ∙ none

    pub rom_own : Own (title_at s i)
    rom_own =
        let there = lane_slot s i l τ rom_answered in
        let b : leb i id_max ≡ true = le-leb i id_max (lane_id s i l τ rom_answered) in
        own_title (title_at s i) there (rw b at passed)

    pub rom_shown : rom_lane_shows s i l τ ≡ shows (title_at s i) l (tick_at (title_at s i) τ)
    unfolding rom_lane_shows lane_shows
    rom_shown = rw (none, rom_answered) refl

  pub rom_refused : (rom_lane_answer s i l τ ≡ 0 → ⊥) → rom_lane_shows s i l τ ≡ 0
  unfolding rom_lane_shows
  rom_refused n = rw (ne_eqb (rom_lane_answer s i l τ) 0 n) refl

  -- the two boxes agree on a title on the padded grid of floor 3 and cap 10, whatever the state, the lane and the time
  pub same_answer : Own (title_at s i) → rom_lane_answer s i l τ ≡ lane_answer s i l τ
  same_answer o = rule_passed (own_passed o)

  pub same_cell : Own (title_at s i) → rom_lane_shows s i l τ ≡ lane_shows s i l τ
  unfolding rom_lane_shows lane_shows
  same_cell o =
      rw (same_answer o) (twice (eqb (lane_answer s i l τ) 0) (shows (title_at s i) l (tick_at (title_at s i) τ)))
    where
      twice : (b : Bool) (x : ℕ) → pick b (pick b x 0) 0 ≡ pick b x 0
      twice true x = refl
      twice false x = refl

-- ---- what is looked up

pub own_capped : (t : Title) → Own t → (l : ℕ) → l < t.film.cap → l < rom_cap
own_capped t o l h = omega (arith, o.cap)

-- the box's grid is the title's
own_lane : (t : Title) → Own t → (l u : ℕ) → lane_cell rom_floor rom_cap l u ≡ (scheme_in t).on_lane l u
own_lane t o l u = rw (padded_scheme t.film.kind t.film.floor t.film.cap o.kind, o.floor, o.cap) refl

module _ (T : List ℕ) (s : State) (i l τ : ℕ) where
  -- a table of another length
  pub table_refused : (length T ≡ rom_entries → ⊥) → wrong_rows ≡ table_lane_answer T s i l τ
  unfolding table_lane_answer
  table_refused n = rw (ne_eqb (length T) rom_entries n) refl

  pub table_asked : length T ≡ rom_entries → rom_lane_answer s i l τ ≡ table_lane_answer T s i l τ
  unfolding table_lane_answer
  table_asked e = rw (eq-eqb (length T) rom_entries e) refl

  -- a question that is answered has a table of the right length
  module _ (none : table_lane_answer T s i l τ ≡ 0) where
    pub table_long : length T ≡ rom_entries
    table_long =
        ⊎_elim (λ h. eqb-true (length T) rom_entries h)
        (λ h. absurd (omega (arith, table_refused (eqb-false (length T) rom_entries h), none)))
        (decide (eqb (length T) rom_entries))

    pub table_answered : rom_lane_answer s i l τ ≡ 0
    table_answered = table_asked table_long ∙ none

    pub table_shown : table_cell T l (shown_tick (title_at s i) l (tick_at (title_at s i) τ)) ≡ table_lane_shows T s i l τ
    unfolding table_lane_shows
    table_shown = rw none refl

  pub table_unshown : (table_lane_answer T s i l τ ≡ 0 → ⊥) → 0 ≡ table_lane_shows T s i l τ
  unfolding table_lane_shows
  table_unshown n = rw (ne_eqb (table_lane_answer T s i l τ) 0 n) refl

  -- by the table itself, answer and cell are the small box's
  pub table_lane : IsTable T → (table_lane_answer T s i l τ ≡ rom_lane_answer s i l τ) × (table_lane_shows T s i l τ ≡ rom_lane_shows s i l τ)
  table_lane h = (same, ⊎_elim (λ e. shown (eqb-true _ 0 e)) (λ e. unshown (eqb-false _ 0 e)) (decide (eqb (rom_lane_answer s i l τ) 0)))
    where
      same : table_lane_answer T s i l τ ≡ rom_lane_answer s i l τ
      same = sym (table_asked h.long)

      shown : rom_lane_answer s i l τ ≡ 0 → table_lane_shows T s i l τ ≡ rom_lane_shows s i l τ
      shown none =
          let t = title_at s i in
          let u = shown_tick t l (tick_at t τ) in
          let own = rom_own s i l τ none in
          let low = own_capped t own l (lane_capped s i l τ (rom_answered s i l τ none)) in
          sym (table_shown (same ∙ none))
          ∙ table_cell_lem T h l u low
          ∙ own_lane t own l u
          ∙ sym (shown_cell t l (tick_at t τ))
          ∙ sym (rom_shown s i l τ none)

      unshown : (rom_lane_answer s i l τ ≡ 0 → ⊥) → table_lane_shows T s i l τ ≡ rom_lane_shows s i l τ
      unshown n = sym (table_unshown (λ e. n (sym same ∙ e))) ∙ sym (rom_refused s i l τ n)
