-- What each way out of `save` and `load` gives back is what the definitions say. Rests on the contracts of the calls below.
use mathlib.Core.Path.{◌≡◌, refl, sym, ap, ◌∙◌}
use mathlib.Core.Bool.{true, false}
use mathlib.Core.Logic.{⊎_elim}
use mathlib.Core.List.{List}
use Prim.Native.Nat.{ℕ, ◌≤◌, ◌<◌}
use native.Mathlib.Omega.{arith}
use lib.ListN.{length}
use borrow.Author.Tests.{lt-ltb, le-ltb, eq-eqb, ne_eqb}
use Rattle.rules.specs.Refusals.{first_hit}
use Rattle.rules.proofs.Tests.{decide}
use Rattle.snapshots.specs.Bytes.{snapshot_size, numbers_in, is_snapshot}
use Rattle.snapshots.specs.Calls.{Saves, Loads}
use Rattle.agent_rows.specs.Layout.{row_length}
use Rattle.row_snapshots.specs.Calls.{is_within, RowSaves, RowLoads}

-- ---- save

module _ (row room : List ℕ) where
  pub save_other : (length row ≡ row_length → ⊥) → RowSaves row room 10 room
  unfolding first_hit
  save_other other = record { answers = rw (ne_eqb _ _ other); leaves = refl }

  module _ (is : length row ≡ row_length) where
    pub save_short : length room < snapshot_size → RowSaves row room 10 room
    unfolding first_hit
    save_short short = record { answers = rw (eq-eqb _ _ is, lt-ltb _ _ short); leaves = refl }

    module _ (long : snapshot_size ≤ length room) where
      pub save_outside : is_within row ≡ false → RowSaves row room 1 room
      unfolding first_hit
      save_outside f = record { answers = rw (eq-eqb _ _ is, le-ltb _ _ long, f); leaves = refl }

      pub save_done : is_within row ≡ true → (r : ℕ) (after : List ℕ) → Saves row room r after → RowSaves row room r after
      unfolding first_hit
      save_done t r after s =
          record { answers = s.answers ∙ rw (eq-eqb _ _ is, le-ltb _ _ long, t); leaves = s.leaves }

-- ---- load

module _ (row bs : List ℕ) where
  pub load_other : (length row ≡ row_length → ⊥) → RowLoads row bs 10 row
  unfolding first_hit
  load_other other = record { answers = rw (ne_eqb _ _ other); leaves = refl }

  -- what was loaded into a row of the call's own
  module _ (is : length row ≡ row_length) (own : List ℕ) (sized : length own ≡ row_length) (r : ℕ) (loaded : List ℕ)
      (l : Loads bs own r loaded) where
    some : is_snapshot bs ≡ true → r ≡ 0
    unfolding first_hit
    some t = l.answers ∙ rw (eq-eqb _ _ sized, t)

    none : is_snapshot bs ≡ false → r ≡ 11
    unfolding first_hit
    none f = l.answers ∙ rw (eq-eqb _ _ sized, f)

    -- 0 is for a snapshot,
    fits : r ≡ 0 → is_snapshot bs ≡ true
    fits z = ⊎_elim (λ t. t) (λ f. absurd (omega (arith, none f))) (decide (is_snapshot bs))

    -- and leaves its numbers
    numbers : r ≡ 0 → loaded ≡ numbers_in bs row_length
    numbers z = l.leaves ∙ rw z

    refused : is_snapshot bs ≡ false → RowLoads row bs 11 row
    unfolding first_hit
    refused f = record { answers = rw (eq-eqb _ _ is, f); leaves = refl }

    pub load_none : (r ≡ 0 → ⊥) → RowLoads row bs 11 row
    load_none n = ⊎_elim (λ t. absurd (n (some t))) refused (decide (is_snapshot bs))

    pub load_outside : r ≡ 0 → is_within loaded ≡ false → RowLoads row bs 1 row
    unfolding first_hit
    load_outside z f =
        let out : is_within (numbers_in bs row_length) ≡ false = ap is_within (sym (numbers z)) ∙ f in
        record { answers = rw (eq-eqb _ _ is, fits z, out); leaves = refl }

    pub load_done : r ≡ 0 → is_within loaded ≡ true → RowLoads row bs 0 loaded
    unfolding first_hit
    load_done z t =
        let in_limits_lem : is_within (numbers_in bs row_length) ≡ true = ap is_within (sym (numbers z)) ∙ t in
        record { answers = rw (eq-eqb _ _ is, fits z, in_limits_lem); leaves = numbers z }
