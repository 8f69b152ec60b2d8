-- What each way out of `fits`, `save` and `load` gives back is what the definitions say.
-- Rests on what `save` lays.
use mathlib.Core.Path.{◌≡◌, refl}
use mathlib.Core.Bool.{true, false}
use mathlib.Core.List.{List, ◌++◌}
use Prim.Native.Nat.{ℕ, ◌≤◌, ◌<◌}
use lib.Dec.{eqb}
use lib.ListN.{length, drop, take}
use borrow.Author.Tests.{lt-ltb, le-ltb, eq-eqb, ne_eqb, eqb-true}
use Rattle.rules.specs.Refusals.{first_hit}
use Rattle.rules.proofs.Tests.{both_l}
use Rattle.notice_fields.specs.Numbers.{number_at}
use Rattle.sums.specs.Crc.{sum_of}
use Rattle.snapshots.specs.Bytes.{saved_places, saved_version, saved_number, summed_size, sum_size, snapshot_size, snapshot_of, numbers_in, is_snapshot}
use Rattle.snapshots.specs.Calls.{Saves, Loads}

-- ---- fits

module _ (bs : List ℕ) where
  pub wrong_size : (length bs ≡ snapshot_size → ⊥) → false ≡ is_snapshot bs
  unfolding is_snapshot
  wrong_size other = rw (ne_eqb _ _ other)

  module _ (is : length bs ≡ snapshot_size) where
    pub wrong_sum : (number_at bs summed_size sum_size ≡ sum_of (take summed_size bs) → ⊥) → false ≡ is_snapshot bs
    unfolding is_snapshot
    wrong_sum other = rw (eq-eqb _ _ is, ne_eqb _ _ other)

    pub right_sum : number_at bs summed_size sum_size ≡ sum_of (take summed_size bs)
        → eqb (saved_number bs 0) saved_version ≡ is_snapshot bs
    unfolding is_snapshot
    right_sum same = rw (eq-eqb _ _ is, eq-eqb _ _ same)

  -- a snapshot has its length
  pub fitting_size : is_snapshot bs ≡ true → length bs ≡ snapshot_size
  unfolding is_snapshot
  fitting_size t = eqb-true _ _ (both_l _ _ t)

-- ---- save

module _ (row room : List ℕ) where
  pub save_odd : (length row ≡ saved_places → ⊥) → Saves row room 10 room
  unfolding first_hit
  save_odd other = record { answers = rw (ne_eqb _ _ other); leaves = refl }

  module _ (is : length row ≡ saved_places) where
    pub save_short : length room < snapshot_size → Saves row room 10 room
    unfolding first_hit
    save_short short = record { answers = rw (eq-eqb _ _ is, lt-ltb _ _ short); leaves = refl }

    pub save_done : snapshot_size ≤ length room → Saves row room 0 (snapshot_of row ++ drop snapshot_size room)
    unfolding first_hit
    save_done long = record { answers = rw (eq-eqb _ _ is, le-ltb _ _ long); leaves = refl }

-- ---- load

module _ (bs row : List ℕ) where
  pub load_odd : (length row ≡ saved_places → ⊥) → Loads bs row 10 row
  unfolding first_hit
  load_odd other = record { answers = rw (ne_eqb _ _ other); leaves = refl }

  module _ (is : length row ≡ saved_places) where
    pub load_none : is_snapshot bs ≡ false → Loads bs row 11 row
    unfolding first_hit
    load_none f = record { answers = rw (eq-eqb _ _ is, f); leaves = refl }

    pub load_done : is_snapshot bs ≡ true → Loads bs row 0 (numbers_in bs saved_places)
    unfolding first_hit
    load_done t = record { answers = rw (eq-eqb _ _ is, t); leaves = refl }
