-- Laws of a row with values laid from a place on: those laid stand there, the earlier ones stay. Rest on the laws of stores into a list.
use mathlib.Core.Path.{◌≡◌, refl, ◌∙◌}
use mathlib.Core.List.{List}
use mathlib.Core.Logic.{⊎_elim}
use Prim.Native.Nat.{ℕ, zero, suc, ◌+◌, ◌-◌, ◌*◌, ◌/◌, ◌≤◌, ◌<◌, min}
use native.Mathlib.Omega.{arith}
use lib.ListN.{length, get_or, set, length-set}
use lib.Seq.{get_or-set_same, get_or-set_other}
use Rattle.rules.specs.Limits.{lane_places}
use Rattle.rules.proofs.Search.{below_suc}
use Rattle.story.specs.declared.Title.{Title}
use Rattle.story.specs.Kept.{tick_at}
use Rattle.judging.specs.Record.{ticks_max}
use Rattle.playouts.specs.inner.Steps.{standing_number_at, place_from, laid_from, filled_to}

pub sub_zero : (n m : ℕ) → n ≡ m → n - m ≡ 0
sub_zero n m e = omega arith

module _ (f : ℕ → ℕ) (a : ℕ) (row : List ℕ) where
  -- one place more
  pub laid_next_lem : (r : List ℕ) (n v : ℕ) → a ≤ n → r ≡ laid_from f a row (n - a) → v ≡ f n → set r n v ≡ laid_from f a row (n + 1 - a)
  unfolding laid_from
  laid_next_lem r n v le p q =
      let more : n + 1 - a ≡ suc (n - a) = omega arith in
      let here : a + (n - a) ≡ n = omega arith in
      rw (more, here, p, q) refl

  laid_length : (n : ℕ) → length (laid_from f a row n) ≡ length row
  unfolding laid_from
  laid_length zero = refl
  laid_length (suc n) = length-set (laid_from f a row n) (a + n) (f (a + n)) ∙ laid_length n

  laid_before : (n j : ℕ) → j < a → get_or (laid_from f a row n) j 0 ≡ get_or row j 0
  unfolding laid_from
  laid_before zero j lt = refl
  laid_before (suc n) j lt =
      get_or-set_other (laid_from f a row n) (a + n) j (f (a + n)) 0 (omega arith) ∙ laid_before n j lt

  laid_at : (n j : ℕ) → a ≤ j → j < a + n → j < length row → get_or (laid_from f a row n) j 0 ≡ f j
  unfolding laid_from
  laid_at zero j le lt room = absurd (omega arith)
  laid_at (suc n) j le lt room =
      ⊎_elim
      (λ b. get_or-set_other (laid_from f a row n) (a + n) j (f (a + n)) 0 (omega arith) ∙ laid_at n j le b room)
      (λ e. rw e (get_or-set_same (laid_from f a row n) (a + n) (f (a + n)) 0 (omega (arith, laid_length n))))
      (below_suc j (a + n) (omega arith))

-- ---- ticks and places

module _ (from u j : ℕ) where
  -- a place lies from that of a tick on where its own tick is no earlier, and before it where it is
  place_late : u ≤ from + j / lane_places → place_from from u ≤ j
  unfolding place_from
  place_late h = omega arith

  place_since : j < ticks_max * lane_places → from + j / lane_places < u → j < place_from from u
  unfolding place_from
  place_since short h = omega arith

-- the ticks from a title's latest event up to tick v
module _ (t : Title) (from v : ℕ) (row : List ℕ) where
  pub to_length : length (filled_to t from v row) ≡ length row
  unfolding filled_to
  to_length =
      laid_length (standing_number_at t from) (place_from from (tick_at t t.last)) row
      (min (place_from from v) (length row) - place_from from (tick_at t t.last))

  -- as the code comes to them: from a first place up to an end
  pub to_end : (a tick e p n : ℕ) (m : List ℕ) → a ≡ place_from from tick → tick ≡ tick_at t t.last → e ≡ min p (length row) →
      p ≡ place_from from v → n ≡ e - a → m ≡ laid_from (standing_number_at t from) a row n → m ≡ filled_to t from v row
  unfolding filled_to
  to_end a tick e p n m is-a is-tick is-e is-p is-n is =
      is ∙ rw (is-n, is-e, is-p, is-a, is-tick) refl

  module _ (short : length row ≤ ticks_max * lane_places) (j : ℕ) (room : j < length row) where
    pub to_before : from + j / lane_places < tick_at t t.last → get_or (filled_to t from v row) j 0 ≡ get_or row j 0
    unfolding filled_to
    to_before lt =
        laid_before (standing_number_at t from) (place_from from (tick_at t t.last)) row
        (min (place_from from v) (length row) - place_from from (tick_at t t.last)) j
        (place_since from (tick_at t t.last) j (omega arith) lt)

    pub to_at : tick_at t t.last ≤ from + j / lane_places → from + j / lane_places < v → get_or (filled_to t from v row) j 0 ≡ standing_number_at t from j
    unfolding filled_to
    to_at le lt =
        let a : ℕ = place_from from (tick_at t t.last) in
        let late : a ≤ j = place_late from (tick_at t t.last) j le in
        let here : j < place_from from v = place_since from v j (omega arith) lt in
        laid_at (standing_number_at t from) a row (min (place_from from v) (length row) - a) j late (omega arith) room
