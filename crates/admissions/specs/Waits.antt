-- The next admission at or after an arrival, who is turned away, and what a row of arrivals comes to (02, request 1). All of
-- it is read off the title's life, which the events alone decide; nothing here is stored, and no search has an end.
use Rattle.std.specs.Prelude.{ℕ, zero, suc, ◌+◌, ◌-◌, ◌^◌, ◌<◌, max, ◌≡◌, Bool, true, false, List, leb, get_or}
use Rattle.rules.specs.Limits.{both}
use Rattle.story.specs.Life.{Life, is_admission}
use Rattle.story.specs.Story.{moment_of}
use Rattle.admissions.specs.declared.Waits.{Waits}

-- who arrives at x ms, not before the opening, may begin at tick a: an admission at or after the arrival
unfoldable pub lets_in : Life → ℕ → ℕ → Bool
lets_in L x a = both (leb L.opened x) (both (is_admission L a) (leb x (moment_of L a)))

-- the next admission: no earlier one lets the arrival in
pub record Next (L : Life) (x a : ℕ) : Type 0 where
  pub lets_in_holds : lets_in L x a ≡ true
  pub none_before : (b : ℕ) → b < a → lets_in L x b ≡ false

-- before the opening, or with no admission left
abbrev pub TurnedAway : Life → ℕ → Type 0
TurnedAway L x = (a : ℕ) → lets_in L x a ≡ false

-- nobody got in: the longest wait is 0
abbrev pub nobody : Waits
nobody = record { admitted = 0; longest = 0; sum = 0 }

-- one more, who waited d ms
unfoldable pub waited : Waits → ℕ → Waits
waited w d = record { admitted = w.admitted + 1; longest = max w.longest d; sum = w.sum + d }

-- what the first n arrivals of a row come to: a wait runs from the arrival to the next admission
pub data Tallied (L : Life) (xs : List ℕ) : ℕ → Waits → Type 0 where
  none : Tallied L xs zero nobody
  gets_in : {n a : ℕ} {w : Waits} → Next L (get_or xs n 0) a → Tallied L xs n w
      → Tallied L xs (suc n) (waited w (moment_of L a - get_or xs n 0))
  turned_away : {n : ℕ} {w : Waits} → TurnedAway L (get_or xs n 0) → Tallied L xs n w → Tallied L xs (suc n) w

-- the most arrivals of a row
abbrev pub row_max : ℕ
row_max = 4_096

-- no wait is longer: a slot at most behind the later of the arrival and the last event
abbrev pub wait_max : ℕ
wait_max = 2 ^ 42
