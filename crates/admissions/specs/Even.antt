-- What is said of a stretch between two events, in which admissions are evenly spaced (02, request 1).
use Rattle.std.specs.Prelude.{ℕ, ◌*◌, ◌≤◌, ◌<◌, ◌≡◌, true, false}
use Rattle.scheme.specs.Scheme.{starts}
use Rattle.story.specs.Life.{Life, scheme}
use Rattle.story.specs.Story.{tick_length, moment_of}
use Rattle.admissions.specs.declared.Stretch.{Stretch}
use Rattle.admissions.specs.Waits.{lets_in, Next}
use Rattle.admissions.specs.Stretches.{next_in}

-- the admissions below n settle just the arrivals from the opening up to, not including, `from`
pub record Settled (L : Life) (n from : ℕ) : Type 0 where
  pub low : L.opened ≤ from
  pub before : (x : ℕ) → L.opened ≤ x → x < from → (a : ℕ) × (a < n) × Next L x a
  pub after : (x : ℕ) → from ≤ x → (a : ℕ) → a < n → lets_in L x a ≡ false

-- count k admits boxes at tick b: it rules, and the doors are not held
pub record Admits (L : Life) (k b : ℕ) : Type 0 where
  pub rule : L.rule b ≡ k
  pub unheld : L.shut b ≡ false

-- the stretch s is that of count k, from tick n on
pub record Even (L : Life) (s : Stretch) (n k : ℕ) : Type 0 where
  pub tick_some : 0 < tick_length L
  pub slot_some : 0 < (scheme L).slot_of k
  pub count_some : 0 < k
  pub from_opening : s.opened ≡ L.opened
  pub slot_is : s.slot ≡ (scheme L).slot_of k * tick_length L
  pub start_is : s.start ≡ moment_of L n

-- the tick at which the stretch, were it endless, lets x in
pub record LetInAt (L : Life) (s : Stretch) (n k x : ℕ) : Type 0 where
  pub tick : ℕ
  pub moment : moment_of L tick ≡ next_in s x
  pub at_slot : starts (scheme L) k tick ≡ true
  pub since : n ≤ tick
  pub in_time : x ≤ moment_of L tick
  pub least : (b : ℕ) → n ≤ b → starts (scheme L) k b ≡ true → x ≤ moment_of L b → tick ≤ b
