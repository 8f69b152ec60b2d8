-- The laws of a scheme by which the story is told, for a film of D ms with a tick of so many ms, floor A and cap K. Each scheme
-- shows that it meets them (proofs/Padded, Steady, LawfulKinds); what follows from them is shown once, of every scheme that does.
use Rattle.std.specs.Prelude.{◌≡◌, true, ℕ, ◌+◌, ◌-◌, ◌^◌, ◌≤◌, ◌<◌}
use Rattle.scheme.specs.Scheme.{Scheme, starts, takes, film_in}

pub record Lawful (S : Scheme) (D tick A K : ℕ) : Type 0 where
  -- a slot has ticks, and a slot start of a count is one of every larger count
  pub slot_pos : (k : ℕ) → 0 < S.slot_of k
  pub slots_nest : (m c t : ℕ) → m ≤ c → starts S m t ≡ true → starts S c t ≡ true
  -- a channel's cell goes out on a lane of its count, and on no lane above
  pub on_lane_holds : (k d t : ℕ) → A ≤ k → k ≤ K → d < k → (l : ℕ) × (l < k) × (S.on_lane l t ≡ S.on_channel k d t)
  pub off_lane : (k l d t : ℕ) → A ≤ k → k ≤ l → l < K → d < k → S.on_channel k d t ≡ S.on_lane l t → ⊥
  -- the lanes repeat after 2^(K-1) ticks,
  pub repeats : (l t : ℕ) → l < K → S.on_lane l (t + 2 ^ (K - 1)) ≡ S.on_lane l t
  -- and no channel is taken for longer
  pub spans : (k d : ℕ) → k ≤ K → d < k → S.span k d ≤ 2 ^ (K - 1)
  -- a cell with film comes no later than its turn
  pub in_time : (k a c : ℕ) → A ≤ k → k ≤ K → starts S k a ≡ true → film_in D tick c ≡ true →
      (t : ℕ) × (t ≤ a + c) × (takes S k a c t ≡ true)
