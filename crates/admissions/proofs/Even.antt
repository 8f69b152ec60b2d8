-- Between two events admissions are evenly spaced, so the next one at or after an arrival, and the last one before an event, are
-- found by a division, with no search. Rests on division with remainder and on the count that rules the whole stretch.
use mathlib.Core.Path.{◌≡◌, sym, ap, ◌∙◌}
use mathlib.Core.Bool.{Bool, true, false, not, false≢true}
use mathlib.Core.Logic.{⊎_elim}
use Prim.Native.Nat.{ℕ, suc, ◌+◌, ◌-◌, ◌*◌, ◌/◌, ◌%◌, ◌≤◌, ◌<◌, max}
use native.Mathlib.Nat.{mul_assoc, mul-mod_left, mul-le-mul, mul-le-mul_right, le_of_mul-le-mul_right}
use native.Mathlib.Nat.{lt_of_mul-lt-mul_right, add-mod_right, mul-lt-mul_of_pos_right, div-lt_iff_lt-mul}
use native.Mathlib.Omega.{arith}
use borrow.Author.Tests.{ltb-true, ltb-false, lt-ltb, le-leb, eq-eqb, eqb-true}
use lib.Dec.{leb, ltb}
use Rattle.rules.specs.Limits.{both}
use Rattle.rules.proofs.Tests.{decide, both_r, both_in, fails}
use Rattle.grid.specs.Ticks.{rounded_up}
use Rattle.grid.proofs.Ticks.{rounded_enough}
use Rattle.scheme.specs.Scheme.{starts}
use Rattle.scheme.proofs.Takes.{whole_slots}
use Rattle.story.specs.Life.{Life, scheme, is_admission}
use Rattle.story.specs.Story.{tick_length, moment_of}
use Rattle.admissions.specs.declared.Stretch.{Stretch}
use Rattle.admissions.specs.Waits.{lets_in, Next}
use Rattle.admissions.specs.Stretches.{next_in}
use Rattle.admissions.specs.Even.{Settled, Admits, Even, LetInAt}
use Rattle.admissions.proofs.GetsIn.{LetIn, let_in}
use Rattle.admissions.proofs.LetInBelow.{NoneIn, Lets}

-- no fewer slots reach d
rounded_least : (d g m : ℕ) → 0 < g → d ≤ m * g → rounded_up d g ≤ m
unfolding rounded_up
rounded_least d g m pos h =
    let less : (d + (g - 1)) / g < suc m = (div-lt_iff_lt-mul {k = g} {x = d + (g - 1)} {y = suc m} pos).1 (omega arith) in
    omega arith

-- q slots of w ticks, of p ms each
slots_ms : (q w p g : ℕ) → g ≡ w * p → q * w * p ≡ q * g
slots_ms q w p g h = mul_assoc q w p ∙ ap (λ z. q * z) (sym h)

module _ (L : Life) (s : Stretch) (n k : ℕ) (e : Even L s n k) where
  -- a later tick begins at a later moment
  ticks_up : (a b : ℕ) → a ≤ b → moment_of L a ≤ moment_of L b
  ticks_up a b h = let m : a * tick_length L ≤ b * tick_length L = mul-le-mul_right (tick_length L) h in omega arith

  ticks_on_lem : (a b : ℕ) → a < b → moment_of L a < moment_of L b
  ticks_on_lem a b h = let m : a * tick_length L < b * tick_length L = mul-lt-mul_of_pos_right h e.tick_some in omega arith

  ticks_back : (a b : ℕ) → moment_of L a < moment_of L b → a < b
  ticks_back a b h = lt_of_mul-lt-mul_right (tick_length L) (omega arith)

  ticks_down : (a b : ℕ) → moment_of L a ≤ moment_of L b → a ≤ b
  ticks_down a b h = le_of_mul-le-mul_right {m = a} {n = b} {k = tick_length L} (omega arith) e.tick_some

  -- a slot further on
  a_slot_on : (a : ℕ) → moment_of L (a + (scheme L).slot_of k) ≡ moment_of L a + s.slot
  a_slot_on a = omega (arith, e.slot_is)

  -- two slot starts are a slot apart
  apart : (a b : ℕ) → starts (scheme L) k a ≡ true → starts (scheme L) k b ≡ true → a < b →
      a + (scheme L).slot_of k ≤ b
  apart a b p q lt =
      let w = (scheme L).slot_of k in
      let ea : a / w * w ≡ a = whole_slots (scheme L) k a p in
      let eb : b / w * w ≡ b = whole_slots (scheme L) k b q in
      let less : a / w < b / w = lt_of_mul-lt-mul_right w (omega arith) in
      let m : (suc (a / w)) * w ≤ b / w * w = mul-le-mul_right w less in
      omega arith

  slots_some : 0 < s.slot
  slots_some = rw e.slot_is (mul-le-mul {n₁ = 1} {m₁ = 1} {n₂ = (scheme L).slot_of k} {m₂ = tick_length L} e.slot_some e.tick_some)

  pub reached : (x : ℕ) → LetInAt L s n k x
  unfolding next_in starts
  reached x =
      let w = (scheme L).slot_of k in
      let d : ℕ = max x s.start - s.opened in
      let q : ℕ = rounded_up d s.slot in
      let is : moment_of L (q * w) ≡ s.opened + q * s.slot = omega (arith, slots_ms q w (tick_length L) s.slot e.slot_is, e.from_opening) in
      let enough : d ≤ q * s.slot = rounded_enough d s.slot slots_some in
      let begun : moment_of L n ≤ moment_of L (q * w) = omega (arith, e.start_is, e.from_opening) in
      record {
        tick = q * w;
        moment = is;
        at_slot = eq-eqb (q * w % w) 0 (mul-mod_left q w);
        since = ticks_down n (q * w) begun;
        in_time = omega (arith, e.start_is, e.from_opening);
        least = λ b lo at h.
            let eb : b / w * w ≡ b = whole_slots (scheme L) k b at in
            let mb : b * tick_length L ≡ b / w * s.slot = ap (λ z. z * tick_length L) (sym eb) ∙ slots_ms (b / w) w (tick_length L) s.slot e.slot_is in
            let up : moment_of L n ≤ moment_of L b = ticks_up n b lo in
            let reach : d ≤ b / w * s.slot = omega (arith, e.start_is, e.from_opening) in
            let few : q * w ≤ b / w * w = mul-le-mul_right w (rounded_least d s.slot (b / w) slots_some reach) in
            omega arith;
      }

  -- ---- who gets in

  admission_slot : (b : ℕ) → n ≤ b → L.rule b ≡ k → is_admission L b ≡ true →
      starts (scheme L) k b ≡ true
  unfolding is_admission
  admission_slot b lo rule h =
      let start : Bool = starts (scheme L) (L.rule b) b in
      rw rule at (both_r (not (L.shut b)) start (both_r (ltb 0 (L.rule b)) (both (not (L.shut b)) start) h))

  module _ (from : ℕ) (here : Settled L n from) where
    -- where count k admits boxes from n up to the tick reached, that tick is the next admission
    pub reached_next : (x : ℕ) (r : LetInAt L s n k x) → from ≤ x → ((b : ℕ) → n ≤ b → b ≤ r.tick → Admits L k b) →
        Next L x r.tick
    unfolding lets_in is_admission
    reached_next x r late rules =
        record {
          lets_in_holds =
              both_in (leb L.opened x) (both (is_admission L r.tick) (leb x (moment_of L r.tick))) (le-leb L.opened x (omega (arith, here.low)))
              (both_in (is_admission L r.tick) (leb x (moment_of L r.tick))
              (rw ((rules r.tick r.since (omega arith)).rule, (rules r.tick r.since (omega arith)).unheld) (both_in (ltb 0 k) (starts (scheme L) k r.tick) (lt-ltb 0 k e.count_some) r.at_slot))
              (le-leb x (moment_of L r.tick) r.in_time));
          none_before = λ b lt. fails (lets_in L x b) (λ h. too_soon_lem b lt h (let_in L x b h));
        }
      where
        too_soon_lem : (b : ℕ) → b < r.tick → lets_in L x b ≡ true → LetIn L x b → ⊥
        too_soon_lem b lt h g =
            ⊎_elim
            (λ t. false≢true (sym (here.after x late b (ltb-true b n t)) ∙ h))
            (λ t.
            let lo : n ≤ b = ltb-false b n t in
            let at : starts (scheme L) k b ≡ true = admission_slot b lo (rules b lo (omega arith)).rule g.admission in
            omega (arith, r.least b lo at g.in_time))
            (decide (ltb b n))

    -- ---- a stretch that ends at the start of tick m

    module _ (m τ : ℕ) (on_tick : τ ≡ moment_of L m) (up : n ≤ m) (rules : (b : ℕ) → n ≤ b → b < m → Admits L k b) where
      end : LetInAt L s n k τ
      end = reached τ

      -- an admission of it is a slot before the first slot start that is not
      within_stretch : (b : ℕ) → n ≤ b → b < m → is_admission L b ≡ true →
          b + (scheme L).slot_of k ≤ end.tick
      within_stretch b lo lt h =
          let soon : moment_of L b < moment_of L end.tick = omega (arith, ticks_on_lem b m lt, end.in_time) in
          apart b end.tick (admission_slot b lo (rules b lo lt).rule h) end.at_slot (ticks_back b end.tick soon)

      -- where no slot of it is whole, it has none
      pub none_within : next_in s τ < s.start + s.slot → NoneIn L n m
      none_within short b lo lt = fails (is_admission L b) (λ h. never (within_stretch b lo lt h))
        where
          never : b + (scheme L).slot_of k ≤ end.tick → ⊥
          never far =
              omega (arith, ticks_up (b + (scheme L).slot_of k) end.tick far, ticks_up n b lo, a_slot_on b, end.moment, e.start_is)

      -- otherwise its last admission is a slot before the first slot start at or after its end
      module _ (whole : s.start + s.slot ≤ next_in s τ) where
        abbrev last : ℕ
        last = end.tick - (scheme L).slot_of k

        far_enough : n + (scheme L).slot_of k ≤ end.tick
        far_enough = ticks_down (n + (scheme L).slot_of k) end.tick (omega (arith, a_slot_on n, end.moment, e.start_is))

        last_slot : last + (scheme L).slot_of k ≡ end.tick
        last_slot = omega (arith, far_enough)

        last_since : n ≤ last
        last_since = omega (arith, far_enough)

        last_at_slot : starts (scheme L) k last ≡ true
        unfolding starts
        last_at_slot =
            let w = (scheme L).slot_of k in
            let none_over : end.tick % w ≡ 0 = eqb-true (end.tick % w) 0 end.at_slot in
            eq-eqb (last % w) 0 (sym (add-mod_right last w) ∙ ap (λ a. a % w) last_slot ∙ none_over)

        last_moment_lem : next_in s τ - s.slot ≡ moment_of L last
        last_moment_lem = omega (arith, a_slot_on last, ap (moment_of L) last_slot, end.moment)

        last_before : last < m
        last_before =
            ⊎_elim (λ t. ticks_back last m (omega (arith, ltb-true (moment_of L last) τ t)))
            (λ t. absurd (omega (arith, end.least last last_since last_at_slot (ltb-false (moment_of L last) τ t), last_slot, e.slot_some)))
            (decide (ltb (moment_of L last) τ))

        pub lets_within : Lets L s m from (next_in s τ - s.slot)
        lets_within x late in_time =
            let r = reached x in
            let low : r.tick ≤ last = r.least last last_since last_at_slot (omega (arith, last_moment_lem)) in
            let soon : r.tick < m = omega (arith, last_before) in
            (r.tick, soon, reached_next x r late (λ b lo hi. rules b lo (omega arith)), r.moment)

        pub none_later : (x : ℕ) → next_in s τ - s.slot < x → (a : ℕ) → a < m → lets_in L x a ≡ false
        none_later x past b lt = fails (lets_in L x b) (λ h. never (let_in L x b h))
          where
            never : LetIn L x b → ⊥
            never g =
                let on : last < b = ticks_back last b (omega (arith, last_moment_lem, g.in_time)) in
                omega (arith, within_stretch b (omega (arith, last_since)) lt g.admission, last_slot)

        pub settled_within : Settled L m (next_in s τ - s.slot + 1)
        settled_within =
            record {
              low = omega (arith, last_moment_lem);
              before = λ x lo h.
                  ⊎_elim (λ t. let got = here.before x lo (ltb-true x from t) in (got.0, omega (arith, got.1), got.2))
                  (λ t. let got = lets_within x (ltb-false x from t) (omega arith) in (got.0, got.1, got.2))
                  (decide (ltb x from));
              after = λ x late. none_later x (omega arith);
            }
