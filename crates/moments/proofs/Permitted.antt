-- Slot starts lie whole slots after the opening, so that the next one from a time on is found by a remainder; and the first time that a
-- title's rules permit is the first settled slot start that is not its last event's moment.
-- Rests on the laws of remainders, of the clock and of tests.
use mathlib.Core.Path.{◌≡◌, refl, ap, ◌∙◌}
use mathlib.Core.Bool.{true, false, not}
use mathlib.Core.Logic.{⊎_elim}
use Prim.Native.Nat.{ℕ, suc, ◌+◌, ◌-◌, ◌*◌, ◌/◌, ◌%◌, ◌^◌, ◌≤◌, ◌<◌, max}
use native.Mathlib.Omega.{arith}
use native.Mathlib.Nat.{mod-lt, mod-le, div-add-mod, mul-le-mul, le_antisymm}
use lib.Arith.{mod-mul}
use lib.Dec.{ltb, eqb}
use lib.Pow.{pow_pos, pow_mono}
use borrow.Author.Tests.{eqb-true, eq-eqb, ne_eqb, ltb-true, ltb-false, lt-ltb, le-ltb}
use Rattle.rules.specs.Limits.{both, asked_max, count_max}
use Rattle.rules.proofs.Tests.{decide, same, both_l, both_r, both_in, both_none}
use Rattle.grid.specs.Ticks.{slot}
use Rattle.grid.proofs.Numbers.{mod_unique, ne_zero_pos}
use Rattle.grid.proofs.Ticks.{slot_ms_lem}
use Rattle.scheme.specs.Scheme.{steady_kind, scheme_of, starts}
use Rattle.scheme.proofs.Clock.{tick_pos, tick_high}
use Rattle.scheme.proofs.LawfulKinds.{lawful}
use Rattle.story.specs.declared.Title.{Title}
use Rattle.story.specs.Kept.{scheme_in, title_tick, tick_at, at_tick_start, settled_at}
use Rattle.story.specs.Calls.{at_slot_start}
use Rattle.measures.specs.Readable.{Filmed}
use Rattle.moments.specs.Searched.{Found, turns, permits}
use Rattle.moments.specs.Searched.{slot_ms, slot_most}

-- a whole number of ticks, itself a whole number of slots of w ticks: a whole number of slots of w * p ms
whole : (p w x : ℕ) → 0 < p → 0 < w → both (eqb (x % p) 0) (eqb (x / p % w) 0) ≡ eqb (x % (w * p)) 0
whole p w x a b =
    let e : x % (w * p) ≡ (x / p % w) * p + x % p = mod-mul x b a in
    same (both (eqb (x % p) 0) (eqb (x / p % w) 0)) (eqb (x % (w * p)) 0)
    (λ h.
    let f : x % p ≡ 0 = eqb-true (x % p) 0 (both_l (eqb (x % p) 0) (eqb (x / p % w) 0) h) in
    let g : x / p % w ≡ 0 = eqb-true (x / p % w) 0 (both_r (eqb (x % p) 0) (eqb (x / p % w) 0) h) in
    eq-eqb (x % (w * p)) 0 (e ∙ rw (f, g) (omega arith)))
    (λ h.
    let z : x % (w * p) ≡ 0 = eqb-true (x % (w * p)) 0 h in
    let m : x / p % w * 1 ≤ x / p % w * p = mul-le-mul {n₁ = x / p % w} {m₁ = 1} {n₂ = x / p % w} {m₂ = p} (omega arith) a in
    both_in (eqb (x % p) 0) (eqb (x / p % w) 0) (eq-eqb (x % p) 0 (omega arith)) (eq-eqb (x / p % w) 0 (omega arith)))

module _ (t : Title) (c : ℕ) (film : Filmed t.film) where
  tick_some : 0 < title_tick t
  tick_some =
      tick_pos t.film.kind t.film.length t.film.floor t.film.cap (omega (arith, film.sized.low)) film.cut.low film.cut.fit

  ticks_some : 0 < (scheme_in t).slot_of c
  ticks_some = (lawful t.film.kind t.film.length t.film.floor t.film.cap film.cut.low film.cut.fit film.flat).slot_pos c

  pub slot_some : 0 < slot_ms t c
  slot_some = mul-le-mul {n₁ = 1} {m₁ = 1} {n₂ = (scheme_in t).slot_of c} ticks_some tick_some

  pub starts_by_slots : (τ : ℕ) → at_slot_start t c τ ≡ eqb ((τ - t.opened) % slot_ms t c) 0
  unfolding at_tick_start tick_at starts
  starts_by_slots τ = whole (title_tick t) ((scheme_in t).slot_of c) (τ - t.opened) tick_some ticks_some

  pub start_here : (x hi : ℕ) → x ≤ hi → (x - t.opened) % slot_ms t c ≡ 0 → Found (at_slot_start t c) x hi x
  start_here x hi le z =
      record {
        after = omega arith;
        high = le;
        hit = starts_by_slots x ∙ eq-eqb ((x - t.opened) % slot_ms t c) 0 z;
        none = λ υ from until. absurd (omega arith);
      }

  -- m ms after a slot start, the next one is what the slot has left away
  module _ (x m : ℕ) (is : m ≡ (x - t.opened) % slot_ms t c) (some : 0 < m) where
    rest_some : m < slot_ms t c
    rest_some = omega (arith, mod-lt (x - t.opened) slot_some)

    rest_at : (e : ℕ) → m + e < slot_ms t c → (x + e - t.opened) % slot_ms t c ≡ m + e
    rest_at e l =
        let P : ℕ = slot_ms t c in
        let d : P * ((x - t.opened) / P) + (x - t.opened) % P ≡ x - t.opened = div-add-mod (x - t.opened) P in
        let b : (x - t.opened) % P ≤ x - t.opened = mod-le (x - t.opened) P in
        mod_unique P (m + e) (x + e - t.opened) 0 ((x - t.opened) / P) l (omega arith)

    at_next : (x + (slot_ms t c - m) - t.opened) % slot_ms t c ≡ 0
    at_next =
        let P : ℕ = slot_ms t c in
        let l : m < P = rest_some in
        let d : P * ((x - t.opened) / P) + (x - t.opened) % P ≡ x - t.opened = div-add-mod (x - t.opened) P in
        let b : (x - t.opened) % P ≤ x - t.opened = mod-le (x - t.opened) P in
        mod_unique P 0 (x + (P - m) - t.opened) 0 (suc ((x - t.opened) / P)) slot_some (omega arith)

    pub start_next : (hi : ℕ) → x + (slot_ms t c - m) ≤ hi → Found (at_slot_start t c) x hi (x + (slot_ms t c - m))
    start_next hi le =
        record {
          after = omega arith;
          high = le;
          hit = starts_by_slots (x + (slot_ms t c - m)) ∙ eq-eqb ((x + (slot_ms t c - m) - t.opened) % slot_ms t c) 0 at_next;
          none = λ υ from until.
              let e : υ ≡ x + (υ - x) = omega arith in
              let f : (x + (υ - x) - t.opened) % slot_ms t c ≡ m + (υ - x) = rest_at (υ - x) (omega arith) in
              let g : (υ - t.opened) % slot_ms t c ≡ m + (υ - x) = ap (λ n. (n - t.opened) % slot_ms t c) e ∙ f in
              starts_by_slots υ ∙ ne_eqb ((υ - t.opened) % slot_ms t c) 0 (λ z. omega arith);
        }

  -- the same of a slot of w ms, seen d ms after the opening
  module _ (x w d : ℕ) (is : w ≡ slot_ms t c) (ago : d ≡ x - t.opened) where
    pub starts_now : d % w ≡ 0 → Found (at_slot_start t c) x (x + slot_most) x
    starts_now z = start_here x (x + slot_most) (omega arith) (rw (is, ago) at z)

    pub starts_next : (d % w ≡ 0 → ⊥) → w ≤ slot_most → Found (at_slot_start t c) x (x + slot_most) (x + (w - d % w))
    starts_next some le =
        let m : d % w ≡ (x - t.opened) % slot_ms t c = rw (is, ago) refl in
        let f : Found (at_slot_start t c) x (x + slot_most) (x + (slot_ms t c - d % w)) =
        start_next x (d % w) m (ne_zero_pos (d % w) some) (x + slot_most) (omega arith) in
        rw (← is) at f

-- ---- not at the moment of the last event

module _ (t : Title) (c : ℕ) where
  turns_in : (τ : ℕ) → (τ ≡ t.last → ⊥) → at_slot_start t c τ ≡ true → turns t c τ ≡ true
  unfolding turns
  turns_in τ other on = rw (ne_eqb τ t.last other, on) refl

  refused_last : (τ : ℕ) → τ ≡ t.last → turns t c τ ≡ false
  unfolding turns
  refused_last τ e = rw (eq-eqb τ t.last e) refl

  refused_off : (τ : ℕ) → at_slot_start t c τ ≡ false → turns t c τ ≡ false
  unfolding turns
  refused_off τ off = rw off (both_none (not (eqb τ t.last)))

  pub turn_first : {τ hi hi' r : ℕ} → r ≤ hi' → Found (at_slot_start t c) τ hi r → (r ≡ t.last → ⊥) → Found (turns t c) τ hi' r
  turn_first {τ} {hi} {hi'} {r} le f other =
      record {
        after = f.after;
        high = le;
        hit = turns_in r other f.hit;
        none = λ υ lo until. refused_off υ (f.none υ lo until);
      }

  pub turn_second : {τ hi hi' hi'' r q : ℕ} → q ≤ hi'' → Found (at_slot_start t c) τ hi r → r ≡ t.last →
      Found (at_slot_start t c) (r + 1) hi' q → Found (turns t c) τ hi'' q
  turn_second {τ} {hi} {hi'} {hi''} {r} {q} le f e g =
      record {
        after = omega (arith, f.after, g.after);
        high = le;
        hit = turns_in q (λ z. omega (arith, g.after)) g.hit;
        none = λ υ lo until.
            ⊎_elim (λ b. refused_off υ (f.none υ lo (ltb-true υ r b)))
            (λ b.
            ⊎_elim (λ z. refused_off υ (g.none υ (omega (arith, ltb-true r υ z)) until))
            (λ z. refused_last υ (le_antisymm (ltb-false r υ z) (ltb-false υ r b) ∙ e))
            (decide (ltb r υ)))
            (decide (ltb υ r));
      }

  -- ---- and settled

  settled_turns : (τ : ℕ) → settled_at t ≤ τ → permits t c τ ≡ turns t c τ
  unfolding permits turns
  settled_turns τ le = rw (le-ltb τ (settled_at t) le) refl

  refused_early : (τ : ℕ) → τ < settled_at t → permits t c τ ≡ false
  unfolding permits
  refused_early τ l = rw (lt-ltb τ (settled_at t) l) (both_none (not (eqb τ t.last)))

  -- from the later of τ and the settled moment on
  pub permitted_settled : {τ hi r : ℕ} → Found (turns t c) (max τ (settled_at t)) hi r → Found (permits t c) τ hi r
  permitted_settled {τ} {hi} {r} f =
      record {
        after = omega (arith, f.after);
        high = f.high;
        hit = settled_turns r (omega (arith, f.after)) ∙ f.hit;
        none = λ υ lo until.
            ⊎_elim (λ b. refused_early υ (ltb-true υ (settled_at t) b))
            (λ b.
            let late : settled_at t ≤ υ = ltb-false υ (settled_at t) b in
            settled_turns υ late ∙ f.none υ (omega arith) until)
            (decide (ltb υ (settled_at t)));
      }

-- no slot of a count has more ticks than a film has cells
slot_high : (kind A K c : ℕ) → K ≤ count_max → (scheme_of kind A K).slot_of c ≤ 2 ^ count_max
unfolding scheme_of slot
slot_high kind A K c le =
    ⊎_elim (λ x. rw x (pow_pos count_max))
    (λ x. rw x (let few : K - c ≤ count_max = omega arith in pow_mono few))
    (decide (eqb kind steady_kind))

-- a title that settles within its limits does so soon after them
pub settled_high : (t : Title) → Filmed t.film → t.tuned ≤ asked_max → settled_at t ≤ asked_max + slot_most
unfolding settled_at
settled_high t film le =
    let long : 0 < t.film.length = omega (arith, film.sized.low) in
    let short = tick_high t.film.kind t.film.length t.film.floor t.film.cap long film.cut.low film.cut.fit in
    let wide = slot_high t.film.kind t.film.floor t.film.cap t.film.floor film.cut.high in
    let some = ticks_some t t.film.floor film in
    let tick = tick_some t t.film.floor film in
    omega (arith, (slot_ms_lem ((scheme_in t).slot_of t.film.floor) (title_tick t) t.film.length some wide tick short film.sized.high).1)
