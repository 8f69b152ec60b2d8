-- A lane that is said to send until a moment is held before that moment and not from it on, if nobody else acts.
-- Rests on division with remainder.
use mathlib.Core.Path.{◌≡◌}
use mathlib.Core.Bool.{true, false}
use Prim.Native.Nat.{ℕ, suc, ◌+◌, ◌-◌, ◌*◌, ◌/◌, ◌≤◌, ◌<◌, min}
use native.Mathlib.Omega.{arith}
use native.Mathlib.Nat.{div-lt_iff_lt-mul, mul-le-mul}
use lib.Dec.{ltb, leb}
use borrow.Author.Tests.{ltb-true, lt-ltb, le-ltb, leb-true}
use Rattle.rules.specs.Limits.{event_time_max}
use Rattle.rules.proofs.Tests.{both_l, both_r, same}
use Rattle.scheme.proofs.Clock.{tick_pos}
use Rattle.story.specs.declared.Title.{Title}
use Rattle.story.specs.Kept.{title_tick, tick_at, ruling, kept_held}
use Rattle.measures.specs.Readable.{Filmed}
use Rattle.moments.specs.Searched.{release_moment}
use Rattle.console_views.specs.Titles.{still_sends, gone_tick}

-- a moment lies before the start of tick g, counted from B in ticks of p ms, where fewer than g ticks have begun by then
before_start : (B p g υ : ℕ) → 0 < p → 0 < g → ltb ((υ - B) / p) g ≡ ltb υ (B + g * p)
before_start B p g υ pos some =
    let long : 1 * 1 ≤ g * p = mul-le-mul {n₁ = 1} {m₁ = 1} {n₂ = g} {m₂ = p} some pos in
    same (ltb ((υ - B) / p) g) (ltb υ (B + g * p))
    (λ h.
    let a : υ - B < g * p = (div-lt_iff_lt-mul pos).0 (ltb-true ((υ - B) / p) g h) in
    lt-ltb υ (B + g * p) (omega arith))
    (λ h.
    let a : υ < B + g * p = ltb-true υ (B + g * p) h in
    lt-ltb ((υ - B) / p) g ((div-lt_iff_lt-mul pos).1 (omega arith)))

module _ (t : Title) (l τ : ℕ) (film : Filmed t.film) (sends : still_sends t τ l ≡ true)
    (told : gone_tick t l ≤ suc event_time_max) where
  pub held_until : (υ : ℕ) → kept_held t l (tick_at t υ) ≡ ltb υ (release_moment t l)
  unfolding still_sends kept_held tick_at release_moment
  held_until υ =
      let p : ℕ = title_tick t in
      let pos : 0 < p =
      tick_pos t.film.kind t.film.length t.film.floor t.film.cap (omega (arith, film.sized.low)) film.cut.low film.cut.fit in
      let off : ltb l (ruling t) ≡ false = le-ltb l (ruling t) (leb-true (ruling t) l (both_l _ _ sends)) in
      let now : ltb ((τ - t.opened) / p) (gone_tick t l) ≡ true = rw off at (both_r (leb (ruling t) l) _ sends) in
      let some : 0 < gone_tick t l = omega (arith, ltb-true ((τ - t.opened) / p) (gone_tick t l) now) in
      let e : min (gone_tick t l) (suc event_time_max) ≡ gone_tick t l = omega arith in
      rw (off, e) (before_start t.opened p (gone_tick t l) υ pos some)
