-- What a title owes on a lane below the floor: from any tick on a stretch within its slot, of which the first ticks are owed. Rests on the
-- laws of the lane's slots.
use mathlib.Core.Path.{◌≡◌, refl, sym, ap, ◌∙◌}
use mathlib.Core.Bool.{Bool, true, false, false≢true}
use mathlib.Core.Logic.{◌⊎◌, inl, inr, ⊎_elim}
use Prim.Native.Nat.{ℕ, zero, suc, ◌+◌, ◌-◌, ◌*◌, ◌/◌, ◌%◌, ◌^◌, ◌≤◌, ◌<◌, min}
use native.Mathlib.Omega.{arith}
use native.Mathlib.Nat.{mod-lt, mod-le, mod-one, div-add-mod, pos_of_ne-zero}
use lib.Dec.{leb, ltb, eqb}
use lib.ListN.{get_or}
use borrow.Author.Tests.{eqb-true, eqb-false, leb-true, leb-false, lt-ltb, le-ltb, ltb-true, ltb-false}
use Rattle.rules.specs.Limits.{both}
use Rattle.rules.specs.Refusals.{pick}
use Rattle.rules.specs.Search.{first, how_many}
use Rattle.rules.proofs.Tests.{decide, both_l, both_r, both_in, both_none, same, fails, pick_true, pick_false}
use Rattle.grid.specs.Ticks.{slot, rounded_up}
use Rattle.grid.specs.Lanes.{lane_cell}
use Rattle.grid.proofs.Numbers.{mod_unique, mod_same, div_unique}
use Rattle.grid.proofs.Ticks.{slot_pos}
use Rattle.scheme.specs.Scheme.{padded, steady_kind, film_in}
use Rattle.scheme.proofs.ByKind.{padded_scheme}
use Rattle.scheme.proofs.Clock.{tick_pos}
use Rattle.story.specs.declared.Title.{Title}
use Rattle.story.specs.Kept.{scheme_in, title_tick, wants, kept_awaited, kept_owed, kept_within, kept_nth}
use Rattle.measures.specs.Readable.{Filmed}
use Rattle.stretches.specs.declared.low.Low.{Low}
use Rattle.stretches.specs.inner.Low.{place_at, left_at, cell_at, span_by, IsTill, decisive, IsLength, LowOf, Idle}
use Rattle.stretches.proofs.Counted.{prefix, nth_is, nth_none}
use Rattle.stretches.proofs.FilmCells.{film_cells_lem}
use Rattle.stretches.proofs.OneChannel.{padded_wants, some_awaits, awaits_in}
use Rattle.stretches.proofs.Slots.{wants_never, wants_passed}
use Rattle.stretches.proofs.LowSlots.{low_cell, wants_long, wants_short, span_wide, span_most_lem}

-- at tick u the counts whose slots hold so many ticks take the lane's cell long, the others short
record Decided (A K l u left : ℕ) : Type 0 where
  long : (c : ℕ) → A ≤ c → c ≤ K → left ≤ slot K c → (0 < place_at A K l u) ⊎ (slot K A ≤ u % slot K A + slot K c)
  short : (c : ℕ) → A ≤ c → c ≤ K → slot K c < left → (place_at A K l u ≡ 0) × (u % slot K A + slot K c < slot K A)

-- within a stretch the same counts do
module _ (A K l u r o : ℕ) (h : IsLength A K l u r) (b : o < r) where
  rest_is : (u + o) % slot K A ≡ u % slot K A + o
  rest_is =
      let w : ℕ = slot K A in
      let e : w * (u / w) + u % w ≡ u = div-add-mod u w in
      mod_unique w (u % w + o) (u + o) 0 (u / w) (omega (arith, h.within)) (omega arith)

  slot_is : (u + o) / slot K A ≡ u / slot K A
  slot_is =
      let w : ℕ = slot K A in
      let e : w * (u / w) + u % w ≡ u = div-add-mod u w in
      div_unique w (u / w) (u % w + o) (u + o) (omega (arith, h.within)) (omega arith)

  place_is : place_at A K l (u + o) ≡ place_at A K l u
  place_is = ap (λ n. n % 2 ^ l) slot_is

  decided : Decided A K l (u + o) (decisive A K l u)
  unfolding decisive
  decided = ⊎_elim first later (decide (eqb (place_at A K l u) 0))
    where
      first : eqb (place_at A K l u) 0 ≡ true → Decided A K l (u + o) (pick (eqb (place_at A K l u) 0) (left_at A K u) 0)
      first t =
          let z : place_at A K l u ≡ 0 = eqb-true (place_at A K l u) 0 t in
          rw (pick_true (eqb (place_at A K l u) 0) (left_at A K u) 0 t)
          (record {
            long = λ c low fit d. inr (omega (arith, rest_is));
            short = λ c low fit d. (place_is ∙ z, omega (arith, rest_is, h.apart z c low fit d));
          })

      later : eqb (place_at A K l u) 0 ≡ false → Decided A K l (u + o) (pick (eqb (place_at A K l u) 0) (left_at A K u) 0)
      later t =
          let some : 0 < place_at A K l u = pos_of_ne-zero (eqb-false (place_at A K l u) 0 t) in
          rw (pick_false (eqb (place_at A K l u) 0) (left_at A K u) 0 t)
          (record {
            long = λ c low fit d. inl (rw place_is some);
            short = λ c low fit d. absurd (omega arith);
          })

wants_spans : (A K l c u end left : ℕ) → 0 < l → l < A → A ≤ c → c ≤ K → Decided A K l u left → 0 < end →
    wants (padded A K) end (lane_cell A K l u) u c ≡ ltb (u + slot K c) (end + span_by A K l left c)
unfolding span_by
wants_spans A K zero c u end left some below low fit d ruled = absurd (omega arith)
wants_spans A K (suc h) c u end left some below low fit d ruled =
    let e : suc h - 1 ≡ h = omega arith in
    ⊎_elim
    (λ t. rw (pick_true (leb left (slot K c)) (slot K A * 2 ^ suc h) (slot K A * 2 ^ (suc h - 1)) t)
    (wants_long A K (suc h) c u end below low fit (d.long c low fit (leb-true left (slot K c) t)) ruled))
    (λ t.
    let s = d.short c low fit (leb-false left (slot K c) t) in
    rw (pick_false (leb left (slot K c)) (slot K A * 2 ^ suc h) (slot K A * 2 ^ (suc h - 1)) t, e)
    (wants_short A K (suc h) c u end below low fit h refl s.0 s.1 ruled))
    (decide (leb left (slot K c)))

module _ (t : Title) (l : ℕ) (off : t.film.kind ≡ steady_kind → ⊥) (some : 0 < l) (below : l < t.film.floor) where
  awaited_by : (u left c : ℕ) → Decided t.film.floor t.film.cap l u left → t.film.floor ≤ c → c ≤ t.film.cap →
      wants (scheme_in t) (get_or t.ends c 0) (lane_cell t.film.floor t.film.cap l u) u c ≡ true →
      (0 < get_or t.ends c 0) × (u < get_or t.ends c 0 + (span_by t.film.floor t.film.cap l left c - slot t.film.cap c))
  awaited_by u left c d low fit b =
      let A : ℕ = t.film.floor in
      let K : ℕ = t.film.cap in
      let e : ℕ = get_or t.ends c 0 in
      let b' : wants (padded A K) e (lane_cell A K l u) u c ≡ true = padded_wants t (lane_cell A K l u) u c off ∙ b in
      let ruled : 0 < e = pos_of_ne-zero (λ z. false≢true (sym (wants_never (padded A K) e (lane_cell A K l u) u c z) ∙ b')) in
      let late : u + slot K c < e + span_by A K l left c =
      ltb-true (u + slot K c) (e + span_by A K l left c) (sym (wants_spans A K l c u e left some below low fit d ruled) ∙ b') in
      (ruled, omega arith)

  awaited_till : (u left m : ℕ) → Decided t.film.floor t.film.cap l u left → IsTill t.ends t.film.floor t.film.cap l left m →
      kept_awaited t l (lane_cell t.film.floor t.film.cap l u) u ≡ ltb u m
  awaited_till u left m d till = same (kept_awaited t l (lane_cell A K l u) u) (ltb u m) into out
    where
      A : ℕ
      A = t.film.floor

      K : ℕ
      K = t.film.cap

      into : kept_awaited t l (lane_cell A K l u) u ≡ true → ltb u m ≡ true
      into b =
          let r = some_awaits t l u (lane_cell A K l u) b in
          let v = awaited_by u left r.0 d r.2 r.3 r.4 in
          lt-ltb u m (omega (arith, v.1, till.bound r.0 r.2 (omega (arith, r.3)) v.0))

      out : ltb u m ≡ true → kept_awaited t l (lane_cell A K l u) u ≡ true
      out b =
          let late : u < m = ltb-true u m b in
          let r = till.hit (omega arith) in
          let c : ℕ = r.0 in
          let fit : c ≤ K = omega (arith, r.2) in
          let e : ℕ = get_or t.ends c 0 in
          let wide : slot K c ≤ span_by A K l left c = span_wide A K l left c r.1 fit in
          awaits_in t l u (lane_cell A K l u) c (omega (arith, r.1)) r.1 fit
          (sym (padded_wants t (lane_cell A K l u) u c off)
          ∙ wants_spans A K l c u e left some below r.1 fit d r.3
          ∙ lt-ltb (u + slot K c) (e + span_by A K l left c) (omega (arith, r.4)))

  -- from tick u on, within a stretch
  owed_at_lem : (u r o m : ℕ) → Filmed t.film → IsLength t.film.floor t.film.cap l u r → o < r
      → IsTill t.ends t.film.floor t.film.cap l (decisive t.film.floor t.film.cap l u) m
      → kept_owed t l (u + o) ≡ ltb o (min (m - u) (rounded_up t.film.length (title_tick t) - cell_at t.film.floor t.film.cap l u))
  unfolding kept_owed
  owed_at_lem u r o m f h b till =
      let A : ℕ = t.film.floor in
      let K : ℕ = t.film.cap in
      let D : ℕ = t.film.length in
      let F : ℕ = rounded_up D (title_tick t) in
      let x : ℕ = cell_at A K l u + o in
      let cell : lane_cell A K l (u + o) ≡ x = low_cell A K l (u + o) below ∙ rw (place_is A K l u r o h b, rest_is A K l u r o h b) (omega arith) in
      let film : film_in D (title_tick t) x ≡ ltb x F =
      film_cells_lem D (title_tick t) x (tick_pos t.film.kind D A K f.sized.low f.cut.low f.cut.fit) in
      let wait = awaited_till (u + o) (decisive A K l u) m (decided A K l u r o h b) till in
      rw (padded_scheme t.film.kind A K off, wait, cell, film)
      (same (both (ltb x F) (ltb (u + o) m)) (ltb o (min (m - u) (F - cell_at A K l u)))
      (λ y.
      let p : x < F = ltb-true x F (both_l (ltb x F) (ltb (u + o) m) y) in
      let q : u + o < m = ltb-true (u + o) m (both_r (ltb x F) (ltb (u + o) m) y) in
      lt-ltb o (min (m - u) (F - cell_at A K l u)) (omega arith))
      (λ y.
      let p : o < min (m - u) (F - cell_at A K l u) = ltb-true o (min (m - u) (F - cell_at A K l u)) y in
      both_in (ltb x F) (ltb (u + o) m) (lt-ltb x F (omega arith)) (lt-ltb (u + o) m (omega arith))))

  -- a tick from which on all counts have taken all of the lane
  past_late : (u late : ℕ) → IsTill t.ends t.film.floor t.film.cap l 0 late → late ≤ u → kept_owed t l u ≡ false
  unfolding kept_owed
  past_late u late till past =
      let A : ℕ = t.film.floor in
      let K : ℕ = t.film.cap in
      rw (padded_scheme t.film.kind A K off, fails (kept_awaited t l (lane_cell A K l u) u) never) (both_none (film_in t.film.length (title_tick t) (lane_cell A K l u)))
    where
      one : IsLength t.film.floor t.film.cap l u 1
      one =
          let m : u % slot t.film.cap t.film.floor < slot t.film.cap t.film.floor = mod-lt u (slot_pos t.film.cap t.film.floor) in
          record { some = omega arith; within = omega arith; apart = λ z c low fit d. omega arith }

      never : kept_awaited t l (lane_cell t.film.floor t.film.cap l u) u ≡ true → ⊥
      never b =
          let A : ℕ = t.film.floor in
          let K : ℕ = t.film.cap in
          let e : u + 0 ≡ u = omega arith in
          let d : Decided A K l u (decisive A K l u) = rw e at (decided A K l u 1 0 one (omega arith)) in
          let r = some_awaits t l u (lane_cell A K l u) b in
          let v = awaited_by u (decisive A K l u) r.0 d r.2 r.3 r.4 in
          omega (arith, v.1, till.bound r.0 r.2 (omega (arith, r.3)) v.0, span_most_lem A K l (decisive A K l u) r.0)

-- ---- the walk

-- how many ticks from tick u on are owed, were the stretch long enough
abbrev pub due_at : Low → ℕ → ℕ → ℕ → ℕ
due_at s m n u = min (m - u) (n - cell_at s.floor s.cap s.lane u)

module _ (t : Title) (l T : ℕ) (s : Low) (off : t.film.kind ≡ steady_kind → ⊥) (f : Filmed t.film) (is : LowOf t.film l s) where
  some : 0 < l
  some = rw is.lane at is.lower.first

  below : l < t.film.floor
  below = rw (is.lane, is.floor) at is.lower.below

  -- a stretch of r ticks, i ticks after the drop
  module _ (i r m n : ℕ) (length : IsLength s.floor s.cap s.lane (T + i) r)
      (till : IsTill t.ends s.floor s.cap s.lane (decisive s.floor s.cap s.lane (T + i)) m)
      (cells : n ≡ rounded_up t.film.length (title_tick t)) where
    stretch : (o : ℕ) → o < r → kept_owed t l (T + (i + o)) ≡ ltb o (due_at s m n (T + i))
    stretch o b =
        let e : T + (i + o) ≡ T + i + o = omega arith in
        let own : IsLength t.film.floor t.film.cap l (T + i) r = rw (is.floor, is.cap, is.lane) at length in
        let mine : IsTill t.ends t.film.floor t.film.cap l (decisive t.film.floor t.film.cap l (T + i)) m = rw (is.floor, is.cap, is.lane) at till in
        let cell : cell_at s.floor s.cap s.lane (T + i) ≡ cell_at t.film.floor t.film.cap l (T + i) = rw (is.floor, is.cap, is.lane) refl in
        rw (e, cell, cells) (owed_at_lem t l off some below (T + i) r o m f own b mine)

    pub step_owed : (q ticks : ℕ) → q ≤ r → ticks ≡ min q (due_at s m n (T + i)) → kept_within t l T i + ticks ≡ kept_within t l T (i + q)
    unfolding kept_within
    step_owed q ticks less e = sym (prefix (λ o. kept_owed t l (T + o)) i q (due_at s m n (T + i)) (λ o b. stretch o (omega arith)) ∙ omega arith)

    pub step_nth : (q ticks N nth : ℕ) → q ≤ r → ticks ≡ min q (due_at s m n (T + i)) → i + q ≤ N → kept_within t l T i ≤ nth → nth < kept_within t l T i + ticks →
        i + (nth - kept_within t l T i) ≡ first (kept_nth t l T nth) N
    unfolding kept_within kept_nth
    step_nth q ticks N nth less e room low more =
        let p : ℕ → Bool = λ o. kept_owed t l (T + o) in
        let o : ℕ = nth - how_many p i in
        let c = prefix p i o (due_at s m n (T + i)) (λ o b. stretch o (omega arith)) in
        sym (nth_is p N nth (i + o) (omega arith) (stretch o (omega arith) ∙ lt-ltb o (due_at s m n (T + i)) (omega arith)) (omega (arith, c)))

  -- nothing is owed once all counts have taken all of the lane
  pub all_within : (late N n : ℕ) → IsTill t.ends s.floor s.cap s.lane 0 late → n ≡ min N (late - T) → kept_within t l T n ≡ kept_within t l T N
  unfolding kept_within
  all_within late N n till e =
      let mine : IsTill t.ends t.film.floor t.film.cap l 0 late = rw (is.floor, is.cap, is.lane) at till in
      let p : ℕ → Bool = λ o. kept_owed t l (T + o) in
      ⊎_elim
      (λ x.
      let h : n < N = ltb-true n N x in
      let q : n + (N - n) ≡ N = omega arith in
      sym (ap (how_many p) (sym q) ∙ prefix p n (N - n) 0 (λ o b. past_late t l off some below (T + (n + o)) late mine (omega arith) ∙ sym (le-ltb o 0 (omega arith))) ∙ omega arith))
      (λ x. let h : N ≤ n = ltb-false n N x in let q : n ≡ N = omega arith in ap (how_many p) q)
      (decide (ltb n N))

  pub none_left : (late N n nth : ℕ) → IsTill t.ends s.floor s.cap s.lane 0 late → n ≡ min N (late - T) → kept_within t l T n ≤ nth →
      first (kept_nth t l T nth) N ≡ N
  unfolding kept_within kept_nth
  none_left late N n nth till e few = nth_none (λ o. kept_owed t l (T + o)) N nth (omega (arith, all_within late N n till e))

-- of lane 0 nothing is owed
module _ (t : Title) (T : ℕ) (off : t.film.kind ≡ steady_kind → ⊥) (floor : 0 < t.film.floor) (h : Idle t.ends t.film T) where
  idle_tick : (o : ℕ) → kept_owed t 0 (T + o) ≡ false
  unfolding kept_owed
  idle_tick o =
      let A : ℕ = t.film.floor in
      let K : ℕ = t.film.cap in
      let w : ℕ = slot K A in
      let u : ℕ = T + o in
      let d : w * (T / w) + T % w ≡ T = div-add-mod T w in
      let rest : u % w ≡ o % w = mod_same w o u 0 (T / w) (omega (arith, h.aligned)) in
      let m : o % w ≤ o = mod-le o w in
      let z : place_at A K 0 u ≡ 0 = mod-one (u / w) in
      let cell : lane_cell A K 0 u ≡ u % w = low_cell A K 0 u floor ∙ rw z (omega arith) in
      rw (
        padded_scheme t.film.kind A K off,
        fails (kept_awaited t 0 (lane_cell A K 0 u) u)
            (λ b.
            let r = some_awaits t 0 u (lane_cell A K 0 u) b in
            false≢true
            (sym (wants_passed A K 0 r.0 u (get_or t.ends r.0 0) r.1 r.2 r.3 (omega (arith, h.ended r.0 r.2 r.3)))
            ∙ padded_wants t (lane_cell A K 0 u) u r.0 off ∙ r.4)),
      )
      (both_none (film_in t.film.length (title_tick t) (lane_cell A K 0 u)))

  pub idle_owes : (N : ℕ) → 0 ≡ kept_within t 0 T N
  unfolding kept_within how_many
  idle_owes N =
      let p : ℕ → Bool = λ o. kept_owed t 0 (T + o) in
      let e : 0 + N ≡ N = omega arith in
      let c : how_many p (0 + N) ≡ how_many p 0 + min N 0 = prefix p 0 N 0 (λ o b. idle_at o) in
      sym (ap (how_many p) (sym e) ∙ c ∙ omega arith)
    where
      idle_at : (o : ℕ) → kept_owed t 0 (T + (0 + o)) ≡ ltb o 0
      idle_at o = idle_tick (0 + o) ∙ sym (le-ltb o 0 (omega arith))
