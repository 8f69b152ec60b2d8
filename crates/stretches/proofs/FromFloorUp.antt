-- What a title owes on a lane from the floor up is what the walk over its channels finds. Rests on the laws of slots and of walks.
use mathlib.Core.Path.{◌≡◌, refl, sym, ap, ◌∙◌}
use mathlib.Core.Bool.{Bool, true, false, not, false≢true}
use mathlib.Core.Logic.{⊎_elim}
use Prim.Native.Nat.{ℕ, suc, ◌+◌, ◌-◌, ◌*◌, ◌/◌, ◌%◌, ◌^◌, ◌≤◌, ◌<◌}
use native.Mathlib.Omega.{arith}
use native.Mathlib.Nat.{div-add-mod, pos_of_ne-zero}
use lib.Dec.{leb, ltb, eqb}
use lib.ListN.{get_or}
use lib.Pow.{pow_mono}
use borrow.Author.Tests.{not-true, eqb-true, eqb-false, leb-true, lt-ltb, le-ltb, ltb-true}
use Rattle.rules.specs.Limits.{both, asked_max, count_max}
use Rattle.rules.specs.Refusals.{pick}
use Rattle.rules.specs.Search.{some, first, how_many}
use Rattle.rules.proofs.Tests.{decide, both_l, both_r, both_in, both_none, same, pick_true, pick_false}
use Rattle.grid.specs.Ticks.{slot, rounded_up}
use Rattle.grid.specs.Lanes.{added_channel, lane_cell}
use Rattle.grid.specs.Bounds.{Exactly}
use Rattle.grid.proofs.Numbers.{mod_unique, div_unique}
use Rattle.grid.proofs.Ticks.{slot_pos, half_cells}
use Rattle.grid.proofs.Channels.{lifted, next_slot, lifted_add}
use Rattle.grid.proofs.Zeros.{zeros_only}
use Rattle.scheme.specs.Scheme.{padded, steady_kind, film_in}
use Rattle.scheme.proofs.ByKind.{padded_scheme}
use Rattle.scheme.proofs.Clock.{tick_pos}
use Rattle.story.specs.declared.Title.{Title}
use Rattle.story.specs.Life.{reach}
use Rattle.story.specs.Kept.{scheme_in, title_tick, wants, kept_awaited, kept_owed, kept_within, kept_nth}
use Rattle.measures.specs.Readable.{Filmed}
use Rattle.stretches.specs.inner.Walk.{IsLatest, Walkable, is_reached, walk_of, behind_on, from_on, ticks_to, NthIn}
use Rattle.stretches.proofs.Found.{found_exactly}
use Rattle.stretches.proofs.FilmCells.{film_cells_lem}
use Rattle.stretches.proofs.OneChannel.{padded_wants, some_awaits, awaits_in}
use Rattle.stretches.proofs.Walked.{On, owed_on, all_owed, nth_owed_lem, nth_past}
use Rattle.stretches.proofs.Slots.{added_zeros, added_cell, slot_less, wants_as_long, wants_none, wants_never}

-- a lane from the floor up, dropped at one of its slot starts and after every count above it had ended
pub record Reached (t : Title) (l T until end : ℕ) : Type 0 where
  pub off : t.film.kind ≡ steady_kind → ⊥
  pub low : t.film.floor ≤ l
  pub high : l < t.film.cap
  pub latest : IsLatest t.ends t.film.cap l (suc t.film.cap) until end
  pub past : end ≤ T
  pub aligned : T % slot t.film.cap (suc l) ≡ 0

pub reached_in : (t : Title) (l T until end : ℕ) → l < t.film.cap → IsLatest t.ends t.film.cap l (suc t.film.cap) until end →
    is_reached t.film l T end ≡ true → Reached t l T until end
unfolding is_reached
reached_in t l T until end high latest h =
    let start : Bool = eqb (T % slot t.film.cap (suc l)) 0 in
    let late : Bool = both (leb end T) start in
    let up : Bool = both (leb t.film.floor l) late in
    let rest : up ≡ true = both_r (not (eqb t.film.kind steady_kind)) up h in
    let last : late ≡ true = both_r (leb t.film.floor l) late rest in
    record {
      off = eqb-false t.film.kind steady_kind (not-true (eqb t.film.kind steady_kind) (both_l (not (eqb t.film.kind steady_kind)) up h));
      low = leb-true t.film.floor l (both_l (leb t.film.floor l) late rest);
      high = high;
      latest = latest;
      past = leb-true end T (both_l (leb end T) start last);
      aligned = eqb-true (T % slot t.film.cap (suc l)) 0 (both_r (leb end T) start last);
    }

module _ (t : Title) (l T until end : ℕ) (h : Reached t l T until end) (u : ℕ) (from : T + u % slot t.film.cap (suc l) ≤ u) where
  -- the boxes of one count
  module _ (c : ℕ) (has : l < c) (fit : c ≤ t.film.cap) where
    count_wants : wants (scheme_in t) (get_or t.ends c 0) (lane_cell t.film.floor t.film.cap l u) u c ≡ true →
        (0 < added_channel t.film.floor t.film.cap l u)
        × (0 < until)
        × (u + slot t.film.cap (suc l) < until + slot t.film.cap (suc l) * 2 ^ added_channel t.film.floor t.film.cap l u)
    count_wants b =
        let A : ℕ = t.film.floor in
        let K : ℕ = t.film.cap in
        let e : ℕ = get_or t.ends c 0 in
        let d : ℕ = added_channel A K l u in
        let b' : wants (padded A K) e (lane_cell A K l u) u c ≡ true = padded_wants t (lane_cell A K l u) u c h.off ∙ b in
        let ruled : 0 < e = pos_of_ne-zero (λ z. false≢true (sym (wants_never (padded A K) e (lane_cell A K l u) u c z) ∙ b')) in
        let ended : e ≤ end = h.latest.ended c has (omega arith) in
        let some : 0 < d = pos_of_ne-zero (λ z. false≢true (sym (wants_none K l c has fit A u e h.low z (omega (arith, h.past))) ∙ b')) in
        let late : u + slot K c < e + slot K (suc l) * 2 ^ d =
        ltb-true (u + slot K c) (e + slot K (suc l) * 2 ^ d) (sym (wants_as_long K l c has fit A u e h.low some ruled) ∙ b') in
        let bound : e + (slot K (suc l) - slot K c) ≤ until = h.latest.most.bound c has (omega arith) ruled in
        let less : slot K c ≤ slot K (suc l) = slot_less K (suc l) c has fit in
        (some, omega arith, omega arith)

  latest_wants : 0 < added_channel t.film.floor t.film.cap l u → 0 < until →
      u + slot t.film.cap (suc l) < until + slot t.film.cap (suc l) * 2 ^ added_channel t.film.floor t.film.cap l u →
      kept_awaited t l (lane_cell t.film.floor t.film.cap l u) u ≡ true
  latest_wants some began late =
      let A : ℕ = t.film.floor in
      let K : ℕ = t.film.cap in
      let d : ℕ = added_channel A K l u in
      let r = h.latest.most.hit began in
      let c : ℕ = r.0 in
      let e : ℕ = get_or t.ends c 0 in
      let fit : c ≤ K = omega (arith, r.2) in
      let less : slot K c ≤ slot K (suc l) = slot_less K (suc l) c r.1 fit in
      let takes : wants (padded A K) e (lane_cell A K l u) u c ≡ true =
      wants_as_long K l c r.1 fit A u e h.low some r.3
      ∙ lt-ltb (u + slot K c) (e + slot K (suc l) * 2 ^ d) (omega (arith, r.4)) in
      awaits_in t l u (lane_cell A K l u) c r.1 (omega (arith, r.1, h.low)) fit (sym (padded_wants t (lane_cell A K l u) u c h.off) ∙ takes)

  awaited : kept_awaited t l (lane_cell t.film.floor t.film.cap l u) u
      ≡ both (ltb 0 until) (both (ltb 0 (added_channel t.film.floor t.film.cap l u))
      (ltb (u + slot t.film.cap (suc l)) (until + slot t.film.cap (suc l) * 2 ^ added_channel t.film.floor t.film.cap l u)))
  awaited = same (kept_awaited t l (lane_cell A K l u) u) (both (ltb 0 until) (both (ltb 0 d) late)) into out
    where
      A : ℕ
      A = t.film.floor

      K : ℕ
      K = t.film.cap

      d : ℕ
      d = added_channel A K l u

      late : Bool
      late = ltb (u + slot K (suc l)) (until + slot K (suc l) * 2 ^ d)

      into : kept_awaited t l (lane_cell A K l u) u ≡ true → both (ltb 0 until) (both (ltb 0 d) late) ≡ true
      into b =
          let r = some_awaits t l u (lane_cell A K l u) b in
          let v = count_wants r.0 r.1 r.3 r.4 in
          both_in (ltb 0 until) (both (ltb 0 d) late) (lt-ltb 0 until v.1)
          (both_in (ltb 0 d) late (lt-ltb 0 d v.0) (lt-ltb (u + slot K (suc l)) (until + slot K (suc l) * 2 ^ d) v.2))

      out : both (ltb 0 until) (both (ltb 0 d) late) ≡ true → kept_awaited t l (lane_cell A K l u) u ≡ true
      out b =
          let c = both_r (ltb 0 until) (both (ltb 0 d) late) b in
          latest_wants (ltb-true 0 d (both_l (ltb 0 d) late c)) (ltb-true 0 until (both_l (ltb 0 until) (both (ltb 0 d) late) b))
          (ltb-true (u + slot K (suc l)) (until + slot K (suc l) * 2 ^ d) (both_r (ltb 0 d) late c))

-- ---- the walk of a title

-- where no box began, a film without cells says so
no_film_lem : (until x F : ℕ) (b : Bool) → both (ltb x F) (both (ltb 0 until) b) ≡ both (ltb x (pick (eqb until 0) 0 F)) b
no_film_lem until x F b =
    ⊎_elim
    (λ z.
    rw (pick_true (eqb until 0) 0 F z, le-ltb 0 until (omega (arith, eqb-true until 0 z)), le-ltb x 0 (omega arith)) (both_none (ltb x F)))
    (λ z. rw (pick_false (eqb until 0) 0 F z, lt-ltb 0 until (pos_of_ne-zero (eqb-false until 0 z))) refl)
    (decide (eqb until 0))

reach_is : (K l : ℕ) → l < K → reach K ≡ 2 ^ l * slot K (suc l)
unfolding reach
reach_is K l b = let e : suc l - 1 ≡ l = omega arith in sym (rw e at (half_cells K (suc l) (omega arith) b)) ∙ omega arith

module _ (t : Title) (l T until end : ℕ) (h : Reached t l T until end) (f : Filmed t.film) where
  near : until ≤ T + slot t.film.cap (suc l)
  near = ⊎_elim (λ z. omega (arith, eqb-true until 0 z)) late (decide (eqb until 0))
    where
      late : eqb until 0 ≡ false → until ≤ T + slot t.film.cap (suc l)
      late z =
          let r = h.latest.most.hit (pos_of_ne-zero (eqb-false until 0 z)) in
          omega (arith, r.4, h.latest.ended r.0 r.1 r.2, h.past)

  -- there is room for every sum
  pub walkable : T ≤ asked_max → Walkable (walk_of t.film l T until)
  unfolding walk_of slot
  walkable early =
      let w : 2 ^ (t.film.cap - suc l) ≤ 2 ^ count_max = pow_mono {i = t.film.cap - suc l} {j = count_max} (omega (arith, f.cut.high)) in
      record { lane = omega (arith, h.high, f.cut.high); width = w; at = early; until = omega (arith, near) }

  -- a tick of slot i from the drop on
  module _ (i r : ℕ) (b : r < slot t.film.cap (suc l)) where
    rest_is : (T + (i * slot t.film.cap (suc l) + r)) % slot t.film.cap (suc l) ≡ r
    rest_is =
        let w : ℕ = slot t.film.cap (suc l) in
        let e : w * (T / w) + T % w ≡ T = div-add-mod T w in
        mod_unique w r (T + (i * w + r)) 0 (T / w + i) b (omega (arith, h.aligned))

    slot_is : (T + (i * slot t.film.cap (suc l) + r)) / slot t.film.cap (suc l) ≡ T / slot t.film.cap (suc l) + i
    slot_is =
        let w : ℕ = slot t.film.cap (suc l) in
        let e : w * (T / w) + T % w ≡ T = div-add-mod T w in
        div_unique w (T / w + i) r (T + (i * w + r)) b (omega (arith, h.aligned))

    channel_is : (d : ℕ) → On (walk_of t.film l T until) i d → added_channel t.film.floor t.film.cap l (T + (i * slot t.film.cap (suc l) + r)) ≡ d
    unfolding walk_of next_slot
    channel_is d on =
        let A : ℕ = t.film.floor in
        let K : ℕ = t.film.cap in
        let w : ℕ = slot K (suc l) in
        let u : ℕ = T + (i * w + r) in
        let e : lifted A (suc l) (u / w) + 1 ≡ lifted A (suc l) (T / w) + i + 1 = rw (slot_is, lifted_add A (suc l) (T / w) i) refl in
        zeros_only l (lifted A (suc l) (T / w) + i + 1) (added_channel A K l u) d (rw e at (added_zeros A K l u h.low h.high)) on

    owed_is : (d : ℕ) → On (walk_of t.film l T until) i d → kept_owed t l (T + (i * slot t.film.cap (suc l) + r)) ≡ owed_on (walk_of t.film l T until) i r d
    unfolding kept_owed walk_of behind_on
    owed_is d on =
        let A : ℕ = t.film.floor in
        let K : ℕ = t.film.cap in
        let w : ℕ = slot K (suc l) in
        let u : ℕ = T + (i * w + r) in
        let D : ℕ = t.film.length in
        let x : ℕ = (2 * 2 ^ d - 2) * w + r in
        let e : added_channel A K l u ≡ d = channel_is d on in
        let cell : lane_cell A K l u ≡ x = added_cell A K l u h.low h.high ∙ rw (e, rest_is) refl in
        let film : film_in D (title_tick t) x ≡ ltb x (rounded_up D (title_tick t)) =
        film_cells_lem D (title_tick t) x (tick_pos t.film.kind D A K f.sized.low f.cut.low f.cut.fit) in
        let wait = awaited t l T until end h u (omega (arith, rest_is)) in
        rw (padded_scheme t.film.kind A K h.off, wait, cell, e, film) (no_film_lem until x (rounded_up D (title_tick t)) (both (ltb 0 d) (ltb (u + w) (until + w * 2 ^ d))))

  pub owes_in : kept_within t l T (reach t.film.cap) ≡ ticks_to (walk_of t.film l T until) l
  unfolding kept_within walk_of
  owes_in =
      ap (how_many (λ o. kept_owed t l (T + o))) (reach_is t.film.cap l h.high)
      ∙ all_owed (walk_of t.film l T until) (λ o. kept_owed t l (T + o)) (slot_pos t.film.cap (suc l)) near owed_is

  nth_in : (d n : ℕ) → suc d ≤ l → ticks_to (walk_of t.film l T until) d ≤ n → n < ticks_to (walk_of t.film l T until) (suc d) →
      first (kept_nth t l T n) (reach t.film.cap) ≡ from_on (walk_of t.film l T until) (suc d) + (n - ticks_to (walk_of t.film l T until) d)
  unfolding kept_nth kept_within walk_of
  nth_in d n b low more =
      ap (first (kept_nth t l T n)) (reach_is t.film.cap l h.high)
      ∙ nth_owed_lem (walk_of t.film l T until) (λ o. kept_owed t l (T + o)) (slot_pos t.film.cap (suc l)) near owed_is d n b low more

  nth_out : (n : ℕ) → ticks_to (walk_of t.film l T until) l ≤ n → first (kept_nth t l T n) (reach t.film.cap) ≡ reach t.film.cap
  unfolding kept_nth kept_within walk_of
  nth_out n few =
      ap (first (kept_nth t l T n)) (reach_is t.film.cap l h.high)
      ∙ nth_past (walk_of t.film l T until) (λ o. kept_owed t l (T + o)) (slot_pos t.film.cap (suc l)) near owed_is n few
      ∙ sym (reach_is t.film.cap l h.high)

  pub nth_exactly : (n r : ℕ) → NthIn (walk_of t.film l T until) n r → Exactly (first (kept_nth t l T n) (reach t.film.cap)) 0 (2 ^ count_max) r
  unfolding walk_of
  nth_exactly n r found =
      found_exactly t l T f.cut.high n r
      (⊎_elim
      (λ x. x.4 ∙ sym (nth_in x.0 n x.1 x.2 x.3))
      (λ x. x.1 ∙ sym (reach_is t.film.cap l h.high) ∙ sym (nth_out n x.0))
      found)
