-- Owed ticks need no history: of each count the end of its latest admission's slot decides. Shown for any life whose
-- counts begin and end to admit boxes only at slot starts of their own: the stored ends say of a lane's ticks what is defined over
-- all admissions. Rests on the laws of a scheme and on the laws of owed ticks.
use mathlib.Core.Path.{◌≡◌, sym, ap, ◌∙◌}
use mathlib.Core.Bool.{Bool, true, false}
use mathlib.Core.Logic.{⊎_elim}
use Prim.Native.Nat.{ℕ, zero, suc, ◌+◌, ◌-◌, ◌*◌, ◌/◌, ◌%◌, ◌≤◌, ◌<◌}
use native.Mathlib.Omega.{arith}
use native.Mathlib.Nat.{div-add-mod', mul-le-mul_right}
use lib.Dec.{ltb, leb, eqb}
use lib.ListN.{get_or}
use borrow.Author.Tests.{ltb-true, ltb-false, lt-ltb, leb-true, le-leb, eqb-true, eqb-false, eq-eqb}
use Rattle.rules.specs.Limits.{both}
use Rattle.rules.specs.Refusals.{pick}
use Rattle.rules.specs.Search.{some}
use Rattle.rules.proofs.Tests.{decide, both_l, both_r, both_in, same, pick_true, pick_false}
use Rattle.rules.proofs.Search
use Rattle.grid.proofs.Numbers.{mod_unique}
use Rattle.scheme.specs.Scheme.{Scheme, starts, takes}
use Rattle.scheme.proofs.Takes.{taken_in_lem, taken_out}
use Rattle.story.specs.declared.Title.{Title}
use Rattle.story.specs.Life.{Life, Course, scheme, is_film, usual_cell, is_planned, is_admission, is_awaited, is_owed}
use Rattle.story.specs.Ruled.{Ruled}
use Rattle.story.proofs.Admissions.{Legal, admits, is_admitting, last_end, admitted}
use Rattle.story.specs.Kept.{scheme_in, wants_from, wants, kept_awaited, kept_owed}
use Rattle.story.proofs.Owed.{awaited_in, awaited_out}

-- ---- slot starts as remainders

-- the remainder by a slot is 0 at a slot start
pub slot_start_zero : (S : Scheme) (k t : ℕ) → starts S k t ≡ true → t % S.slot_of k ≡ 0
unfolding starts
slot_start_zero S k t h = eqb-true (t % S.slot_of k) 0 h

pub zero_slot_start : (S : Scheme) (k t : ℕ) → t % S.slot_of k ≡ 0 → starts S k t ≡ true
unfolding starts
zero_slot_start S k t h = eq-eqb (t % S.slot_of k) 0 h

-- of two multiples of w the larger is at least w more
multiples : (w a e : ℕ) → 0 < w → a % w ≡ 0 → e % w ≡ 0 → a < e → a + w ≤ e
multiples w a e p za ze l =
    let da : a / w * w + a % w ≡ a = div-add-mod' a w in
    let de : e / w * w + e % w ≡ e = div-add-mod' e w in
    ⊎_elim (λ t. let m : suc (a / w) * w ≤ e / w * w = mul-le-mul_right w (ltb-true (a / w) (e / w) t) in omega arith)
    (λ t. let m : e / w * w ≤ a / w * w = mul-le-mul_right w (ltb-false (a / w) (e / w) t) in absurd (omega arith))
    (decide (ltb (a / w) (e / w)))

-- a multiple of w less w is one too
multiple_less : (w e : ℕ) → 0 < w → e % w ≡ 0 → w ≤ e → (e - w) % w ≡ 0
multiple_less w e p ze l =
    let de : e / w * w + e % w ≡ e = div-add-mod' e w in
    mod_unique w 0 (e - w) 1 (e / w) p (omega arith)

-- ---- where a count last ended

module _ (L : Life) (legal : Legal L) (c : ℕ) (some : 0 < c) where
  -- a count begins and ends at its own slot starts
  ends_at : (m : ℕ) → admits L m ≡ c → (admits L (suc m) ≡ c → ⊥) → starts (scheme L) c (suc m) ≡ true
  ends_at m h f = rw (← h) (legal.ends m (omega arith) (λ e. f (sym e ∙ h)))

  begins_at : (m : ℕ) → admits L (suc m) ≡ c → (admits L m ≡ c → ⊥) → starts (scheme L) c (suc m) ≡ true
  begins_at m h f = rw (← h) (legal.begins m (omega arith) (λ e. f (e ∙ h)))

  -- no start of a slot lies inside another
  inside : (w m j : ℕ) → suc m % w ≡ 0 → suc j < w → suc j ≤ m → (m - j) % w ≡ 0 → ⊥
  inside w m j zm lt le zj =
      let d : (m - j) / w * w + (m - j) % w ≡ m - j = div-add-mod' (m - j) w in
      let e : suc m % w ≡ suc j = mod_unique w (suc j) (suc m) 0 ((m - j) / w) lt (omega arith) in
      omega arith

  -- a count that admits boxes at the end of one of its slots does in the whole slot
  pub whole_slot : (m j : ℕ) → starts (scheme L) c (suc m) ≡ true → admits L m ≡ c → j < (scheme L).slot_of c →
      (scheme L).slot_of c ≤ suc m → admits L (m - j) ≡ c
  whole_slot m zero s h b w = let e : m - 0 ≡ m = omega arith in rw e h
  whole_slot m (suc j) s h b w =
      let before : admits L (m - j) ≡ c = whole_slot m j s h (omega arith) w in
      let i : ℕ = m - suc j in
      let e : m - j ≡ suc i = omega arith in
      ⊎_elim (λ t. eqb-true (admits L i) c t)
      (λ t.
      let start : starts (scheme L) c (suc i) ≡ true = begins_at i (rw e at before) (eqb-false (admits L i) c t) in
      absurd
      (inside ((scheme L).slot_of c) m j (slot_start_zero (scheme L) c (suc m) s) b (omega arith)
      (rw e (slot_start_zero (scheme L) c (suc i) start))))
      (decide (eqb (admits L i) c))

  -- where a count last stopped before T is a slot start of it, unless it admits boxes at T
  pub end_slot : (T m : ℕ) → (admits L T ≡ c → ⊥) → last_end L c T ≡ suc m →
      (admits L m ≡ c) × (starts (scheme L) c (suc m) ≡ true)
  unfolding last_end
  end_slot T m off e =
      let last : admits L m ≡ c = eqb-true (admits L m) c (Search.after_last (is_admitting L c) T m e) in (
        last,
        ends_at m last
            (⊎_elim
            (λ b. eqb-false (admits L (suc m)) c (Search.after_none (is_admitting L c) T (suc m) (omega arith) b))
            (λ q. rw q off)
            (Search.below_suc (suc m) T (omega (arith, Search.after_le (is_admitting L c) T)))),
      )

pub last_end_le : (L : Life) (c T : ℕ) → last_end L c T ≤ T
unfolding last_end
last_end_le L c T = Search.after_le (is_admitting L c) T

pub last_end_above : (L : Life) (c T a : ℕ) → a < T → admits L a ≡ c → a < last_end L c T
unfolding last_end
last_end_above L c T a b e = Search.after_above (is_admitting L c) T a b (eq-eqb (admits L a) c e)

-- no more lanes admit than rule, and without a hold just those
pub admits_le : (L : Life) (t : ℕ) → admits L t ≤ L.rule t
admits_le L t =
    elim (L.shut t) as (λ b. pick b 0 (L.rule t) ≤ L.rule t) [ true ↦ omega arith | false ↦ omega arith ]

pub admits_rule : (L : Life) (t : ℕ) → L.shut t ≡ false → admits L t ≡ L.rule t
admits_rule L t h = pick_false (L.shut t) 0 (L.rule t) h

-- a count that admits boxes at a tick rules there, and its doors are not held
rules_unheld : (L : Life) (t c : ℕ) → 0 < c → admits L t ≡ c → (L.rule t ≡ c) × (L.shut t ≡ false)
rules_unheld L t c pos h =
    ⊎_elim (λ x. let z : 0 ≡ c = sym (pick_true (L.shut t) 0 (L.rule t) x) ∙ h in absurd (omega arith))
    (λ x. (sym (admits_rule L t x) ∙ h, x))
    (decide (L.shut t))

-- a lane l that is not active at T, the tick of its drop
module _ (L : Life) (ruled : Ruled L) (legal : Legal L) (l T u : ℕ) (lane : l < L.film.cap) (off : L.rule T ≤ l)
    (from : T ≤ u) where
  -- an admission that awaits the lane's cell had the lane, and its slot ends by where its count last stopped
  pub awaited_end : (a : ℕ) → a < T → is_admission L a ≡ true → is_planned L a (usual_cell L l u) u ≡ true →
      (l < L.rule a) × (a + (scheme L).slot_of (L.rule a) ≤ last_end L (L.rule a) T)
  awaited_end a b ad pl =
      let c : ℕ = L.rule a in
      let w : ℕ = (scheme L).slot_of c in
      let k = admitted L ruled a ad in
      let t = taken_out (scheme L) c a (usual_cell L l u) u pl in
      let had : l < c =
      ⊎_elim (λ x. ltb-true l c x)
      (λ x.
      absurd
      (ruled.laws.off_lane c l t.0 u k.low (ltb-false l c x) lane t.1.channel t.1.carries))
      (decide (ltb l c)) in
      let e : ℕ = last_end L c T in
      let above : a < e = last_end_above L c T a b (admits_rule L a k.unheld) in
      let q : e ≡ suc (e - 1) = omega arith in
      let s = end_slot L legal c k.some T (e - 1) (λ same. omega (arith, admits_le L T)) q in
      let ze : e % w ≡ 0 = rw q (slot_start_zero (scheme L) c (suc (e - 1)) s.1) in
      (had, multiples w a e (ruled.laws.slot_pos c) (slot_start_zero (scheme L) c a k.start) ze above)

  -- the other way round, a slot before a count last stopped there is an admission
  pub end_admission : (c : ℕ) → l < c → L.film.floor ≤ c → 0 < last_end L c T →
      (a : ℕ) × (a < T) × (a + (scheme L).slot_of c ≡ last_end L c T) × (L.rule a ≡ c) × (is_admission L a ≡ true)
  unfolding is_admission
  end_admission c had low some =
      let e : ℕ = last_end L c T in
      let w : ℕ = (scheme L).slot_of c in
      let wp : 0 < w = ruled.laws.slot_pos c in
      let q : e ≡ suc (e - 1) = omega arith in
      let pos : 0 < c = omega arith in
      let s = end_slot L legal c pos T (e - 1) (λ same. omega (arith, admits_le L T)) q in
      let ze : e % w ≡ 0 = rw q (slot_start_zero (scheme L) c (suc (e - 1)) s.1) in
      let fits : w ≤ e = omega (arith, multiples w 0 e wp (native.Mathlib.Nat.zero-mod w) ze some) in
      let a : ℕ = e - w in
      let back : e - 1 - (w - 1) ≡ a = omega arith in
      let admitting : admits L a ≡ c =
      rw back at (whole_slot L legal c pos (e - 1) (w - 1) s.1 s.0 (omega arith) (omega arith)) in
      let on = rules_unheld L a c pos admitting in
      let start : starts (scheme L) c a ≡ true = zero_slot_start (scheme L) c a (multiple_less w e wp ze fits) in
      let le : e ≤ T = last_end_le L c T in (
        a,
        omega arith,
        omega arith,
        on.0,
        rw (on.0, on.1) (both_in (ltb 0 c) (starts (scheme L) c a) (lt-ltb 0 c pos) start),
      )

-- ---- the stored numbers

-- the life that a stored title tells, on a course
abbrev pub life_in : Title → Course → Life
life_in t r = record { film = t.film; opened = t.opened; rule = r.rule; shut = r.shut }

-- the stored ends, of the counts that had lane l, are where those counts last stopped before its drop at T
abbrev pub EndsAt : Title → Course → ℕ → ℕ → Type 0
EndsAt t r l T = (c : ℕ) → l < c → t.film.floor ≤ c → c ≤ t.film.cap → get_or t.ends c 0 ≡ last_end (life_in t r) c T

-- what the stored ends say is awaited of a lane is what the admissions await
pub kept_awaited_lem : (t : Title) (r : Course) (l T u : ℕ) → Ruled (life_in t r) → Legal (life_in t r) →
    l < t.film.cap → r.rule T ≤ l → T ≤ u → EndsAt t r l T →
    is_awaited (life_in t r) T (usual_cell (life_in t r) l u) u ≡ kept_awaited t l (usual_cell (life_in t r) l u) u
unfolding kept_awaited wants wants_from
kept_awaited_lem t r l T u ruled legal lane off from ends = same (is_awaited L T x u) (some test (suc K)) there back
  where
    L : Life
    L = life_in t r

    A : ℕ
    A = t.film.floor

    K : ℕ
    K = t.film.cap

    S : Scheme
    S = scheme_in t

    x : ℕ
    x = usual_cell L l u

    end : ℕ → ℕ
    end c = get_or t.ends c 0

    room : ℕ → ℕ → Bool
    room c d = ltb (u + S.slot_of c) (end c + S.span c d)

    carrying : ℕ → ℕ → Bool
    carrying c d = eqb (S.on_channel c d u) x

    channel : ℕ → ℕ → Bool
    channel c d = both (room c d) (carrying c d)

    wanted : ℕ → Bool
    wanted c = both (ltb 0 (end c)) (some (channel c) c)

    test : ℕ → Bool
    test c = both (ltb l c) (both (leb A c) (wanted c))

    there : is_awaited L T x u ≡ true → some test (suc K) ≡ true
    there h =
        let o = awaited_out L T x u h in
        let a : ℕ = o.0 in
        let c : ℕ = r.rule a in
        let k = admitted L ruled a o.2 in
        let e = awaited_end L ruled legal l T u lane off from a o.1 o.2 o.3 in
        let s = taken_out S c a x u o.3 in
        let d : ℕ = s.0 in
        let same_end : end c ≡ last_end L c T = ends c e.0 k.low (ruled.high a) in
        let before : u < a + S.span c d = s.1.before in
        let by : a + S.slot_of c ≤ last_end L c T = e.1 in
        let ch : channel c d ≡ true =
        both_in (room c d) (carrying c d) (lt-ltb (u + S.slot_of c) (end c + S.span c d) (omega arith))
        (eq-eqb (S.on_channel c d u) x s.1.carries) in
        Search.some_in test (suc K) c (omega (arith, ruled.high a))
        (both_in (ltb l c) (both (leb A c) (wanted c)) (lt-ltb l c e.0)
        (both_in (leb A c) (wanted c) (le-leb A c k.low)
        (both_in (ltb 0 (end c)) (some (channel c) c) (lt-ltb 0 (end c) (omega (arith, ruled.laws.slot_pos c)))
        (Search.some_in (channel c) c d s.1.channel ch))))

    back : some test (suc K) ≡ true → is_awaited L T x u ≡ true
    back h =
        let f = Search.some_out test (suc K) h in
        let c : ℕ = f.0 in
        let had : l < c = ltb-true l c (both_l (ltb l c) (both (leb A c) (wanted c)) f.2) in
        let rest : both (leb A c) (wanted c) ≡ true = both_r (ltb l c) (both (leb A c) (wanted c)) f.2 in
        let low : A ≤ c = leb-true A c (both_l (leb A c) (wanted c) rest) in
        let want : wanted c ≡ true = both_r (leb A c) (wanted c) rest in
        let same_end : end c ≡ last_end L c T = ends c had low (omega (arith, f.1)) in
        let ever : 0 < end c = ltb-true 0 (end c) (both_l (ltb 0 (end c)) (some (channel c) c) want) in
        let g = Search.some_out (channel c) c (both_r (ltb 0 (end c)) (some (channel c) c) want) in
        let d : ℕ = g.0 in
        let fits : u + S.slot_of c < end c + S.span c d =
        ltb-true (u + S.slot_of c) (end c + S.span c d) (both_l (room c d) (carrying c d) g.2) in
        let carries : S.on_channel c d u ≡ x =
        eqb-true (S.on_channel c d u) x (both_r (room c d) (carrying c d) g.2) in
        let adm = end_admission L ruled legal l T u lane off from c had low (omega arith) in
        let a : ℕ = adm.0 in
        let begun : a + S.slot_of c ≡ last_end L c T = adm.2 in
        let pl : takes S c a x u ≡ true =
        taken_in_lem S c a x u d
        (record { channel = g.1; from = omega (arith, adm.1); before = omega arith; carries = carries }) in
        awaited_in L T x u a adm.1 adm.4 (rw adm.3 pl)

-- so what they say is owed is what the documents say is owed
pub kept_owed_lem : (t : Title) (r : Course) (l T u : ℕ) → Ruled (life_in t r) → Legal (life_in t r) →
    l < t.film.cap → r.rule T ≤ l → T ≤ u → EndsAt t r l T → is_owed (life_in t r) l T u ≡ kept_owed t l u
unfolding is_owed kept_owed
kept_owed_lem t r l T u ruled legal lane off from ends =
    ap (both (is_film (life_in t r) (usual_cell (life_in t r) l u)))
    (kept_awaited_lem t r l T u ruled legal lane off from ends)
