-- Laws of a lane's owed ticks: none beyond its reach, each goes out in its turn, and the lane is held for just as many
-- ticks as it owes cells. Rest on the laws of a scheme and of bounded counts, and on what `is_owed` says only through
-- `owed_in` and `owed_out`.
use mathlib.Core.Path.{◌≡◌, refl}
use mathlib.Core.Bool.{Bool, true, false, false≢true}
use mathlib.Core.Logic.{⊎_elim}
use Prim.Native.Nat.{ℕ, zero, suc, ◌+◌, ◌-◌, ◌≤◌, ◌<◌}
use native.Mathlib.Omega.{arith}
use native.Mathlib.Nat.{le_antisymm}
use lib.Dec.{ltb, eqb}
use borrow.Author.Tests.{ltb-true, ltb-false, lt-ltb, eqb-true, eq-eqb}
use Rattle.rules.specs.Limits.{both}
use Rattle.rules.specs.Search.{first, how_many, after}
use Rattle.rules.proofs.Tests.{decide, both_l, both_r, both_in, fails}
use Rattle.rules.proofs.Search
use Rattle.scheme.proofs.Takes.{window_end}
use Rattle.story.specs.Ruled.{Ruled}
use Rattle.story.specs.Life.{Life, scheme, is_film, usual_cell, is_planned, is_admission, is_active, dropped_at, is_awaited}
use Rattle.story.specs.Life.{is_owed, reach, owed_within, owes, is_nth, nth_owed, cell, sends, on_air, is_cell}

-- the tick after the last one that passes is the same, seen from any tick between the two
pub after_between : (p : ℕ → Bool) (u t : ℕ) → after p u ≤ t → t ≤ u → after p t ≡ after p u
after_between p u t lo hi = le_antisymm (up (after p t) refl) (down (after p u) refl)
  where
    up : (x : ℕ) → after p t ≡ x → x ≤ after p u
    up zero e = omega arith
    up (suc m) e = Search.after_above p u m (omega (arith, Search.after_le p t)) (Search.after_last p t m e)

    down : (x : ℕ) → after p u ≡ x → x ≤ after p t
    down zero e = omega arith
    down (suc m) e = Search.after_above p t m (omega arith) (Search.after_last p u m e)

-- a cell is awaited at a tick where the plan of an admission before the drop has it then, and only there
pub awaited_in : (L : Life) (T c t a : ℕ) → a < T → is_admission L a ≡ true → is_planned L a c t ≡ true →
    is_awaited L T c t ≡ true
unfolding is_awaited
awaited_in L T c t a b ad pl =
    Search.some_in (λ a. both (is_admission L a) (is_planned L a c t)) T a b
    (both_in (is_admission L a) (is_planned L a c t) ad pl)

pub awaited_out : (L : Life) (T c t : ℕ) → is_awaited L T c t ≡ true →
    (a : ℕ) × (a < T) × (is_admission L a ≡ true) × (is_planned L a c t ≡ true)
unfolding is_awaited
awaited_out L T c t h =
    let s = Search.some_out (λ a. both (is_admission L a) (is_planned L a c t)) T h in
    let a = s.0 in (
      a,
      s.1,
      both_l (is_admission L a) (is_planned L a c t) s.2,
      both_r (is_admission L a) (is_planned L a c t) s.2,
    )

module _ (L : Life) (l T : ℕ) where
  -- a cell with film that is awaited when the lane is dropped is owed at its tick
  pub owed_in : (t : ℕ) → is_film L (usual_cell L l t) ≡ true → is_awaited L T (usual_cell L l t) t ≡ true →
      is_owed L l T t ≡ true
  unfolding is_owed
  owed_in t film awaited = both_in (is_film L (usual_cell L l t)) (is_awaited L T (usual_cell L l t) t) film awaited

  -- and only such a cell
  pub owed_out : (t : ℕ) → is_owed L l T t ≡ true → is_awaited L T (usual_cell L l t) t ≡ true
  unfolding is_owed
  owed_out t h = both_r (is_film L (usual_cell L l t)) (is_awaited L T (usual_cell L l t) t) h

  -- no tick is owed as far from the drop as 2^(K-1) ticks: no channel is taken for longer
  pub owed_reach : Ruled L → (t : ℕ) → is_owed L l T t ≡ true → t < T + reach L.film.cap
  unfolding reach
  owed_reach ruled t h =
      let s = awaited_out L T (usual_cell L l t) t (owed_out t h) in
      let a : ℕ = s.0 in
      let k : ℕ = L.rule a in
      omega (arith, s.1, window_end (scheme L) L.film.cap k a (usual_cell L l t) t (λ d. ruled.laws.spans k d (ruled.high a)) s.3)

  -- so however many ticks are looked at, no more are owed than within that reach
  pub owes_all : Ruled L → (n : ℕ) → reach L.film.cap ≤ n → owed_within L l T n ≡ owes L l T
  unfolding owes owed_within
  owes_all ruled n far =
      let e : n ≡ reach L.film.cap + (n - reach L.film.cap) = omega arith in
      rw e
      (Search.how_many_flat (λ o. is_owed L l T (T + o)) (reach L.film.cap) (n - reach L.film.cap)
      (λ o lo. fails (is_owed L l T (T + o)) (λ h. omega (arith, owed_reach ruled (T + o) h))))

  -- an owed tick has its rank, and no other has it
  pub nth_is : (o : ℕ) → o < reach L.film.cap → is_owed L l T (T + o) ≡ true → nth_owed L l T (owed_within L l T o) ≡ o
  unfolding nth_owed owed_within is_nth
  nth_is o b h =
      le_antisymm
      (Search.first_least nth (reach L.film.cap) o
      (both_in (own o) (ranked o) h (eq-eqb (how_many own o) (how_many own o) refl)))
      (⊎_elim (λ t. absurd (late (ltb-true f o t))) (λ t. ltb-false f o t) (decide (ltb f o)))
    where
      own : ℕ → Bool
      own x = is_owed L l T (T + x)

      ranked : ℕ → Bool
      ranked x = eqb (how_many own x) (how_many own o)

      nth : ℕ → Bool
      nth x = both (own x) (ranked x)

      f : ℕ
      f = first nth (reach L.film.cap)

      late : f < o → ⊥
      late c =
          let hit : nth f ≡ true = Search.first_hit_lem nth (reach L.film.cap) (omega arith) in
          let e : how_many own f ≡ how_many own o =
          eqb-true (how_many own f) (how_many own o) (both_r (own f) (ranked f) hit) in
          let more : how_many own (suc f) ≡ suc (how_many own f) =
          Search.how_many_hit own f (both_l (own f) (ranked f) hit) in
          omega (arith, Search.how_many_mono own (suc f) o c)

  -- a cell goes out in each tick from the drop on for as many ticks as the lane owes, and in no other
  pub sends_while : (i : ℕ) → i < owes L l T → is_cell (sends L l T i) ≡ true
  unfolding sends owes nth_owed owed_within is_nth
  sends_while i b =
      let own : ℕ → Bool = λ o. is_owed L l T (T + o) in
      let nth : ℕ → Bool = λ o. both (own o) (eqb (how_many own o) i) in
      let n : ℕ = reach L.film.cap in
      let u = Search.how_many_at own n i b in
      let g : first nth n ≤ u.0 =
      Search.first_least nth n u.0
      (both_in (own u.0) (eqb (how_many own u.0) i) u.2 (eq-eqb (how_many own u.0) i u.3)) in
      rw (lt-ltb (first nth n) n (omega (arith, g, u.1))) refl

  pub sends_until : (i : ℕ) → is_cell (sends L l T i) ≡ true → i < owes L l T
  unfolding sends owes nth_owed owed_within is_nth
  sends_until i h =
      ⊎_elim
      (λ t.
      let hit : nth f ≡ true = Search.first_hit_lem nth (reach L.film.cap) (ltb-true f (reach L.film.cap) t) in
      let e : how_many own f ≡ i = eqb-true (how_many own f) i (both_r (own f) (eqb (how_many own f) i) hit) in
      omega (
        arith,
        Search.how_many_hit own f (both_l (own f) (eqb (how_many own f) i) hit),
        Search.how_many_mono own (suc f) (reach L.film.cap) (ltb-true f (reach L.film.cap) t),
      ))
      (λ t. absurd (false≢true (rw t at h)))
      (decide (ltb f (reach L.film.cap)))
    where
      own : ℕ → Bool
      own x = is_owed L l T (T + x)

      nth : ℕ → Bool
      nth x = both (own x) (eqb (how_many own x) i)

      f : ℕ
      f = first nth (reach L.film.cap)

  -- the cell of an owed tick goes out at the drop plus its rank, which is no later
  pub sends_owed : (o : ℕ) → o < reach L.film.cap → is_owed L l T (T + o) ≡ true →
      sends L l T (owed_within L l T o) ≡ cell (usual_cell L l (T + o))
  unfolding sends
  sends_owed o b h = rw (nth_is o b h, lt-ltb o (reach L.film.cap) b) refl

  pub rank_le : (o : ℕ) → owed_within L l T o ≤ o
  unfolding owed_within
  rank_le o = Search.how_many_le (λ o. is_owed L l T (T + o)) o

-- a lane shows what it sends while it is not active
pub air_sends : (L : Life) (l t : ℕ) → is_active L l t ≡ false →
    on_air L l t ≡ sends L l (dropped_at L l t) (t - dropped_at L l t)
unfolding on_air
air_sends L l t h = rw h refl

pub air_active : (L : Life) (l t : ℕ) → is_active L l t ≡ true → on_air L l t ≡ cell (usual_cell L l t)
unfolding on_air
air_active L l t h = rw h refl
