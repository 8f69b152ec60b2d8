-- The earliest moment of a change: the first that the title's rules permit from the time on at which the change finds its lanes, since
-- lanes once free for it stay free. Rests on the laws of permitted times, of falling lanes and of the earliest time.
use mathlib.Core.Path.{◌≡◌, refl, sym, ap, subst, ◌∙◌}
use mathlib.Core.Bool.{Bool, true, false, not}
use mathlib.Core.Logic.{⊎_elim}
use Prim.Native.Nat.{ℕ, suc, ◌≤◌, ◌<◌, min}
use native.Mathlib.Omega.{arith}
use lib.Dec.{leb, ltb, eqb}
use borrow.Author.Tests.{ltb-true, ltb-false, lt-ltb, le-ltb, leb-true, leb-false, le-leb, lt-leb, not-true}
use Rattle.rules.specs.Limits.{both, event_time_max, asked_max, lane_places, titles_max}
use Rattle.rules.proofs.Tests.{decide, both_l, both_r, both_in, either_r}
use Rattle.grid.specs.Bounds.{Exactly}
use Rattle.story.specs.declared.Title.{Title}
use Rattle.story.specs.declared.State.{State}
use Rattle.story.specs.Kept.{absent_mode, open_mode, no_title, title_at, row_ok, numbers_ok, title_ok, state_ok}
use Rattle.story.specs.Kept.{settled_at, lanes_held}
use Rattle.story.specs.Next.{changed_title, change_next}
use Rattle.story.specs.Calls.{at_slot_start}
use Rattle.measures.proofs.Within.{numbers, readable, changeable, dropped_ok, tuned_high, title_ok_lem}
use Rattle.measures.specs.Readable.{Changeable}
use Rattle.owed.proofs.Fixed.{stored}
use Rattle.moments.specs.Moments.{is_permitted, has_lanes, is_due, earliest}
use Rattle.moments.specs.Searched.{Found, permits, Timed, AllTimed, Frees}
use Rattle.moments.specs.inner.Steps.{FindsLanes}
use Rattle.moments.proofs.Earliest.{Hits, found}
use Rattle.moments.proofs.Falling.{raised, raise_held, lanes_fall}

-- ---- the numbers of a state within its limits

module _ (t : Title) (ok : title_ok t ≡ true) where
  pub opened_high : t.opened ≤ asked_max
  unfolding numbers_ok
  opened_high = let n = numbers t ok in search (both_l, both_r, leb-true) depth 12

  pub last_high : t.last ≤ asked_max
  unfolding numbers_ok
  last_high = let n = numbers t ok in search (both_l, both_r, leb-true) depth 12

  owed_ok : row_ok t.owed lane_places ≡ true
  unfolding numbers_ok
  owed_ok = let n = numbers t ok in search (both_l, both_r) depth 12

  pub timed : (t.mode ≡ absent_mode → ⊥) → Timed t
  timed there =
      record { film = readable t ok there; opened = opened_high; dropped = dropped_ok t ok; owed = owed_ok }

-- the releases of a title in a state within its limits can be told
pub title_timed : (s : State) (i : ℕ) → state_ok s ≡ true → i < titles_max → (t : Title) → t ≡ title_at s i →
    (t.mode ≡ absent_mode → ⊥) → Timed t
title_timed s i ok b t is =
    subst (λ (u : Title). (u.mode ≡ absent_mode → ⊥) → Timed u) (sym is) (timed (title_at s i) (title_ok_lem s ok i b))

-- what a state within its limits gives of an open title in it
module _ (s : State) (ok : state_ok s ≡ true) (i : ℕ) (b : i < titles_max) (is_open : (title_at s i).mode ≡ open_mode)
    (t : Title) (is : t ≡ title_at s i) where
  pub open_changeable : Changeable t
  open_changeable = rw is (changeable (title_at s i) (title_ok_lem s ok i b) (λ z. omega arith))

  pub open_limits : (t.last ≤ asked_max) × (t.tuned ≤ asked_max)
  open_limits = let z = title_ok_lem s ok i b in rw is (last_high (title_at s i) z, tuned_high (title_at s i) z)

-- a raised title keeps the numbers by which its releases are told
raised_timed : (t : Title) (τ k : ℕ) → t.count ≤ k → Timed t → Timed (changed_title t τ k)
raised_timed t τ k le z =
    rw (raised t τ k le)
    (record {
      film = record { sized = z.film.sized; cut = z.film.cut; flat = z.film.flat };
      opened = z.opened;
      dropped = z.dropped;
      owed = z.owed;
    })

pub raise_timed : (s : State) → state_ok s ≡ true → (i k τ : ℕ) → i < titles_max → (title_at s i).mode ≡ open_mode →
    (title_at s i).count ≤ k → AllTimed (change_next s i τ k)
raise_timed s ok i k τ b is le j c =
    stored (λ t. (t.mode ≡ absent_mode → ⊥) → Timed t) s.titles i j (changed_title (title_at s i) τ k) no_title
    (λ there. raised_timed (title_at s i) τ k le (timed (title_at s i) (title_ok_lem s ok i b) (λ z. omega arith)))
    (timed (title_at s j) (title_ok_lem s ok j c))

-- ---- lanes

module _ (s : State) (i k : ℕ) where
  -- a raise at τ finds its lanes where no more than the pool would be held with it
  raise_free : (τ : ℕ) → lanes_held (change_next s i τ k) τ ≤ s.pool → has_lanes s i k τ ≡ true
  unfolding has_lanes
  raise_free τ le =
      either_r (leb k (title_at s i).count) (not (ltb s.pool (lanes_held (change_next s i τ k) τ)))
      (rw (le-ltb s.pool (lanes_held (change_next s i τ k) τ) le) refl)

  raise_full : (title_at s i).count < k → (τ : ℕ) → s.pool < lanes_held (change_next s i τ k) τ → has_lanes s i k τ ≡ false
  unfolding has_lanes
  raise_full up τ l =
      rw (lt-leb k (title_at s i).count up, lt-ltb s.pool (lanes_held (change_next s i τ k) τ) l) refl

  pub drop_finds : k ≤ (title_at s i).count → (τ : ℕ) → has_lanes s i k τ ≡ true
  unfolding has_lanes
  drop_finds le τ = rw (le-leb k (title_at s i).count le) refl

  -- lanes that a change finds stay free for it
  pub lanes_stay : (τ υ : ℕ) → τ ≤ υ → has_lanes s i k τ ≡ true → has_lanes s i k υ ≡ true
  unfolding has_lanes
  lanes_stay τ υ le h =
      let held : ℕ → ℕ = λ x. lanes_held (change_next s i x k) x in
      ⊎_elim (λ d. drop_finds (leb-true k (title_at s i).count d) υ)
      (λ d.
      let up : (title_at s i).count < k = leb-false k (title_at s i).count d in
      let free : held τ ≤ s.pool = ltb-false s.pool (held τ) (not-true (ltb s.pool (held τ)) (rw d at h)) in
      raise_free υ (omega (arith, lanes_fall s i k (omega arith) τ υ le)))
      (decide (leb k (title_at s i).count))

  pub drop_finds_lanes : (τ : ℕ) → τ ≤ suc event_time_max → k ≤ (title_at s i).count → FindsLanes s i k τ τ
  drop_finds_lanes τ high le =
      record {
        after = omega arith;
        high = high;
        finds = λ early. drop_finds le τ;
        none = λ υ lo hi. absurd (omega arith);
      }

  -- a raise is tried once, as if it came at τ: it holds as many lanes then as whenever it comes
  pub raise_finds_lanes : (τ r : ℕ) → (title_at s i).count < k → Frees (change_next s i τ k) τ r → FindsLanes s i k τ r
  raise_finds_lanes τ r up f =
      let same = raise_held s i k (omega arith) τ in
      record {
        after = f.after;
        high = f.high;
        finds = λ early. raise_free r (omega (arith, same r r, f.free early));
        none = λ υ lo hi. raise_full up υ (omega (arith, same υ υ, f.full υ lo hi));
      }

  -- ---- due

  -- what the rules of the title permit
  pub permitted_by : (τ : ℕ) → is_permitted s i k τ ≡ permits (title_at s i) (min (title_at s i).count k) τ
  unfolding is_permitted permits
  permitted_by τ =
      let t : Title = title_at s i in
      go (not (eqb τ t.last)) (not (ltb τ (settled_at t))) (at_slot_start t (min t.count k) τ)
    where
      go : (a b c : Bool) → both a (both b (not (not c))) ≡ both a (both b c)
      go a b true = refl
      go a b false = refl

  -- the first permitted time from the one on at which lanes are found is the earliest that is due
  pub due_found : (τ f hi r : ℕ) → FindsLanes s i k τ f → Found (permits (title_at s i) (min (title_at s i).count k)) f hi r →
      Hits (is_due s i k) τ (min r (suc event_time_max))
  unfolding is_due
  due_found τ f hi r l p =
      record {
        after = omega (arith, l.after, l.high, p.after);
        high = omega arith;
        hit = λ early.
            let e : min r (suc event_time_max) ≡ r = omega arith in
            rw e
            (both_in (is_permitted s i k r) (has_lanes s i k r) (permitted_by r ∙ p.hit)
            (lanes_stay f r p.after (l.finds (omega (arith, p.after)))));
        none = λ υ lo until early.
            ⊎_elim (λ b. lacking (is_permitted s i k υ) (has_lanes s i k υ) (l.none υ lo (ltb-true υ f b)))
            (λ b. rw (permitted_by υ ∙ p.none υ (ltb-false υ f b) (omega arith)) refl)
            (decide (ltb υ f));
      }
    where
      lacking : (a b : Bool) → b ≡ false → both a b ≡ false
      lacking true b e = e
      lacking false b e = refl

  -- the same of a title t and a count c that are told by equations, as a value with its bounds
  pub due_exactly : {τ f hi r q : ℕ} {t : Title} {c : ℕ} → t ≡ title_at s i → c ≡ min t.count k → FindsLanes s i k τ f →
      Found (permits t c) f hi r → q ≡ min r (suc event_time_max) →
      Exactly (earliest (is_due s i k) τ) τ (suc event_time_max) q
  due_exactly {τ} {f} {hi} {r} {q} {t} {c} is counted l p cut =
      let n : c ≡ min (title_at s i).count k = counted ∙ ap (λ (t : Title). min t.count k) is in
      let h : Hits (is_due s i k) τ q = rw cut (due_found τ f hi r l (rw (is, n) at p)) in
      record { is = found (is_due s i k) τ q h; low = h.after; high = h.high }
