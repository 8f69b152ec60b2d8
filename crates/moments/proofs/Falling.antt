-- While no event comes lanes are only released, so fewer are held the later it is; and a raise, which drops no lane, would hold the same
-- lanes at a time whenever it came, so that lanes once free for it stay free. So would an opening.
-- Rests on the laws of searches, and on `drop_none`: a turn to as many lanes drops none.
use mathlib.Core.Path.{◌≡◌, refl, sym, ◌∙◌}
use mathlib.Core.Bool.{Bool, true, false, false≢true}
use mathlib.Core.List.{List, [], ◌∷◌}
use mathlib.Core.Logic.{⊎_elim}
use Prim.Native.Nat.{ℕ, zero, suc, ◌+◌, ◌-◌, ◌/◌, ◌≤◌}
use native.Mathlib.Omega.{arith}
use native.Mathlib.Nat.{div-zero}
use lib.Dec.{ltb, eqb}
use lib.ListN.{get_or, set, replicate}
use borrow.Author.Tests.{ltb-true, lt-ltb, le-ltb}
use Rattle.rules.specs.Limits.{either, titles_max, lane_places}
use Rattle.rules.specs.Refusals.{pick}
use Rattle.rules.specs.Search.{how_many}
use Rattle.rules.proofs.Tests.{either_l, either_r, either_out}
use Rattle.rules.proofs.Search
use Rattle.story.specs.declared.Film.{Film}
use Rattle.story.specs.declared.Title.{Title}
use Rattle.story.specs.declared.State.{State}
use Rattle.story.specs.Kept.{absent_mode, open_mode, no_title, title_tick, title_at, tick_at, ruling, kept_held, title_held, lanes_held}
use Rattle.story.specs.declared.Act.{Act}
use Rattle.story.specs.declared.Act.TheVariants.{Opens, Changes, Closes, Doors}
use Rattle.story.specs.Story.{takes_lanes}
use Rattle.story.specs.Next.{opened_title, ended, turned, changed_title, call_next, change_next}
use Rattle.story.proofs.Clock.{tick_mono}
use Rattle.story.proofs.Rows.{drop_none}

-- later moments lie in later ticks, also of a title without a film
tick_later : (t : Title) (τ υ : ℕ) → τ ≤ υ → tick_at t τ ≤ tick_at t υ
unfolding tick_at
tick_later t τ υ le = go (title_tick t)
  where
    go : (p : ℕ) → (τ - t.opened) / p ≤ (υ - t.opened) / p
    go zero = rw (div-zero (τ - t.opened), div-zero (υ - t.opened)) (omega arith)
    go (suc p) = tick_mono t.opened (suc p) (omega arith) τ υ le

lane_falls : (t : Title) (l m n : ℕ) → m ≤ n → kept_held t l n ≡ true → kept_held t l m ≡ true
unfolding kept_held
lane_falls t l m n le h =
    let last : ℕ = get_or t.dropped l 0 + get_or t.owed l 0 in
    ⊎_elim (λ a. either_l (ltb l (ruling t)) (ltb m last) a)
    (λ b. either_r (ltb l (ruling t)) (ltb m last) (lt-ltb m last (omega (arith, ltb-true n last b))))
    (either_out (ltb l (ruling t)) (ltb n last) h)

pub title_falls : (t : Title) (τ υ : ℕ) → τ ≤ υ → title_held t υ ≤ title_held t τ
unfolding title_held
title_falls t τ υ le = go (eqb t.mode absent_mode)
  where
    held : ℕ → ℕ
    held x = how_many (λ l. kept_held t l (tick_at t x)) t.film.cap

    go : (b : Bool) → pick b 0 (held υ) ≤ pick b 0 (held τ)
    go true = omega arith
    go false =
        Search.how_many_wider (λ l. kept_held t l (tick_at t υ)) (λ l. kept_held t l (tick_at t τ)) t.film.cap
        (λ l b h. lane_falls t l (tick_at t τ) (tick_at t υ) (tick_later t τ υ le) h)

-- in any state fewer lanes are held the later it is
pub held_falls : (s : State) (τ υ : ℕ) → τ ≤ υ → lanes_held s υ ≤ lanes_held s τ
unfolding lanes_held
held_falls s τ υ le =
    Search.total_le (λ i. title_held (title_at s i) υ) (λ i. title_held (title_at s i) τ) titles_max
    (λ i b. title_falls (title_at s i) τ υ le)

-- ---- a raise: a title keeps its lanes and its lists

pub raised : (t : Title) (τ k : ℕ) → t.count ≤ k →
    changed_title t τ k ≡ turned (ended t (tick_at t τ)) open_mode k t.mark τ τ
unfolding changed_title
raised t τ k le = rw (drop_none (ended t (tick_at t τ)) (tick_at t τ) k t.count le) refl

-- how many lanes a raised title holds does not depend on when it was raised
pub raised_held : (t : Title) (σ τ k υ : ℕ) → t.count ≤ k →
    title_held (changed_title t σ k) υ ≡ title_held (changed_title t τ k) υ
unfolding title_held kept_held ruling tick_at
raised_held t σ τ k υ le = rw (raised t σ k le, raised t τ k le) refl

-- what is the same of two values is the same of each place of a row, whichever is stored
stored_alike : {A B : Type 0} (f : A → B) (row : List A) (i j : ℕ) (v w d : A) → f v ≡ f w →
    f (get_or (set row i v) j d) ≡ f (get_or (set row i w) j d)
stored_alike f [] i j v w d e = refl
stored_alike f (x ∷ xs) zero zero v w d e = e
stored_alike f (x ∷ xs) zero (suc j) v w d e = refl
stored_alike f (x ∷ xs) (suc i) zero v w d e = refl
stored_alike f (x ∷ xs) (suc i) (suc j) v w d e = stored_alike f xs i j v w d e

module _ (s : State) (i k : ℕ) (raise : (title_at s i).count ≤ k) where
  -- whenever a raise comes, as many lanes are held at a time with it
  pub raise_held : (σ τ υ : ℕ) → lanes_held (change_next s i σ k) υ ≡ lanes_held (change_next s i τ k) υ
  unfolding lanes_held
  raise_held σ τ υ =
      let at : ℕ → Title = λ x. changed_title (title_at s i) x k in
      let held : ℕ → ℕ → ℕ = λ x j. title_held (title_at (change_next s i x k) j) υ in
      Search.total_ext (held σ) (held τ) titles_max
      (λ j b.
      stored_alike (λ t. title_held t υ) s.titles i j (at σ) (at τ) no_title (raised_held (title_at s i) σ τ k υ raise))

  -- the later a raise comes, the fewer lanes are held with it then
  pub lanes_fall : (τ υ : ℕ) → τ ≤ υ → lanes_held (change_next s i υ k) υ ≤ lanes_held (change_next s i τ k) τ
  lanes_fall τ υ le = omega (arith, raise_held υ τ υ, held_falls (change_next s i τ k) τ υ le)

-- ---- an opening: its title has no list

zeros : (n j : ℕ) → ◌≡◌ {A = ℕ} (get_or (replicate n 0) j 0) 0
zeros zero j = refl
zeros (suc n) zero = refl
zeros (suc n) (suc j) = zeros n j

holds_active : (f : Film) (τ k l n : ℕ) → kept_held (opened_title f τ k) l n ≡ ltb l k
unfolding kept_held ruling
holds_active f τ k l n =
    let none : ltb n (0 + 0) ≡ false = le-ltb n (0 + 0) (omega arith) in
    rw (zeros lane_places l, none) (go (ltb l k))
  where
    go : (b : Bool) → either b false ≡ b
    go true = refl
    go false = refl

-- so it would hold as many lanes whenever it came
pub opened_held : (f : Film) (σ τ k υ : ℕ) → title_held (opened_title f σ k) υ ≡ title_held (opened_title f τ k) υ
unfolding title_held
opened_held f σ τ k υ =
    let at : ℕ → Title = λ x. opened_title f x k in
    Search.how_many_ext (λ l. kept_held (at σ) l (tick_at (at σ) υ)) (λ l. kept_held (at τ) l (tick_at (at τ) υ)) f.cap
    (λ l b. holds_active f σ k l (tick_at (at σ) υ) ∙ sym (holds_active f τ k l (tick_at (at τ) υ)))

-- an event that takes lanes holds the same at a time, whenever it comes
pub taken_held : (s : State) (i : ℕ) (a : Act) → takes_lanes a (title_at s i).count ≡ true → (σ τ υ : ℕ) →
    lanes_held (call_next s i σ a) υ ≡ lanes_held (call_next s i τ a) υ
unfolding lanes_held
taken_held s i (Opens f k) takes σ τ υ =
    let held : ℕ → ℕ → ℕ = λ x j. title_held (title_at (call_next s i x (Opens f k)) j) υ in
    Search.total_ext (held σ) (held τ) titles_max
    (λ j b.
    stored_alike (λ t. title_held t υ) s.titles i j (opened_title f σ k) (opened_title f τ k) no_title (opened_held f σ τ k υ))
taken_held s i (Changes k) takes σ τ υ =
    raise_held s i k (let up = ltb-true (title_at s i).count k takes in omega arith) σ τ υ
taken_held s i Closes takes σ τ υ = absurd (false≢true takes)
taken_held s i (Doors b) takes σ τ υ = absurd (false≢true takes)
