-- The lanes of the title at a place of a row: which are held, where none above its count was ever dropped, and the lanes of all titles but
-- one. Rests on the laws of lanes held, of tests, searches and lists.
use mathlib.Core.Path.{◌≡◌, refl, sym, ap, ◌∙◌}
use mathlib.Core.Bool.{true, false}
use mathlib.Core.Logic.{⊎_elim}
use mathlib.Core.List.{List}
use Prim.Native.Nat.{ℕ, zero, suc, ◌+◌, ◌-◌, ◌≤◌, ◌<◌}
use native.Mathlib.Omega.{arith}
use native.Mathlib.Nat.{add-zero, add-suc, le_refl}
use lib.Dec.{ltb, eqb}
use lib.ListN.{length, get_or}
use lib.Seq.{get_or-take, get_or-drop, get_or-set_same, get_or-set_other}
use borrow.Author.Tests.{leb-true, le-ltb, eq-eqb, ne_eqb}
use Rattle.rules.specs.Limits.{count_max, asked_max, lane_places, titles_max}
use Rattle.rules.specs.Refusals.{pick}
use Rattle.rules.specs.Search.{how_many, total}
use Rattle.rules.proofs.Tests.{decide, both_l, both_r}
use Rattle.rules.proofs.Search.{below_suc, how_many_miss, total_ext}
use Rattle.story.specs.declared.Title.{Title}
use Rattle.story.specs.declared.State.{State}
use Rattle.story.specs.Kept.{absent_mode, open_mode, no_title, title_at, row_ok, numbers_ok, title_ok, ruling, kept_held, title_held, lanes_held}
use Rattle.story.specs.Next.{with_title}
use Rattle.measures.proofs.Active.{active_held, above_held}
use Rattle.measures.proofs.Within.{numbers, dropped_ok, in_row, count_fit}
use Rattle.agent_rows.specs.Layout.{drops_at, owed_at}
use Rattle.agent_rows.specs.Packed.{title_from}
use Rattle.agent_rows.specs.Others.{others_held}

-- ---- a title within its limits

module _ (t : Title) (ok : title_ok t ≡ true) where
  pub cap_high : t.film.cap ≤ count_max
  unfolding numbers_ok
  cap_high = let n = numbers t ok in search (both_l, both_r, leb-true) depth 12

  pub owed_ok : row_ok t.owed lane_places ≡ true
  unfolding numbers_ok
  owed_ok = let n = numbers t ok in search (both_r) depth 14

  pub ruling_fit : (t.mode ≡ absent_mode → ⊥) → ruling t ≤ t.film.cap
  unfolding ruling
  ruling_fit there =
      ⊎_elim (λ yes. rw yes (count_fit t ok there)) (λ no. rw no (omega arith)) (decide (eqb t.mode open_mode))

-- ---- the title at a place

module _ (r : List ℕ) (at l : ℕ) (fits : l < lane_places) where
  dropped_at_lem : get_or (title_from r at).dropped l 0 ≡ get_or r (at + drops_at + l) 0
  dropped_at_lem = rw (get_or-take, get_or-drop) refl

  owed_at_lem : get_or (title_from r at).owed l 0 ≡ get_or r (at + owed_at + l) 0
  owed_at_lem = rw (get_or-take, get_or-drop) refl

  -- a lane above the ruling count is held where it still sends
  pub sends : (tick : ℕ) → ruling (title_from r at) ≤ l →
      kept_held (title_from r at) l tick ≡ ltb tick (get_or r (at + drops_at + l) 0 + get_or r (at + owed_at + l) 0)
  sends tick above = above_held (title_from r at) l tick above ∙ rw (dropped_at_lem, owed_at_lem) refl

  pub dropped_high : title_ok (title_from r at) ≡ true → get_or r (at + drops_at + l) 0 ≤ asked_max
  dropped_high ok = rw dropped_at_lem at (in_row (title_from r at).dropped lane_places l (dropped_ok (title_from r at) ok) fits)

  pub owed_high : title_ok (title_from r at) ≡ true → get_or r (at + owed_at + l) 0 ≤ asked_max
  owed_high ok = rw owed_at_lem at (in_row (title_from r at).owed lane_places l (owed_ok (title_from r at) ok) fits)

-- no lane from the ruling count up to k above it is held: the active ones alone are
none_above : (t : Title) (tick k : ℕ) → ((l : ℕ) → ruling t ≤ l → l < ruling t + k → kept_held t l tick ≡ false) →
    how_many (λ l. kept_held t l tick) (ruling t + k) ≡ ruling t
none_above t tick zero f = rw (add-zero (ruling t)) (active_held t tick (ruling t) (le_refl (ruling t)))
none_above t tick (suc k) f =
    rw (add-suc (ruling t) k)
    (how_many_miss (λ l. kept_held t l tick) (ruling t + k) (f (ruling t + k) (omega arith) (omega arith))
    ∙ none_above t tick k (λ l low high. f l low (omega arith)))

-- the same of a title at a place, none of whose lanes above was ever dropped
pub never_dropped : (r : List ℕ) (at tick : ℕ) → ruling (title_from r at) ≤ (title_from r at).film.cap → (title_from r at).film.cap ≤ count_max →
    ((l : ℕ) → ruling (title_from r at) ≤ l → l < (title_from r at).film.cap → (get_or r (at + drops_at + l) 0 ≤ 0) × (get_or r (at + owed_at + l) 0 ≤ 0)) →
    how_many (λ l. kept_held (title_from r at) l tick) (title_from r at).film.cap ≡ ruling (title_from r at)
never_dropped r at tick fit high none =
    let e : (title_from r at).film.cap ≡ ruling (title_from r at) + ((title_from r at).film.cap - ruling (title_from r at)) = omega arith in
    ap (how_many (λ l. kept_held (title_from r at) l tick)) e
    ∙ none_above (title_from r at) tick ((title_from r at).film.cap - ruling (title_from r at))
    (λ l low below. sends r at l (omega arith) tick low ∙ le-ltb tick _ (let z = none l low (omega arith) in omega arith))

-- ---- the lanes of all titles but one

pub all_but_none : (s : State) (τ : ℕ) → others_held s titles_max τ ≡ lanes_held s τ
unfolding others_held lanes_held
all_but_none s τ =
    total_ext (λ j. pick (eqb j titles_max) 0 (title_held (title_at s j) τ)) (λ j. title_held (title_at s j) τ) titles_max
    (λ j l. rw (ne_eqb j titles_max (λ e. omega arith)) refl)

-- a sum in which one number is moved from its place to the end
moved : (f g : ℕ → ℕ) (n i : ℕ) → i < n → ((j : ℕ) → j < n → (j ≡ i → ⊥) → f j ≡ g j) → g i ≡ 0 → total f n ≡ total g n + f i
unfolding total
moved f g zero i l same none = absurd (omega arith)
moved f g (suc n) i l same none =
    ⊎_elim
    (λ below.
    let rest : total f n ≡ total g n + f i = moved f g n i below (λ j b. same j (omega arith)) none in
    let here : f n ≡ g n = same n (omega arith) (λ e. omega arith) in
    omega arith)
    (λ e.
    let rest : total f n ≡ total g n = total_ext f g n (λ j b. same j (omega arith) (λ q. omega arith)) in
    let own : f n ≡ f i = ap f (sym e) in
    let gone : g n ≡ 0 = ap g (sym e) ∙ none in
    omega arith)
    (below_suc i n l)

-- the lanes held with another title at an id are those of the others, and its own
pub with_title_held : (s : State) (i : ℕ) (t : Title) (υ τ : ℕ) → length s.titles ≡ titles_max → i < titles_max →
    lanes_held (with_title s i t υ) τ ≡ others_held s i τ + title_held t τ
unfolding others_held lanes_held
with_title_held s i t υ τ many l =
    moved (λ j. title_held (title_at (with_title s i t υ) j) τ) (λ j. pick (eqb j i) 0 (title_held (title_at s j) τ)) titles_max i l others
    (rw (eq-eqb i i refl) refl)
    ∙ ap (λ (x : Title). total (λ j. pick (eqb j i) 0 (title_held (title_at s j) τ)) titles_max + title_held x τ)
    (get_or-set_same s.titles i t no_title (omega arith))
  where
    others : (j : ℕ) → j < titles_max → (j ≡ i → ⊥) →
        title_held (title_at (with_title s i t υ) j) τ ≡ pick (eqb j i) 0 (title_held (title_at s j) τ)
    others j b other = rw (ne_eqb j i other) (ap (λ (x : Title). title_held x τ) (get_or-set_other s.titles i j t no_title other))
