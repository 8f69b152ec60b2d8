-- What a pass over the ids collects: as many wishes as ids that pass, each in its turn.
-- Rests on the laws of searches and lists.
use mathlib.Core.Path.{◌≡◌, refl, sym, ap, ◌∙◌}
use mathlib.Core.Bool.{Bool, true, false}
use mathlib.Core.List.{List, [], ◌∷◌, ◌++◌, map, map-append, append_assoc, append-nil}
use mathlib.Core.Logic.{⊎_elim}
use Prim.Native.Nat.{ℕ, zero, suc, ◌+◌, ◌≤◌, ◌<◌}
use native.Mathlib.Omega.{arith}
use native.Mathlib.Numerals.{add-one}
use lib.ListN.{length, set, length-set}
use lib.Seq.{get_or-set_same, get_or-set_other}
use Rattle.rules.specs.Limits.{titles_max}
use Rattle.rules.specs.Refusals.{pick}
use Rattle.rules.specs.Search.{how_many}
use Rattle.rules.proofs.Tests.{decide}
use Rattle.rules.proofs.Search.{how_many_hit, how_many_miss, how_many_mono, how_many_le, how_many_step}
use Rattle.sharers.specs.Sharers.{ids_where}
use Rattle.sharers.proofs.Ids.{ids_hit, ids_miss}
use Rattle.wishes.specs.declared.Wishes.{Wishes}
use Rattle.wishes.specs.Wishes.{Wish, wishes_to, wishes_in}
use Rattle.wishes.specs.Passes.{with_wish, pass_to}

-- ---- the rows of a list of wishes

-- a wish behind the first n leaves them
wishes_stay : (ids counts : List ℕ) (m i c n : ℕ) → n ≤ m → wishes_to (set ids m i) (set counts m c) n ≡ wishes_to ids counts n
unfolding wishes_to
wishes_stay ids counts m i c zero l = refl
wishes_stay ids counts m i c (suc n) l =
    rw (wishes_stay ids counts m i c n (omega arith), get_or-set_other ids m n i 0 (omega arith), get_or-set_other counts m n c 0 (omega arith))

-- the wish of an id
abbrev pub wish_of : (ℕ → ℕ) → ℕ → Wish
wish_of count i = record { title = i; count = count i }

-- both rows have so many places
abbrev pub Roomy : Wishes → ℕ → Type 0
Roomy w n = (n ≤ length w.titles) × (n ≤ length w.counts)

-- the rows of two are of one length
abbrev pub SamePlaces : Wishes → Wishes → Type 0
SamePlaces w q = (length q.titles ≡ length w.titles) × (length q.counts ≡ length w.counts)

-- a wish that joins is the last
one_more : (w : Wishes) (i c : ℕ) → Roomy w (suc w.many) →
    wishes_in (with_wish w i c) ≡ wishes_in w ++ (record { title = i; count = c } ∷ [])
unfolding wishes_to
one_more w i c room =
    rw (
      add-one w.many,
      wishes_stay w.titles w.counts w.many i c w.many (omega arith),
      get_or-set_same w.titles w.many i 0 room.0,
      get_or-set_same w.counts w.many c 0 room.1,
    )

-- ---- a pass

module _ (p : ℕ → Bool) (count : ℕ → ℕ) (w : Wishes) where
  pub pass_hit : (n : ℕ) → p n ≡ true → pass_to p count w (suc n) ≡ with_wish (pass_to p count w n) n (count n)
  unfolding pass_to
  pass_hit n h = rw h

  pub pass_miss : (n : ℕ) → p n ≡ false → pass_to p count w (suc n) ≡ pass_to p count w n
  unfolding pass_to
  pass_miss n h = rw h

  pub pass_many : (n : ℕ) → (pass_to p count w n).many ≡ w.many + how_many p n
  unfolding pass_to how_many
  pass_many zero = omega arith
  pass_many (suc n) = go (p n) (pass_many n)
    where
      go : (b : Bool) → (pass_to p count w n).many ≡ w.many + how_many p n
          → (pick b (with_wish (pass_to p count w n) n (count n)) (pass_to p count w n)).many
          ≡ w.many + (how_many p n + pick b 1 0)
      go true e = omega arith
      go false e = omega arith

  -- there is room for the wish of an id, if it has one
  pub pass_room : (n : ℕ) → n < titles_max → w.many + how_many p titles_max ≤ titles_max
      → (pass_to p count w n).many + pick (p n) 1 0 ≤ titles_max
  unfolding how_many
  pass_room n l fit =
      let next : how_many p n + pick (p n) 1 0 ≤ how_many p titles_max = how_many_mono p (suc n) titles_max l in
      omega (arith, pass_many n)

  -- the rows keep their places
  pub pass_places : (n : ℕ) → SamePlaces w (pass_to p count w n)
  unfolding pass_to
  pass_places zero = (refl, refl)
  pass_places (suc n) = go (p n) (pass_places n)
    where
      go : (b : Bool) → SamePlaces w (pass_to p count w n)
          → SamePlaces w (pick b (with_wish (pass_to p count w n) n (count n)) (pass_to p count w n))
      go true e = (length-set (pass_to p count w n).titles _ _ ∙ e.0, length-set (pass_to p count w n).counts _ _ ∙ e.1)
      go false e = e

  -- the wishes that stood, and one for each id that passes
  pub pass_wishes : (n : ℕ) → Roomy w (w.many + how_many p n) →
      wishes_in (pass_to p count w n) ≡ wishes_in w ++ map (wish_of count) (ids_where p n)
  unfolding pass_to ids_where
  pass_wishes zero room = sym (append-nil (wishes_in w))
  pass_wishes (suc n) room =
      ⊎_elim
      (λ hit. rw (pass_hit n hit, ids_hit p n hit, map-append (wish_of count) (ids_where p n) (n ∷ []))
      (one_more (pass_to p count w n) n (count n) (omega (arith, pass_places n, pass_many n, how_many_hit p n hit))
      ∙ (ap (λ (ws : List Wish). ws ++ (wish_of count n ∷ [])) (pass_wishes n (omega (arith, how_many_hit p n hit)))
      ∙ append_assoc (wishes_in w) (map (wish_of count) (ids_where p n)) (wish_of count n ∷ []))))
      (λ miss. rw (pass_miss n miss, ids_miss p n miss) (pass_wishes n (omega (arith, how_many_miss p n miss))))
      (decide (p n))

-- a pass sees its test below the bound alone, and a count only where the test passes
pub pass_ext : (p q : ℕ → Bool) (f g : ℕ → ℕ) (w : Wishes) (n : ℕ) → ((i : ℕ) → i < n → p i ≡ q i)
    → ((i : ℕ) → i < n → q i ≡ true → f i ≡ g i) → pass_to p f w n ≡ pass_to q g w n
unfolding pass_to
pass_ext p q f g w zero e h = refl
pass_ext p q f g w (suc n) e h =
    let ih = pass_ext p q f g w n (λ i l. e i (omega arith)) (λ i l. h i (omega arith)) in
    rw (e n (omega arith), ih)
    (⊎_elim (λ hit. rw (hit, h n (omega arith) hit)) (λ miss. rw miss) (decide (q n)))

-- of two tests that never pass together, no more ids pass one or the other than there are
pub apart_many : (p q : ℕ → Bool) → ((i : ℕ) → p i ≡ true → q i ≡ false) → (n : ℕ) → how_many p n + how_many q n ≤ n
apart_many p q f zero = omega (arith, how_many_le p zero, how_many_le q zero)
apart_many p q f (suc n) =
    let ih = apart_many p q f n in
    ⊎_elim (λ hit. omega (arith, how_many_hit p n hit, how_many_miss q n (f n hit), ih))
    (λ miss. omega (arith, how_many_miss p n miss, how_many_step q n, ih))
    (decide (p n))
