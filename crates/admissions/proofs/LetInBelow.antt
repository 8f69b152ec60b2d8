-- The arrivals that the admissions below a tick let in, and how a stretch adds to them: totals are put together in any order,
-- and each arrival is let in once. Rests on the next admission being one.
use mathlib.Core.Path.{◌≡◌, refl, sym, ap, ◌∙◌}
use mathlib.Core.Bool.{Bool, true, false, false≢true}
use mathlib.Core.Logic.{⊎_elim}
use mathlib.Core.List.{List}
use Prim.Native.Nat.{ℕ, zero, suc, ◌+◌, ◌-◌, ◌≤◌, ◌<◌, max}
use native.Mathlib.Nat.{le_antisymm}
use native.Mathlib.Omega.{arith}
use borrow.Author.Tests.{lt-ltb, ltb-true, ltb-false}
use lib.Dec.{leb, ltb}
use lib.ListN.{get_or}
use Rattle.rules.specs.Limits.{both}
use Rattle.rules.specs.Refusals.{pick}
use Rattle.rules.specs.Search.{first}
use Rattle.rules.proofs.Tests.{decide, fails}
use Rattle.rules.proofs.Search
use Rattle.story.specs.Life.{Life, is_admission}
use Rattle.story.specs.Story.{moment_of}
use Rattle.admissions.specs.declared.Waits.{Waits}
use Rattle.admissions.specs.declared.Stretch.{Stretch}
use Rattle.admissions.specs.Waits.{lets_in, Next, TurnedAway, nobody, waited, Tallied, none, gets_in, turned_away}
use Rattle.admissions.specs.Stretches.{next_in, gather, gathered}
use Rattle.admissions.specs.Even.{Settled}
use Rattle.admissions.proofs.GetsIn.{too_early_lem, let_in}
use Rattle.admissions.proofs.Slots.{comes_before, comes_after, comes_between}

-- ---- totals

unfoldable pub plus : Waits → Waits → Waits
plus u v = record { admitted = u.admitted + v.admitted; longest = max u.longest v.longest; sum = u.sum + v.sum }

alike : {n m l k s t : ℕ} → n ≡ m → l ≡ k → s ≡ t →
    ◌≡◌ {A = Waits} (record { admitted = n; longest = l; sum = s }) (record { admitted = m; longest = k; sum = t })
alike p q r = λ i. record { admitted = p i; longest = q i; sum = r i }

pub plus_nobody : (u : Waits) → plus u nobody ≡ u
unfolding plus
plus_nobody u = alike (omega arith) (omega arith) (omega arith)

module _ (u v : Waits) where
  pub waited_left : (d : ℕ) → waited (plus u v) d ≡ plus (waited u d) v
  unfolding plus waited
  waited_left d = alike (omega arith) (omega arith) (omega arith)

  pub waited_right : (d : ℕ) → waited (plus u v) d ≡ plus u (waited v d)
  unfolding plus waited
  waited_right d = alike (omega arith) (omega arith) (omega arith)

-- what a stretch adds does not hang on what was there
gather_plus : (s : Stretch) (from upto x : ℕ) (u v : Waits) →
    gather s from upto x (plus u v) ≡ plus u (gather s from upto x v)
unfolding gather
gather_plus s from upto x u v = go (both (leb from x) (leb x upto))
  where
    go : (b : Bool) →
        pick b (waited (plus u v) (next_in s x - x)) (plus u v) ≡ plus u (pick b (waited v (next_in s x - x)) v)
    go true = waited_right u v (next_in s x - x)
    go false = refl

pub gathered_plus : (s : Stretch) (from upto : ℕ) (xs : List ℕ) (w : Waits) (n : ℕ)
    → gathered s from upto xs w n ≡ plus w (gathered s from upto xs nobody n)
unfolding gathered
gathered_plus s from upto xs w zero = sym (plus_nobody w)
gathered_plus s from upto xs w (suc n) =
    ap (gather s from upto (get_or xs n 0)) (gathered_plus s from upto xs w n)
    ∙ gather_plus s from upto (get_or xs n 0) w (gathered s from upto xs nobody n)

-- ---- the admissions below a tick

-- the first of them that lets x in, or n
unfoldable pub due_below : Life → ℕ → ℕ → ℕ
due_below L n x = first (lets_in L x) n

unfoldable pub one_below : Life → ℕ → ℕ → Waits → Waits
one_below L n x w = pick (ltb (due_below L n x) n) (waited w (moment_of L (due_below L n x) - x)) w

unfoldable pub tallied_below : Life → ℕ → List ℕ → ℕ → Waits
tallied_below L n xs zero = nobody
tallied_below L n xs (suc j) = one_below L n (get_or xs j 0) (tallied_below L n xs j)

module _ (L : Life) (n x : ℕ) (w : Waits) where
  pub one_in : (a : ℕ) → a < n → Next L x a → one_below L n x w ≡ waited w (moment_of L a - x)
  unfolding one_below due_below
  one_in a lt p =
      let low : first (lets_in L x) n ≤ a = Search.first_least (lets_in L x) n a p.lets_in_holds in
      let high : a ≤ first (lets_in L x) n =
      ⊎_elim
      (λ t. absurd (false≢true (sym (p.none_before (first (lets_in L x) n) (ltb-true (first (lets_in L x) n) a t)) ∙ Search.first_hit_lem (lets_in L x) n (omega arith))))
      (λ t. ltb-false (first (lets_in L x) n) a t)
      (decide (ltb (first (lets_in L x) n) a)) in
      let same : first (lets_in L x) n ≡ a = le_antisymm low high in
      rw (lt-ltb (first (lets_in L x) n) n (omega arith), same)

  pub one_out : ((a : ℕ) → a < n → lets_in L x a ≡ false) → one_below L n x w ≡ w
  unfolding one_below due_below
  one_out f =
      ⊎_elim
      (λ t.
      let lt : first (lets_in L x) n < n = ltb-true (first (lets_in L x) n) n t in
      absurd (false≢true (sym (f (first (lets_in L x) n) lt) ∙ Search.first_hit_lem (lets_in L x) n lt)))
      (λ t. rw t)
      (decide (ltb (first (lets_in L x) n) n))

-- the ticks from n up to, not including, m have no admission
abbrev pub NoneIn : Life → ℕ → ℕ → Type 0
NoneIn L n m = (b : ℕ) → n ≤ b → b < m → is_admission L b ≡ false

-- they settle nobody
pub still_settled : (L : Life) (n m from : ℕ) → n ≤ m → Settled L n from → NoneIn L n m → Settled L m from
still_settled L n m from up here quiet =
    record {
      low = here.low;
      before = λ x lo h. let got = here.before x lo h in (got.0, omega (arith, got.1), got.2);
      after = λ x late b lt.
          ⊎_elim (λ t. here.after x late b (ltb-true b n t))
          (λ t. fails (lets_in L x b) (λ h. false≢true (sym (quiet b (ltb-false b n t) lt) ∙ (let_in L x b h).admission)))
          (decide (ltb b n));
    }

-- whoever comes from `from` up to `upto` gets in at the stretch's next admission, below tick m
abbrev pub Lets : Life → Stretch → ℕ → ℕ → ℕ → Type 0
Lets L s m from upto = (x : ℕ) → from ≤ x → x ≤ upto → (a : ℕ) × (a < m) × Next L x a × (moment_of L a ≡ next_in s x)

-- who came before `from`: turned away for good, or let in below n
data Judged (L : Life) (n x : ℕ) : Type 0 where
  away : TurnedAway L x → ((w : Waits) → one_below L n x w ≡ w) → Judged L n x
  admitted : (a : ℕ) → a < n → Next L x a → ((w : Waits) → one_below L n x w ≡ waited w (moment_of L a - x)) →
      Judged L n x

came_before : (L : Life) (n from : ℕ) → Settled L n from → (x : ℕ) → x < from → Judged L n x
came_before L n from here x h =
    ⊎_elim
    (λ t. let early = too_early_lem L x (ltb-true x L.opened t) in away early (λ w. one_out L n x w (λ a lt. early a)))
    (λ t.
    let got = here.before x (ltb-false x L.opened t) h in
    admitted got.0 got.1 got.2 (λ w. one_in L n x w got.0 got.1 got.2))
    (decide (ltb x L.opened))

module _ (L : Life) (n m from : ℕ) (up : n ≤ m) (here : Settled L n from) where
  -- who came before stays where he was put, whatever is added to the others
  one_before : (x : ℕ) (u v : Waits) → Judged L n x → one_below L m x (plus u v) ≡ plus (one_below L n x u) v
  one_before x u v (away early out) = rw (out u) (one_out L m x (plus u v) (λ a lt. early a))
  one_before x u v (admitted a lt next in-it) =
      rw (in-it u, ← waited_left u v (moment_of L a - x)) (one_in L m x (plus u v) a (omega arith) next)

  -- ---- a stretch that lets some in

  module _ (s : Stretch) (upto : ℕ) (lets : Lets L s m from upto)
      (later : (x : ℕ) → from ≤ x → upto < x → (a : ℕ) → a < m → lets_in L x a ≡ false) where
    one_adds : (x : ℕ) (u v : Waits) → one_below L m x (plus u v) ≡ plus (one_below L n x u) (gather s from upto x v)
    one_adds x u v =
        ⊎_elim
        (λ t.
        let soon : x < from = ltb-true x from t in
        rw (comes_before s from upto x v soon) (one_before x u v (came_before L n from here x soon)))
        (λ t.
        let late : from ≤ x = ltb-false x from t in
        let out = one_out L n x u (here.after x late) in
        ⊎_elim
        (λ k.
        let past : upto < x = ltb-true upto x k in
        rw (comes_after s from upto x v past, out) (one_out L m x (plus u v) (later x late past)))
        (λ k.
        let in_time : x ≤ upto = ltb-false upto x k in
        let got = lets x late in_time in
        rw (comes_between s from upto x v late in_time, out)
        (one_in L m x (plus u v) got.0 got.1 got.2
        ∙ ap (λ y. waited (plus u v) (y - x)) got.3
        ∙ waited_right u v (next_in s x - x)))
        (decide (ltb upto x)))
        (decide (ltb x from))

    pub tally_adds : (xs : List ℕ) (j : ℕ)
        → tallied_below L m xs j ≡ plus (tallied_below L n xs j) (gathered s from upto xs nobody j)
    unfolding tallied_below gathered
    tally_adds xs zero = sym (plus_nobody nobody)
    tally_adds xs (suc j) =
        ap (one_below L m (get_or xs j 0)) (tally_adds xs j)
        ∙ one_adds (get_or xs j 0) (tallied_below L n xs j) (gathered s from upto xs nobody j)

  -- ---- a stretch that lets nobody in

  pub tally_stays : Settled L m from → (xs : List ℕ) (j : ℕ) → tallied_below L m xs j ≡ tallied_below L n xs j
  unfolding tallied_below
  tally_stays still xs zero = refl
  tally_stays still xs (suc j) =
      let x = get_or xs j 0 in
      let w = tallied_below L n xs j in
      ap (one_below L m x) (tally_stays still xs j)
      ∙ ⊎_elim (λ t. stays x w (came_before L n from here x (ltb-true x from t)))
      (λ t.
      let late : from ≤ x = ltb-false x from t in
      one_out L m x w (still.after x late) ∙ sym (one_out L n x w (here.after x late)))
      (decide (ltb x from))
    where
      stays : (x : ℕ) (w : Waits) → Judged L n x → one_below L m x w ≡ one_below L n x w
      stays x w (away early out) = rw (out w) (one_out L m x w (λ a lt. early a))
      stays x w (admitted a lt next in-it) = rw (in-it w) (one_in L m x w a (omega arith) next)

-- ---- no event follows

module _ (L : Life) (n from : ℕ) (here : Settled L n from) (xs : List ℕ) where
  judged_before : (j : ℕ) (u v : Waits) → Judged L n (get_or xs j 0) → Tallied L xs j (plus u v)
      → Tallied L xs (suc j) (plus (one_below L n (get_or xs j 0) u) v)
  judged_before j u v (away early out) t = rw (out u) (turned_away early t)
  judged_before j u v (admitted a lt next in-it) t =
      rw (in-it u, ← waited_left u v (moment_of L a - get_or xs j 0)) (gets_in next t)

  -- the title goes on admitting, and nobody comes later than `upto`
  module _ (s : Stretch) (upto : ℕ)
      (lets : (x : ℕ) → from ≤ x → x ≤ upto → (a : ℕ) × Next L x a × (moment_of L a ≡ next_in s x))
      (nobody-later : (j : ℕ) → get_or xs j 0 ≤ upto) where
    pub tally_goes_on : (j : ℕ) → Tallied L xs j (plus (tallied_below L n xs j) (gathered s from upto xs nobody j))
    unfolding tallied_below gathered
    tally_goes_on zero = rw (plus_nobody nobody) none
    tally_goes_on (suc j) =
        let x = get_or xs j 0 in
        let u = tallied_below L n xs j in
        let v = gathered s from upto xs nobody j in
        ⊎_elim
        (λ t.
        let soon : x < from = ltb-true x from t in
        rw (comes_before s from upto x v soon) (judged_before j u v (came_before L n from here x soon) (tally_goes_on j)))
        (λ t.
        let late : from ≤ x = ltb-false x from t in
        let got = lets x late (nobody-later j) in
        rw (comes_between s from upto x v late (nobody-later j), one_out L n x u (here.after x late), ← got.2, ← waited_right u v (moment_of L got.0 - x))
        (gets_in got.1 (tally_goes_on j)))
        (decide (ltb x from))

  -- the title admits no more
  pub tally_ends : ((x : ℕ) → from ≤ x → TurnedAway L x) → (j : ℕ) → Tallied L xs j (tallied_below L n xs j)
  unfolding tallied_below
  tally_ends closed zero = none
  tally_ends closed (suc j) =
      let x = get_or xs j 0 in
      let w = tallied_below L n xs j in
      ⊎_elim
      (λ t.
      rw (← plus_nobody (one_below L n x w))
      (judged_before j w nobody (came_before L n from here x (ltb-true x from t)) (rw (plus_nobody w) (tally_ends closed j))))
      (λ t.
      let late : from ≤ x = ltb-false x from t in
      rw (one_out L n x w (here.after x late)) (turned_away (closed x late) (tally_ends closed j)))
      (decide (ltb x from))
