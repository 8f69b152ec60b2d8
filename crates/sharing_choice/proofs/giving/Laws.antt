-- Lanes given one at a time, each to the title to which it is worth most, end in settled counts (proofs/Exchange).
-- Rests on the laws of a title's part of the sum: a lane below the cap is worth something, and no lane is worth more
-- than the one before.
use mathlib.Core.Path.{◌≡◌, refl, sym}
use mathlib.Core.List.{List, map}
use mathlib.Core.Logic.{◌⊎◌, inl, inr}
use Prim.Native.Nat.{ℕ, suc, ◌+◌, ◌≤◌, ◌<◌}
use native.Mathlib.Omega.{arith}
use native.Mathlib.Numerals.{add-one}
use lib.ListN.{length, get_or, set, get_or-map}
use borrow.Author.Tests.{lt-ltb, le-ltb}
use Rattle.rules.specs.Limits.{count_min}
use Rattle.sharing_titles.specs.declared.titles.Rated.{Rated}
use Rattle.sharing_titles.specs.Titles.{rated_title, unrated, row_total}
use Rattle.sharing_titles.specs.Term.{fall, worth}
use Rattle.sharing_choice.specs.Choice.{Way, shared}
use Rattle.sharing_titles.specs.inner.Weighing.{Weighable, AllWeighable}
use Rattle.sharing_choice.specs.inner.Giving.{Neediest}
use Rattle.sharing_choice.proofs.Order.{side, Trio, less, same, more, trio}
use Rattle.sharing_choice.proofs.Search.{search_finds, floors_way}
use Rattle.sharing_choice.proofs.Sums.{total_set, at_set, way_set}
use Rattle.sharing_choice.proofs.Exchange.{Given, settled_is_shared}
use Rattle.sharing_titles.proofs.term.Laws.{falls, fall_rest, shrinks_on}

-- ---- what a lane is worth

worth_below : (t : Rated) (k : ℕ) → k < t.cap → worth t k ≡ fall t k
unfolding worth
worth_below t k h = rw (lt-ltb _ _ h)

worth_capped : (t : Rated) (k : ℕ) → t.cap ≤ k → worth t k ≡ 0
unfolding worth
worth_capped t k h = rw (le-ltb _ _ h)

-- below the cap a lane is worth something
pub worth_some : (t : Rated) → Weighable t → (k : ℕ) → count_min ≤ k → k < t.cap → 0 < worth t k
worth_some t w k l h =
    omega (arith, worth_below t k h, fall_rest t w k l h, falls t w k l h)

-- ---- the title that leads

-- the title that leads among the first i, with what a lane is worth to it; r is the number of titles while none leads
pub record Leading (ts : List Rated) (ks : List ℕ) (i r m : ℕ) : Type 0 where
  pub passed : i ≤ length ts
  pub bound : r ≤ length ts
  pub all : (j : ℕ) → j < i → worth (rated_title ts j) (get_or ks j 0) ≤ m
  pub none : r ≡ length ts → m ≡ 0
  pub some : r < length ts → (0 < m) × (r < i)
  pub here : r < length ts → worth (rated_title ts r) (get_or ks r 0) ≡ m
  pub first : r < length ts → (j : ℕ) → j < r → worth (rated_title ts j) (get_or ks j 0) < m

module _ (ts : List Rated) (ks : List ℕ) where
  -- what holds of the first i and of the i-th holds of the first i + 1
  upto : (P : ℕ → Type 0) (i : ℕ) → ((j : ℕ) → j < i → P j) → P i → (j : ℕ) → j < suc i → P j
  upto P i f p j h = go (trio j i)
    where
      go : Trio j i → P j
      go (less l) = f j l
      go (same e) = rw e p
      go (more g) = absurd (omega arith)

  pub leads_none : Leading ts ks 0 (length ts) 0
  leads_none =
      record {
        passed = omega arith;
        bound = omega arith;
        all = λ j h. absurd (omega arith);
        none = λ e. refl;
        some = λ h. absurd (omega arith);
        here = λ h. absurd (omega arith);
        first = λ h. absurd (omega arith);
      }

  module _ {i r m g : ℕ} (l : Leading ts ks i r m)
      (h : i < length ts) (e : g ≡ worth (rated_title ts i) (get_or ks i 0)) where
    leads_new : m < g → Leading ts ks (suc i) i g
    leads_new b =
        record {
          passed = h;
          bound = omega arith;
          all = upto (λ j. worth (rated_title ts j) (get_or ks j 0) ≤ g) i (λ j d. omega (arith, l.all j d)) (omega arith);
          none = λ z. absurd (omega arith);
          some = λ _. (omega arith, omega arith);
          here = λ _. sym e;
          first = λ _ j d. omega (arith, l.all j d);
        }

    leads_on : g ≤ m → Leading ts ks (suc i) r m
    leads_on b =
        record {
          passed = h;
          bound = l.bound;
          all = upto (λ j. worth (rated_title ts j) (get_or ks j 0) ≤ m) i l.all (omega arith);
          none = l.none;
          some = λ d. ((l.some d).0, omega (arith, (l.some d).1));
          here = l.here;
          first = l.first;
        }

    -- one title further, as the code goes
    pub leads_next : {r' m' : ℕ} → ((m < g) × (r' ≡ i) × (m' ≡ g)) ⊎ ((g ≤ m) × (r' ≡ r) × (m' ≡ m))
        → Leading ts ks (i + 1) r' m'
    leads_next (inl w) = rw (add-one, w.1, w.2) (leads_new w.0)
    leads_next (inr w) = rw (add-one, w.1, w.2) (leads_on w.0)

  pub leads_all : {i r m : ℕ} → length ts ≤ i → Leading ts ks i r m → Neediest ts ks r
  leads_all {i} {r} {m} h l =
      record {
        bound = l.bound;
        nothing = λ e j d. omega (arith, l.none e, l.all j (omega arith));
        some = λ d. omega (arith, l.here d, (l.some d).0);
        most = λ d j b. omega (arith, l.here d, l.all j (omega arith));
        first = λ d j b. omega (arith, l.here d, l.first d j b);
      }

-- ---- lanes given one at a time

-- counts after s lanes were given from the floors on, or fewer where all titles are at their caps
pub record Progress (ts : List Rated) (s : ℕ) (c : List ℕ) : Type 0 where
  pub way : Way ts c
  pub given : Given ts c
  pub within : row_total c ≤ row_total (map (λ t. t.floor) ts) + s
  pub used :
      (row_total c ≡ row_total (map (λ t. t.floor) ts) + s) ⊎ ((j : ℕ) → j < length ts → (rated_title ts j).cap ≤ get_or c j 0)

module _ (ts : List Rated) (ok : AllWeighable ts) where
  pub begins : Progress ts 0 (map (λ t. t.floor) ts)
  begins =
      record {
        way = floors_way ts (λ i h. (ok.each i h).floor_cap);
        given =
            record {
              worth_it = λ i j a b li lj f g. absurd (omega (arith, floor_at_lem i));
              first_served = λ i j a b li lj f g. absurd (omega (arith, floor_at_lem i));
            };
        within = omega arith;
        used = inl (omega arith);
      }
    where
      floor_at_lem : (i : ℕ) → get_or (map (λ t. t.floor) ts) i 0 ≡ (rated_title ts i).floor
      floor_at_lem i = get_or-map (λ (t : Rated). t.floor) ts i unrated

  module _ {s r : ℕ} {c : List ℕ} (p : Progress ts s c) (n : Neediest ts c r) where
    -- no title can use a lane: all are at their caps
    stays : length ts ≤ r → Progress ts (suc s) c
    stays h = record { way = p.way; given = p.given; within = omega (arith, p.within); used = inr capped }
      where
        capped : (j : ℕ) → j < length ts → (rated_title ts j).cap ≤ get_or c j 0
        capped j l = go (side (get_or c j 0) (rated_title ts j).cap)
          where
            go : (get_or c j 0 < (rated_title ts j).cap) ⊎ ((rated_title ts j).cap ≤ get_or c j 0) → (rated_title ts j).cap ≤ get_or c j 0
            go (inl b) =
                absurd
                (omega (
                  arith,
                  n.nothing (omega (arith, n.bound)) j l,
                  worth_some (rated_title ts j) (ok.each j l) (get_or c j 0)
                      (omega (arith, (ok.each j l).floor_low, p.way.low j l)) b,
                ))
            go (inr b) = b

    module _ (h : r < length ts) where
      place : r < length c
      place = omega (arith, p.way.places)

      open_at : get_or c r 0 < (rated_title ts r).cap
      open_at = go (side (get_or c r 0) (rated_title ts r).cap)
        where
          go : (get_or c r 0 < (rated_title ts r).cap) ⊎ ((rated_title ts r).cap ≤ get_or c r 0) → get_or c r 0 < (rated_title ts r).cap
          go (inl b) = b
          go (inr b) = absurd (omega (arith, worth_capped (rated_title ts r) (get_or c r 0) b, n.some h))

      -- a lane below the new count was there before, or is the lane just given
      lane : (i a : ℕ) → a < get_or (set c r (suc (get_or c r 0))) i 0 → (a < get_or c i 0) ⊎ ((i ≡ r) × (a ≡ get_or c r 0))
      lane i a =
          at_set (λ m k. a < k → (a < get_or c m 0) ⊎ ((m ≡ r) × (a ≡ get_or c r 0))) c r (suc (get_or c r 0)) place
          (λ b. new b (side a (get_or c r 0))) (λ j _ b. inl b) i
        where
          new : a < suc (get_or c r 0) → (a < get_or c r 0) ⊎ (get_or c r 0 ≤ a)
              → (a < get_or c r 0) ⊎ ((r ≡ r) × (a ≡ get_or c r 0))
          new b (inl d) = inl d
          new b (inr d) = inr (refl, omega arith)

      grown : (j : ℕ) → get_or c j 0 ≤ get_or (set c r (suc (get_or c r 0))) j 0
      grown j = at_set (λ m k. get_or c m 0 ≤ k) c r (suc (get_or c r 0)) place (omega arith) (λ m _. omega arith) j

      -- a lane still withheld is worth no more than the next one of its title
      later : (j b : ℕ) → j < length ts → get_or c j 0 ≤ b → b < (rated_title ts j).cap
          → fall (rated_title ts j) b ≤ worth (rated_title ts j) (get_or c j 0)
      later j b l d e =
          omega (
            arith,
            worth_below (rated_title ts j) (get_or c j 0) (omega arith),
            shrinks_on (rated_title ts j) (ok.each j l) (get_or c j 0) b
                (omega (arith, (ok.each j l).floor_low, p.way.low j l)) d e,
          )

      worth_here : worth (rated_title ts r) (get_or c r 0) ≡ fall (rated_title ts r) (get_or c r 0)
      worth_here = worth_below (rated_title ts r) (get_or c r 0) open_at

      still_given : Given ts (set c r (suc (get_or c r 0)))
      still_given =
          record {
            worth_it = λ i j a b li lj f g d e. weigh i j a b li lj f d e (lane i a g);
            first_served = λ i j a b li lj f g d e. serve i j a b li lj f d e (lane i a g);
          }
        where
          weigh : (i j a b : ℕ) → i < length ts → j < length ts → (rated_title ts i).floor ≤ a
              → get_or (set c r (suc (get_or c r 0))) j 0 ≤ b → b < (rated_title ts j).cap
              → (a < get_or c i 0) ⊎ ((i ≡ r) × (a ≡ get_or c r 0)) → fall (rated_title ts j) b ≤ fall (rated_title ts i) a
          weigh i j a b li lj f d e (inl o) = p.given.worth_it i j a b li lj f o (omega (arith, grown j)) e
          weigh i j a b li lj f d e (inr o) =
              rw (o.0, o.1) (omega (arith, later j b lj (omega (arith, grown j)) e, n.most h j lj, worth_here))

          serve : (i j a b : ℕ) → i < length ts → j < i → (rated_title ts i).floor ≤ a
              → get_or (set c r (suc (get_or c r 0))) j 0 ≤ b → b < (rated_title ts j).cap
              → (a < get_or c i 0) ⊎ ((i ≡ r) × (a ≡ get_or c r 0)) → fall (rated_title ts j) b < fall (rated_title ts i) a
          serve i j a b li lj f d e (inl o) = p.given.first_served i j a b li lj f o (omega (arith, grown j)) e
          serve i j a b li lj f d e (inr o) =
              rw (o.0, o.1)
              (omega (
                arith,
                later j b (omega arith) (omega (arith, grown j)) e,
                n.first h j (omega (arith, o.0)),
                worth_here,
              ))

      -- one lane more for the title that needs it most
      serves : Progress ts (suc s) (set c r (suc (get_or c r 0)))
      serves =
          record {
            way = way_set ts c p.way r (suc (get_or c r 0)) h (omega (arith, p.way.low r h)) open_at;
            given = still_given;
            within = omega (arith, p.within, total_set c r (suc (get_or c r 0)) place);
            used = spent p.used;
          }
        where
          spent :
              (row_total c ≡ row_total (map (λ t. t.floor) ts) + s)
              ⊎ ((j : ℕ) → j < length ts → (rated_title ts j).cap ≤ get_or c j 0)
              → (row_total (set c r (suc (get_or c r 0))) ≡ row_total (map (λ t. t.floor) ts) + suc s)
              ⊎ ((j : ℕ) → j < length ts → (rated_title ts j).cap ≤ get_or (set c r (suc (get_or c r 0))) j 0)
          spent (inl e) = inl (omega (arith, total_set c r (suc (get_or c r 0)) place))
          spent (inr f) = absurd (omega (arith, f r h, open_at))

    -- one lane further, as the code goes
    pub goes_on : {c' : List ℕ} → ((r < length ts) × (c' ≡ set c r (get_or c r 0 + 1))) ⊎ ((length ts ≤ r) × (c' ≡ c))
        → Progress ts (s + 1) c'
    goes_on (inl w) = rw (add-one s, w.1, add-one (get_or c r 0)) (serves w.0)
    goes_on (inr w) = rw (add-one s, w.1) (stays w.0)

  -- when all spare lanes were offered, the counts are the shared ones
  pub ends : (s : ℕ) (c : List ℕ) → Progress ts s c → c ≡ shared (row_total (map (λ t. t.floor) ts) + s) ts
  ends s c p =
      sym
      (settled_is_shared (row_total (map (λ t. t.floor) ts) + s) ts ok c
      (shared (row_total (map (λ t. t.floor) ts) + s) ts)
      (record { choice = record { way = p.way; room = p.within }; given = p.given; full = p.used })
      (search_finds (row_total (map (λ t. t.floor) ts) + s) ts (λ i h. (ok.each i h).floor_cap) (omega arith)))
