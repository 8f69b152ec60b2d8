-- What is told of a moment: the report of one arrival as a beginning, and that the admission told of is at the very moment exactly where a
-- box begins then. Rests on an arrival's next admission being the first that lets it in.
use mathlib.Core.Path.{◌≡◌, refl, sym, subst, ◌∙◌}
use mathlib.Core.Bool.{true, false, false≢true}
use mathlib.Core.Logic.{⊎_elim}
use mathlib.Core.List.{List, [], ◌∷◌}
use Prim.Native.Nat.{ℕ, ◌+◌, ◌*◌, ◌≤◌, ◌<◌}
use native.Mathlib.Omega.{arith}
use native.Mathlib.Nat.{mul-le-mul_right, div-eq_of_lt-le}
use borrow.Author.Tests.{eqb-true, eq-eqb, ltb-true, ltb-false, le-leb}
use lib.Dec.{leb, ltb, eqb}
use lib.ListN.{get_or}
use Rattle.rules.specs.Limits.{within, pool_min, pool_max, id_max, asked_max}
use Rattle.rules.specs.Refusals.{first_hit, done}
use Rattle.rules.specs.Search.{every}
use Rattle.rules.proofs.Tests.{both_l, both_r, both_in, decide, same}
use Rattle.notice.specs.Log.{is_whole_log}
use Rattle.story.specs.Life.{Life}
use Rattle.story.specs.Story.{moment_of, tick_in, tick_length}
use Rattle.agent.specs.Played.{life_in}
use Rattle.admissions.specs.declared.Waits.{Waits}
use Rattle.admissions.specs.Waits.{lets_in, Next, TurnedAway, Tallied, none, gets_in, turned_away, waited}
use Rattle.admissions.proofs.GetsIn.{let_in}
use Rattle.waiting.specs.declared.Report.{Report}
use Rattle.waiting.specs.Report.{report_answer, row_in_limits, Reports}
use Rattle.airing.specs.Air.{in_limits}
use Rattle.log_boxes.specs.declared.Beginning.{Beginning}
use Rattle.log_boxes.specs.Box.{box_answer, is_box_start, is_now, asked_from, BeginsAt}

-- ---- the report of one arrival

-- one arrival gets in at its next admission, or is turned away
pub data Told (L : Life) (x : ℕ) (w : Waits) : Type 0 where
  admits : (a : ℕ) → Next L x a → moment_of L a ≡ x + w.longest → ltb 0 w.admitted ≡ true → Told L x w
  away : TurnedAway L x → w.longest ≡ 0 → ltb 0 w.admitted ≡ false → Told L x w

pub one_told : (L : Life) (xs : List ℕ) (w : Waits) → Tallied L xs 1 w → Told L (get_or xs 0 0) w
unfolding waited
one_told L xs w (gets_in {a = a} p none) =
    let after = (let_in L (get_or xs 0 0) a p.lets_in_holds).in_time in
    admits a p (omega (arith, after)) refl
one_told L xs w (turned_away p none) = away p refl refl

module _ (pool : ℕ) (log : List ℕ) (title from : ℕ) (limits : in_limits pool title ≡ true) (soon : from ≤ asked_max) (whole : is_whole_log log ≡ true) where
  reported : report_answer pool log title (from ∷ []) ≡ done
  unfolding report_answer first_hit row_in_limits every
  reported =
      rw (
        both_l (within pool_min pool_max pool) (leb title id_max) limits,
        both_r (within pool_min pool_max pool) (leb title id_max) limits,
        le-leb from asked_max soon,
        whole,
      )
      refl

  pub report_told : (r : Report) → Reports pool log title (from ∷ []) r → Told (life_in pool log title) from r.waits
  report_told r w = one_told (life_in pool log title) (from ∷ []) r.waits (w.tallied (w.answers ∙ reported))

pub begins_told : (pool : ℕ) (log : List ℕ) (title x from : ℕ) (w : Waits) → box_answer pool log title x ≡ done →
    from ≡ asked_from (life_in pool log title) x → Told (life_in pool log title) from w →
    BeginsAt pool log title x (record { answer = done; follows = ltb 0 w.admitted; from = from; wait = w.longest })
begins_told pool log title x from w ok is (admits a p m f) =
    record {
      answers = sym ok;
      waits_from = λ d. is;
      lets_in_holds = λ d e. (a, p, m);
      turned_away = λ d e. absurd (false≢true (sym e ∙ f));
      refuses = λ off. absurd (off refl);
    }
begins_told pool log title x from w ok is (away p z f) =
    record {
      answers = sym ok;
      waits_from = λ d. is;
      lets_in_holds = λ d e. absurd (false≢true (sym f ∙ e));
      turned_away = λ d e. (p, z);
      refuses = λ off. absurd (off refl);
    }

-- ---- at the very moment

module _ (L : Life) (some : 0 < tick_length L) where
  -- a tick begins at its moment
  tick_begins : (a x : ℕ) → moment_of L a ≡ x → tick_in L x ≡ a
  unfolding tick_in
  tick_begins a x e = div-eq_of_lt-le (tick_length L) (omega arith) (omega (arith, some))

  module _ (x : ℕ) (r : Beginning) (is : r.from ≡ asked_from L x)
      (lets : r.follows ≡ true → (a : ℕ) × Next L r.from a × (moment_of L a ≡ r.from + r.wait))
      (turned : r.follows ≡ false → TurnedAway L r.from) where
    now_begins : is_now r x ≡ true → is_box_start L x ≡ true
    unfolding is_now is_box_start
    now_begins h =
        let rest = both_r r.follows _ h in
        let here : r.from ≡ x = eqb-true r.from x (both_l (eqb r.from x) _ rest) in
        let none : r.wait ≡ 0 = eqb-true r.wait 0 (both_r (eqb r.from x) _ rest) in
        let w = lets (both_l r.follows _ h) in
        let moment : moment_of L w.0 ≡ x = omega (arith, w.2) in
        let tick : tick_in L x ≡ w.0 = tick_begins w.0 x moment in
        both_in (lets_in L x (tick_in L x)) (eqb (moment_of L (tick_in L x)) x) (rw tick (subst (λ y. lets_in L y w.0 ≡ true) here w.1.lets_in_holds))
        (rw tick (eq-eqb _ _ moment))

    begins_now : is_box_start L x ≡ true → is_now r x ≡ true
    unfolding is_now is_box_start
    begins_now h =
        let t : ℕ = tick_in L x in
        let lets-x : lets_in L x t ≡ true = both_l (lets_in L x t) _ h in
        let moment : moment_of L t ≡ x = eqb-true (moment_of L t) x (both_r (lets_in L x t) _ h) in
        let since = (let_in L x t lets-x).not_early in
        let here : r.from ≡ x = omega (arith, is) in
        ⊎_elim
        (λ f.
        let w = lets f in
        let first : w.0 ≤ t = ⊎_elim (λ z. absurd (false≢true (sym (w.1.none_before t (ltb-true t w.0 z)) ∙ rw here lets-x))) (λ z. ltb-false t w.0 z) (decide (ltb t w.0)) in
        let early : w.0 * tick_length L ≤ t * tick_length L = mul-le-mul_right (tick_length L) first in
        let none : r.wait ≡ 0 = omega (arith, w.2) in
        rw f (both_in (eqb r.from x) (eqb r.wait 0) (eq-eqb _ _ here) (eq-eqb _ _ none)))
        (λ f. absurd (false≢true (sym (turned f t) ∙ rw here lets-x)))
        (decide r.follows)

    pub now_exactly : is_now r x ≡ is_box_start L x
    now_exactly = same (is_now r x) (is_box_start L x) now_begins begins_now
