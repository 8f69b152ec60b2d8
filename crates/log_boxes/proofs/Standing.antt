-- What a title that stands at a log's end has in common with its life: what the code's answer, its numbers, its places and its picture come
-- to. Rests on `playouts` proofs/Answers `alike`, and on the laws of the rows (Rows).
use mathlib.Core.Path.{◌≡◌, refl, sym, ap, ◌∙◌}
use mathlib.Core.Bool.{Bool, true, false, not}
use mathlib.Core.Logic.{⊎_elim}
use mathlib.Core.List.{List}
use Prim.Native.Nat.{ℕ, ◌*◌, ◌≤◌, ◌<◌, max}
use native.Mathlib.Omega.{arith}
use borrow.Author.Tests.{eqb-true, eqb-false, ne_eqb, leb-true, ltb-true}
use lib.Dec.{leb, ltb, eqb}
use lib.ListN.{length, get_or}
use lib.Pow.{pow_mono}
use Rattle.rules.specs.Limits.{asked_max, event_time_max, lane_places, plan_places}
use Rattle.rules.specs.Refusals.{pick, first_hit, done, outside_limits, not_there, malformed}
use Rattle.rules.proofs.Tests.{both_l, both_r, decide}
use Rattle.grid.specs.Ticks.{cells}
use Rattle.grid.proofs.Numbers.{ne_zero_pos}
use Rattle.notice.specs.Log.{Bytes, is_whole_log, notices_of}
use Rattle.story.specs.declared.Title.{Title}
use Rattle.story.specs.declared.Film.{Film}
use Rattle.story.specs.Kept.{title_at, tick_at, title_tick}
use Rattle.story.specs.Life.{Life, tick_by}
use Rattle.story.specs.Story.{latest_of, tick_in, tick_length}
use Rattle.story.proofs.Tells.{TellsTitle, absent, present}
use Rattle.agent.specs.Played.{agent_played, events_played, life_in}
use Rattle.agent.proofs.Played.{log_series}
use Rattle.logs.proofs.Lives.{told_title}
use Rattle.airing.specs.Air.{in_limits}
use Rattle.measures.specs.Readable.{Filmed}
use Rattle.plans.specs.Row.{written}
use Rattle.plans.proofs.Row.{written_first, written_length}
use Rattle.playouts.specs.Playout.{was_opened, is_askable, last_tick_of, playout_number}
use Rattle.playouts.specs.declared.follow.Standing.{Standing}
use Rattle.playouts.specs.inner.Steps.{window_answer, StandsAt, Carries}
use Rattle.playouts.proofs.Answers.{id_low, alike}
use Rattle.takings.specs.Takings.{taking_place}
use Rattle.box_charts.specs.Picture.{box_drawing}
use Rattle.log_boxes.specs.Box.{box_ticks, box_limits, box_answer, box_place, begun_of, box_picture, asked_from}
use Rattle.log_boxes.specs.inner.Steps.{last_tick, BoxStands}
use Rattle.log_boxes.proofs.Rows.{taken_from_lem, picture_alike}

module _ (pool title x : ℕ) (fits : box_limits pool title x ≡ true) where
  pub given_in : in_limits pool title ≡ true
  unfolding box_limits
  given_in = both_l (in_limits pool title) (leb x asked_max) fits

  pub time_in : x ≤ asked_max
  unfolding box_limits
  time_in = leb-true x asked_max (both_r (in_limits pool title) (leb x asked_max) fits)

module _ (pool : ℕ) (log : List ℕ) (title x : ℕ) where
  pub outside : box_limits pool title x ≡ false → outside_limits ≡ box_answer pool log title x
  unfolding box_answer first_hit
  outside out = rw out refl

  -- what holds where nothing is refused
  pub record Granted : Type 0 where
    pub limits : box_limits pool title x ≡ true
    pub whole : is_whole_log log ≡ true
    pub opened : was_opened (life_in pool log title) ≡ true
    pub asked : is_askable (life_in pool log title) (last_tick_of (tick_in (life_in pool log title) x) (box_ticks (life_in pool log title))) ≡ true

  pub granted : box_answer pool log title x ≡ done → Granted
  unfolding box_answer first_hit
  granted ok =
      go (box_limits pool title x) refl (is_whole_log log) refl (was_opened L) refl (is_askable L (last_tick_of (tick_in L x) (box_ticks L))) refl ok
    where
      L : Life
      L = life_in pool log title

      go : (a : Bool) → box_limits pool title x ≡ a → (b : Bool) → is_whole_log log ≡ b → (c : Bool) → was_opened (life_in pool log title) ≡ c →
          (d : Bool) → is_askable (life_in pool log title) (last_tick_of (tick_in (life_in pool log title) x) (box_ticks (life_in pool log title))) ≡ d →
          pick (not a) outside_limits (pick (not b) malformed (pick (not c) not_there (pick (not d) outside_limits done))) ≡ done → Granted
      go true e true f true g true h k = record { limits = e; whole = f; opened = g; asked = h }
      go true e true f true g false h k = absurd (omega arith)
      go true e true f false g d h k = absurd (omega arith)
      go true e false f c g d h k = absurd (omega arith)
      go false e b f c g d h k = absurd (omega arith)

  module _ (fits : box_limits pool title x ≡ true) (small : Bytes log) where
    abbrev standing : Title
    standing = title_at (agent_played pool log).state title

    -- a title that was opened has the film of its life
    pub film_alike : 0 < standing.film.cap → (life_in pool log title).film ≡ standing.film
    film_alike some = go (told_title pool title (id_low pool title (given_in pool title x fits)) _ (notices_of log) (log_series log small (length log)))
      where
        go : TellsTitle (life_in pool log title) (latest_of (events_played pool log) title) standing → (life_in pool log title).film ≡ standing.film
        go (absent e f g) = absurd (let none : standing.film.cap ≡ 0 = ap (λ (z : Title). z.film.cap) g in omega arith)
        go (present r e f p) = ap (λ (M : Life). M.film) e

    pub same_tick : 0 < standing.film.cap → tick_at standing x ≡ tick_in (life_in pool log title) x
    unfolding tick_at tick_in
    same_tick some =
        let same = alike pool title (given_in pool title x fits) log small in
        rw (same.opened some, same.tick some) refl

    -- the answer of the window of a box's ticks is the box's
    pub inside : window_answer pool log title (last_tick standing x) ≡ box_answer pool log title x
    unfolding box_answer window_answer first_hit was_opened last_tick
    inside =
        let same = alike pool title (given_in pool title x fits) log small in
        rw fits
        (⊎_elim
        (λ z. let none : (life_in pool log title).film.cap ≡ 0 = same.cap ∙ eqb-true standing.film.cap 0 z in rw none refl)
        (λ z. ap (λ t. pick (not (is_whole_log log)) malformed (pick (not (ltb 0 (life_in pool log title).film.cap)) not_there (pick (not (is_askable (life_in pool log title) t)) outside_limits done))) (last z))
        (decide (eqb standing.film.cap 0)))
      where
        last : eqb standing.film.cap 0 ≡ false → last_tick standing x ≡ last_tick_of (tick_in (life_in pool log title) x) (box_ticks (life_in pool log title))
        last z =
            let some : 0 < standing.film.cap = ne_zero_pos standing.film.cap (eqb-false standing.film.cap 0 z) in
            let same = alike pool title (given_in pool title x fits) log small in
            rw (z, same_tick some, same.cap) refl

-- ---- a title that stands at the end of a log in which a box is not refused

module _ (pool : ℕ) (log : List ℕ) (title x : ℕ) (small : Bytes log) (ok : box_answer pool log title x ≡ done) where
  fits : box_limits pool title x ≡ true
  fits = (granted pool log title x ok).limits

  opened_some : 0 < (title_at (agent_played pool log).state title).film.cap
  unfolding was_opened
  opened_some =
      omega (
        arith,
        (alike pool title (given_in pool title x fits) log small).cap,
        ltb-true 0 (life_in pool log title).film.cap (granted pool log title x ok).opened,
      )

  pub tick_some : 0 < tick_length (life_in pool log title)
  tick_some =
      let same = alike pool title (given_in pool title x fits) log small in
      omega (arith, same.tick opened_some, same.some opened_some)

  -- who asks, or the opening if it is later, may be asked about
  pub asked_soon : (from : ℕ) (t : Title) → t ≡ title_at (agent_played pool log).state title → from ≡ max x t.opened →
      (from ≤ asked_max) × (from ≡ asked_from (life_in pool log title) x)
  asked_soon from t is e =
      let same = alike pool title (given_in pool title x fits) log small in
      let late : t.opened ≡ (life_in pool log title).opened = ap (λ (z : Title). z.opened) is ∙ sym (same.opened opened_some) in
      let early : t.opened ≤ event_time_max = omega (arith, ap (λ (z : Title). z.opened) is, same.early opened_some) in
      (omega (arith, time_in pool title x fits), e ∙ ap (max x) late)

  module _ (t : Title) (w : BoxStands pool log title x t) where
    pub some_cap : 0 < t.film.cap
    some_cap = rw w.title_is opened_some

    pub filmed : Filmed t.film
    filmed = (w.opened some_cap).owing.film

    pub cells_high : cells t.film.cap ≤ plan_places
    cells_high = pow_mono filmed.cut.high

    pub film_is : (life_in pool log title).film ≡ t.film
    film_is = film_alike pool log title x fits small opened_some ∙ sym (ap (λ (z : Title). z.film) w.title_is)

    pub cap_is : t.film.cap ≡ (life_in pool log title).film.cap
    cap_is = sym (ap (λ (f : Film). f.cap) film_is)

    pub tick_is : (r : ℕ) → r ≡ title_tick t → r ≡ tick_length (life_in pool log title)
    tick_is r e = e ∙ sym (ap tick_by film_is)

    pub start_is : (r : ℕ) → r ≡ tick_at t x → r ≡ tick_in (life_in pool log title) x
    start_is r e = e ∙ ap (λ z. tick_at z x) w.title_is ∙ same_tick pool log title x fits small opened_some

    -- the window of its ticks is not refused
    pub window_done : (start n : ℕ) → start ≡ tick_at t x → n ≡ cells t.film.cap → window_answer pool log title (last_tick_of start n) ≡ done
    unfolding last_tick
    window_done start n e f =
        let at : last_tick t x ≡ last_tick_of start n = rw (ne_eqb t.film.cap 0 (λ z. omega (arith, some_cap)), e, f) refl in
        ap (window_answer pool log title) (sym at)
        ∙ ap (λ z. window_answer pool log title (last_tick z x)) w.title_is
        ∙ inside pool log title x fits small
        ∙ ok

    -- so its numbers are filled in
    pub filled_in : (start n : ℕ) → start ≡ tick_at t x → n ≡ cells t.film.cap → (row : List ℕ) (a : ℕ) (after : List ℕ) →
        Carries pool log title start n row a after →
        after ≡ written (playout_number pool log title (tick_in (life_in pool log title) x)) row (length row)
    filled_in start n e f row a after z =
        z.numbers_are (z.answer_is ∙ window_done start n e f)
        ∙ ap (λ s. written (playout_number pool log title s) row (length row)) (start_is start e)

    -- and the places are those of the box
    pub places_are : (numbers after row : List ℕ) (r n : ℕ) → length numbers ≡ cells t.film.cap * lane_places →
        after ≡ written (playout_number pool log title (tick_in (life_in pool log title) x)) numbers (length numbers) → r ≡ title_tick t →
        written (taking_place t.film.length r (λ j. get_or after j 0) (length after)) row n ≡ written (box_place pool log title x) row n
    unfolding box_place
    places_are numbers after row r n long is e =
        let size : t.film.length ≡ (life_in pool log title).film.length = sym (ap (λ (f : Film). f.length) film_is) in
        let many : length numbers ≡ box_ticks (life_in pool log title) * lane_places = long ∙ ap (λ k. cells k * lane_places) cap_is in
        rw (is, size, tick_is r e)
        (taken_from_lem (life_in pool log title).film.length (tick_length (life_in pool log title)) (playout_number pool log title (tick_in (life_in pool log title) x)) numbers row n
        ∙ ap (λ m. written (taking_place (life_in pool log title).film.length (tick_length (life_in pool log title)) (playout_number pool log title (tick_in (life_in pool log title) x)) m) row n) many)

    -- and the picture is the box's
    pub picture_is : (row after : List ℕ) (r : ℕ) → length row ≡ cells t.film.cap →
        after ≡ written (box_place pool log title x) row (length row) → r ≡ title_tick t →
        box_drawing (record { title = title; moment = x; tick = r; lanes = t.film.cap }) (λ c. get_or after c 0) (length after)
        ≡ box_picture pool log title x
    picture_is row after r long is e =
        let many : length after ≡ box_ticks (life_in pool log title) = ap length is ∙ written_length (box_place pool log title x) row (length row) ∙ long ∙ ap cells cap_is in
        let room : box_ticks (life_in pool log title) ≡ length row = sym (long ∙ ap cells cap_is) in
        rw (many, cap_is, tick_is r e)
        (picture_alike (box_place pool log title x) (λ c. get_or after c 0) (box_ticks (life_in pool log title))
        (λ c lt. ap (λ l. get_or l c 0) is ∙ written_first (box_place pool log title x) row (length row) c (omega arith) (omega (arith, room)))
        (begun_of (life_in pool log title) title x))

-- the title that a log's end leaves, where a box is not refused
pub stands : (pool : ℕ) (log : List ℕ) (title x : ℕ) (r : Standing) → StandsAt pool log title r → box_answer pool log title x ≡ done →
    BoxStands pool log title x r.title
stands pool log title x r w ok = record { granted = ok; title_is = w.title_is; opened = w.opened }
