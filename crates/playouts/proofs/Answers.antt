-- The refusals as the code meets its cases, and what a log that is played to its end comes to. Rests on the laws of listed refusals, on
-- `told_all`: once no event follows, all numbers are those of the title's life, and on these being the lane question's answers (`own_is`).
use mathlib.Core.Path.{◌≡◌, refl, sym, ap, ◌∙◌}
use mathlib.Core.Bool.{Bool, true, false, not}
use mathlib.Core.List.{List}
use mathlib.Core.Logic.{⊎_elim}
use Prim.Native.Nat.{ℕ, zero, suc, ◌+◌, ◌-◌, ◌*◌, ◌/◌, ◌≤◌, ◌<◌}
use native.Mathlib.Omega.{arith}
use native.Mathlib.Nat.{le-div_iff_mul-le, mul-le-mul_right}
use borrow.Author.Tests.{leb-true, leb-false, le-leb, lt-leb, eqb-true, lt-ltb, ltb-true, ltb-false, ne_eqb}
use lib.Dec.{leb, ltb, eqb}
use lib.ListN.{length, get_or}
use lib.Seq.{ext_get_or}
use Rattle.rules.specs.Limits.{within, pool_min, pool_max, id_max, asked_max, event_time_max, lane_places}
use Rattle.rules.specs.Refusals.{pick, first_hit, done, outside_limits, not_there, malformed}
use Rattle.rules.proofs.Tests.{both_l, both_r, decide}
use Rattle.notice.specs.Log.{Bytes, notices_of, stop_of, is_whole_log}
use Rattle.plans.specs.Row.{written}
use Rattle.plans.proofs.Row.{written_length, written_first}
use Rattle.story.specs.declared.Title.{Title}
use Rattle.story.specs.Kept.{title_at, tick_at, title_tick}
use Rattle.story.specs.Life.{Life}
use Rattle.story.specs.Story.{latest_of, moment_of, tick_length}
use Rattle.measures.specs.Readable.{Sending}
use Rattle.story.proofs.Tells.{TellsTitle, absent, present}
use Rattle.scheme.proofs.Clock.{tick_pos}
use Rattle.logs.specs.declared.PlayedLog.{PlayedLog}
use Rattle.agent.specs.declared.Agent.{Agent}
use Rattle.agent.specs.Played.{agent_played, events_played, life_in}
use Rattle.agent.proofs.Played.{log_series, log_reached}
use Rattle.agent_rows.specs.Packed.{unpacked}
use Rattle.logs.specs.Reading.{Plays}
use Rattle.logs.proofs.Lives.{told_title}
use Rattle.judging.specs.Record.{ticks_max}
use Rattle.airing.specs.Air.{in_limits}
use Rattle.playouts.specs.declared.follow.Standing.{Standing}
use Rattle.playouts.specs.Playout.{is_window, playout_limits, was_opened, last_tick_of, is_askable, playout_answer, playout_number}
use Rattle.playouts.specs.Lines.{number_lines, refused_line, playout_text}
use Rattle.playouts.specs.inner.Steps.{printed_text, filled_to, heard_numbers, told_numbers, RowToFill, StandsAt, FillsOn, title_answer, window_answer, WholeTicks, Carries}
use Rattle.playouts.proofs.Laid.{to_length}
use Rattle.playouts.proofs.Filling.{told_length, told_all, told_opened}
use Rattle.playouts.proofs.OwnNumbers.{own_is}
use Rattle.playouts.proofs.Printed.{lines_ext}

-- ---- the limits

module _ (pool title : ℕ) (fits : in_limits pool title ≡ true) where
  pub pool_in_holds : within pool_min pool_max pool ≡ true
  pool_in_holds = both_l (within pool_min pool_max pool) (leb title id_max) fits

  pub id_low : title ≤ id_max
  id_low = leb-true title id_max (both_r (within pool_min pool_max pool) (leb title id_max) fits)

module _ (pool title from ticks : ℕ) (fits : playout_limits pool title from ticks ≡ true) where
  pub limits_in : in_limits pool title ≡ true
  unfolding playout_limits
  limits_in = both_l (in_limits pool title) (is_window from ticks) fits

  window_in : is_window from ticks ≡ true
  unfolding playout_limits
  window_in = both_r (in_limits pool title) (is_window from ticks) fits

  pub from_high : from ≤ asked_max
  from_high = leb-true from asked_max (both_l (leb from asked_max) (within 1 ticks_max ticks) window_in)

  pub ticks_low : 1 ≤ ticks
  ticks_low = leb-true 1 ticks (both_l (leb 1 ticks) (leb ticks ticks_max) (both_r (leb from asked_max) (within 1 ticks_max ticks) window_in))

  pub ticks_high : ticks ≤ ticks_max
  ticks_high =
      leb-true ticks ticks_max (both_r (leb 1 ticks) (leb ticks ticks_max) (both_r (leb from asked_max) (within 1 ticks_max ticks) window_in))

-- ---- the order of refusals, by its tests

stops_short : (a b : ℕ) → ltb a b ≡ not (leb b a)
stops_short a b =
    ⊎_elim (λ x. x ∙ sym (ap not (lt-leb b a (ltb-true a b x)))) (λ x. x ∙ sym (ap not (le-leb b a (ltb-false a b x)))) (decide (ltb a b))

one_order : (x : Bool) (k : ℕ) (far was ask : Bool) → was ≡ ltb 0 k → (0 < k → ask ≡ not far)
    → pick (not x) malformed (pick (eqb k 0) not_there (pick far outside_limits done))
    ≡ pick (not x) malformed (pick (not was) not_there (pick (not ask) outside_limits done))
one_order x zero far was ask e f = rw e refl
one_order x (suc k) far was ask e f =
    rw (e, f (omega arith), ne_eqb (suc k) 0 (λ h. omega arith), lt-ltb 0 (suc k) (omega arith)) (go far)
  where
    go : (far : Bool) → pick (not x) malformed (pick far outside_limits done) ≡ pick (not x) malformed (pick (not (not far)) outside_limits done)
    go true = refl
    go false = refl

opened_done : (x y z : Bool) → pick (not x) malformed (pick (not y) not_there (pick (not z) outside_limits done)) ≡ done → y ≡ true
opened_done true true z h = refl
opened_done true false z h = absurd (omega arith)
opened_done false y z h = absurd (omega arith)

asked_done : (x y z : Bool) → pick (not x) malformed (pick (not y) not_there (pick (not z) outside_limits done)) ≡ done → z ≡ true
asked_done true true true h = refl
asked_done true true false h = absurd (omega arith)
asked_done true false z h = absurd (omega arith)
asked_done false y z h = absurd (omega arith)

module _ (pool : ℕ) (log : List ℕ) (title from ticks : ℕ) where
  -- what holds where nothing is refused, and that nothing else is asked
  pub record Granted : Type 0 where
    pub limits : playout_limits pool title from ticks ≡ true
    pub whole : is_whole_log log ≡ true
    pub opened : was_opened (life_in pool log title) ≡ true
    pub asked : is_askable (life_in pool log title) (last_tick_of from ticks) ≡ true

  pub granted : playout_answer pool log title from ticks ≡ done → Granted
  unfolding playout_answer first_hit
  granted ok =
      go (playout_limits pool title from ticks) refl (is_whole_log log) refl (was_opened (life_in pool log title)) refl
      (is_askable (life_in pool log title) (last_tick_of from ticks)) refl ok
    where
      go : (a : Bool) → playout_limits pool title from ticks ≡ a → (b : Bool) → is_whole_log log ≡ b → (c : Bool) →
          was_opened (life_in pool log title) ≡ c → (d : Bool) → is_askable (life_in pool log title) (last_tick_of from ticks) ≡ d →
          pick (not a) outside_limits (pick (not b) malformed (pick (not c) not_there (pick (not d) outside_limits done))) ≡ done → Granted
      go true e true f true g true h k = record { limits = e; whole = f; opened = g; asked = h }
      go true e true f true g false h k = absurd (omega arith)
      go true e true f false g d h k = absurd (omega arith)
      go true e false f c g d h k = absurd (omega arith)
      go false e b f c g d h k = absurd (omega arith)

  pub grants : Granted → playout_answer pool log title from ticks ≡ done
  unfolding playout_answer first_hit
  grants w = rw (w.limits, w.whole, w.opened, w.asked) refl

  pub answer_inside : playout_limits pool title from ticks ≡ true → window_answer pool log title (last_tick_of from ticks) ≡ playout_answer pool log title from ticks
  unfolding playout_answer window_answer first_hit
  answer_inside fits = rw fits refl

  pub answer_outside : playout_limits pool title from ticks ≡ false → outside_limits ≡ playout_answer pool log title from ticks
  unfolding playout_answer first_hit
  answer_outside out = rw out refl

  -- ---- the text

  pub text_outside : playout_limits pool title from ticks ≡ false → refused_line outside_limits ≡ playout_text pool log title from ticks
  unfolding playout_text
  text_outside out = rw (← answer_outside out) refl

  module _ (fits : playout_limits pool title from ticks ≡ true) (row : List ℕ) (long : length row ≡ ticks * lane_places) (a : ℕ) (after : List ℕ)
      (w : Carries pool log title from ticks row a after) where
    pub text_inside : printed_text a after ≡ playout_text pool log title from ticks
    unfolding playout_text printed_text
    text_inside =
        let is : a ≡ playout_answer pool log title from ticks = w.answer_is ∙ answer_inside fits in
        rw (← is)
        (⊎_elim
        (λ x. let ok : after ≡ written (playout_number pool log title from) row (length row) = w.numbers_are (eqb-true a done x) in rw (x, ok) numbers)
        (λ x. rw x refl)
        (decide (eqb a done)))
      where
        all : List ℕ
        all = written (playout_number pool log title from) row (length row)

        numbers : number_lines (λ j. get_or all j 0) (length all) ≡ number_lines (playout_number pool log title from) (ticks * lane_places)
        numbers =
            ap (number_lines (λ j. get_or all j 0)) (written_length (playout_number pool log title from) row (length row) ∙ long)
            ∙ lines_ext (λ j. get_or all j 0) (playout_number pool log title from) (ticks * lane_places)
            (λ j lt. written_first (playout_number pool log title from) row (length row) j (omega arith) (omega arith))

-- ---- a row that was filled on

pub fills_fillable : (pool : ℕ) (log : List ℕ) (i opening from : ℕ) (row : List ℕ) (r : Standing) (m : List ℕ) →
    FillsOn pool log i opening from row r m → RowToFill from row → RowToFill from m
fills_fillable pool log i opening from row r m w f =
    let same : length m ≡ length row = ap length w.numbers_are ∙ told_length opening from pool i row (notices_of log) in
    record { soon = f.soon; short = omega (arith, f.short) }

-- ---- a log that was played to where its reading stops

module _ (pool i : ℕ) (fits : in_limits pool i ≡ true) (log : List ℕ) (small : Bytes log) where
  abbrev standing : Title
  standing = title_at (agent_played pool log).state i

  pub stood : (opening from : ℕ) (row r : List ℕ) (p : PlayedLog) (m : List ℕ) → Plays (heard_numbers i opening from) pool log row r p m →
      (t : Title) → t ≡ title_at (unpacked r).state i → FillsOn pool log i opening from row (record { place = p.place; title = t }) m
  stood opening from row r p m all t at =
      let here : t ≡ standing = at ∙ ap (λ (g : Agent). title_at g.state i) all.agent_is in
      record {
        stands =
            record {
              place_is = all.place_is;
              title_is = here;
              opened = rw here (told_opened pool i (id_low pool i fits) _ (notices_of log) (log_series log small (length log)));
            };
        numbers_are = all.kept_is;
      }

  told : TellsTitle (life_in pool log i) (latest_of (events_played pool log) i) standing
  told = told_title pool i (id_low pool i fits) _ (notices_of log) (log_series log small (length log))

  -- a title has the numbers of its life
  pub record Sameness : Type 0 where
    pub cap : (life_in pool log i).film.cap ≡ standing.film.cap
    pub opened : 0 < standing.film.cap → (life_in pool log i).opened ≡ standing.opened
    pub early : 0 < standing.film.cap → standing.opened ≤ event_time_max
    pub tick : 0 < standing.film.cap → tick_length (life_in pool log i) ≡ title_tick standing
    pub some : 0 < standing.film.cap → 0 < title_tick standing

  pub alike : Sameness
  alike = go told
    where
      go : TellsTitle (life_in pool log i) (latest_of (events_played pool log) i) standing → Sameness
      go (absent e f g) =
          let none : standing.film.cap ≡ 0 = ap (λ (z : Title). z.film.cap) g in
          record {
            cap = ap (λ (M : Life). M.film.cap) e ∙ sym none;
            opened = λ h. absurd (omega (arith, none));
            early = λ h. absurd (omega (arith, none));
            tick = λ h. absurd (omega (arith, none));
            some = λ h. absurd (omega (arith, none));
          }
      go (present r e f p) =
          let z = p.sized in
          record {
            cap = ap (λ (M : Life). M.film.cap) e;
            opened = λ h. ap (λ (M : Life). M.opened) e;
            early = λ h. z.opened_high;
            tick = λ h. ap tick_length e;
            some = λ h.
                tick_pos standing.film.kind standing.film.length standing.film.floor standing.film.cap
                (omega (arith, z.length_low)) (omega (arith, z.floor_low)) (omega (arith, z.count_low, z.count_high));
          }

  -- whether the start of a tick may be asked about, by the tick that holds the last moment
  askable : 0 < standing.film.cap → (tick : ℕ) → is_askable (life_in pool log i) tick ≡ not (ltb (tick_at standing asked_max) tick)
  unfolding is_askable tick_at
  askable some tick =
      let p : ℕ = title_tick standing in
      let b : ℕ = standing.opened in
      let pos : 0 < p = alike.some some in
      let soon : b ≤ asked_max = omega (arith, alike.early some) in
      rw (alike.opened some, alike.tick some)
      (⊎_elim
      (λ x.
      let over : (asked_max - b) / p < tick = ltb-true ((asked_max - b) / p) tick x in
      let out : asked_max < b + tick * p = past b p tick pos soon over in
      rw x (lt-leb (b + tick * p) asked_max out))
      (λ x.
      let under : tick ≤ (asked_max - b) / p = ltb-false ((asked_max - b) / p) tick x in
      let fit : tick * p ≤ asked_max - b = (le-div_iff_mul-le {k = p} {x = tick} {y = asked_max - b} pos).0 under in
      rw x (le-leb (b + tick * p) asked_max (omega arith)))
      (decide (ltb ((asked_max - b) / p) tick)))
    where
      past : (b p tick : ℕ) → 0 < p → b ≤ asked_max → (asked_max - b) / p < tick → asked_max < b + tick * p
      past b p tick pos soon over =
          ⊎_elim
          (λ x. absurd (let in_time : tick ≤ (asked_max - b) / p = (le-div_iff_mul-le {k = p} {x = tick} {y = asked_max - b} pos).1 (omega (arith, leb-true (b + tick * p) asked_max x)) in omega arith))
          (λ x. leb-false (b + tick * p) asked_max x)
          (decide (leb (b + tick * p) asked_max))

  -- so the code's answer is the log's
  pub answers : (r : Standing) → StandsAt pool log i r → (tick a : ℕ) → a ≡ title_answer r.place (length log) r.title tick →
      a ≡ window_answer pool log i tick
  unfolding title_answer window_answer first_hit was_opened
  answers r w tick a is =
      is
      ∙ rw (w.place_is, w.title_is, stops_short (stop_of log) (length log))
      (one_order (is_whole_log log) standing.film.cap (ltb (tick_at standing asked_max) tick) (ltb 0 (life_in pool log i).film.cap) (is_askable (life_in pool log i) tick) (ap (ltb 0) alike.cap) (λ h. askable h tick))

  -- ---- what is filled in where the answer is done

  module _ (from ticks : ℕ) (row : List ℕ) (fill : RowToFill from row) (long : WholeTicks ticks row) (ok : window_answer pool log i (last_tick_of from ticks) ≡ done) where
    abbrev L : Life
    L = life_in pool log i

    some : 0 < standing.film.cap
    unfolding window_answer first_hit was_opened
    some =
        omega (
          arith,
          alike.cap,
          ltb-true 0 L.film.cap (opened_done (is_whole_log log) (ltb 0 L.film.cap) (is_askable L (last_tick_of from ticks)) ok),
        )

    last_asked : moment_of L (last_tick_of from ticks) ≤ asked_max
    unfolding window_answer first_hit is_askable
    last_asked =
        leb-true (moment_of L (last_tick_of from ticks)) asked_max
        (asked_done (is_whole_log log) (was_opened L) (leb (moment_of L (last_tick_of from ticks)) asked_max) ok)

    -- the start of every tick of the window may be asked about
    asked : (j : ℕ) → j < length row → moment_of L (from + j / lane_places) ≤ asked_max
    asked j room =
        let n : ℕ = from + j / lane_places in
        let early : n ≤ last_tick_of from ticks = omega (arith, long.long, long.some) in
        let m : n * tick_length L ≤ last_tick_of from ticks * tick_length L = mul-le-mul_right (tick_length L) early in
        omega (arith, last_asked)

    pub filled_in : (m after : List ℕ) → m ≡ told_numbers pool i standing.opened from row (notices_of log) →
        after ≡ filled_to standing from (from + ticks) m → after ≡ written (playout_number pool log i from) row (length row)
    unfolding playout_number
    filled_in m after kept is =
        let y : List ℕ = told_numbers pool i standing.opened from row (notices_of log) in
        let same : length y ≡ length row = told_length standing.opened from pool i row (notices_of log) in
        let all : List ℕ = filled_to standing from (from + ticks) y in
        let new : length all ≡ length row = to_length standing from (from + ticks) y ∙ same in
        let now = told_all standing.opened from pool i (id_low pool i fits) row _ (notices_of log) (log_series log small (length log)) some (from + ticks) (alike.opened some) (omega (arith, fill.short)) in
        is ∙ rw kept
        (ext_get_or 0 all (written (playout_number pool log i from) row (length row))
        (new ∙ sym (written_length (playout_number pool log i from) row (length row)))
        (λ j lt.
        now j (omega (arith, long.long)) lt
        ∙ sym (own_is pool (events_played pool log) (agent_played pool log).state (log_reached pool log small) i (id_low pool i fits) (rw (alike.tick some) (alike.some some)) from j (asked j (omega arith)))
        ∙ sym (written_first (playout_number pool log i from) row (length row) j (omega arith) (omega arith))))

  -- ---- the two ways of a window

  module _ (from ticks : ℕ) (row : List ℕ) (long : WholeTicks ticks row) (r : Standing) (w : StandsAt pool log i r) (a : ℕ)
      (is : a ≡ title_answer r.place (length log) r.title (last_tick_of from ticks)) where
    by_log : a ≡ window_answer pool log i (last_tick_of from ticks)
    by_log = answers r w (last_tick_of from ticks) a is

    pub carries_refused : (a ≡ done → ⊥) → Carries pool log i from ticks row a row
    carries_refused off = record { answer_is = by_log; numbers_are = λ ok. absurd (off ok) }

    module _ (fill : RowToFill from row) (ok : a ≡ done) where
      ok_log : window_answer pool log i (last_tick_of from ticks) ≡ done
      ok_log = sym by_log ∙ ok

      pub stands_sending : Sending r.title
      stands_sending = w.opened (rw w.title_is (some from ticks row fill long ok_log))

      pub carries_done : (q : Standing) (m after : List ℕ) → FillsOn pool log i r.title.opened from row q m →
          after ≡ filled_to r.title from (from + ticks) m → Carries pool log i from ticks row a after
      carries_done q m after on filled =
          record {
            answer_is = by_log;
            numbers_are = λ h.
                filled_in from ticks row fill long ok_log m after (rw (← w.title_is) on.numbers_are) (rw (← w.title_is) filled);
          }
