-- A head-end that sends a notice of each event that it accepts, numbered from 1 on, and an agent that is handed them in order:
-- the agent hears exactly those events, so the two answer alike; and so it is with the log that the head-end keeps, played into a
-- fresh agent. Rests on the codec's round trip, on what accepted events have passed, and on `alike`.
use mathlib.Core.Path.{◌≡◌, refl, sym, ap, ◌∙◌}
use mathlib.Core.Bool.{Bool, true, false}
use mathlib.Core.List.{List, [], ◌∷◌, ◌++◌, map, reverse, reverse-cons, reverse-reverse}
use Prim.Native.Nat.{ℕ, zero, suc, ◌^◌, ◌≤◌, ◌<◌}
use native.Mathlib.Omega.{arith}
use lib.Dec.{leb, eqb}
use lib.ListN.{length}
use borrow.Author.Tests.{leb-true, eqb-true, eqb-false, eq-eqb, not-false}
use Rattle.rules.specs.Limits.{both, within, id_max, event_time_max, length_max, floor_max, count_min}
use Rattle.rules.specs.Limits.{count_max, steady_max}
use Rattle.rules.specs.Refusals.{pick, outside_limits}
use Rattle.rules.proofs.Tests.{both_l, both_r, both_in, pick_true}
use Rattle.rules.proofs.Refusals.{hits_of, numbered, cleared}
use Rattle.notice.specs.declared.Notice.{Notice}
use Rattle.notice.specs.declared.Kind.TheVariants.{Open, Skip}
use Rattle.notice.specs.declared.Reading.TheVariants as reading
use Rattle.notice.specs.Log.{Typed, KindTyped, FitsFields, AllFit, notices_of, is_whole_log}
use Rattle.notice.proofs.RoundTrip.{written_reads}
use Rattle.notice.proofs.Typed.{typed_fits}
use Rattle.notice.proofs.ReadThrough.{log_read}
use Rattle.scheme.specs.Scheme.{padded_kind, steady_kind}
use Rattle.story.specs.declared.Film.{Film}
use Rattle.story.specs.declared.Act.{Act}
use Rattle.story.specs.declared.Act.TheVariants.{Opens, Changes, Closes, Doors}
use Rattle.story.specs.declared.Event.{Event}
use Rattle.story.specs.Story.{event, film_of, answer, accepted, Accepted, none}
use Rattle.story.specs.Story.{more, within_limits, padded_limits, steady_limits, film_limits, act_limits, order_of}
use Rattle.story.specs.declared.State.{State}
use Rattle.story.specs.Kept.{state_ok}
use Rattle.story.specs.Calls.{event_ok, tests_in, call_answer}
use Rattle.story.specs.Runs.{answered, state_after, lanes_of}
use Rattle.story.proofs.Passed.{in_limits_lem}
use Rattle.story.proofs.Reached.{accepted_is, accepted_all}
use Rattle.agent.specs.Turns.{act_of, event_of, fresh_agent}
use Rattle.agent.specs.Series.{agent_after, hearing, heard, events_heard, kind_for, notice_for, notices_for, sent, log_kept}
use Rattle.agent.specs.Played.{agent_told, agent_played, heard_of, events_played, ReadAs, none_read, one_read}
use Rattle.agent.proofs.Order.{follows}
use Rattle.agent.proofs.Alike.{alike}
use Rattle.agent.proofs.Played.{told_series, heard_alike}

-- the numbers of an opening within their limits fit the fields of its kind of notice
opening_typed : (f : Film) (k : ℕ) (t : Bool) → pick t (steady_limits f k) (padded_limits f k) ≡ true →
    KindTyped (pick t (Skip f.length k) (Open f.length f.floor f.cap k))
opening_typed f k true h =
    let D-high : f.length ≤ length_max = search (both_l, both_r, leb-true) depth 12 in
    let k-high : k ≤ steady_max = search (both_l, both_r, leb-true) depth 12 in
    (omega arith, omega arith)
opening_typed f k false h =
    let D-high : f.length ≤ length_max = search (both_l, both_r, leb-true) depth 12 in
    let A-high : f.floor ≤ floor_max = search (both_l, both_r, leb-true) depth 12 in
    let K-high : f.cap ≤ count_max = search (both_l, both_r, leb-true) depth 12 in
    let k-high : k ≤ count_max = search (both_l, both_r, leb-true) depth 12 in
    (omega arith, (omega arith, (omega arith, omega arith)))

-- and so do those of any event
act_typed : (a : Act) (b : Bool) → act_limits a b ≡ true → KindTyped (kind_for a)
act_typed (Opens f k) b h =
    opening_typed f k (eqb f.kind steady_kind)
    (both_r (leb f.kind steady_kind) (pick (eqb f.kind steady_kind) (steady_limits f k) (padded_limits f k)) (both_r b (film_limits f k) h))
act_typed (Changes k) b h =
    let k-high : k ≤ count_max = search (both_l, both_r, leb-true) depth 12 in
    omega arith
act_typed Closes b h = tt
act_typed (Doors true) b h = tt
act_typed (Doors false) b h = tt

named : (a : Act) (b : Bool) → act_limits a b ≡ true → b ≡ true
named (Opens f k) b h = both_l b (film_limits f k) h
named (Changes k) b h = both_l b (within count_min count_max k) h
named Closes b h = h
named (Doors d) b h = h

typed_within : (e : Event) (q : ℕ) (b : Bool) → q < 2 ^ 32 → within_limits e ≡ true → act_limits e.act b ≡ true → Typed (notice_for q e)
typed_within e q b small id-time all =
    let id : e.title ≤ id_max = leb-true e.title id_max (both_l (leb e.title id_max) (leb e.time event_time_max) id-time) in
    let time : e.time ≤ event_time_max = leb-true e.time event_time_max (both_r (leb e.title id_max) (leb e.time event_time_max) id-time) in
    record {
      sequence_fits = small;
      title_fits = omega arith;
      time_fits = omega arith;
      kind_fits = act_typed e.act b all;
    }

typed : (lanes : ℕ) (es : List Event) (e : Event) (q : ℕ) → q < 2 ^ 32 → answer lanes es e ≡ 0 → Typed (notice_for q e)
typed lanes es e q small h =
    let all = in_limits_lem lanes es e.title e.time e.act h in
    typed_within e q (within_limits e) small (named e.act (within_limits e) all) all

-- the same of an event that any state accepts
called_in_limits : (s : State) (i τ : ℕ) (a : Act) → call_answer s i τ a ≡ 0 → act_limits a (event_ok s i τ) ≡ true
unfolding call_answer numbered hits_of
called_in_limits s i τ (Opens f k) h = not-false _ (cleared (order_of (Opens f k) (tests_in s i τ (Opens f k))) refl h outside_limits)
called_in_limits s i τ (Changes k) h = not-false _ (cleared (order_of (Changes k) (tests_in s i τ (Changes k))) refl h outside_limits)
called_in_limits s i τ Closes h = not-false _ (cleared (order_of Closes (tests_in s i τ Closes)) refl h outside_limits)
called_in_limits s i τ (Doors b) h = not-false _ (cleared (order_of (Doors b) (tests_in s i τ (Doors b))) refl h outside_limits)

pub called_ok : (s : State) (i τ : ℕ) (a : Act) → call_answer s i τ a ≡ 0 → event_ok s i τ ≡ true
called_ok s i τ a h = named a (event_ok s i τ) (called_in_limits s i τ a h)

pub typed_called : (s : State) (e : Event) (q : ℕ) → q < 2 ^ 32 → answered s e ≡ 0 → Typed (notice_for q e)
typed_called s e q small h =
    let ok = called_ok s e.title e.time e.act h in
    typed_within e q (event_ok s e.title e.time) small (both_r (state_ok s) (within_limits e) ok)
    (called_in_limits s e.title e.time e.act h)

below_one : (m : ℕ) → m ≤ 1 → (m ≡ 1 → ⊥) → m ≡ 0
below_one zero low not-one = refl
below_one (suc m) low not-one = absurd (not-one (omega arith))

-- what the notice of an opening does is that opening: a skip-forward title has its count for floor and cap
same_opening : (f : Film) (k : ℕ) (t : Bool) → eqb f.kind steady_kind ≡ t → f.kind ≤ steady_kind →
    pick t (steady_limits f k) (padded_limits f k) ≡ true → act_of (pick t (Skip f.length k) (Open f.length f.floor f.cap k)) ≡ Opens f k
same_opening f k true e low h =
    let is : f.kind ≡ steady_kind = eqb-true f.kind steady_kind e in
    let floor : f.floor ≡ k = eqb-true f.floor k (search (both_l, both_r) depth 12) in
    let cap : f.cap ≡ k = eqb-true f.cap k (search (both_l, both_r) depth 12) in
    sym (λ i. Opens (film_of (is i) f.length (floor i) (cap i)) k)
same_opening f k false e low h =
    let not-steady : f.kind ≡ steady_kind → ⊥ = eqb-false f.kind steady_kind e in
    let is : f.kind ≡ padded_kind = below_one f.kind low not-steady in
    sym (ap (λ x. Opens (film_of x f.length f.floor f.cap) k) is)

-- the event of the notice of an event within its limits is that event
same_act : (a : Act) (b : Bool) → act_limits a b ≡ true → act_of (kind_for a) ≡ a
same_act (Opens f k) b h =
    let of_kind_lem : film_limits f k ≡ true = both_r b (film_limits f k) h in
    let nums = pick (eqb f.kind steady_kind) (steady_limits f k) (padded_limits f k) in
    same_opening f k (eqb f.kind steady_kind) refl (leb-true f.kind steady_kind (both_l (leb f.kind steady_kind) nums of_kind_lem))
    (both_r (leb f.kind steady_kind) nums of_kind_lem)
same_act (Changes k) b h = refl
same_act Closes b h = refl
same_act (Doors true) b h = refl
same_act (Doors false) b h = refl

pub same_event : (lanes : ℕ) (es : List Event) (q : ℕ) (e : Event) → answer lanes es e ≡ 0 → event_of (notice_for q e) ≡ e
same_event lanes es q e h =
    ap (event e.title e.time)
    (same_act e.act (within_limits e) (in_limits_lem lanes es e.title e.time e.act h))

-- the notices of accepted events, as many as there are sequences, are all heard
events_numbered : (lanes : ℕ) (es : List Event) → Accepted lanes es → map event_of (notices_for es) ≡ es
unfolding notices_for
events_numbered lanes es none = refl
events_numbered lanes es (more {e = e} {es = es'} acc h) =
    λ i. same_event lanes es' (suc (length es')) e h i ∷ events_numbered lanes es' acc i

pub length_numbered : (es : List Event) → length (notices_for es) ≡ length es
unfolding notices_for
length_numbered [] = refl
length_numbered (e ∷ es) = ap suc (length_numbered es)

hears_next : (lanes : ℕ) (ns : List Notice) (es : List Event) (e : Event) → Accepted lanes es → ns ≡ notices_for es → answer lanes es e ≡ 0 →
    hearing lanes ns (reading.Whole (notice_for (suc (length es)) e)) ≡ notice_for (suc (length es)) e ∷ notices_for es
hears_next lanes ns es e acc is h =
    let n : Notice = notice_for (suc (length es)) e in
    let turn : suc (length es) ≡ suc (length (notices_for es)) = ap suc (sym (length_numbered es)) in
    let done : answer lanes (map event_of (notices_for es)) (event_of n) ≡ 0 =
    ap (λ x. answer lanes x (event_of n)) (events_numbered lanes es acc)
    ∙ ap (answer lanes es) (same_event lanes es (suc (length es)) e h) ∙ h in
    rw is
    (pick_true (both (eqb (suc (length es)) (suc (length (notices_for es)))) (eqb (answer lanes (map event_of (notices_for es)) (event_of n)) 0))
    (n ∷ notices_for es) (notices_for es)
    (both_in (eqb (suc (length es)) (suc (length (notices_for es)))) (eqb (answer lanes (map event_of (notices_for es)) (event_of n)) 0)
    (eq-eqb (suc (length es)) (suc (length (notices_for es))) turn) (eq-eqb (answer lanes (map event_of (notices_for es)) (event_of n)) 0 done)))

-- told one after the other,
told_all : (lanes : ℕ) (es : List Event) → Accepted lanes es → heard_of lanes (notices_for es) ≡ notices_for es
unfolding heard_of notices_for
told_all lanes es none = refl
told_all lanes es (more {e = e} {es = es'} acc h) =
    hears_next lanes (heard_of lanes (notices_for es')) es' e acc (told_all lanes es' acc) h

-- each fits its fields,
pub fits : (lanes : ℕ) (es : List Event) (e : Event) (q : ℕ) → q < 2 ^ 32 → answer lanes es e ≡ 0 → FitsFields (notice_for q e)
fits lanes es e q small h = typed_fits (notice_for q e) (typed lanes es e q small h)

-- so the byte strings that are sent read as those notices,
reads_sent : (lanes : ℕ) (es : List Event) → Accepted lanes es → length es < 2 ^ 32 → ReadAs (sent es) (notices_for es)
unfolding notices_for
reads_sent lanes es none small = none_read
reads_sent lanes es (more {e = e} {es = es'} acc h) small =
    one_read (written_reads (notice_for (suc (length es')) e) (fits lanes es' e (suc (length es')) small h))
    (reads_sent lanes es' acc (omega arith))

hears_all : (lanes : ℕ) (es : List Event) → Accepted lanes es → length es < 2 ^ 32 → heard lanes (sent es) ≡ notices_for es
hears_all lanes es acc small =
    heard_alike lanes (sent es) (notices_for es) (reads_sent lanes es acc small) ∙ told_all lanes es acc

module _ (pool : ℕ) (cs : List Event) (few : length (accepted (lanes_of pool) cs) < 2 ^ 32) where
  -- the agent hears exactly the accepted events
  pub all_heard : events_heard pool (sent (accepted (lanes_of pool) cs)) ≡ accepted (lanes_of pool) cs
  all_heard =
      ap (map event_of) (hears_all (lanes_of pool) (accepted (lanes_of pool) cs) (accepted_is (lanes_of pool) cs) few)
      ∙ events_numbered (lanes_of pool) (accepted (lanes_of pool) cs) (accepted_is (lanes_of pool) cs)

  -- and its state is the head-end's: every lane question, status and lanes held are alike
  pub follows_head_end : state_after pool cs ≡ (agent_after pool (sent (accepted (lanes_of pool) cs))).state
  follows_head_end = alike pool cs (sent (accepted (lanes_of pool) cs)) (sym all_heard)

-- so an agent that is handed the notices of accepted events has their number for its sequence, and the state that they leave
pub as_sent : (pool : ℕ) (es : List Event) → Accepted (lanes_of pool) es → length es < 2 ^ 32 →
    agent_after pool (sent es) ≡ record { sequence = length es; state = state_after pool es }
as_sent pool es acc few =
    let all : accepted (lanes_of pool) es ≡ es = accepted_all (lanes_of pool) es acc in
    let count : (agent_after pool (sent es)).sequence ≡ length es =
    (follows pool (sent es)).sequence ∙ ap length (hears_all (lanes_of pool) es acc few) ∙ length_numbered es in
    let state : (agent_after pool (sent es)).state ≡ state_after pool es =
    sym (rw all at (follows_head_end pool es (rw all few))) in
    λ i. record { sequence = count i; state = state i }

-- ---- the log that a head-end keeps

fits_last : (ns : List Notice) (n : Notice) → AllFit ns → FitsFields n → AllFit (ns ++ n ∷ [])
fits_last [] n fit f = AllFit.more f AllFit.none
fits_last (m ∷ ns) n (AllFit.more g fit) f = AllFit.more g (fits_last ns n fit f)

kept_fits : (lanes : ℕ) (es : List Event) → Accepted lanes es → length es < 2 ^ 32 → AllFit (reverse (notices_for es))
unfolding notices_for
kept_fits lanes es none small = AllFit.none
kept_fits lanes es (more {e = e} {es = es'} acc h) small =
    rw (reverse-cons (notice_for (suc (length es')) e) (notices_for es'))
    (fits_last (reverse (notices_for es')) (notice_for (suc (length es')) e) (kept_fits lanes es' acc (omega arith))
    (fits lanes es' e (suc (length es')) small h))

-- it is whole, its notices are those of the events, and played into a fresh agent of the pool it gives the events again
pub kept_whole : (lanes : ℕ) (es : List Event) → Accepted lanes es → length es < 2 ^ 32 → is_whole_log (log_kept es) ≡ true
kept_whole lanes es acc few = (log_read (reverse (notices_for es)) (kept_fits lanes es acc few)).1

pub kept_notices : (lanes : ℕ) (es : List Event) → Accepted lanes es → length es < 2 ^ 32 →
    notices_of (log_kept es) ≡ notices_for es
kept_notices lanes es acc few =
    (log_read (reverse (notices_for es)) (kept_fits lanes es acc few)).0 ∙ reverse-reverse (notices_for es)

pub kept_events : (pool : ℕ) (es : List Event) → Accepted (lanes_of pool) es → length es < 2 ^ 32 →
    events_played pool (log_kept es) ≡ es
kept_events pool es acc few =
    ap (map event_of) (ap (heard_of (lanes_of pool)) (kept_notices (lanes_of pool) es acc few) ∙ told_all (lanes_of pool) es acc)
    ∙ events_numbered (lanes_of pool) es acc

-- and the agent that it leaves has their number for its sequence, and the state that they leave
pub kept_played : (pool : ℕ) (es : List Event) → Accepted (lanes_of pool) es → length es < 2 ^ 32 →
    agent_played pool (log_kept es) ≡ record { sequence = length es; state = state_after pool es }
kept_played pool es acc few =
    ap (agent_told (fresh_agent pool)) (kept_notices (lanes_of pool) es acc few)
    ∙ told_series pool (sent es) (notices_for es) (reads_sent (lanes_of pool) es acc few)
    ∙ as_sent pool es acc few
