-- The state tells the story: what each slot keeps is what the sequence of accepted events says of its id, and what is
-- read off the state at any moment from the last event on is what the sequence says then. Rests on `Present`.
use mathlib.Core.Path.{◌≡◌, refl, sym, ap, ◌∙◌}
use mathlib.Core.Bool.{true, false, false≢true}
use mathlib.Core.Logic.{inl, ⊎_elim}
use mathlib.Core.List.{List, ◌∷◌}
use Prim.Native.Nat.{ℕ, zero, suc, ◌+◌, ◌-◌, ◌/◌, ◌≤◌, ◌<◌}
use native.Mathlib.Omega.{arith}
use native.Mathlib.Nat.{sub_self, zero-mod, zero-div}
use lib.Dec.{ltb, eqb}
use lib.ListN.{get_or, set, length, replicate, length-set}
use lib.Seq.{get_or-set_same, get_or-set_other}
use borrow.Author.Tests.{lt-ltb, eqb-true, eqb-false, ne_eqb}
use Rattle.rules.specs.Limits.{both, either, event_time_max}
use Rattle.rules.specs.Limits.{titles_max, count_places, lane_places}
use Rattle.rules.specs.Refusals.{pick}
use Rattle.rules.specs.Search.{how_many, after}
use Rattle.rules.proofs.Tests.{decide, fails}
use Rattle.rules.proofs.Search
use Rattle.scheme.proofs.LawfulKinds.{lawful}
use Rattle.story.specs.declared.Film.{Film}
use Rattle.story.specs.declared.Title.{Title}
use Rattle.story.specs.declared.State.{State}
use Rattle.story.specs.Life.{Life, Course, tick_by, usual_cell, dropped_at, is_owed, reach, owed_within, owes}
use Rattle.story.proofs.Admissions.{last_end}
use Rattle.story.specs.Kept.{no_title, title_at, is_shut, tick_at, ruling, title_held, lanes_held, is_there}
use Rattle.story.specs.Next.{opened_title, with_title}
use Rattle.story.specs.Calls.{blank_title}
use Rattle.story.specs.declared.Event.{Event}
use Rattle.story.specs.Story.{unopened, life_after, life_of, latest_of, last_time, tick_in, count_in, held_in}
use Rattle.story.specs.Story.{sets_count, tuned_of, is_shut_in, held_over, is_there_in}
use Rattle.story.proofs.Owed.{awaited_out, owed_out}
use Rattle.story.proofs.Stored.{life_in}
use Rattle.story.proofs.Passed.{Offered}
use Rattle.story.proofs.Kept.{Present, title_held_kept, later}
use Rattle.story.proofs.Turn.{open_ruling}

-- a row of zeros holds 0 everywhere
zeros : (n j : ℕ) → ◌≡◌ {A = ℕ} (get_or (replicate n 0) j 0) 0
zeros zero j = refl
zeros (suc n) zero = refl
zeros (suc n) (suc j) = zeros n j

-- nothing is owed from before the first tick
none_owed : (L : Life) (l t : ℕ) → is_owed L l 0 t ≡ false
none_owed L l t =
    fails (is_owed L l 0 t) (λ h. omega (arith, (awaited_out L 0 (usual_cell L l t) t (owed_out L l 0 t h)).1))

pub owes_none : (L : Life) (l n : ℕ) → owed_within L l 0 n ≡ 0
unfolding owed_within how_many
owes_none L l zero = refl
owes_none L l (suc n) = rw (none_owed L l (0 + n), owes_none L l n) refl

-- the course of an opening
abbrev pub from_start_lem : ℕ → Course
from_start_lem k = record { rule = λ t. k; shut = λ t. false }

-- a title just opened
pub opened_present : (f : Film) (τ k : ℕ) → τ ≤ event_time_max → Offered f k → f.floor ≤ k → k ≤ f.cap →
    Present (opened_title f τ k) (from_start_lem k)
unfolding tick_at ruling last_end after dropped_at owes
opened_present f τ k late o low high =
    let start : (τ - τ) / tick_by f ≡ 0 = rw sub_self (zero-div (tick_by f)) in
    record {
      mode = inl refl;
      sized =
          record {
            kind_high = o.kind;
            opened_high = late;
            length_low = o.length_low;
            length_high = o.length_high;
            floor_low = o.floor_low;
            floor_high = o.floor_high;
            flat = o.flat;
            cap_high = o.cap_high;
            count_low = low;
            count_high = high;
            mark_high = omega arith;
            last_high = late;
            tuned_high = late;
            ends_long = refl;
            dropped_long = refl;
            owed_long = refl;
            ends_high = λ j. rw (zeros count_places j) (omega arith);
            dropped_high = λ j. rw (zeros lane_places j) (omega arith);
            owed_high = λ j. rw (zeros lane_places j) (omega arith);
          };
      since = omega arith;
      on_tick = rw sub_self (zero-mod (tick_by f));
      steady = λ u le. refl;
      doors = λ e u le. refl;
      ruled = record {
        laws = lawful f.kind f.length f.floor f.cap (omega (arith, o.floor_low)) (omega arith) o.flat;
        flat = o.flat;
        low = λ u p. low;
        high = λ u. high;
      };
      legal = record { ends = λ u p f. absurd (f refl); begins = λ u p f. absurd (f refl) };
      ends = λ c lo hi. zeros count_places c ∙ rw start refl;
      drops = λ l lane off. zeros lane_places l ∙ rw start refl;
      owing = λ l lane off.
          zeros lane_places l
          ∙ rw (zeros lane_places l) (sym (owes_none (life_in (opened_title f τ k) (from_start_lem k)) l (reach f.cap)));
    }

-- what a slot keeps of an id: nothing, where no event has named it, or the course of its life
pub data TellsTitle (L : Life) (m : ℕ) (t : Title) : Type 0 where
  absent : L ≡ unopened → m ≡ 0 → t ≡ blank_title → TellsTitle L m t
  present : (r : Course) → L ≡ life_in t r → m ≡ t.last → Present t r → TellsTitle L m t

-- what the state keeps of a sequence of accepted events
pub record Tells (lanes : ℕ) (es : List Event) (s : State) : Type 0 where
  pub pool : s.pool ≡ lanes
  pub last : s.last ≡ last_time es
  pub slots : length s.titles ≡ titles_max
  pub newest : (i : ℕ) → latest_of es i ≤ last_time es
  pub limit : last_time es ≤ event_time_max
  pub title : (i : ℕ) → i < titles_max → TellsTitle (life_of es i) (latest_of es i) (title_at s i)
  pub tuned : (i : ℕ) → i < titles_max → (title_at s i).tuned ≡ tuned_of es i

-- how many lanes a title holds, from its latest event on
pub held_told : (L : Life) (m : ℕ) (t : Title) (τ : ℕ) → TellsTitle L m t → m ≤ τ → held_in L τ ≡ title_held t τ
unfolding held_in title_held how_many
held_told L m t τ (absent e f g) le = rw (e, g) refl
held_told L m t τ (present r e f p) le = rw e (title_held_kept t r p τ (omega arith))

-- which count rules
pub count_told : (L : Life) (m : ℕ) (t : Title) (τ : ℕ) → TellsTitle L m t → m ≤ τ → count_in L τ ≡ ruling t
unfolding ruling tick_in tick_at
count_told L m t τ (absent e f g) le = rw (e, g) refl
count_told L m t τ (present r e f p) le = rw e (p.steady (tick_at t τ) (later t r p τ (omega arith)))

-- an open title's count is some lanes
pub open_some : (t : Title) (r : Course) → Present t r → t.mode ≡ 1 → 0 < ruling t
open_some t r p e = omega (arith, open_ruling t e, p.sized.floor_low, p.sized.count_low)

pub closed_none : (t : Title) → t.mode ≡ 2 → ruling t ≡ 0
unfolding ruling
closed_none t e = rw e refl

-- whether the title is there
pub there_told : (L : Life) (m : ℕ) (t : Title) (τ : ℕ) → TellsTitle L m t → m ≤ τ → is_there_in L τ ≡ is_there t τ
unfolding is_there ruling
there_told L m t τ w le =
    rw (count_told L m t τ w le, held_told L m t τ w le) (ap (λ b. either b (ltb 0 (title_held t τ))) (go w))
  where
    go : TellsTitle L m t → ltb 0 (ruling t) ≡ eqb t.mode 1
    go (absent e f g) = rw g refl
    go (present r e f p) =
        ⊎_elim (λ x. lt-ltb 0 (ruling t) (open_some t r p x) ∙ rw x refl) (λ x. rw (closed_none t x, x) refl) p.mode

-- an id that no event has named is not there
pub blank_away : (τ : ℕ) → is_there blank_title τ ≡ false
unfolding is_there title_held
blank_away τ = refl

-- a title that is there is closing where no count rules
pub closing_told : (L : Life) (m : ℕ) (t : Title) (τ : ℕ) → TellsTitle L m t → m ≤ τ → is_there t τ ≡ true →
    eqb t.mode 2 ≡ eqb (count_in L τ) 0
closing_told L m t τ w le here = rw (count_told L m t τ w le) (go w)
  where
    go : TellsTitle L m t → eqb t.mode 2 ≡ eqb (ruling t) 0
    go (absent e f g) = absurd (false≢true (sym (blank_away τ) ∙ ap (λ x. is_there x τ) (sym g) ∙ here))
    go (present r e f p) =
        ⊎_elim
        (λ x. ap (λ n. eqb n 2) x ∙ sym (ne_eqb (ruling t) 0 (λ z. omega (arith, open_some t r p x))))
        (λ x. ap (λ n. eqb n 2) x ∙ sym (ap (λ n. eqb n 0) (closed_none t x)))
        p.mode

-- whether the doors of a title that is there and not closing are held
pub doors_told : (L : Life) (m : ℕ) (t : Title) (τ : ℕ) → TellsTitle L m t → m ≤ τ → is_there t τ ≡ true →
    eqb t.mode 2 ≡ false → is_shut_in L τ ≡ is_shut t
unfolding tick_in tick_at
doors_told L m t τ (absent e f g) le here off =
    absurd (false≢true (sym (blank_away τ) ∙ ap (λ x. is_there x τ) (sym g) ∙ here))
doors_told L m t τ (present r e f p) le here off =
    let on : t.mode ≡ 1 = ⊎_elim (λ x. x) (λ x. absurd (eqb-false t.mode 2 off x)) p.mode in
    rw e (p.doors on (tick_at t τ) (later t r p τ (omega arith)))

-- how many lanes are held over all titles, from the last event on
pub lanes_told_lem : (pool : ℕ) (es : List Event) (s : State) (τ : ℕ) → Tells pool es s → last_time es ≤ τ →
    held_over es τ ≡ lanes_held s τ
unfolding held_over lanes_held
lanes_told_lem pool es s τ w le =
    Search.total_ext (λ i. held_in (life_of es i) τ) (λ i. title_held (title_at s i) τ) titles_max
    (λ i b. held_told (life_of es i) (latest_of es i) (title_at s i) τ (w.title i b) (omega (arith, w.newest i)))

-- an event of one title moves that title alone
pub told_with : (pool : ℕ) (es : List Event) (s : State) (e : Event) (t : Title) → Tells pool es s →
    e.title < titles_max → last_time es ≤ e.time → e.time ≤ event_time_max →
    TellsTitle (life_after (life_of es e.title) e.time e.act) e.time t →
    t.tuned ≡ pick (sets_count e.act) e.time (tuned_of es e.title) →
    Tells pool (e ∷ es) (with_title s e.title t e.time)
unfolding life_of latest_of tuned_of
told_with pool es s e t w fits le limit tells tuned =
    record {
      pool = w.pool;
      last = refl;
      slots = length-set s.titles e.title t ∙ w.slots;
      newest = λ i. ⊎_elim (λ x. rw x (omega arith)) (λ x. rw x (omega (arith, w.newest i))) (decide (eqb e.title i));
      limit = limit;
      title = λ i b. ⊎_elim (at i) (λ x. other i b x) (decide (eqb e.title i));
      tuned = λ i b. ⊎_elim (tuned_at_lem i) (λ x. tuned_other i b x) (decide (eqb e.title i));
    }
  where
    i₀ : ℕ
    i₀ = e.title

    Goal : ℕ → Type 0
    Goal i =
        TellsTitle (pick (eqb i₀ i) (life_after (life_of es i) e.time e.act) (life_of es i))
        (pick (eqb i₀ i) e.time (latest_of es i))
        (get_or (set s.titles i₀ t) i no_title)

    at : (i : ℕ) → eqb i₀ i ≡ true → Goal i
    at i x =
        let q : i₀ ≡ i = eqb-true i₀ i x in
        rw (x, ← q, get_or-set_same s.titles i₀ t no_title (omega (arith, w.slots))) tells

    other : (i : ℕ) → i < titles_max → eqb i₀ i ≡ false → Goal i
    other i b x =
        rw (x, get_or-set_other s.titles i₀ i t no_title (λ q. eqb-false i₀ i x (sym q))) (w.title i b)

    Tuned : ℕ → Type 0
    Tuned i =
        (get_or (set s.titles i₀ t) i no_title).tuned
        ≡ pick (both (eqb i₀ i) (sets_count e.act)) e.time (tuned_of es i)

    tuned_at_lem : (i : ℕ) → eqb i₀ i ≡ true → Tuned i
    tuned_at_lem i x =
        let q : i₀ ≡ i = eqb-true i₀ i x in
        rw (x, ← q, get_or-set_same s.titles i₀ t no_title (omega (arith, w.slots))) tuned

    tuned_other : (i : ℕ) → i < titles_max → eqb i₀ i ≡ false → Tuned i
    tuned_other i b x =
        rw (x, get_or-set_other s.titles i₀ i t no_title (λ q. eqb-false i₀ i x (sym q))) (w.tuned i b)
