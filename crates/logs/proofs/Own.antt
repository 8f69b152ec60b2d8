-- One read more, as the code meets its cases, and what it makes of what is kept. Rests on the definitions, and on every accepted
-- event having passed its limits.
use mathlib.Core.Path.{◌≡◌, refl, sym, ap, subst, ◌∙◌}
use mathlib.Core.Bool.{Bool, true, false}
use mathlib.Core.List.{List}
use mathlib.Core.Logic.{⊎_elim}
use Prim.Native.Nat.{ℕ, suc, ◌≤◌}
use native.Mathlib.Omega.{arith}
use borrow.Author.Tests.{lt-ltb, eqb-true, leb-true}
use lib.Dec.{leb, eqb}
use lib.ListN.{length}
use Rattle.rules.specs.Limits.{both, within, pool_min, pool_max, id_max, event_time_max}
use Rattle.rules.specs.Refusals.{pick, done, out_of_turn}
use Rattle.rules.proofs.Tests.{decide, both_l, both_r}
use Rattle.notice.specs.declared.Notice.{Notice}
use Rattle.notice.specs.declared.Reading.TheVariants as reading
use Rattle.notice.specs.declared.Found.{Found}
use Rattle.notice.specs.declared.Found.TheVariants as found
use Rattle.notice.specs.Decode.{read_at}
use Rattle.story.specs.declared.State.{State}
use Rattle.story.specs.declared.Title.{Title}
use Rattle.story.specs.declared.Act.{Act}
use Rattle.story.specs.Kept.{title_at, state_ok}
use Rattle.story.specs.Calls.{call_answer}
use Rattle.agent.specs.declared.Agent.{Agent}
use Rattle.agent.specs.Turns.{act_of, notice_answer}
use Rattle.agent.proofs.HeadEnd.{called_ok}
use Rattle.agent_rows.specs.Layout.{sequence_end, row_length}
use Rattle.agent_rows.specs.Packed.{unpacked}
use Rattle.row_calls.specs.Answers.{row_after_fresh}
use Rattle.row_calls.specs.inner.Steps.{Tested, TakesNotice}
use Rattle.row_calls.proofs.Started.{fresh_left}
use Rattle.row_calls.proofs.Whole.{agent_after_fresh}
use Rattle.logs.specs.declared.ReadOn.{ReadOn}
use Rattle.logs.specs.declared.OwnRead.{OwnRead}
use Rattle.logs.specs.Reading.{played_of, Unplayed, none_read_yet, stepped, agent_read, RowRead, kept_read, read_next}
use Rattle.logs.specs.Reading.{heard_own, own_read, PlayedStep, ReadsLog, Meets}

-- ---- nothing is played

pub begins : (r : List ℕ) (pool : ℕ) (s : List ℕ) → length r ≡ row_length → within pool_min pool_max pool ≡ true → s ≡ row_after_fresh r pool →
    length s ≡ row_length → Unplayed pool s (played_of 0 true)
begins r pool s long fits is same =
    record {
      is_row = record { long = same; sound = rw (is ∙ fresh_left r pool long fits) (lt-ltb 0 sequence_end (omega arith)) };
      agent_is = ap unpacked is ∙ agent_after_fresh r pool long fits;
      played_is = refl;
    }

-- ---- one read, as the code meets its cases

module _ (log r : List ℕ) (at : ℕ) where
  pub reads_notice : (n : Notice) (e a : ℕ) (s : List ℕ) → read_at log at ≡ found.At n e → TakesNotice r n a s →
      ReadsLog r at (read_at log at) (record { played = played_of e true; answer = a; title = n.title; time = n.time }) s
  unfolding read_next agent_read
  reads_notice n e a s is told =
      rw (is, told.answers) (record { is = refl; row_read = record { is_row = told.is_row; agent_is = told.agent_is } })

  -- the row stays
  stays : Tested r → (f : Found) → agent_read (unpacked r) f ≡ unpacked r → RowRead r f r
  stays tested f same = record { is_row = record { long = tested.long; sound = tested.sound }; agent_is = sym same }

  pub reads_end : Tested r → (o : ReadOn) → read_at log at ≡ found.End → o ≡ none_read_yet at → ReadsLog r at (read_at log at) o r
  unfolding read_next agent_read
  reads_end tested o is e = rw is (record { is = e; row_read = stays tested found.End refl })

  pub reads_none : Tested r → (o : ReadOn) → read_at log at ≡ found.Malformed → o ≡ none_read_yet at → ReadsLog r at (read_at log at) o r
  unfolding read_next agent_read
  reads_none tested o is e = rw is (record { is = e; row_read = stays tested found.Malformed refl })

-- ---- an accepted event is within its limits

module _ (s : State) (i τ : ℕ) where
  in_time : (a : Act) → call_answer s i τ a ≡ 0 → τ ≤ event_time_max
  in_time a h =
      leb-true τ event_time_max
      (both_r (leb i id_max) (leb τ event_time_max) (both_r (state_ok s) (both (leb i id_max) (leb τ event_time_max)) (called_ok s i τ a h)))

notice_early : (g : Agent) (n : Notice) → notice_answer g (reading.Whole n) ≡ 0 → n.time ≤ event_time_max
unfolding notice_answer
notice_early g n ok =
    ⊎_elim (λ x. in_time g.state n.title n.time (act_of n.kind) (rw x at ok))
    (λ x. absurd (let z : out_of_turn ≡ 0 = rw x at ok in omega arith))
    (decide (eqb n.sequence (suc g.sequence)))

-- ---- what a read does to one title

module _ (r : List ℕ) (at i : ℕ) where
  own_early : (t : Title) (f : Found) →
      (own_read i t (read_next (unpacked r) at f)).own ≡ true → (own_read i t (read_next (unpacked r) at f)).time ≤ event_time_max
  unfolding read_next
  own_early t (found.At n e) own =
      notice_early (unpacked r) n (eqb-true _ 0 (both_l (eqb (notice_answer (unpacked r) (reading.Whole n)) 0) (eqb n.title i) own))
  own_early t found.End own = omega arith
  own_early t found.Malformed own = omega arith

  pub meets : (f : Found) (t : Title) (o : ReadOn) (s : List ℕ) (b : Bool) → t ≡ title_at (unpacked r).state i → ReadsLog r at f o s →
      b ≡ both (eqb o.answer done) (eqb o.title i) →
      Meets r at i f (record { played = o.played; own = b; before = t; time = o.time }) s
  meets f t o s b here read own =
      rw (own, read.is, here)
      (record { is = refl; early = own_early (title_at (unpacked r).state i) f; row_read = read.row_read })

-- what holds of the title as it stands holds of it as it was met
pub of_before : (Q : Title → Type 0) (r : List ℕ) (at i : ℕ) (f : Found) (o : OwnRead) (s : List ℕ) → Meets r at i f o s →
    Q (title_at (unpacked r).state i) → Q o.before
of_before Q r at i f o s met q = subst Q (sym (ap (λ (z : OwnRead). z.before) met.is)) q

-- ---- what the read makes of what is kept

read_played : (g : Agent) (at : ℕ) (f : Found) → (read_next g at f).played ≡ stepped at f
unfolding read_next stepped
read_played g at (found.At n e) = refl
read_played g at found.End = refl
read_played g at found.Malformed = refl

-- by what each notice is answered
module _ {A : Type 0} (turn : ℕ → A → A) (r : List ℕ) (at : ℕ) (x : A) (f : Found) (o : ReadOn) (s : List ℕ) (read : ReadsLog r at f o s) where
  abbrev hear : Agent → Notice → A → A
  hear g n = turn (notice_answer g (reading.Whole n))

  kept_told_lem : (f : Found) →
      pick (read_next (unpacked r) at f).played.more (turn (read_next (unpacked r) at f).answer x) x ≡ kept_read hear (unpacked r) x f
  unfolding read_next kept_read
  kept_told_lem (found.At n e) = refl
  kept_told_lem found.End = refl
  kept_told_lem found.Malformed = refl

  told : (y : A) → y ≡ pick o.played.more (turn o.answer x) x → PlayedStep hear r at x f s o.played y
  told y e =
      record {
        row_read = read.row_read;
        played_is = ap (λ (q : ReadOn). q.played) read.is ∙ read_played (unpacked r) at f;
        kept_is = e ∙ ap (λ (q : ReadOn). pick q.played.more (turn q.answer x) x) read.is ∙ kept_told_lem f;
      }

  pub steps_told : (y : A) → o.played.more ≡ true → y ≡ turn o.answer x → PlayedStep hear r at x f s o.played y
  steps_told y more e = told y (rw more e)

  pub steps_nowhere : o.played.more ≡ false → PlayedStep hear r at x f s o.played x
  steps_nowhere none = told x (rw none refl)

-- by the accepted events of one title
module _ {A : Type 0} (turn : Title → ℕ → A → A) (i : ℕ) (r : List ℕ) (at : ℕ) (x : A) (f : Found) (o : OwnRead) (s : List ℕ)
    (met : Meets r at i f o s) where
  abbrev before : Title
  before = title_at (unpacked r).state i

  kept_own : (f : Found) →
      pick (own_read i before (read_next (unpacked r) at f)).own (turn before (read_next (unpacked r) at f).time x) x
      ≡ kept_read (heard_own turn i) (unpacked r) x f
  unfolding read_next kept_read heard_own
  kept_own (found.At n e) = refl
  kept_own found.End = refl
  kept_own found.Malformed = refl

  own : (y : A) → y ≡ pick o.own (turn o.before o.time x) x → PlayedStep (heard_own turn i) r at x f s o.played y
  own y e =
      record {
        row_read = met.row_read;
        played_is = ap (λ (q : OwnRead). q.played) met.is ∙ read_played (unpacked r) at f;
        kept_is = e ∙ ap (λ (q : OwnRead). pick q.own (turn q.before q.time x) x) met.is ∙ kept_own f;
      }

  pub steps_own : (y : A) → o.own ≡ true → y ≡ turn o.before o.time x → PlayedStep (heard_own turn i) r at x f s o.played y
  steps_own y mine e = own y (rw mine e)

  pub steps_past : o.own ≡ false → PlayedStep (heard_own turn i) r at x f s o.played x
  steps_past other = own x (rw other refl)
