-- What the call gives back, way by way. Rests on the laws of one count and on the definition of the refusals.
use mathlib.Core.Path.{◌≡◌, refl, sym, ap, ◌∙◌}
use mathlib.Core.Bool.{true, false}
use mathlib.Core.List.{List}
use Prim.Native.Nat.{ℕ, ◌+◌, ◌≤◌, ◌<◌, ◌^◌}
use native.Mathlib.Omega.{arith}
use borrow.Author.Tests.{eq-eqb, ne_eqb, lt-leb, le-leb}
use lib.ListN.{length}
use Rattle.rules.specs.Limits.{within, pool_min, pool_max}
use Rattle.rules.specs.Refusals.{first_hit, done, outside_limits, malformed}
use Rattle.notice.specs.declared.Found.{Found}
use Rattle.notice.specs.declared.Found.TheVariants as found
use Rattle.notice.specs.Decode.{read_at}
use Rattle.notice.specs.Log.{notices_of, stop_of}
use Rattle.notice.proofs.CaseSplits.{false_true}
use Rattle.notice.proofs.NoticePlaces.{inside}
use Rattle.logs.specs.declared.PlayedLog.{PlayedLog}
use Rattle.logs.specs.declared.ReadOn.{ReadOn}
use Rattle.agent_rows.specs.Packed.{unpacked}
use Rattle.logs.specs.Reading.{read_next, ReadsLog, Plays}
use Rattle.unheard.specs.declared.MissedTally.{MissedTally}
use Rattle.unheard.specs.declared.Unheard.{Unheard}
use Rattle.unheard.specs.Unheard.{none_told, refused_unheard, unheard_answer, unheard_in}
use Rattle.unheard.specs.inner.Steps.{counted, heard_count, RoomToCount, Small}
use Rattle.unheard.proofs.Counting.{tally, told_tally_lem}

-- ---- one notice

module _ (t : MissedTally) (a : ℕ) where
  pub counts_heard : a ≡ done → tally (t.notices + 1) t.missed t.first t.said ≡ counted t a
  unfolding counted
  counts_heard ok = rw (eq-eqb a done ok) refl

  module _ (not-ok : a ≡ done → ⊥) where
    pub counts_first : t.missed ≡ 0 → tally (t.notices + 1) (t.missed + 1) (t.notices + 1) a ≡ counted t a
    unfolding counted
    counts_first none = rw (ne_eqb a done not-ok, eq-eqb t.missed 0 none) refl

    pub counts_later : (t.missed ≡ 0 → ⊥) → tally (t.notices + 1) (t.missed + 1) t.first t.said ≡ counted t a
    unfolding counted
    counts_later some = rw (ne_eqb a done not-ok, ne_eqb t.missed 0 some) refl

-- a notice that a log has at a place leaves room to count it
pub roomy : (log row : List ℕ) (place : ℕ) (t : MissedTally) (o : ReadOn) (left : List ℕ) → Small place t →
    ReadsLog row place (read_at log place) o left → o.played.more ≡ true → o.played.place < 2 ^ 64 → RoomToCount t
unfolding read_next
roomy log row place t o left s read more typed =
    go (read_at log place) refl (ap (λ (z : ReadOn). z.played.more) (sym read.is) ∙ more) (rw read.is at typed)
  where
    go : (f : Found) → read_at log place ≡ f → (read_next (unpacked row) place f).played.more ≡ true →
        (read_next (unpacked row) place f).played.place < 2 ^ 64 → RoomToCount t
    go (found.At n e) at going fits =
        let i = inside log place n e at in
        record { fits = omega (arith, s.few, i.ahead); missed_low = s.missed_low }
    go found.End at going fits = false_true going
    go found.Malformed at going fits = false_true going

-- ---- the call

abbrev tells : MissedTally → Unheard
tells t = record { answer = done; tally = t }

module _ (pool : ℕ) (log : List ℕ) where
  refuses : (a : ℕ) (r : Unheard) → r ≡ refused_unheard a → a ≡ unheard_answer pool log → (a ≡ done → ⊥) → r ≡ unheard_in pool log
  unfolding unheard_in
  refuses a r e is not-ok = rw (ne_eqb (unheard_answer pool log) done (λ h. not-ok (is ∙ h)), ← is) e

  pub outside : (r : Unheard) → r ≡ refused_unheard outside_limits → within pool_min pool_max pool ≡ false → r ≡ unheard_in pool log
  unfolding unheard_answer first_hit
  outside r e out = refuses outside_limits r e (rw out refl) (λ h. omega arith)

  module _ (fits : within pool_min pool_max pool ≡ true) (row : List ℕ) (p : PlayedLog) (t : MissedTally) (all : Plays heard_count pool log none_told row p t) where
    pub cut : (r : Unheard) → r ≡ refused_unheard malformed → p.place < length log → r ≡ unheard_in pool log
    unfolding unheard_answer first_hit
    cut r e short =
        let stop : stop_of log < length log = rw all.place_is at short in
        refuses malformed r e (rw (fits, lt-leb (length log) (stop_of log) stop) refl) (λ h. omega arith)

    whole : length log ≤ p.place → unheard_answer pool log ≡ done
    unfolding unheard_answer first_hit
    whole far =
        let stop : length log ≤ stop_of log = rw all.place_is at far in
        rw (fits, le-leb (length log) (stop_of log) stop) refl

    pub told : length log ≤ p.place → tells t ≡ unheard_in pool log
    unfolding unheard_in
    told far =
        rw (eq-eqb (unheard_answer pool log) done (whole far)) (ap tells (all.kept_is ∙ told_tally_lem pool (notices_of log)))
