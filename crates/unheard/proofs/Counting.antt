-- The tally that is kept while a log is played is that of its notices, and none is larger than the place.
-- Rests on what a log has where it gives a notice.
use mathlib.Core.Path.{◌≡◌, refl, ap, ◌∙◌}
use mathlib.Core.Bool.{Bool, true, false}
use mathlib.Core.List.{List, [], ◌∷◌}
use Prim.Native.Nat.{ℕ, zero, suc, ◌≤◌}
use native.Mathlib.Numerals.{add-one}
use native.Mathlib.Omega.{arith}
use lib.Dec.{eqb}
use lib.ListN.{length}
use Rattle.rules.specs.Refusals.{pick, done}
use Rattle.notice.specs.declared.Notice.{Notice}
use Rattle.notice.specs.declared.Found.{Found}
use Rattle.notice.specs.declared.Found.TheVariants as found
use Rattle.notice.specs.Decode.{read_at, place_after}
use Rattle.notice.specs.Log.{place_to, with_found, notices_to}
use Rattle.notice.proofs.NoticePlaces.{inside}
use Rattle.logs.specs.declared.PlayedLog.{PlayedLog}
use Rattle.agent.specs.Turns.{fresh_agent}
use Rattle.logs.specs.Reading.{kept_told}
use Rattle.logs.proofs.Reading.{PlayedTo}
use Rattle.unheard.specs.declared.MissedTally.{MissedTally}
use Rattle.unheard.specs.Unheard.{notice_answered, missed_in, first_in, first_said, tally_in, none_told}
use Rattle.unheard.specs.inner.Steps.{counted, heard_count, Small}

-- ---- the tally of notices

abbrev pub tally : ℕ → ℕ → ℕ → ℕ → MissedTally
tally n m f s = record { notices = n; missed = m; first = f; said = s }

one_more : (pool : ℕ) (ns : List Notice) (n : Notice) → counted (tally_in pool ns) (notice_answered pool ns n) ≡ tally_in pool (n ∷ ns)
unfolding counted missed_in first_in first_said
one_more pool ns n = rw (add-one, add-one) (go (eqb a done) (eqb (missed_in pool ns) 0))
  where
    a : ℕ
    a = notice_answered pool ns n

    m : ℕ
    m = length ns

    go : (ok none : Bool) →
        pick ok (tally (suc m) (missed_in pool ns) (first_in pool ns) (first_said pool ns))
        (pick none (tally (suc m) (suc (missed_in pool ns)) (suc m) a)
        (tally (suc m) (suc (missed_in pool ns)) (first_in pool ns) (first_said pool ns)))
        ≡ tally (suc m) (pick ok (missed_in pool ns) (suc (missed_in pool ns)))
        (pick ok (first_in pool ns) (pick none (suc m) (first_in pool ns)))
        (pick ok (first_said pool ns) (pick none a (first_said pool ns)))
    go true none = refl
    go false true = refl
    go false false = refl

pub told_tally_lem : (pool : ℕ) (ns : List Notice) → kept_told heard_count (fresh_agent pool) none_told ns ≡ tally_in pool ns
unfolding kept_told missed_in first_in first_said
told_tally_lem pool [] = refl
told_tally_lem pool (n ∷ ns) = ap (λ (t : MissedTally). counted t (notice_answered pool ns n)) (told_tally_lem pool ns) ∙ one_more pool ns n

-- ---- its numbers are small

pub missed_few : (pool : ℕ) (ns : List Notice) → missed_in pool ns ≤ length ns
unfolding missed_in
missed_few pool [] = omega arith
missed_few pool (n ∷ ns) = go (eqb (notice_answered pool ns n) done) (missed_few pool ns)
  where
    go : (b : Bool) → missed_in pool ns ≤ length ns → pick b (missed_in pool ns) (suc (missed_in pool ns)) ≤ suc (length ns)
    go true few = omega arith
    go false few = omega arith

-- each notice has a byte at least
few_notices : (log : List ℕ) (k : ℕ) → length (notices_to log k) ≤ place_to log k
unfolding notices_to place_to
few_notices log zero = omega arith
few_notices log (suc k) = go (read_at log (place_to log k)) refl (few_notices log k)
  where
    go : (f : Found) → read_at log (place_to log k) ≡ f → length (notices_to log k) ≤ place_to log k
        → length (with_found f (notices_to log k)) ≤ place_after f (place_to log k)
    go (found.At n e) is few =
        let i = inside log (place_to log k) n e is in
        omega (arith, i.ahead)
    go found.End is few = few
    go found.Malformed is few = few

pub small : (pool : ℕ) (log row : List ℕ) (p : PlayedLog) (t : MissedTally) → PlayedTo heard_count pool log none_told row p t →
    Small p.place t
small pool log row p t w =
    rw (w.kept_is ∙ told_tally_lem pool (notices_to log w.reads), w.place_is)
    (record { few = few_notices log w.reads; missed_low = missed_few pool (notices_to log w.reads) })
