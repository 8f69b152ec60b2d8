-- The refusals as the code meets its cases, and what a log that is played to its end comes to. Rests on the laws of listed
-- refusals and on `told_all`: once no event follows, all marks are those of the title's life.
use mathlib.Core.Path.{◌≡◌, refl, sym, ap, ◌∙◌}
use mathlib.Core.Bool.{Bool, true, false, not}
use mathlib.Core.List.{List}
use Prim.Native.Nat.{ℕ, ◌≤◌}
use native.Mathlib.Omega.{arith}
use borrow.Author.Tests.{leb-true}
use lib.Dec.{leb}
use lib.ListN.{length}
use Rattle.rules.specs.Limits.{within, pool_min, pool_max, id_max}
use Rattle.rules.specs.Refusals.{pick, first_hit, done, not_there, malformed}
use Rattle.rules.proofs.Tests.{both_l, both_r}
use Rattle.notice.specs.Log.{Bytes, notices_of, is_whole_log}
use Rattle.plans.specs.Row.{written}
use Rattle.story.specs.declared.Title.{Title}
use Rattle.story.specs.Kept.{title_at}
use Rattle.logs.specs.declared.PlayedLog.{PlayedLog}
use Rattle.agent.specs.declared.Agent.{Agent}
use Rattle.agent.specs.Played.{agent_played, life_in}
use Rattle.agent_rows.specs.Packed.{unpacked}
use Rattle.logs.specs.Reading.{Plays}
use Rattle.agent.proofs.Played.{log_series}
use Rattle.airing.specs.declared.follow.Ending.{Ending}
use Rattle.airing.specs.Air.{in_limits, is_film_title, mark_of}
use Rattle.airing.specs.Reasons.{is_steady_life}
use Rattle.airing.specs.inner.Steps.{marked_to, Markable, heard_marks, told_marks, SameFilm, log_answer, is_film_slot, is_steady_slot, followed_answer, Follows}
use Rattle.airing.proofs.Marking.{told_length, told_film, told_steady, told_markable, told_standing, told_all}

abbrev pub ending_of : ℕ → Title → Ending
ending_of a t = record { answer = a; title = t }

-- ---- pool and title within their limits

module _ (pool i : ℕ) (fits : in_limits pool i ≡ true) where
  pub pool_in_holds : within pool_min pool_max pool ≡ true
  pool_in_holds = both_l (within pool_min pool_max pool) (leb i id_max) fits

  pub id_low : i ≤ id_max
  id_low = leb-true i id_max (both_r (within pool_min pool_max pool) (leb i id_max) fits)

  -- ---- a log that was played to where its reading stops

  module _ (log row r : List ℕ) (p : PlayedLog) (m : List ℕ) (all : Plays (heard_marks i) pool log row r p m) (small : Bytes log) (t : Title)
      (at : t ≡ title_at (unpacked r).state i) (a : ℕ) (is : a ≡ followed_answer p.place (length log) t) where
    abbrev stands : Title
    stands = title_at (agent_played pool log).state i

    here : t ≡ stands
    here = at ∙ ap (λ (g : Agent). title_at g.state i) all.agent_is

    film : is_film_title (life_in pool log i) ≡ is_film_slot stands
    film = told_film pool i id_low row _ (notices_of log) (log_series log small (length log))

    steady : is_steady_life (life_in pool log i) ≡ is_steady_slot t
    steady = rw here (told_steady pool i id_low row _ (notices_of log) (log_series log small (length log)))

    answers : a ≡ log_answer pool log i
    unfolding followed_answer log_answer first_hit
    answers =
        is ∙ rw (all.place_is, here, ← film) (go (is_whole_log log) (is_film_title (life_in pool log i)))
      where
        go : (x y : Bool) → pick x (pick y done not_there) malformed ≡ pick (not x) malformed (pick (not y) not_there done)
        go true true = refl
        go true false = refl
        go false y = refl

    -- an answer that is done is a film's
    slot_film : a ≡ done → is_film_slot stands ≡ true
    unfolding followed_answer
    slot_film ok = go (leb (length log) p.place) (is_film_slot stands) (rw here at (sym is ∙ ok))
      where
        go : (x y : Bool) → pick x (pick y done not_there) malformed ≡ done → y ≡ true
        go true true h = refl
        go true false h = absurd (omega arith)
        go false y h = absurd (omega arith)

    pub markable : a ≡ done → Markable t
    markable ok =
        rw here (told_markable pool i id_low row _ (notices_of log) (log_series log small (length log)) (slot_film ok))

    pub follows_refused : (a ≡ done → ⊥) → Follows pool log i row (ending_of a t) m
    follows_refused not-ok =
        record {
          ends = record { answer_is = answers; standing = λ ok. absurd (not-ok ok); steady_is = steady };
          marks_are = λ ok. absurd (not-ok ok);
        }

    pub follows_done : (k : List ℕ) → a ≡ done → k ≡ marked_to t (length m) m → Follows pool log i row (ending_of a t) k
    follows_done k ok marked =
        record {
          ends = record { answer_is = answers; standing = λ h. stood; steady_is = steady };
          marks_are = λ h. marked ∙ rw (here, all.kept_is, told_length pool i row (notices_of log)) whole;
        }
      where
        stood : SameFilm (life_in pool log i) t
        stood =
            rw here (told_standing pool i id_low row _ (notices_of log) (log_series log small (length log)) (slot_film ok))

        whole : marked_to stands (length row) (told_marks pool i row (notices_of log)) ≡ written (mark_of (life_in pool log i)) row (length row)
        whole = told_all pool i id_low row _ (notices_of log) (log_series log small (length log)) (slot_film ok)
