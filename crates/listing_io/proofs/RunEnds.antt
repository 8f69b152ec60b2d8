-- Every log has a run of the listing that ends: so many steps as it has bytes, and one more.
-- Rests on a log being read through.
use mathlib.Core.Path.{◌≡◌, refl, sym}
use mathlib.Core.Bool.{true, false}
use mathlib.Core.List.{List, [], ◌++◌, append-nil}
use mathlib.Core.Logic.{◌⊎◌, inl, inr, ⊎_elim}
use Prim.Native.Nat.{ℕ, zero, suc}
use native.Mathlib.Nat.{zero-add}
use native.Mathlib.Omega.{arith}
use lib.ListN.{length, take}
use lib.Seq.{take_all}
use Rattle.rules.proofs.Tests.{decide}
use Rattle.notice.specs.declared.Found.{Found}
use Rattle.notice.specs.Decode.{read_at, place_after}
use Rattle.notice.specs.Log.{place_to, is_notice, with_found, stop_of}
use Rattle.notice.specs.Window.{Seen}
use Rattle.notice.proofs.Windows.{at_end_decided}
use Rattle.notice.proofs.ReadThrough.{enough}
use Rattle.agent.specs.declared.Agent.{Agent}
use Rattle.agent.specs.Played.{agent_told}
use Rattle.listing_io.specs.declared.input.Shown.{Shown}
use Rattle.listing_io.specs.Step.{line_after, Shows}
use Rattle.listing_io.specs.Listing.{Run, nothing_listed, step_listed}

-- a step that keeps its promise, on the whole log
abbrev made : Agent → Found → ℕ → Shown
made g f p =
    record {
      listed = record {
        agent = agent_told g (with_found f []);
        place = place_after f p;
        size = length (line_after g f);
        more = is_notice f;
      };
      row = line_after g f;
    }

keeps : (g : Agent) (f : Found) (p : ℕ) → Shows g f p (made g f p)
keeps g f p =
    record {
      hears = record { agent_is = refl; place_is = refl; more_is = refl };
      prints = take_all (length (line_after g f)) (line_after g f) (omega arith);
      fits = omega arith;
    }

abbrev here : (log : List ℕ) (p : ℕ) → Seen log p log p
here log p =
    record {
      before = [];
      later = [];
      over = true;
      is = sym (append-nil log);
      there = sym (zero-add p);
      ended = λ _. refl;
      decided = at_end_decided log p;
    }

-- a run that has ended
pub record Ended (g : Agent) (log : List ℕ) : Type 0 where
  pub agent : Agent
  pub place : ℕ
  pub text : List ℕ
  pub run : Run g log agent place false text

module _ (g : Agent) (log : List ℕ) where
  -- one step more
  one_step : (h : Agent) (place : ℕ) (text : List ℕ) → Run g log h place true text
      → Run g log (agent_told h (with_found (read_at log place) [])) (place_after (read_at log place) place)
      (is_notice (read_at log place))
      (text ++ take (length (line_after h (read_at log place))) (line_after h (read_at log place)))
  one_step h place text w =
      rw zero-add at (step_listed w (here log place) (keeps h (read_at log place) place))

  -- with no notice there it has ended
  stops : (h : Agent) (place : ℕ) (text : List ℕ) → Run g log h place true text → is_notice (read_at log place) ≡ false
      → Ended g log
  stops h place text w none = record { agent = _; place = _; text = _; run = rw none at (one_step h place text w) }

  -- n reads: it has ended, or is on its way
  record Going (n : ℕ) : Type 0 where
    pub agent : Agent
    pub text : List ℕ
    pub run : Run g log agent (place_to log n) true text

  to : (n : ℕ) → Ended g log ⊎ Going n
  unfolding place_to
  to zero = inr (record { agent = g; text = []; run = nothing_listed })
  to (suc n) =
      ⊎_elim inl
      (λ w.
      ⊎_elim
      (λ more.
      inr (record { agent = _; text = _; run = rw more at (one_step w.agent (place_to log n) w.text w.run) }))
      (λ none. inl (stops w.agent (place_to log n) w.text w.run none))
      (decide (is_notice (read_at log (place_to log n)))))
      (to n)

  pub ends : Ended g log
  ends = ⊎_elim (λ e. e) (λ w. stops w.agent (stop_of log) w.text w.run (enough log)) (to (length log))
