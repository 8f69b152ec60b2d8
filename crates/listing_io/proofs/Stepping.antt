-- Laws of one step: by what stands at the place, what the agent, the line and the place after it are.
-- Rest on the definitions alone.
use mathlib.Core.Path.{◌≡◌, refl, ap, ◌∙◌}
use mathlib.Core.Bool.{true, false}
use mathlib.Core.List.{List}
use Prim.Native.Nat.{ℕ}
use Rattle.rules.specs.Refusals.{malformed}
use Rattle.notice.specs.declared.Notice.{Notice}
use Rattle.notice.specs.declared.Reading.TheVariants as reading
use Rattle.notice.specs.declared.Found.{Found}
use Rattle.notice.specs.declared.Found.TheVariants as found
use Rattle.notice.specs.Encode.{kind_of}
use Rattle.agent.specs.declared.Agent.{Agent}
use Rattle.agent.specs.Turns.{notice_answer, noticed}
use Rattle.agent.specs.Played.{agent_told}
use Rattle.text.specs.Output.{page, puts}
use Rattle.listing_io.specs.declared.steps.ListedStep.{ListedStep}
use Rattle.listing_io.specs.Lines.{listing_line, last_line}
use Rattle.listing_io.specs.Step.{held_after, notice_line, cut_line, Lists}

-- no byte more
pub end_step : (g : Agent) (p : ℕ) (room : List ℕ)
    → Lists g found.End p room (record { agent = g; place = p; size = 0; more = false }) room
unfolding agent_told puts
end_step g p room = record { hears = record { agent_is = refl; place_is = refl; more_is = refl }; line_is = refl }

module _ (g : Agent) (room after : List ℕ) (size : ℕ) where
  -- a notice: what the agent makes of it, and the line of its answer
  pub notice_step : (n : Notice) (e a k held : ℕ) (h : Agent)
      → (a ≡ notice_answer g (reading.Whole n)) × (h ≡ noticed g (reading.Whole n))
      → held ≡ held_after h a n.time → k ≡ kind_of n.kind
      → page after size ≡ puts (page room 0) (listing_line n.sequence k n.title a held)
      → Lists g (found.At n e) e room (record { agent = h; place = e; size = size; more = true }) after
  unfolding agent_told notice_line
  notice_step n e a k held h told lanes kind line =
      let lanes' : held ≡ held_after (noticed g (reading.Whole n)) (notice_answer g (reading.Whole n)) n.time =
      lanes
      ∙ ap (λ (x : Agent). held_after x a n.time) told.1
      ∙ ap (λ (x : ℕ). held_after (noticed g (reading.Whole n)) x n.time) told.0 in
      record {
        hears = record { agent_is = told.1; place_is = refl; more_is = refl };
        line_is = line ∙ ap (puts (page room 0)) (rw (kind, lanes', told.0));
      }

  -- bytes that are no notice
  pub last_step : (p held : ℕ) → held ≡ held_after g malformed 0 → page after size ≡ puts (page room 0) (last_line held)
      → Lists g found.Malformed p room (record { agent = g; place = p; size = size; more = false }) after
  unfolding agent_told cut_line
  last_step p held lanes line =
      record {
        hears = record { agent_is = refl; place_is = refl; more_is = refl };
        line_is = line ∙ ap (puts (page room 0)) (ap last_line lanes);
      }

-- a step of what is found is the step at its place
pub found_step : (g : Agent) (f q : Found) (p : ℕ) (room after : List ℕ) (r : ListedStep) → q ≡ f
    → Lists g f p room r after → Lists g q p room r after
found_step g f q p room after r is s = rw is s

-- a notice's own step is that of any place where it is found
pub notice_at : (g : Agent) (n : Notice) (e p : ℕ) (q : Found) (room after : List ℕ) (r : ListedStep) → q ≡ found.At n e
    → Lists g (found.At n e) e room r after → Lists g q p room r after
notice_at g n e p q room after r is s =
    let h = s.hears in
    let there : Lists g (found.At n e) p room r after =
    record {
      hears = record { agent_is = h.agent_is; place_is = h.place_is; more_is = h.more_is };
      line_is = s.line_is;
    } in
    rw is there
