-- What is drawn of a log, as the code meets its cases. Rests on the definitions, and on what a read makes of the row.
use Prim.Native.Nat.{ℕ, ◌≤◌, ◌<◌}
use mathlib.Core.Path.{◌≡◌, refl, sym, ap, ◌∙◌}
use mathlib.Core.Bool.{Bool, true, false}
use mathlib.Core.List.{List}
use borrow.Author.Tests.{eq-eqb, ne_eqb, le-leb, lt-leb}
use lib.Dec.{leb, eqb}
use Rattle.rules.specs.Limits.{both, id_max, titles_max}
use Rattle.rules.specs.Refusals.{pick, done}
use Rattle.notice.specs.declared.Found.{Found}
use Rattle.notice.specs.declared.Found.TheVariants as found
use Rattle.story.specs.declared.Title.{Title}
use Rattle.story.specs.Kept.{title_at}
use Rattle.agent.specs.declared.Agent.{Agent}
use Rattle.agent.specs.Played.{agent_played}
use Rattle.agent_rows.specs.Packed.{unpacked}
use Rattle.logs.specs.declared.ReadOn.{ReadOn}
use Rattle.logs.specs.declared.PlayedLog.{PlayedLog}
use Rattle.logs.specs.Reading.{stepped, agent_read, kept_read, read_next, PlayedStep, ReadsLog, Plays}
use Rattle.spans.specs.declared.Extent.{Extent}
use Rattle.spans.specs.Extents.{no_extent, widened, heard_extent, latest_over, measure_of}

-- ---- one read more

-- an accepted event was read of a title that there is
abbrev pub counts : ReadOn → Bool
counts o = both o.played.more (both (eqb o.answer done) (leb o.title id_max))

pub counts_all : (o : ReadOn) → (o.played.more ≡ true) × (o.answer ≡ done) × (o.title ≤ id_max) → counts o ≡ true
counts_all o all = simp (all.0, eq-eqb _ _ all.1, le-leb _ _ all.2)

pub counts_late : (o : ReadOn) → (o.played.more ≡ true) × (o.answer ≡ done) × (id_max < o.title) → counts o ≡ false
counts_late o all = simp (all.0, eq-eqb _ _ all.1, lt-leb _ _ all.2)

pub counts_refused : (o : ReadOn) → (o.played.more ≡ true) × (o.answer ≡ done → ⊥) → counts o ≡ false
counts_refused o all = simp (all.0, ne_eqb _ _ all.1)

pub counts_none : (o : ReadOn) → o.played.more ≡ false → counts o ≡ false
counts_none o h = simp h

module _ (r : List ℕ) (at : ℕ) (x : Extent) (f : Found) (o : ReadOn) (s : List ℕ) (read : ReadsLog r at f o s) where
  read_played : (f : Found) → (read_next (unpacked r) at f).played ≡ stepped at f
  unfolding read_next stepped
  read_played (found.At n e) = refl
  read_played found.End = refl
  read_played found.Malformed = refl

  abbrev after : ReadOn → Agent → Extent
  after o g = pick (counts o) (widened x o.title o.time (title_at g.state o.title).film.cap) x

  kept_heard : (f : Found) → after (read_next (unpacked r) at f) (agent_read (unpacked r) f) ≡ kept_read heard_extent (unpacked r) x f
  unfolding read_next kept_read agent_read heard_extent
  kept_heard (found.At n e) = refl
  kept_heard found.End = refl
  kept_heard found.Malformed = refl

  told : (y : Extent) → y ≡ after o (unpacked s) → PlayedStep heard_extent r at x f s o.played y
  told y e =
      record {
        row_read = read.row_read;
        played_is = ap (λ (q : ReadOn). q.played) read.is ∙ read_played f;
        kept_is = e ∙ ap (λ (q : ReadOn). after q (unpacked s)) read.is
            ∙ ap (after (read_next (unpacked r) at f)) read.row_read.agent_is ∙ kept_heard f;
      }

  pub steps_widened : counts o ≡ true → (t : Title) (y : Extent) → t ≡ title_at (unpacked s).state o.title →
      y ≡ widened x o.title o.time t.film.cap → PlayedStep heard_extent r at x f s o.played y
  steps_widened h t y is e =
      told y (e ∙ ap (λ (u : Title). widened x o.title o.time u.film.cap) is ∙ sym (rw h refl))

  pub steps_still : counts o ≡ false → PlayedStep heard_extent r at x f s o.played x
  steps_still h = told x (rw h refl)

-- ---- the row as it is then

pub measured : (pool : ℕ) (log r : List ℕ) (p : PlayedLog) (x : Extent) → Plays heard_extent pool log no_extent r p x → (end : ℕ) →
    end ≡ latest_over (unpacked r).state titles_max → record { extent = x; end = end; stop = p.place } ≡ measure_of pool log
unfolding measure_of
measured pool log r p x w end e =
    let last : end ≡ latest_over (agent_played pool log).state titles_max =
    e ∙ ap (λ (g : Agent). latest_over g.state titles_max) w.agent_is in
    rw (last, w.place_is, w.kept_is) refl
