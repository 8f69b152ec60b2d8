-- The listing of a log, whatever its bytes and whatever agent hears it: repeated steps are the agent after the log's notices, and
-- what they print is the listing of those notices, with one line more where the log is not whole.
-- Rests on what a step promises, on places that are decided, and on a log being read through.
use mathlib.Core.Path.{◌≡◌, refl, sym, ap, ◌∙◌}
use mathlib.Core.Bool.{Bool, true, false}
use mathlib.Core.List.{List, [], ◌++◌, map}
use Prim.Native.Nat.{ℕ, suc, ◌+◌}
use lib.ListN.{length, take}
use Rattle.rules.specs.Refusals.{pick}
use Rattle.rules.proofs.Tests.{fails}
use Rattle.notice.specs.declared.Notice.{Notice}
use Rattle.notice.specs.declared.Found.{Found}
use Rattle.notice.specs.declared.Found.TheVariants as found
use Rattle.notice.specs.Decode.{read_at, place_after, further}
use Rattle.notice.specs.Encode.{bytes_of}
use Rattle.notice.specs.Log.{Bytes, place_to, is_notice, with_found, notices_to, notices_of, stop_of, is_whole_log}
use Rattle.notice.specs.Window.{is_decided, Seen, Unfinished}
use Rattle.notice.proofs.CaseSplits.{false_true}
use Rattle.notice.proofs.Windows.{seen_reads}
use Rattle.notice.proofs.Undecided.{unfinished}
use Rattle.notice.proofs.ReadThrough.{Stopped, stopped_on, all_read, last_read}
use Rattle.agent.specs.declared.Agent.{Agent}
use Rattle.agent.specs.Turns.{fresh_agent}
use Rattle.agent.specs.Series.{agent_after}
use Rattle.agent.specs.Played.{agent_told}
use Rattle.agent.proofs.Played.{told_more, played}
use Rattle.listing_io.specs.declared.input.Printed.{Printed}
use Rattle.listing_io.specs.declared.input.Shown.{Shown}
use Rattle.listing_io.specs.Step.{cut_line, line_after, Shows}
use Rattle.listing_io.specs.Listing.{lines_of, listing_of, Run, nothing_listed, step_listed, Drained}
use Rattle.listing_io.proofs.Decided.{same_line, same_notices, same_more, same_place}
use Rattle.listing_io.proofs.StepPlaces.{low}

-- ---- one step

-- what a step leaves and prints, told by what the log itself has at the place
record Step (g : Agent) (f : Found) (p : ℕ) (h : Agent) (place : ℕ) (more : Bool) (line : List ℕ) : Type 0 where
  pub agent : h ≡ agent_told g (with_found f [])
  pub at : place ≡ place_after f p
  pub goes_on : more ≡ is_notice f
  pub prints : line ≡ line_after g f

on_log : (g : Agent) (log buffer : List ℕ) (place p : ℕ) (s : Seen log place buffer p) (r : Shown)
    → Shows g (read_at buffer p) p r
    → Step g (read_at log place) place r.listed.agent (length s.before + r.listed.place) r.listed.more
    (take r.listed.size r.row)
on_log g log buffer place p s r w =
    let d = length s.before in
    let f = read_at buffer p in
    let h = w.hears in
    let made : Step g (further d f) (d + p) r.listed.agent (d + r.listed.place) r.listed.more
    (take r.listed.size r.row) =
    record {
      agent = h.agent_is ∙ ap (agent_told g) (same_notices d f);
      at = ap (λ (q : ℕ). d + q) h.place_is ∙ same_place d p f;
      goes_on = h.more_is ∙ same_more d f;
      prints = w.prints ∙ same_line g d f;
    } in
    rw (← seen_reads log buffer place p s, ← s.there) at made

-- ---- a run

-- after so many reads: the agent and the place of those reads, and the lines of their notices, or the whole listing
pub record SoFar (g : Agent) (log : List ℕ) (h : Agent) (place : ℕ) (more : Bool) (text : List ℕ) : Type 0 where
  pub reads : ℕ
  pub agent : h ≡ agent_told g (notices_to log reads)
  pub at : place ≡ place_to log reads
  pub going : more ≡ true → text ≡ lines_of g (notices_to log reads)
  pub stopped : more ≡ false → Stopped log reads
  pub ended : more ≡ false → text ≡ listing_of g log

lines_more : (g : Agent) (ns : List Notice) (f : Found) → is_notice f ≡ true
    → lines_of g ns ++ line_after (agent_told g ns) f ≡ lines_of g (with_found f ns)
unfolding lines_of
lines_more g ns (found.At n e) h = refl
lines_more g ns found.End h = false_true h
lines_more g ns found.Malformed h = false_true h

-- where reading stops the last line is the listing's last
last_line_lem : (g : Agent) (b : Bool) → line_after g (pick b found.End found.Malformed) ≡ pick b [] (cut_line g)
last_line_lem g true = refl
last_line_lem g false = refl

all_lines : (g : Agent) (log : List ℕ) (n : ℕ) → Stopped log n
    → lines_of g (notices_to log n) ++ line_after (agent_told g (notices_to log n)) (read_at log (place_to log n))
    ≡ listing_of g log
unfolding listing_of
all_lines g log n h =
    let all = all_read log n h in
    rw (all.0, all.1, last_read log)
    (ap (λ (s : List ℕ). lines_of g (notices_of log) ++ s) (last_line_lem _ (is_whole_log log)))

step_more : (g : Agent) (log : List ℕ) (h k : Agent) (place after : ℕ) (more : Bool) (text line : List ℕ)
    → SoFar g log h place true text → Step h (read_at log place) place k after more line
    → SoFar g log k after more (text ++ line)
unfolding place_to notices_to
step_more g log h k place after more text line t s =
    let n = t.reads in
    let f = read_at log (place_to log n) in
    let ns = notices_to log n in
    let there : read_at log place ≡ f = ap (read_at log) t.at in
    let on : more ≡ is_notice f = s.goes_on ∙ ap is_notice there in
    let printed : text ++ line ≡ lines_of g ns ++ line_after (agent_told g ns) f =
    rw (t.going refl, s.prints, there, t.agent) refl in
    record {
      reads = suc n;
      agent = s.agent ∙ rw (there, t.agent) (told_more g ns f);
      at = s.at ∙ rw (there, t.at) refl;
      going = λ q. printed ∙ lines_more g ns f (sym on ∙ q);
      stopped = λ q. stopped_on log n (sym on ∙ q);
      ended = λ q. printed ∙ all_lines g log n (sym on ∙ q);
    }

pub so_far_holds : (g : Agent) (log : List ℕ) (h : Agent) (place : ℕ) (more : Bool) (text : List ℕ)
    → Run g log h place more text
    → SoFar g log h place more text
unfolding place_to notices_to agent_told lines_of
so_far_holds g log h place more text nothing_listed =
    record {
      reads = 0;
      agent = refl;
      at = refl;
      going = λ _. refl;
      stopped = λ q. false_true (sym q);
      ended = λ q. false_true (sym q);
    }
so_far_holds g log h place more text (step_listed {h = k} {place = before} {p = p} {text = said} {buffer = buffer} {r = r} run s w) =
    step_more g log k _ before _ _ said _ (so_far_holds g log k before true said run) (on_log k log buffer before p s r w)

-- ---- the theorem

-- a listing that has ended has printed the log's listing, and its agent is the agent after the log's notices
pub listed : (g : Agent) (log : List ℕ) (h : Agent) (place : ℕ) (text : List ℕ) → Run g log h place false text
    → (h ≡ agent_told g (notices_of log)) × (text ≡ listing_of g log)
listed g log h place text run =
    let t = so_far_holds g log h place false text run in
    (t.agent ∙ ap (agent_told g) (all_read log t.reads (t.stopped refl)).1, t.ended refl)

-- heard by a fresh agent of a pool, that is the agent of the agent's page after the log's notices, each in its own bytes
pub listed_fresh : (pool : ℕ) (log : List ℕ) → Bytes log → (h : Agent) (place : ℕ) (text : List ℕ)
    → Run (fresh_agent pool) log h place false text → h ≡ agent_after pool (map bytes_of (notices_of log))
listed_fresh pool log small h place text run = (listed (fresh_agent pool) log h place text run).0 ∙ played pool log small

-- what was read at the input's end is listed to where the log's reading stops, where every line was written
pub drained_all : (g : Agent) (log : List ℕ) (r : Printed) → Drained g log true r → r.written ≡ true
    → (r.listed.place ≡ stop_of log) × (r.listed.agent ≡ agent_told g (notices_of log))
unfolding is_decided
drained_all g log r d written =
    let u = d.up_to in
    let over : r.listed.more ≡ false = fails r.listed.more (λ q. false_true (sym (d.undecided written q))) in
    let all = all_read log u.reads (rw u.place_is at (u.stopped over)) in
    (u.place_is ∙ all.0, u.agent_is ∙ ap (agent_told g) all.1)

-- before the end it is listed up to where a notice is unfinished: every one of which all bytes were read has its line
pub drained_unfinished : (g : Agent) (log : List ℕ) (r : Printed) → Drained g log false r → r.written ≡ true
    → r.listed.more ≡ true
    → Unfinished log r.listed.place
drained_unfinished g log r d written more =
    unfinished log r.listed.place (low g log r.listed d.up_to) (d.undecided written more)
