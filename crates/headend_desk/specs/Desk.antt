-- What a line of the head-end is answered, and what it leaves: the agent, the notice that it writes, and the notice's sum. Lines mean what the
-- console's mean (`console_lines` specs/Lines), but that `fresh` and `notice` are unknown words; an event that is accepted is the next
-- notice; everything else is answered as the console does (`console_desk` specs/Desk).
use Rattle.std.specs.Prelude.{ℕ, suc, ◌+◌, ◌≤◌, ◌≡◌, Bool, List, [], ◌++◌, eqb, ltb, leb}
use Rattle.rules.specs.Limits.{both, either, within}
use Rattle.rules.specs.Refusals.{pick, done, out_of_turn}
use Rattle.story.specs.declared.Event.{Event}
use Rattle.story.specs.Runs.{answered, called}
use Rattle.sums.specs.Crc.{sum_of, sum_size}
use Rattle.notice_fields.specs.Fields.{longest_notice}
use Rattle.notice_fields.specs.Numbers.{big_endian}
use Rattle.notice.specs.Encode.{bytes_of}
use Rattle.agent.specs.declared.Agent.{Agent}
use Rattle.agent.specs.Series.{notice_for}
use Rattle.text.specs.declared.bytes.Sort.TheVariants.{Separator}
use Rattle.text.specs.Bytes.{run_end}
use Rattle.text.specs.Numbers.{four_bytes_most}
use Rattle.text.specs.Output.{Written}
use Rattle.console_commands.specs.Commands
use Rattle.console_lines.specs.declared.lines.Line.{Line}
use Rattle.console_lines.specs.Lines.{begun, meaning}
use Rattle.console_answers.specs.Entries.{entry}
use Rattle.console_acts.specs.Events.{event_in}
use Rattle.console_acts.specs.Named.{named_in}
use Rattle.console_desk.specs.Behind.{behind_in}
use Rattle.console_desk.specs.Desk.{followed_text, line_end, fault_line, line_text}
use Rattle.headend_desk.specs.declared.Desk.{Desk}

-- ---- which line it is

-- the commands whose words the head-end does not know
abbrev pub is_apart : ℕ → Bool
is_apart c = either (eqb c Commands.do_fresh) (eqb c Commands.do_notice)

-- the first word of the line is such a word: it is unknown, whatever stands behind it
abbrev pub starts_apart : List ℕ → Bool
starts_apart s = is_apart (begun s).command

-- a line with nothing wrong that says an event
abbrev pub is_event_of : Line → Bool
is_event_of l = both (eqb l.fault Commands.no_fault) (within Commands.do_open Commands.do_skip l.command)

abbrev pub is_event_line : List ℕ → Bool
is_event_line s = is_event_of (meaning s)

-- ---- an event

-- what it is answered: as by the scheduler, but 12 where it would be accepted and no sequence is left for its notice
unfoldable pub head_answer : Agent → Event → ℕ
head_answer g e =
    pick (eqb (answered g.state e) done) (pick (ltb g.sequence four_bytes_most) done out_of_turn) (answered g.state e)

-- the agent after it: the next sequence and the scheduler's next state, or as it was where it is refused
unfoldable pub head_next : Agent → Event → Agent
head_next g e =
    pick (eqb (head_answer g e) done) (record { sequence = suc g.sequence; state = called g.state e }) g

-- its answer: 0, the lanes held and the sequence of its notice, or the refusal in the console's words; what to type next stands behind it
unfoldable pub head_told : ℕ → Agent → ℕ → List ℕ
head_told a after named = followed_text a after named ++ pick (eqb a done) (entry after.sequence) []

unfoldable pub answer_line : ℕ → Agent → Agent → Line → List ℕ → List ℕ
answer_line a after g l s = (head_told a after (named_in a g l s) ++ behind_in a g l s) ++ line_end

unfoldable pub event_text : Agent → Line → List ℕ → List ℕ
event_text g l s = answer_line (head_answer g (event_in l)) (head_next g (event_in l)) g l s

-- the bytes of its notice, which has the next sequence, and their sum in four bytes
abbrev pub next_bytes : Agent → Event → List ℕ
next_bytes g e = bytes_of (notice_for (suc g.sequence) e)

abbrev pub sum_text : List ℕ → List ℕ
sum_text bs = big_endian sum_size (sum_of bs)

-- what it writes to the notices, and to the sums: nothing where it is refused
unfoldable pub event_notice : Agent → Event → List ℕ
event_notice g e = pick (eqb (head_answer g e) done) (next_bytes g e) []

unfoldable pub event_sum : Agent → Event → List ℕ
event_sum g e = pick (eqb (head_answer g e) done) (sum_text (next_bytes g e)) []

-- ---- a line

-- what a line that says no event is answered: its first word is unknown here, or as the console answers it
unfoldable pub other_text : Agent → List ℕ → List ℕ
other_text g s = pick (starts_apart s) (fault_line Commands.unknown_word (run_end Separator s 0) Commands.none) (line_text g s)

unfoldable pub head_text : Agent → List ℕ → List ℕ
head_text g s = pick (is_event_line s) (event_text g (meaning s) s) (other_text g s)

-- only an event changes the agent, and only an event writes to the notices and to their sums
unfoldable pub head_after : Agent → List ℕ → Agent
head_after g s = pick (is_event_line s) (head_next g (event_in (meaning s))) g

unfoldable pub head_notice : Agent → List ℕ → List ℕ
head_notice g s = pick (is_event_line s) (event_notice g (event_in (meaning s))) []

unfoldable pub head_sum : Agent → List ℕ → List ℕ
head_sum g s = pick (is_event_line s) (event_sum g (event_in (meaning s))) []

-- what a call leaves: an agent, and in each of the three lent rows what was written there at the desk's place of it
pub record Leaves (g : Agent) (text notice sum : List ℕ) (d : Desk) (out notices sums : List ℕ) (after : Desk)
    (out' notices' sums' : List ℕ) : Type 0 where
  pub agent : after.agent ≡ g
  pub answered : Written out d.at text out' after.at
  pub noticed : Written notices d.noticed notice notices' after.noticed
  pub summed : Written sums d.summed sum sums' after.summed

abbrev pub Replies : Desk → List ℕ → (out notices sums : List ℕ) → Desk → (out' notices' sums' : List ℕ) → Type 0
Replies d s =
    Leaves (head_after d.agent s) (head_text d.agent s) (head_notice d.agent s) (head_sum d.agent s) d

-- whether the longest notice and its sum fit behind the places of two rows of so many bytes
abbrev pub room_left : ℕ → ℕ → ℕ → ℕ → Bool
room_left noticed notices summed sums =
    both (leb (noticed + longest_notice) notices) (leb (summed + sum_size) sums)
