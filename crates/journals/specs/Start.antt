-- What a head-end's start finds in a journal and its sums, and what it plays (the journal's bytes, a CRC-32C of each notice beside them, four
-- bytes each). It passes over the notices once. One that has a sum is played if it has that sum and the agent accepts it; those behind the last
-- sum were never answered, and are only counted.
use Rattle.std.specs.Prelude.{ℕ, zero, suc, ◌+◌, ◌*◌, ◌-◌, ◌/◌, ◌^◌, Bool, true, false, not, List, eqb, leb, ltb, length, take, drop}
use Rattle.rules.specs.Limits.{both, either}
use Rattle.rules.specs.Refusals.{pick, done}
use Rattle.sums.specs.Crc.{sum_of, sum_size}
use Rattle.notice_fields.specs.Fields.{longest_notice}
use Rattle.notice_fields.specs.Numbers.{number_at}
use Rattle.notice.specs.declared.Reading.{Reading}
use Rattle.notice.specs.declared.Reading.TheVariants as reading
use Rattle.notice.specs.declared.Found.{Found}
use Rattle.notice.specs.declared.Found.TheVariants as found
use Rattle.notice.specs.Decode.{read_at}
use Rattle.agent.specs.declared.Agent.{Agent}
use Rattle.agent.specs.Turns.{fresh_agent, notice_answer, noticed}
use Rattle.journals.specs.declared.Start.{Start}
use Rattle.journals.specs.declared.Verdict.{Verdict}
use Rattle.journals.specs.declared.Verdict.TheVariants.{Hearing, Heard, Torn, NoNotice, SumDiffers, Refused, SumsShort, SumsMissing}
use Rattle.journals.specs.Torn.{is_torn, had_kind}

-- the bytes of a sum
abbrev pub sum_bytes : ℕ
sum_bytes = sum_size

-- as many events as one block of input can hold: it has 65,536 bytes, and `hold 0 0` with its newline, the shortest event, has 9
abbrev pub block_events : ℕ
block_events = 65536 / 9

-- ---- how far it has come

abbrev pub is_going : Verdict → Bool
is_going Hearing = true
is_going Heard = false
is_going Torn = false
is_going NoNotice = false
is_going SumDiffers = false
is_going (Refused a) = false
is_going SumsShort = false
is_going SumsMissing = false

-- a journal may be gone on with where all of it was heard, or its end is torn
abbrev pub is_good : Verdict → Bool
is_good Hearing = false
is_good Heard = true
is_good Torn = true
is_good NoNotice = false
is_good SumDiffers = false
is_good (Refused a) = false
is_good SumsShort = false
is_good SumsMissing = false

abbrev pub started_with : ℕ → Verdict → Start
started_with sums v = record { place = 0; heard = 0; behind = 0; cut = 0; sums = sums; verdict = v }

-- at the journal's start: sums that are missing end it, unless the journal is empty
abbrev pub begun_with : ℕ → Bool → ℕ → Start
begun_with journal there sums =
    pick (both (ltb 0 journal) (not there)) (started_with (sums / sum_bytes) SumsMissing) (started_with (sums / sum_bytes) Hearing)

abbrev pub ended_with : Start → Verdict → Start
ended_with s v =
    record { place = s.place; heard = s.heard; behind = s.behind; cut = s.cut; sums = s.sums; verdict = v }

-- a notice of n bytes is played
abbrev pub heard_one : Start → ℕ → Start
heard_one s n =
    record { place = s.place + n; heard = s.heard + 1; behind = s.behind; cut = s.place + n; sums = s.sums; verdict = s.verdict }

-- a notice of n bytes is counted, behind the last sum
abbrev pub passed_one : Start → ℕ → Start
passed_one s n =
    record { place = s.place + n; heard = s.heard; behind = s.behind + 1; cut = s.cut; sums = s.sums; verdict = s.verdict }

-- the next notice has a sum
abbrev pub has_sum : Start → Bool
has_sum s = ltb s.heard s.sums

-- where the sums are cut to; no file has more bytes than 64 bits count
unfoldable pub sums_length : Start → ℕ
sums_length s = pick (leb s.heard ((2 ^ 64 - 1) / sum_bytes)) (s.heard * sum_bytes) (2 ^ 64 - 1)

-- ---- one notice

-- a notice with a sum, of n bytes: its sum first, and then what the agent answers
unfoldable pub after_summed : Start → ℕ → Bool → ℕ → Start
after_summed s n same answer =
    pick same (pick (eqb answer done) (heard_one s n) (ended_with s (Refused answer))) (ended_with s SumDiffers)

-- one without a sum: there may be as many as a block of input can hold
unfoldable pub after_unsummed : Start → ℕ → Start
after_unsummed s n = pick (ltb s.behind block_events) (passed_one s n) (ended_with s SumsShort)

-- bytes that are no whole notice: torn, or 11
unfoldable pub at_stop : Start → List ℕ → ℕ → Verdict
at_stop s rest sum = pick (is_torn rest) (pick (both (has_sum s) (had_kind rest sum)) SumDiffers Torn) NoNotice

-- ---- step by step

-- who hears: what it answers a reading, and what it is then
pub record Hearer (A : Type 0) : Type 0 where
  pub answer : A → Reading → ℕ
  pub after : A → Reading → A

abbrev pub agent_hears : Hearer Agent
agent_hears = record { answer = notice_answer; after = noticed }

-- how far a start has come, and who heard it
pub record Stage (A : Type 0) : Type 0 where
  pub start : Start
  pub hearer : A

abbrev pub stage : {A : Type 0} → Start → A → Stage A
stage s g = record { start = s; hearer = g }

-- what is seen of the files at a time: bytes of the journal from a place on, sums from one on, and whether no byte of the journal follows
pub record View : Type 0 where
  pub journal : List ℕ
  pub sums : List ℕ
  pub first : ℕ
  pub known : ℕ
  pub over : Bool

abbrev pub view : List ℕ → List ℕ → ℕ → ℕ → Bool → View
view j s first known over = record { journal = j; sums = s; first = first; known = known; over = over }

-- the sum of the next notice, 0 where none is seen
abbrev pub sum_at : List ℕ → ℕ → ℕ
sum_at sums k = pick (ltb k (length sums / sum_bytes)) (number_at sums (k * sum_bytes) sum_bytes) 0

-- a place of so many bytes is so far from their end that the longest notice would be there, or no byte will follow: what is read there is
-- settled (`notice_bytes` specs/Window `is_decided`), and only sizes are looked at
unfoldable pub is_far : ℕ → ℕ → Bool → Bool
is_far size p over = either over (leb (p + longest_notice) size)

-- whether so many bytes decide the next step, which is at place p of them, and so many sums, of which it takes number k
unfoldable pub is_ready_at : ℕ → ℕ → Bool → ℕ → ℕ → Start → Bool
is_ready_at size p over sums k s =
    both (both (is_going s.verdict) (is_far size p over)) (either (leb s.sums s.heard) (ltb k sums))

abbrev pub is_ready : View → Start → Bool
is_ready v s =
    is_ready_at (length v.journal) (s.place - v.first) v.over (length v.sums / sum_bytes) (s.heard - v.known) s

-- a notice of n bytes, which has its sum or not
unfoldable pub notice_done : {A : Type 0} → Hearer A → ℕ → Bool → Stage A → Reading → Stage A
notice_done h n same x q =
    pick (has_sum x.start)
    (stage (after_summed x.start n same (h.answer x.hearer q)) (pick same (h.after x.hearer q) x.hearer))
    (stage (after_unsummed x.start n) x.hearer)

-- the bytes from place p up to e
abbrev pub part_of : List ℕ → ℕ → ℕ → List ℕ
part_of bs p e = take (e - p) (drop p bs)

-- what is done where this is found at place p of bytes of the journal, with the next notice's sum
unfoldable pub done_at : {A : Type 0} → Hearer A → List ℕ → ℕ → Stage A → ℕ → Found → Stage A
done_at h bs sum x p (found.At n e) = notice_done h (e - p) (eqb (sum_of (part_of bs p e)) sum) x (reading.Whole n)
done_at h bs sum x p found.End = stage (ended_with x.start Heard) x.hearer
done_at h bs sum x p found.Malformed = stage (ended_with x.start (at_stop x.start (drop p bs) sum)) x.hearer

abbrev pub step_at : {A : Type 0} → Hearer A → List ℕ → ℕ → Stage A → ℕ → Stage A
step_at h bs sum x p = done_at h bs sum x p (read_at bs p)

abbrev pub step_in : {A : Type 0} → Hearer A → View → Stage A → Stage A
step_in h v x = step_at h v.journal (sum_at v.sums (x.start.heard - v.known)) x (x.start.place - v.first)

-- after n steps, as far as they are decided
unfoldable pub steps_in : {A : Type 0} → Hearer A → View → Stage A → ℕ → Stage A
steps_in h v x zero = x
steps_in h v x (suc n) = pick (is_ready v (steps_in h v x n).start) (step_in h v (steps_in h v x n)) (steps_in h v x n)

-- all that is decided: each step passes a byte at least, or ends it
abbrev pub hears_in : {A : Type 0} → Hearer A → View → Stage A → Stage A
hears_in h v x = steps_in h v x (suc (length v.journal))

-- ---- the start

-- a journal and its sums, seen whole, into a fresh agent of a pool
abbrev pub journal_start : ℕ → List ℕ → Bool → List ℕ → Stage Agent
journal_start pool j there s =
    hears_in agent_hears (view j s 0 0 true) (stage (begun_with (length j) there (length s)) (fresh_agent pool))
