-- No line is longer than the room that a step of the listing has for it, so what is printed is the whole line.
-- Rests on a number in decimal having 20 digits at most, and on a page keeping what has room.
use mathlib.Core.List.{List, [], ◌∷◌, ◌++◌}
use Prim.Native.Nat.{ℕ, ◌≤◌}
use native.Mathlib.Omega.{arith}
use lib.ListN.{length, length-append}
use Rattle.rules.specs.Refusals.{malformed}
use Rattle.notice.specs.declared.Found.{Found}
use Rattle.notice.specs.declared.Found.TheVariants as found
use Rattle.agent.specs.declared.Agent.{Agent}
use Rattle.text.specs.Texts.{text}
use Rattle.text.specs.Digits.{decimal}
use Rattle.text.proofs.Pages.{stands}
use Rattle.text.proofs.Printing.{decimal_short}
use Rattle.listing_io.specs.declared.steps.ListedStep.{ListedStep}
use Rattle.text.specs.Bytes.{newline}
use Rattle.listing_io.specs.Lines.{space, number_then, listing_line, last_line, line_room}
use Rattle.listing_io.specs.Step.{notice_line, cut_line, line_after, Lists, Shows}

-- ---- the lines

ended_short : (n b : ℕ) → length (number_then n b) ≤ 21
unfolding number_then
ended_short n b = omega (arith, length-append (decimal n) (b ∷ []), decimal_short n)

line_short : (s k t a h : ℕ) → length (listing_line s k t a h) ≤ line_room
unfolding listing_line
line_short s k t a h =
    let one = number_then s space in
    let two = number_then k space in
    let three = number_then t space in
    let four = number_then a space in
    let five = number_then h newline in
    omega (
      arith,
      length-append (((one ++ two) ++ three) ++ four) five,
      length-append ((one ++ two) ++ three) four,
      length-append (one ++ two) three,
      length-append one two,
      ended_short s space,
      ended_short k space,
      ended_short t space,
      ended_short a space,
      ended_short h newline,
    )

last_short : (h : ℕ) → length (last_line h) ≤ line_room
unfolding last_line text
last_short h =
    let eleven = number_then malformed space in
    omega (
      arith,
      length-append (text "- - - " ++ eleven) (number_then h newline),
      length-append (text "- - - ") eleven,
      ended_short malformed space,
      ended_short h newline,
    )

pub short : (g : Agent) (f : Found) → length (line_after g f) ≤ line_room
unfolding notice_line cut_line
short g (found.At n e) = line_short _ _ _ _ _
short g found.End = omega arith
short g found.Malformed = last_short _

-- ---- the row

-- so a step in a row with that room has its whole line there
pub shown : (g : Agent) (f : Found) (p : ℕ) (room after : List ℕ) (r : ListedStep) → line_room ≤ length room
    → Lists g f p room r after → Shows g f p (record { listed = r; row = after })
shown g f p room after r wide w =
    let s = stands (line_after g f) room after r.size w.line_is (omega (arith, short g f)) in
    record { hears = w.hears; prints = s.whole; fits = s.within }
