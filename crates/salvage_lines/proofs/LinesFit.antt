-- No line is longer than the room that it has, so what is told is whole: what a step tells is no longer than six times the bytes that
-- it passes, and the end of the report fits its row.
-- Rests on a number in decimal having 20 digits at most, and on no notice being shorter than a close.
use mathlib.Core.Path.{◌≡◌}
use mathlib.Core.Bool.{Bool, true, false}
use mathlib.Core.List.{List, [], ◌++◌}
use Prim.Native.Nat.{ℕ, ◌+◌, ◌*◌, ◌-◌, ◌≤◌}
use native.Mathlib.Omega.{arith}
use borrow.Author.Tests.{le-ltb}
use lib.Dec.{eqb}
use lib.ListN.{length, length-append}
use Rattle.rules.specs.Limits.{both}
use Rattle.rules.specs.Refusals.{pick}
use Rattle.rules.proofs.Tests.{both_l}
use Rattle.notice.specs.declared.Notice.{Notice}
use Rattle.notice.specs.declared.Found.TheVariants as found
use Rattle.notice.specs.Fields.{table, start_of, span_of, is_known, length_of, close_kind}
use Rattle.notice.specs.Decode.{read_at, kind_at}
use Rattle.notice.proofs.Table.{by_kind}
use Rattle.notice.proofs.NoticePlaces.{there}
use Rattle.text.specs.Texts.{text}
use Rattle.text.specs.Digits.{decimal}
use Rattle.text.proofs.Printing.{decimal_short}
use Rattle.std.specs.Prelude.{Option}
use Rattle.std.specs.Prelude.{Some, None}
use Rattle.scanning.specs.declared.scan.Move.{Move}
use Rattle.scanning.specs.declared.scan.Move.TheVariants.{Take, Skip, Stop}
use Rattle.scanning.specs.declared.steps.Progress.{Progress}
use Rattle.scanning.specs.Scan.{Scan, last_of, scan_after, move_in}
use Rattle.scanning.specs.inner.Steps.{progress_of, is_open_at}
use Rattle.scanning.proofs.ScanThrough as through
use Rattle.salvage_lines.specs.Lines.{two_numbers, stretch_line, follows_line, gap_line, total_line, open_line, end_text, word_most, line_most, end_room}
use Rattle.salvage_lines.specs.Report.{seam_of, seam_text, said_in, told_most}

two_short : (name : List ℕ) (n : ℕ) (amid : List ℕ) (m : ℕ) (end : List ℕ) → length name ≤ word_most
    → length amid ≤ word_most → length end ≤ word_most → length (two_numbers name n amid m end) ≤ line_most
unfolding two_numbers
two_short name n amid m end a b c =
    let first = name ++ decimal n in
    let second = (first ++ amid) ++ decimal m in
    omega (
      arith,
      length-append second end,
      length-append (first ++ amid) (decimal m),
      length-append first amid,
      length-append name (decimal n),
      decimal_short n,
      decimal_short m,
    )

stretch_short : (start n : ℕ) → length (stretch_line start n) ≤ line_most
unfolding stretch_line text
stretch_short start n = two_short (text "skipped ") start (text " ") n (text "\n") (omega arith) (omega arith) (omega arith)

follows_short : (s l : ℕ) → length (follows_line s l) ≤ line_most
unfolding follows_line text
follows_short s l =
    go (eqb s (l + 1))
    (two_short (text "sequence ") s (text " follows ") l (text "\n") (omega arith) (omega arith) (omega arith))
  where
    go : (b : Bool) → length (two_numbers (text "sequence ") s (text " follows ") l (text "\n")) ≤ line_most
        → length (pick b [] (two_numbers (text "sequence ") s (text " follows ") l (text "\n"))) ≤ line_most
    go true short = omega arith
    go false short = short

gap_short : (before behind : Option ℕ) → length (gap_line before behind) ≤ line_most
unfolding gap_line
gap_short (Some l) (Some s) = follows_short s l
gap_short (Some l) None = omega arith
gap_short None behind = omega arith

total_short : (n bytes : ℕ) → length (total_line n bytes) ≤ line_most
unfolding total_line text
total_short n bytes =
    two_short (text "taken ") n (text " notices, ") bytes (text " bytes\n") (omega arith) (omega arith) (omega arith)

-- ---- the end

pub end_short : (p : Progress) → length (end_text p) ≤ end_room
unfolding end_text open_line
end_short p = go (is_open_at p)
  where
    go : (b : Bool) → length (pick b (stretch_line p.start p.size) [] ++ total_line p.notices p.bytes) ≤ end_room
    go true =
        omega (
          arith,
          length-append (stretch_line p.start p.size) (total_line p.notices p.bytes),
          stretch_short p.start p.size,
          total_short p.notices p.bytes,
        )
    go false = omega (arith, total_short p.notices p.bytes)

-- ---- a step

-- no notice is shorter than a close
abbrev shortest_notice : ℕ
shortest_notice = length_of close_kind

shortest : (k : ℕ) → is_known k ≡ true → shortest_notice ≤ length_of k
unfolding table start_of span_of
shortest k known =
    by_kind (λ (j : ℕ). shortest_notice ≤ length_of j)
    (omega arith, (omega arith, (omega arith, (omega arith, (omega arith, omega arith))))) k known

ends_far : (bs : List ℕ) (p : ℕ) (n : Notice) (e : ℕ) → read_at bs p ≡ found.At n e → p + shortest_notice ≤ e
ends_far bs p n e is =
    let t = there bs p n e is in
    omega (arith, t.end, shortest (kind_at bs p) (both_l _ _ t.all))

said_most : (p q : Progress) → length (said_in p q) ≤ 2 * line_most
unfolding said_in seam_text
said_most p q =
    go (both (Rattle.salvaging.specs.Pours.took_one p q) (is_open_at p))
    (omega (
      arith,
      length-append (stretch_line p.start p.size) (gap_line p.last q.last),
      stretch_short p.start p.size,
      gap_short p.last q.last,
    ))
  where
    go : (b : Bool) → length (seam_text (seam_of p q)) ≤ 2 * line_most → length (pick b (seam_text (seam_of p q)) []) ≤ 2 * line_most
    go true few = few
    go false few = omega arith

pub said_few : (bs : List ℕ) (s : Scan) (m : Move) → move_in bs s ≡ m
    → length (said_in (progress_of s) (progress_of (scan_after bs s m))) ≤ told_most * ((scan_after bs s m).place - s.place)
unfolding said_in table start_of span_of
said_few bs s (Take n e) is =
    let far = ends_far bs s.place n e (through.takes bs (last_of s.taken) s.place n e is).found in
    omega (arith, far, said_most (progress_of s) (progress_of (scan_after bs s (Take n e))))
said_few bs s Skip is = rw (le-ltb (length s.taken) (length s.taken) (omega arith)) (omega arith)
said_few bs s Stop is = rw (le-ltb (length s.taken) (length s.taken) (omega arith)) (omega arith)
