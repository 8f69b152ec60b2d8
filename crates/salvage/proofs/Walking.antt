-- A window walked step by step: each step is one of the scan of whatever log the window stands in, and what it takes and tells is
-- written behind what was there. Where the walk ends, the window decides no more.
-- Rests on the laws of one step over a window (`salvaging` proofs/Laying).
use mathlib.Core.Path.{◌≡◌, refl, sym, ap, ◌∙◌}
use mathlib.Core.Bool.{Bool, true, false}
use mathlib.Core.List.{List, [], ◌++◌, append-nil, append_assoc}
use Prim.Native.Nat.{ℕ, suc, ◌+◌, ◌*◌, ◌-◌, ◌≤◌, ◌<◌, ◌^◌}
use native.Mathlib.Omega.{arith}
use lib.ListN.{length, length-append}
use Rattle.rules.specs.Refusals.{pick}
use Rattle.text.specs.Output.{Page, page, puts}
use Rattle.text.proofs.Pages.{puts_then, puts_length, puts_low}
use Rattle.notice.specs.Fields.{table, start_of, span_of, longest_notice}
use Rattle.notice.specs.Window.{is_decided}
use Rattle.notice.proofs.CaseSplits.{false_true}
use Rattle.notice.proofs.Windows.{few_left, at_end_decided}
use Rattle.scanning.specs.declared.steps.Progress.{Progress}
use Rattle.scanning.specs.Scan.{move_in, scan_to}
use Rattle.scanning.specs.inner.Steps.{progress_of, Counts, Within, Between, Advances}
use Rattle.salvaging.specs.Pours.{took_one, taken_in, Stands}
use Rattle.salvaging.proofs.Laying.{part, adds_part, part_few, step_in_lem, part_in}
use Rattle.salvage_lines.specs.Report.{told_to, said_in}
use Rattle.salvage_lines.specs.Report.{told_most}
use Rattle.salvage.specs.Walks.{TellsOn, Walks}
use Rattle.salvage.proofs.Seams.{tells_more}
use Rattle.salvage_lines.proofs.LinesFit.{said_few}

module _ (window : List ℕ) (over : Bool) (start : Progress) (area told : List ℕ) where
  -- so far what a log's scan took and told stands in the area and the row
  pub record WalkedTo (p : Progress) (at said : ℕ) (area-now told-now : List ℕ) : Type 0 where
    pub counts : Counts p
    pub ahead : start.place ≤ p.place
    pub within : p.place ≤ start.place + length window
    pub area_size : length area-now ≡ length area
    pub told_size : length told-now ≡ length told
    pub at_low : at ≤ length area-now
    pub said_low : said ≤ length told-now
    pub tells : (log : List ℕ) (k : ℕ) → Stands log start.place window over → start ≡ progress_of (scan_to log k)
        → TellsOn log k p at said area told area-now told-now

  pub not_begun : Counts start → WalkedTo start 0 0 area told
  unfolding puts
  not_begun counts =
      record {
        counts = counts;
        ahead = omega arith;
        within = omega arith;
        area_size = refl;
        told_size = refl;
        at_low = omega arith;
        said_low = omega arith;
        tells = λ log k st is.
            record {
              steps = k;
              is = is;
              bytes = [];
              bytes_few = omega arith;
              kept_is = sym (append-nil (scan_to log k).kept);
              area_is = refl;
              lines = [];
              lines_few = omega arith;
              told_is = sym (append-nil (told_to log k));
              row_is = refl;
            };
      }

  pub between : (p q : Progress) (at said : ℕ) (area-now told-now : List ℕ) → WalkedTo p at said area-now told-now
      → Advances window start.place p q → p.place - start.place < length window
      → Between (length window) start.place p q
  between p q at said area-now told-now f a h =
      let on = a.ahead (omega (arith, f.ahead)) in
      record { from = f.ahead; ahead = omega arith; to = a.within }

  pub in_window : (p : Progress) (at said : ℕ) (area-now told-now : List ℕ) → WalkedTo p at said area-now told-now
      → start.place + length window < 2 ^ 64 → Within (length window) start.place p
  in_window p at said area-now told-now f h = record { from = f.ahead; to = f.within; fits = h }

  module _ (p q : Progress) (at said at_next said-next : ℕ) (area-now told-now area-next told_next : List ℕ)
      (f : WalkedTo p at said area-now told-now) (a : Advances window start.place p q)
      (taken : page area-next at_next ≡ puts (page area-now at) (taken_in window start.place p q))
      (tell : page told_next said-next ≡ puts (page told-now said) (said_in p q))
      (h : p.place - start.place < length window)
      (decided : is_decided window (p.place - start.place) over ≡ true) where
    told_on : (log : List ℕ) (k : ℕ) → Stands log start.place window over → start ≡ progress_of (scan_to log k)
        → TellsOn log k q at_next said-next area told area-next told_next
    unfolding scan_to
    told_on log k st is =
        let g = f.tells log k st is in
        let n = g.steps in
        let s = scan_to log n in
        let next = step_in_lem log window over start.place st p q n f.ahead decided g.is a in
        let same : taken_in window start.place p q ≡ part log p q =
        ap (λ x. pick (took_one p q) x [])
        (part_in log window over start.place st p q (between p q at said area-now told-now f a h)) in
        let more = part log p q in
        let bytes : (scan_to log (suc n)).kept ≡ s.kept ++ more =
        adds_part log s (move_in log s) ∙ rw (g.is, next) refl in
        let lines : told_to log (suc n) ≡ told_to log n ++ said_in p q = tells_more log n ∙ rw (g.is, next) refl in
        let first : start.place ≡ (scan_to log k).place = ap (λ (x : Progress). x.place) is in
        let here : p.place ≡ s.place = ap (λ (x : Progress). x.place) g.is in
        let there : q.place ≡ (scan_to log (suc n)).place = ap (λ (x : Progress). x.place) next in
        let on : s.place ≤ (scan_to log (suc n)).place = omega (arith, a.ahead (omega (arith, f.ahead))) in
        let low : (scan_to log k).place ≤ s.place = omega (arith, f.ahead) in
        let bytes_low : length more ≤ (scan_to log (suc n)).place - s.place =
        rw (g.is, next) (part_few log s (move_in log s) refl) in
        let lines-low : length (said_in p q) ≤ told_most * ((scan_to log (suc n)).place - s.place) =
        rw (g.is, next) (said_few log s (move_in log s) refl) in
        record {
          steps = suc n;
          is = next;
          bytes = g.bytes ++ more;
          bytes_few = omega (arith, length-append g.bytes more, g.bytes_few, bytes_low, on, low);
          kept_is = bytes ∙ ap (λ x. x ++ more) g.kept_is ∙ append_assoc (scan_to log k).kept g.bytes more;
          area_is = puts_then (page area 0) g.bytes more g.area_is (rw same at taken);
          lines = g.lines ++ said_in p q;
          lines_few = omega (arith, length-append g.lines (said_in p q), g.lines_few, lines-low, on, low);
          told_is = lines ∙ ap (λ x. x ++ said_in p q) g.told_is ∙ append_assoc (told_to log k) g.lines (said_in p q);
          row_is = puts_then (page told 0) g.lines (said_in p q) g.row_is tell;
        }

    area_long : length area-next ≡ length area-now
    area_long = ap (λ (g : Page). length g.row) taken ∙ puts_length _ (page area-now at)

    told_long : length told_next ≡ length told-now
    told_long = ap (λ (g : Page). length g.row) tell ∙ puts_length _ (page told-now said)

    pub walked_on_lem : WalkedTo q at_next said-next area-next told_next
    walked_on_lem =
        let to = ap (λ (g : Page). g.at) taken in
        let behind = ap (λ (g : Page). g.at) tell in
        record {
          counts = a.counts;
          ahead = omega (arith, f.ahead, a.ahead (omega (arith, f.ahead)));
          within = a.within;
          area_size = area_long ∙ f.area_size;
          told_size = told_long ∙ f.told_size;
          at_low = rw (area_long, to) (puts_low _ (page area-now at) f.at_low);
          said_low = rw (told_long, behind) (puts_low _ (page told-now said) f.said_low);
          tells = told_on;
        }

  -- where the walk ends, the window decides no more
  walked : (p : Progress) (at said : ℕ) (area-now told-now : List ℕ) → WalkedTo p at said area-now told-now
      → start.place + length window < p.place + longest_notice
      → (over ≡ true → p.place ≡ start.place + length window)
      → Walks window over start (record { progress = p; at = at; said = said }) area told area-now told-now
  walked p at said area-now told-now f few all =
      record {
        counts = f.counts;
        ahead = f.ahead;
        within = f.within;
        few = few;
        all = all;
        at_low = f.at_low;
        said_low = f.said_low;
        tells = f.tells;
      }

  pub at_end : (p : Progress) (at said : ℕ) (area-now told-now : List ℕ) → WalkedTo p at said area-now told-now
      → length window ≤ p.place - start.place
      → Walks window over start (record { progress = p; at = at; said = said }) area told area-now told-now
  unfolding table start_of span_of
  at_end p at said area-now told-now f h =
      walked p at said area-now told-now f (omega (arith, f.ahead)) (λ _. omega (arith, f.ahead, f.within))

  pub undecided : (p : Progress) (at said : ℕ) (area-now told-now : List ℕ) → WalkedTo p at said area-now told-now
      → is_decided window (p.place - start.place) over ≡ false
      → Walks window over start (record { progress = p; at = at; said = said }) area told area-now told-now
  undecided p at said area-now told-now f none =
      let few = few_left over window (p.place - start.place) none in
      walked p at said area-now told-now f (omega (arith, f.ahead, few))
      (λ q. false_true (sym none ∙ rw q (at_end_decided window (p.place - start.place))))
