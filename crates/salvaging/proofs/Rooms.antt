-- The call, by its two ways: 10 where either room is too short, which leaves both, and otherwise both filled from their start.
-- Rests on what was measured being the scan's, and on the laws of pages.
use mathlib.Core.Path.{◌≡◌, refl, ap, ◌∙◌}
use mathlib.Core.Bool.{true, false}
use mathlib.Core.List.{List, [], ◌∷◌}
use Prim.Native.Nat.{ℕ, ◌*◌, ◌/◌, ◌≤◌, ◌<◌}
use native.Mathlib.Nat.{zero-add}
use native.Mathlib.Omega.{arith}
use borrow.Author.Tests.{lt-ltb, le-ltb}
use lib.Dec.{ltb}
use lib.ListN.{length, length-append}
use Rattle.rules.specs.Refusals.{first_hit}
use Rattle.rules.proofs.Tests.{either_l, either_r, either_false}
use Rattle.text.specs.Output.{Page, page, puts}
use Rattle.text.proofs.Pages.{puts_fits}
use Rattle.salvaging.specs.declared.Salvaged.{Salvaged}
use Rattle.scanning.specs.declared.steps.Progress.{Progress}
use Rattle.scanning.specs.Scan.{Stretch, scan_of}
use Rattle.scanning.specs.inner.Steps.{progress_of}
use Rattle.salvaging.specs.Rows.{flat, lacks_room, no_room, filled, Salvages}
use Rattle.salvaging.specs.Pours.{salvaged_to, Fills}

-- two places for each stretch
length_flat : (ss : List Stretch) → length (flat ss) ≡ 2 * length ss
unfolding flat
length_flat [] = refl
length_flat (s ∷ ss) = omega (arith, length-append (flat ss) (s.start ∷ s.size ∷ []), length_flat ss)

-- what is put at the start of a room that is long enough fills it
from_start : (xs room : List ℕ) → length xs ≤ length room → (puts (page room 0) xs).row ≡ filled xs room
from_start xs room h =
    let put = puts_fits xs room 0 (omega arith) in
    ap (λ (g : Page). g.row) put ∙ rw zero-add refl

module _ (log area row : List ℕ) where
  refuses : lacks_room (scan_of log) area row ≡ true → (r : Salvaged) → r ≡ no_room → Salvages log area row r area row
  unfolding first_hit
  refuses short r made =
      record {
        answers = ap (λ (x : Salvaged). x.answer) made ∙ rw short refl;
        gives = made ∙ rw short refl;
        area_is = rw short refl;
        row_is = rw short refl;
      }

  module _ (p : Progress) (is : p ≡ progress_of (scan_of log)) where
    pub area_short : length area < p.bytes → (r : Salvaged) → r ≡ no_room → Salvages log area row r area row
    area_short h =
        let bytes : p.bytes ≡ length (scan_of log).kept = ap (λ (q : Progress). q.bytes) is in
        let short : length area < length (scan_of log).kept = omega arith in
        refuses (either_l _ _ (lt-ltb _ _ short))

    pub row_short : length row / 2 < p.stretches → (r : Salvaged) → r ≡ no_room → Salvages log area row r area row
    row_short h =
        let many : p.stretches ≡ length (scan_of log).skipped = ap (λ (q : Progress). q.stretches) is in
        let short : length row < length (flat (scan_of log).skipped) =
        omega (arith, length_flat (scan_of log).skipped) in
        refuses (either_r (ltb (length area) (length (scan_of log).kept)) _ (lt-ltb _ _ short))

    pub both_fit : p.bytes ≤ length area → p.stretches ≤ length row / 2
        → (r : Salvaged) (area-after row_after_lem : List ℕ) → r ≡ salvaged_to p
        → Fills (scan_of log) area row area-after row_after_lem → Salvages log area row r area-after row_after_lem
    unfolding first_hit
    both_fit room cells r area-after row_after_lem made f =
        let s = scan_of log in
        let bytes : p.bytes ≡ length s.kept = ap (λ (q : Progress). q.bytes) is in
        let many : p.stretches ≡ length s.skipped = ap (λ (q : Progress). q.stretches) is in
        let area_long : length s.kept ≤ length area = omega arith in
        let row_long : length (flat s.skipped) ≤ length row = omega (arith, length_flat s.skipped) in
        let fit : lacks_room s area row ≡ false = either_false _ _ (le-ltb _ _ area_long) (le-ltb _ _ row_long) in
        record {
          answers = ap (λ (x : Salvaged). x.answer) made ∙ rw fit refl;
          gives = made ∙ ap salvaged_to is ∙ rw fit refl;
          area_is = f.area_is ∙ from_start s.kept area area_long ∙ rw fit refl;
          row_is = f.row_is ∙ from_start (flat s.skipped) row row_long ∙ rw fit refl;
        }
