-- The bytes that a line spells fit the room that is lent for them.
use Prim.Native.Nat.{ℕ, ◌+◌, ◌-◌, ◌*◌, ◌≤◌, ◌<◌}
use mathlib.Core.Path.{◌≡◌, refl, ◌∙◌, ap}
use mathlib.Core.List.{List, [], ◌∷◌, ◌++◌}
use native.Mathlib.Omega.{arith}
use borrow.Author.Tests.{lt-ltb, le-ltb}
use mathlib.Core.Bool.{Bool, true, false}
use lib.Dec.{ltb}
use Rattle.rules.specs.Refusals.{pick}
use lib.ListN.{length, take, drop, length-take, length-drop, length-append}
use lib.Seq.{take_at}
use Rattle.text.specs.Output.{Page, page, puts}
use Rattle.text.specs.Digits.{hex_bytes}
use Rattle.text.proofs.Pages.{puts_fits}
use Rattle.console_lines.specs.Lines.{longest}
use Rattle.console_notices.specs.Hex.{hex_between, hex_room}

-- two digits to a byte
hex_half : (s : List ℕ) → 2 * length (hex_bytes s) ≤ length s
unfolding hex_bytes
hex_half [] = omega arith
hex_half (h ∷ []) = omega arith
hex_half (h ∷ (l ∷ s)) = let more : 2 * length (hex_bytes s) ≤ length s = hex_half s in omega arith

none_either : (b : Bool) → ◌≡◌ {A = List ℕ} [] (pick b [] [])
none_either true = refl
none_either false = refl

module _ (s : List ℕ) (from to : ℕ) where
  pub none_past : length s < to → [] ≡ hex_between s from to
  unfolding hex_between
  none_past h = rw (lt-ltb _ _ h)

  pub none_before : to < from → [] ≡ hex_between s from to
  unfolding hex_between hex_bytes
  none_before g = let e : to - from ≡ 0 = omega arith in rw e (none_either (ltb (length s) to))

  pub spelt : (room room' : List ℕ) (n : ℕ) → to ≤ length s → length s ≤ longest → hex_room ≤ length room
      → page room' n ≡ puts (page room 0) (hex_bytes (take (to - from) (drop from s)))
      → (take n room' ≡ hex_between s from to) × (n ≤ length room')
  unfolding hex_between
  spelt room room' n h short big e =
      let digits = take (to - from) (drop from s) in
      let bytes = hex_bytes digits in
      let few : length digits ≤ length s = simp (length-take, length-drop) (omega arith) in
      let half : 2 * length bytes ≤ length digits = hex_half digits in
      let fit : 0 + length bytes ≤ length room = omega arith in
      let rest = drop (0 + length bytes) room in
      let all : page room' n ≡ page (bytes ++ rest) (0 + length bytes) = e ∙ puts_fits bytes room 0 fit in
      let many : n ≡ length bytes = ap (λ (p : Page). p.at) all ∙ omega arith in
      let row : room' ≡ bytes ++ rest = ap (λ (p : Page). p.row) all in (
        rw (le-ltb _ _ h, row, many) (take_at bytes rest (length bytes) refl),
        rw (row, many) (omega (arith, length-append bytes rest)),
      )
