-- Laws of where bands lie, one below the other, and of their texts.
use Prim.Native.Nat.{ℕ, zero, ◌+◌}
use mathlib.Core.Path.{◌≡◌, refl}
use native.Mathlib.Numerals.{add-one}
use native.Mathlib.Omega.{arith}
use lib.ListN.{get_or}
use Rattle.rules.specs.Search.{total}
use Rattle.text.specs.declared.page.Page.{Page}
use Rattle.text.specs.Pages.{Puts}
use Rattle.text.proofs.Pages.{then}
use Rattle.frames.specs.declared.bands.View.{View}
use Rattle.frames.specs.Bands.{band_height, bands_top, top_of, band_of, band_text, bands_text}

module _ (v : View) where
  pub top_none : bands_top ≡ top_of v zero
  unfolding top_of total
  top_none = omega arith

  pub top_next : (i top h : ℕ) → top ≡ top_of v i → h ≡ band_height (get_or v.caps i 0) → top + h ≡ top_of v (i + 1)
  unfolding top_of total
  top_next i top h e f = rw (add-one i) (omega (arith, e, f))

  pub band_is : (i top : ℕ) → top ≡ top_of v i → record { scale = v.curve.scale; id = i; top = top } ≡ band_of v i
  band_is i top e = rw e refl

  pub bands_next : {p q r : Page} (i : ℕ) → Puts p (bands_text v i) q → Puts q (band_text v i) r → Puts p (bands_text v (i + 1)) r
  unfolding bands_text
  bands_next i e w = rw (add-one i) (then e w)
