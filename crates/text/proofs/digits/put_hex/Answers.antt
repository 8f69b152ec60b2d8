-- `text::digits::put_hex` meets its contract: writing what is left, from each byte passed, gives what the whole gives.
use Prim.Native.Nat.{◌+◌, ◌/◌, ◌%◌}
use mathlib.Core.Path.{◌≡◌, refl, ◌∙◌, ap}
use native.Mathlib.Omega.{arith}
use lib.ListN.{length, get_or, drop}
use Rattle.text.specs.Output.{Page, page, put, puts}
use Rattle.text.specs.Digits.{letter_of, hex_text}
use Rattle.text.proofs.Pages.{put_length}
use Rattle.text.proofs.Hex.{hex_on, hex_end}
use Rattle.text.proofs.digits.put_hex.Goals as goal

pub loop-b-init : goal.loop-b-init
loop-b-init c =
    (refl, refl)

pub letter-requires : goal.letter-requires
letter-requires c =
    omega (arith, c.type_inv.bytes c.loop-b.b-index)

pub letter-requires-in-loop-b : goal.letter-requires-in-loop-b
letter-requires-in-loop-b c =
    let at-shared-slice-known2 = c in
    let at-loop = at-shared-slice-known2 in
    omega (arith, c.type_inv.bytes c.loop-b.b-index)

pub loop-b-preserved : goal.loop-b-preserved
loop-b-preserved c =
    let at-put-byte2 = c in
    let at-letter2 = at-put-byte2 in
    let at-put-byte = at-letter2 in
    let at-letter = at-put-byte in
    let at-loop = at-letter in
    let at_start = at-loop in
    let s = at_start.args.bytes.now in
    let l = at-loop.loop-b in
    let p = page l.out l.place in
    let high = letter_of (get_or s l.b-index 0 / 16) in
    let low = letter_of (get_or s l.b-index 0 % 16) in
    let e : page at-put-byte.put_byte-p.new.out at-put-byte.put_byte-p.result ≡ put p high =
    at-put-byte.put_byte-p.ensures ∙ ap (put p) at-letter.letter.ensures in
    let q = page at-put-byte.put_byte-p.new.out at-put-byte.put_byte-p.result in
    let f : page at-put-byte2.put_byte-place.new.out at-put-byte2.put_byte-place.result ≡ put (put p high) low =
    at-put-byte2.put_byte-place.ensures ∙ ap (put q) at-letter2.letter-in-loop-b.ensures ∙ ap (λ (r : Page). put r low) e in (
      ap (λ (r : Page). puts r (hex_text (drop (l.b-index + 1) s))) f ∙ hex_on p s l.b-index (omega arith) ∙ l.invariant.0,
      ap (λ (r : Page). length r.row) f ∙ put_length (put p high) low ∙ put_length p high ∙ l.invariant.1,
    )

pub shape_of-out : goal.shape_of-out
shape_of-out c =
    c.loop-b.invariant.1

pub returns : goal.returns
returns c =
    let l = c.loop-b in
    hex_end (page l.out l.place) c.args.bytes.now l.b-index (omega arith)
    ∙ l.invariant.0
