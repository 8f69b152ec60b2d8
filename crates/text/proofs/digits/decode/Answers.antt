-- `text::digits::decode` meets its contract: reading what is left, from each pair passed, gives what the whole gives.
use Prim.Native.Nat.{ℕ, ◌+◌, ◌*◌}
use mathlib.Core.Path.{◌≡◌, refl, ◌∙◌, ap}
use native.Mathlib.Omega.{arith}
use lib.ListN.{length, get_or, drop}
use Rattle.text.specs.Output.{Page, page, put, puts}
use Rattle.text.specs.Digits.{hex_of, hex_bytes}
use Rattle.text.proofs.Pages.{put_length}
use Rattle.text.proofs.Hex.{decode_on, decode_end}
use Rattle.text.proofs.digits.decode.Goals as goal

pub loop-i-init : goal.loop-i-init
loop-i-init c =
    (refl, refl)

pub loop-i-preserved : goal.loop-i-preserved
loop-i-preserved c =
    let at-put-byte = c in
    let at-hex-of2 = at-put-byte in
    let at-hex-of = at-hex-of2 in
    let at-loop = at-hex-of in
    let at_start = at-loop in
    let s = at_start.args.hex.now in
    let l = at-loop.loop-i in
    let p = page l.out l.place in
    let high = hex_of (get_or s (2 * l.i) 0) in
    let low = hex_of (get_or s (2 * l.i + 1) 0) in
    let h : at-hex-of.hex_of-h.result ≡ high = at-hex-of.hex_of-h.ensures.0 in
    let k : at-hex-of2.hex_of-l.result ≡ low = at-hex-of2.hex_of-l.ensures.0 in
    let e : page at-put-byte.put_byte-place.new.out at-put-byte.put_byte-place.result ≡ put p (16 * high + low) =
    at-put-byte.put_byte-place.ensures ∙ ap (put p)
    (ap (λ (v : ℕ). 16 * v + at-hex-of2.hex_of-l.result) h ∙ ap (λ (v : ℕ). 16 * high + v) k) in (
      ap (λ (r : Page). puts r (hex_bytes (drop (2 * (l.i + 1)) s))) e ∙ decode_on p s l.i (omega arith) ∙ l.invariant.0,
      ap (λ (r : Page). length r.row) e ∙ put_length p (16 * high + low) ∙ l.invariant.1,
    )

pub shape_of-out : goal.shape_of-out
shape_of-out c =
    c.loop-i.invariant.1

pub returns : goal.returns
returns c =
    let l = c.loop-i in
    decode_end (page l.out l.place) c.args.hex.now l.i (omega arith)
    ∙ l.invariant.0
