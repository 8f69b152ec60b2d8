-- The notice of an event, put together from its parts, and that which a line writes; where every number fits its field none is cut.
use Prim.Native.Nat.{ℕ, min}
use mathlib.Core.Path.{◌≡◌, refl, ap}
use mathlib.Core.Bool.{Bool, true, false}
use native.Mathlib.Omega.{arith}
use lib.Dec.{eqb}
use Rattle.rules.specs.Refusals.{pick}
use Rattle.scheme.specs.Scheme.{steady_kind}
use Rattle.text.specs.Numbers.{byte_most, four_bytes_most}
use Rattle.notice.specs.declared.Kind.{Kind}
use Rattle.notice.specs.declared.Kind.TheVariants.{Open, Change, Skip}
use Rattle.notice.specs.Log.{KindTyped, Typed}
use Rattle.story.specs.declared.Film.{Film}
use Rattle.story.specs.declared.Act.{Act}
use Rattle.story.specs.declared.Act.TheVariants.{Opens, Changes, Closes, Doors}
use Rattle.story.specs.declared.Event.{Event}
use Rattle.agent.specs.Series.{kind_for, notice_for}
use Rattle.console_lines.specs.declared.lines.Line.{Line}
use Rattle.console_lines.specs.Lines.{number_in}
use Rattle.console_acts.specs.Events.{written_event}
use Rattle.console_acts.specs.Writing.{cut_act, cut_event, written_notice}

pub notice_made : (q : ℕ) (e : Event) (i : ℕ) (k : Kind) → i ≡ min e.title byte_most → k ≡ kind_for (cut_act e.act) →
    record { sequence = q; title = i; time = e.time; kind = k } ≡ notice_for q (cut_event e)
notice_made q e i k is-title is-kind = rw (is-title, is-kind) refl

pub line_made : (l : Line) (q : ℕ) (e : Event) → q ≡ min (number_in l 0) four_bytes_most → e ≡ written_event l →
    notice_for q (cut_event e) ≡ written_notice l
unfolding written_notice
line_made l q e is-sequence is = rw (is-sequence, is) refl

-- ---- a notice that fits its fields

uncut_opening : (f : Film) (k : ℕ) (t : Bool) → KindTyped (pick t (Skip f.length k) (Open f.length f.floor f.cap k)) →
    pick t (Skip (min f.length four_bytes_most) (min k byte_most))
    (Open (min f.length four_bytes_most) (min f.floor byte_most) (min f.cap byte_most) (min k byte_most))
    ≡ pick t (Skip f.length k) (Open f.length f.floor f.cap k)
uncut_opening f k true h =
    let length : min f.length four_bytes_most ≡ f.length = omega arith in
    let count : min k byte_most ≡ k = omega arith in
    λ i. Skip (length i) (count i)
uncut_opening f k false h =
    let length : min f.length four_bytes_most ≡ f.length = omega arith in
    let floor : min f.floor byte_most ≡ f.floor = omega arith in
    let cap : min f.cap byte_most ≡ f.cap = omega arith in
    let count : min k byte_most ≡ k = omega arith in
    λ i. Open (length i) (floor i) (cap i) (count i)

uncut_kind : (a : Act) → KindTyped (kind_for a) → kind_for (cut_act a) ≡ kind_for a
uncut_kind (Opens f k) h = uncut_opening f k (eqb f.kind steady_kind) h
uncut_kind (Changes k) h = ap Change (omega arith)
uncut_kind Closes h = refl
uncut_kind (Doors true) h = refl
uncut_kind (Doors false) h = refl

pub uncut : (q : ℕ) (e : Event) → Typed (notice_for q e) → notice_for q (cut_event e) ≡ notice_for q e
uncut q e fits =
    let title : min e.title byte_most ≡ e.title = omega (arith, fits.title_fits) in
    let kind = uncut_kind e.act fits.kind_fits in
    λ i. record { sequence = q; title = title i; time = e.time; kind = kind i }
