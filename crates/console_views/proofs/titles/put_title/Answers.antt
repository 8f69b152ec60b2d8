-- `console_views::titles::put_title` meets its contract: of a title that is there its parts one behind the other, else nothing.
use Prim.Native.Nat.{ℕ, ◌<◌}
use mathlib.Core.Path.{◌≡◌, sym, ◌∙◌}
use mathlib.Core.Bool.{Bool, true}
use native.Mathlib.Omega.{arith}
use Rattle.rules.specs.Limits.{titles_max}
use Rattle.story.specs.declared.Title.{Title}
use Rattle.story.specs.declared.State.{State}
use Rattle.story.specs.Kept.{title_at, state_ok, is_there}
use Rattle.text.specs.Texts.{text}
use Rattle.text.proofs.Pages.{then, nothing}
use Rattle.measures.proofs.Within.{all_readable}
use Rattle.console_views.specs.Titles.{title_line}
use Rattle.console_views.proofs.Standing.{Standing, stands}
use Rattle.console_views.proofs.titles.put_title.Goals as goal

-- what is known of a title that is there
standing : (s : State) → state_ok s ≡ true → (i : ℕ) → i < titles_max → (τ : ℕ) {t : Title} {b : Bool} → t ≡ title_at s i → b ≡ is_there t τ → b ≡ true
    → Standing t
standing s ok i l τ is e y = rw is (stands s ok i l τ (rw is at (sym e ∙ y)))

pub title_of-t-requires : goal.title_of-t-requires
title_of-t-requires c = omega (arith, c.requires.id_lt_titles_max.0)

pub is_there-requires : goal.is_there-requires
is_there-requires c =
    let x = c.args in
    rw c.title_of-t.ensures (all_readable x.s c.requires.s_value x.id c.requires.id_lt_titles_max.0)

pub put_film-requires : goal.put_film-requires
put_film-requires c =
    let x = c.args in
    (standing x.s c.requires.s_value x.id c.requires.id_lt_titles_max.0 x.time c.title_of-t.ensures c.is_there.ensures c.if-is_there.true).timed.film

pub put_holds-requires : goal.put_holds-requires
put_holds-requires c =
    let x = c.args in
    (standing x.s c.requires.s_value x.id c.requires.id_lt_titles_max.0 x.time c.title_of-t.ensures c.is_there.ensures c.if-is_there.true).timed

pub put_coming-requires : goal.put_coming-requires
put_coming-requires c =
    let x = c.args in
    let is = standing x.s c.requires.s_value x.id c.requires.id_lt_titles_max.0 x.time c.title_of-t.ensures c.is_there.ensures c.if-is_there.true in
    record { filmed = is.timed.film; count_le_cap = (is.ruled, (is.tuned, c.requires.id_lt_titles_max.1)) }

pub returns-then-is_there : goal.returns-then-is_there
unfolding title_line text
returns-then-is_there c =
    rw (← c.title_of-t.ensures, ← c.is_there.ensures, c.if-is_there.true)
    (then
    (then (then (then (then c.put.ensures c.put_number.ensures) c.put_film.ensures) c.put_count.ensures) c.put_holds.ensures)
    c.put_coming.ensures)

pub returns-else-is_there : goal.returns-else-is_there
unfolding title_line
returns-else-is_there c = rw (← c.title_of-t.ensures, ← c.is_there.ensures, c.if-is_there.false) nothing
