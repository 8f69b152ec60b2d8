-- `due_at` meets its contract: the cell is the steady lane's, and each number its part of the definition.
use mathlib.Core.Path.{◌≡◌, refl, ap, ◌∙◌}
use Rattle.scheme.specs.Scheme.{Scheme, steady_cell}
use Rattle.scheme.proofs.ByKind.{steady_scheme}
use Rattle.stretches.specs.inner.Turns.{turn_till, turn_due}
use Rattle.stretches.proofs.turns.due_at.Goals as goal

pub returns : goal.returns
unfolding turn_till turn_due
returns c =
    let s = c in
    let a = s.args in
    let cell : c.lane_cell-cell.result ≡ steady_cell a.lane a.tick =
    c.lane_cell-cell.ensures.is
    ∙ ap (λ (S : Scheme). S.on_lane a.lane a.tick) (steady_scheme a.film.kind a.film.floor a.film.cap s.requires.kind_value.0) in
    c.min.ensures
    ∙ rw (
      c.saturating_sub-2.ensures,
      c.film_cells.ensures,
      c.saturating_sub.ensures,
      cell,
      c.moved-till.ensures,
      c.period.ensures.is,
    ) refl
