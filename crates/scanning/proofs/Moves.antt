-- Which move it is, from what the log has at the place and whether it is that notice's turn. `look` goes by these.
-- Rest on the definitions alone.
use mathlib.Core.Path.{◌≡◌}
use mathlib.Core.Bool.{true, false}
use Prim.Native.Nat.{ℕ}
use Rattle.notice.specs.declared.Notice.{Notice}
use Rattle.notice.specs.declared.Found.{Found}
use Rattle.notice.specs.declared.Found.TheVariants as found
use Rattle.std.specs.Prelude.{Option}
use Rattle.scanning.specs.declared.scan.Move.TheVariants.{Take, Skip, Stop}
use Rattle.scanning.specs.Scan.{is_later, move_of}

module _ (l : Option ℕ) (f : Found) where
  pub in_turn : (n : Notice) (e : ℕ) → f ≡ found.At n e → is_later l n.sequence ≡ true → Take n e ≡ move_of l f
  in_turn n e is later = rw (is, later)

  pub out_of_turn_lem : (n : Notice) (e : ℕ) → f ≡ found.At n e → is_later l n.sequence ≡ false → Skip ≡ move_of l f
  out_of_turn_lem n e is later = rw (is, later)

  pub no_byte : f ≡ found.End → Stop ≡ move_of l f
  no_byte is = rw is

  pub no_notice : f ≡ found.Malformed → Skip ≡ move_of l f
  no_notice is = rw is
