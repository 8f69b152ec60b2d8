-- What "two outcomes that a contract admits are equal" says, of any call: its contract is cited as the checker reads it off
-- src/ (`Learnt`, of the call's module `Reads`: what a caller learns of arguments, result and rows at exit), not stated again.
use Rattle.std.specs.Prelude.{ℕ, ◌≡◌, List}
use contract.Lifetimes.{Lfts}
use borrow.Fn.Kinds.{ParamKind, ResultKind, Out, Dens, res_t, ended_of}
use denote.Triple.Clauses.{AtExit}

-- of two calls with the same arguments: the results and, of the rows at exit, what `Alike` compares
abbrev pub OneEnd : (n : ℕ) (ps : List (ParamKind n)) (r : ResultKind n) (Alike : (κs : Lfts n) (e f : AtExit (ended_of n ps r) κs) → Type 0)
    → Out n ps r → Type 0
OneEnd n ps r Alike Admits =
    (κs : Lfts n) (a : Dens κs ps) (x y : (res_t r κs).Denot) (e f : AtExit (ended_of n ps r) κs)
    → Admits κs a x e → Admits κs a y f → (x ≡ y) × Alike κs e f

-- of a call that is lent no row
abbrev pub OneOutcome : (n : ℕ) (ps : List (ParamKind n)) (r : ResultKind n) → Out n ps r → Type 0
OneOutcome n ps r Admits =
    (κs : Lfts n) (a : Dens κs ps) (x y : (res_t r κs).Denot) (e f : AtExit (ended_of n ps r) κs)
    → Admits κs a x e → Admits κs a y f → x ≡ y
