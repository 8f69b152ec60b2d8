-- A notice that code holds has the widths of its types, so every law above is a law of every notice in code.
-- Rests on what owning a record tells of its parts.
use mathlib.Core.List.{List}
use mir.Val.{Val}
use denote.Laws.{Is}
use denote.Enum.Laws as EL
use denote.Struct.Laws as LL
use Rattle.notice.specs.declared.Notice.{Notice}
use Rattle.notice.specs.declared.Kind.{Kind}
use Rattle.notice.specs.declared.Kind.TheVariants.{Open, Change, Close, Hold, Lift, Skip}
use Rattle.notice.specs.Log.{KindTyped, FitsFields}
use Rattle.notice.specs.contracts.Notice as N
use Rattle.notice.proofs.Notice.TheLaws as N'
use Rattle.notice.specs.contracts.Kind as K
use Rattle.notice.proofs.Kind.TheLaws as K'
use Rattle.notice.proofs.Typed.{typed_fits}

kind_held : (d : Kind) (vs : List Val) → Is K.the_row d vs → KindTyped d
kind_held (Open l a k n) vs g = let f = EL.owed K.the_type K'.the_laws (Open l a k n) vs g in (f.0.1, (f.1.0.1, (f.1.1.0.1, f.1.1.1.0.1)))
kind_held (Change n) vs g = let f = EL.owed K.the_type K'.the_laws (Change n) vs g in f.0.1
kind_held Close vs g = tt
kind_held Hold vs g = tt
kind_held Lift vs g = tt
kind_held (Skip l n) vs g = let f = EL.owed K.the_type K'.the_laws (Skip l n) vs g in (f.0.1, f.1.0.1)

pub held : (n : Notice) (vs : List Val) → Is N.the_row n vs → FitsFields n
held n vs g =
    let f = LL.owed N.the_type N'.the_laws n vs g in
    typed_fits n (record { sequence_fits = f.0.1; title_fits = f.1.0.1; time_fits = f.1.1.0.1; kind_fits = kind_held n.kind _ f.1.1.1.0 })
