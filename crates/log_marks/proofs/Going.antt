-- A log as far as it was played and its marks drawn, read by read. Rests on the laws of a log that is played into a row.
use Prim.Native.Nat.{ℕ}
use mathlib.Core.Path.{◌≡◌, refl, sym, ap, ◌∙◌}
use mathlib.Core.Bool.{true, false}
use mathlib.Core.List.{List, ◌++◌, append-nil}
use lib.ListN.{length}
use Rattle.notice.specs.declared.Notice.{Notice}
use Rattle.notice.specs.declared.Found.{Found}
use Rattle.notice.specs.declared.Found.TheVariants as found
use Rattle.notice.specs.Decode.{read_at}
use Rattle.notice.specs.Log.{Bytes}
use Rattle.agent_rows.specs.Packed.{unpacked}
use Rattle.row_calls.specs.inner.Steps.{Tested}
use Rattle.logs.specs.declared.PlayedLog.{PlayedLog}
use Rattle.logs.specs.Reading.{played_of, Unplayed, stepped, agent_read, RowRead, kept_read}
use Rattle.logs.proofs.Reading.{PlayedTo, not_begun, played_on, tested, all_played}
use Rattle.text.specs.declared.page.Page.{Page}
use Rattle.text.specs.Pages.{Puts}
use Rattle.text.proofs.Pages.{then, nothing, told_as}
use Rattle.strips.specs.Kept.{kept_length}
use Rattle.frames.specs.declared.bands.View.{View}
use Rattle.log_marks.specs.Hearing.{notice_marks, notice_kept, Takes}
use Rattle.log_marks.specs.Played.{Drawn, undrawn, heard_drawn, found_marks, found_kept, DrawsStep, DrawsAll}

-- ---- one read, as the code meets its cases

module _ (v : View) (log r : List ℕ) (place : ℕ) (p : Page) (kept : List ℕ) where
  pub steps_notice : {q : Page} (n : Notice) (e : ℕ) (x kept' : List ℕ) → read_at log place ≡ found.At n e →
      (Puts p (notice_marks v (unpacked r) n kept) q) × ((kept' ≡ notice_kept v (unpacked r) n kept) × Takes r n x) →
      DrawsStep v r place (read_at log place) p kept x (played_of e true) q kept'
  unfolding stepped agent_read found_marks found_kept
  steps_notice n e x kept' is told =
      rw is
      (record {
        row_read = record { is_row = told.1.1.is_row; agent_is = told.1.1.agent_is };
        played_is = refl;
        written = told.0;
        kept_is = told.1.0;
      })

  still : Tested r → (f : Found) → agent_read (unpacked r) f ≡ unpacked r → RowRead r f r
  still ok f same = record { is_row = record { long = ok.long; sound = ok.sound }; agent_is = sym same }

  pub steps_end : Tested r → read_at log place ≡ found.End → DrawsStep v r place (read_at log place) p kept r (played_of place false) p kept
  unfolding stepped agent_read found_marks found_kept
  steps_end ok is = rw is (record { row_read = still ok found.End refl; played_is = refl; written = nothing; kept_is = refl })

  pub steps_none : Tested r → read_at log place ≡ found.Malformed →
      DrawsStep v r place (read_at log place) p kept r (played_of place false) p kept
  unfolding stepped agent_read found_marks found_kept
  steps_none ok is = rw is (record { row_read = still ok found.Malformed refl; played_is = refl; written = nothing; kept_is = refl })

-- ---- read by read

module _ (v : View) (pool : ℕ) (log : List ℕ) (p : Page) (kept : List ℕ) where
  pub record Going (r : List ℕ) (d : PlayedLog) (q : Page) (kept' : List ℕ) : Type 0 where
    pub drawn : Drawn
    pub played : PlayedTo (heard_drawn v) pool log (undrawn kept) r d drawn
    pub written : Puts p drawn.text q
    pub kept_is : kept' ≡ drawn.kept
    pub long : length kept' ≡ kept_length

  pub begins : (r : List ℕ) (d : PlayedLog) → Unplayed pool r d → length kept ≡ kept_length → Going r d p kept
  begins r d none long =
      record { drawn = undrawn kept; played = not_begun _ pool log _ r d _ none refl; written = nothing; kept_is = refl; long = long }

  -- what a read adds
  added : (g : List ℕ) (d : Drawn) (f : Found) → (kept_read (heard_drawn v) (unpacked g) d f).text ≡ d.text ++ found_marks v (unpacked g) f d.kept
  unfolding kept_read heard_drawn found_marks
  added g d (found.At n e) = refl
  added g d found.End = sym (append-nil d.text)
  added g d found.Malformed = sym (append-nil d.text)

  kept_on : (g : List ℕ) (d : Drawn) (f : Found) → (kept_read (heard_drawn v) (unpacked g) d f).kept ≡ found_kept v (unpacked g) f d.kept
  unfolding kept_read heard_drawn found_kept
  kept_on g d (found.At n e) = refl
  kept_on g d found.End = refl
  kept_on g d found.Malformed = refl

  module _ {q : Page} (r : List ℕ) (d : PlayedLog) (kept' : List ℕ) (w : Going r d q kept') where
    pub goes_on : {o : Page} (s : List ℕ) (e : PlayedLog) (kept'' : List ℕ) →
        DrawsStep v r d.place (read_at log d.place) q kept' s e o kept'' → length kept'' ≡ kept_length → Going s e o kept''
    goes_on s e kept'' one long =
        let f : Found = read_at log d.place in
        let z : Drawn = kept_read (heard_drawn v) (unpacked r) w.drawn f in
        record {
          drawn = z;
          played = played_on _ pool log _ r s d e w.drawn z
              (record { row_read = one.row_read; played_is = one.played_is; kept_is = refl }) w.played;
          written = told_as (sym (added r w.drawn f)) (then w.written (told_as (ap (found_marks v (unpacked r) f) w.kept_is) one.written));
          kept_is = one.kept_is ∙ ap (found_kept v (unpacked r) f) w.kept_is ∙ sym (kept_on r w.drawn f);
          long = long;
        }

    pub is_tested : Bytes log → Tested r
    is_tested small = tested _ pool log _ r d w.drawn w.played small

    pub arrives : d.more ≡ false → Bytes log → DrawsAll v pool log p kept r d q kept'
    arrives over small =
        let all = all_played _ pool log _ r d w.drawn w.played over in
        record {
          tested = is_tested small;
          agent_is = all.agent_is;
          place_is = all.place_is;
          written = told_as (ap (λ (x : Drawn). x.text) all.kept_is) w.written;
          kept_is = w.kept_is ∙ ap (λ (x : Drawn). x.kept) all.kept_is;
        }
