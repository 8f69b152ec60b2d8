-- A kind's text is its word, id, time and its own numbers, one behind the other. Rests on the order in which a row of numbers is written.
use Prim.Native.Nat.{ℕ, zero, suc}
use mathlib.Core.Path.{◌≡◌, sym, ap, ◌∙◌}
use mathlib.Core.List.{List, [], ◌∷◌, ◌++◌, append_assoc, append-nil}
use lib.ListN.{length, get_or}
use Rattle.notice.specs.declared.Kind.{Kind}
use Rattle.notice.specs.declared.Kind.TheVariants.{Open, Change, Close, Hold, Lift, Skip}
use Rattle.console_answers.specs.Entries.{entry, each, numbers_text}
use Rattle.console_notices.specs.Reading.{kind_text}
use Rattle.console_notices.specs.inner.Kinds.{kind_word, kind_numbers}

-- the first number of a row stands before the others
front : (a : ℕ) (row : List ℕ) (n : ℕ) → numbers_text (a ∷ row) (suc n) ≡ entry a ++ numbers_text row n
unfolding each
front a row zero = sym (append-nil (entry a))
front a row (suc n) =
    ap (λ (s : List ℕ). s ++ entry (get_or row n 0)) (front a row n)
    ∙ append_assoc (entry a) (numbers_text row n) (entry (get_or row n 0))

parted : (w : List ℕ) (id time : ℕ) (own : List ℕ) (n : ℕ)
    → w ++ numbers_text (id ∷ time ∷ own) (suc (suc n)) ≡ ((w ++ entry id) ++ entry time) ++ numbers_text own n
parted w id time own n =
    ap (λ (s : List ℕ). w ++ s) (front id (time ∷ own) (suc n) ∙ ap (λ (s : List ℕ). entry id ++ s) (front time own n))
    ∙ sym (append_assoc w (entry id) (entry time ++ numbers_text own n))
    ∙ sym (append_assoc (w ++ entry id) (entry time) (numbers_text own n))

pub kind_parts : (id time : ℕ) (kind : Kind)
    → kind_text id time kind ≡ ((kind_word kind ++ entry id) ++ entry time) ++ numbers_text (kind_numbers kind) (length (kind_numbers kind))
kind_parts id time (Open d a k n) = parted (kind_word (Open d a k n)) id time (d ∷ a ∷ k ∷ n ∷ []) 4
kind_parts id time (Change n) = parted (kind_word (Change n)) id time (n ∷ []) 1
kind_parts id time Close = parted (kind_word Close) id time [] 0
kind_parts id time Hold = parted (kind_word Hold) id time [] 0
kind_parts id time Lift = parted (kind_word Lift) id time [] 0
kind_parts id time (Skip d n) = parted (kind_word (Skip d n)) id time (d ∷ n ∷ []) 2
