-- Two outcomes that a contract of this crate admits are equal.
use Prim.Native.Nat.{ℕ}
use mathlib.Core.Path.{◌≡◌, sym, ap, ◌∙◌}
use mathlib.Core.Bool.{Bool}
use mathlib.Core.List.{List}
use Rattle.rules.specs.OneOutcome.{OneEnd, OneOutcome}
use Rattle.agent.specs.declared.Agent.{Agent}
use Rattle.text.specs.Output.{Page, page}
use Rattle.headend_desk.specs.declared.Answered.{Answered}
use Rattle.headend_desk.specs.declared.Desk.{Desk}
use Rattle.headend_desk.specs.Desk.{Leaves}
use Rattle.headend_desk.proofs.answer.Kinds as answer-kinds
use Rattle.headend_desk.proofs.answer.Reads as answer-call
use Rattle.headend_desk.proofs.has_room.Kinds as has-room-kinds
use Rattle.headend_desk.proofs.has_room.Reads as has-room-call

-- of `answer`: the desk, whether the session is over, and the three lent rows
module _ {g : Agent} {text notice sum : List ℕ} {d : Desk} {out notices sums : List ℕ} where
  same_desk : (x y : Desk) (a b c a' b' c' : List ℕ) → Leaves g text notice sum d out notices sums x a b c →
      Leaves g text notice sum d out notices sums y a' b' c' → (x ≡ y) × ((a ≡ a') × ((b ≡ b') × (c ≡ c')))
  same_desk x y a b c a' b' c' l m =
      let agent : x.agent ≡ y.agent = l.agent ∙ sym m.agent in
      let one : page a x.at ≡ page a' y.at = l.answered ∙ sym m.answered in
      let two : page b x.noticed ≡ page b' y.noticed = l.noticed ∙ sym m.noticed in
      let three : page c x.summed ≡ page c' y.summed = l.summed ∙ sym m.summed in
      let at : x.at ≡ y.at = ap (λ (p : Page). p.at) one in
      let noticed : x.noticed ≡ y.noticed = ap (λ (p : Page). p.at) two in
      let summed : x.summed ≡ y.summed = ap (λ (p : Page). p.at) three in (
        λ i. record { agent = agent i; at = at i; noticed = noticed i; summed = summed i },
        (ap (λ (p : Page). p.row) one, (ap (λ (p : Page). p.row) two, ap (λ (p : Page). p.row) three)),
      )

  same_left : {over : Bool} (x y : Answered) (a b c a' b' c' : List ℕ) →
      (Leaves g text notice sum d out notices sums x.desk a b c) × (x.over ≡ over) →
      (Leaves g text notice sum d out notices sums y.desk a' b' c') × (y.over ≡ over) →
      (x ≡ y) × ((a ≡ a') × ((b ≡ b') × (c ≡ c')))
  same_left x y a b c a' b' c' (l, u) (m, v) =
      let desks = same_desk x.desk y.desk a b c a' b' c' l m in
      let desk : x.desk ≡ y.desk = desks.0 in
      let over : x.over ≡ y.over = u ∙ sym v in
      (λ i. record { desk = desk i; over = over i }, desks.1)

pub answer_one_outcome : OneEnd 4 answer-kinds.ps answer-kinds.r
    (λ κs e f. (e.1.1.0.now ≡ f.1.1.0.now)
    × ((e.1.1.1.0.now ≡ f.1.1.1.0.now) × (e.1.1.1.1.0.now ≡ f.1.1.1.1.0.now)))
    answer-call.Learnt
answer_one_outcome κs a x y e f p q = same_left x y _ _ _ _ _ _ p q

pub has_room_one_outcome : OneOutcome 0 has-room-kinds.ps has-room-kinds.r has-room-call.Learnt
has_room_one_outcome κs a x y e f p q = p ∙ sym q
