-- What every lawful scheme has: lanes that may be looked up by a tick's remainder. Rests on the laws alone.
use mathlib.Core.Path.{◌≡◌, sym, ap, ◌∙◌}
use Prim.Native.Nat.{ℕ, zero, suc, ◌+◌, ◌-◌, ◌*◌, ◌/◌, ◌%◌, ◌^◌, ◌<◌}
use native.Mathlib.Omega.{arith}
use native.Mathlib.Nat.{mod-add-div}
use Rattle.scheme.specs.Scheme.{Scheme}
use Rattle.scheme.specs.Lawful.{Lawful}

module _ {S : Scheme} {D tick A K : ℕ} (laws : Lawful S D tick A K) where
  repeats_on : (l t n : ℕ) → l < K → S.on_lane l (t + 2 ^ (K - 1) * n) ≡ S.on_lane l t
  repeats_on l t zero b = ap (S.on_lane l) (omega arith)
  repeats_on l t (suc n) b =
      let e : t + 2 ^ (K - 1) * suc n ≡ t + 2 ^ (K - 1) * n + 2 ^ (K - 1) = omega arith in
      ap (S.on_lane l) e ∙ laws.repeats l (t + 2 ^ (K - 1) * n) b ∙ repeats_on l t n b

  -- so a lane's cell may be looked up by the tick's remainder
  pub lane_looked_up : (l t : ℕ) → l < K → S.on_lane l t ≡ S.on_lane l (t % 2 ^ (K - 1))
  lane_looked_up l t b =
      ap (S.on_lane l) (sym (mod-add-div t (2 ^ (K - 1)))) ∙ repeats_on l (t % 2 ^ (K - 1)) (t / 2 ^ (K - 1)) b
