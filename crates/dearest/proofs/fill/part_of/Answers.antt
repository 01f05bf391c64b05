-- `part_of` meets its contract, for each number of pairs.
use mathlib.Core.Path.{◌≡◌, refl}
use Prim.Native.Nat.{ℕ, zero, suc, ◌*◌, ◌-◌, ◌/◌, ◌^◌, ◌<◌}
use native.Mathlib.Omega.{arith}
use Rattle.dearest.specs.Body.{pairs}
use Rattle.dearest.proofs.fill.part_of.Goals as goal

shifted : (n : ℕ) → 0 < n → n < 4 → 170 / 2 ^ (8 - 2 * n) ≡ pairs n
unfolding pairs
shifted zero h l = absurd (omega arith)
shifted (suc zero) h l = refl
shifted (suc (suc zero)) h l = refl
shifted (suc (suc (suc zero))) h l = refl
shifted (suc (suc (suc (suc n)))) h l = absurd (omega arith)

pub returns : goal.returns
returns c = shifted c.args.n c.requires.0 c.requires.1
