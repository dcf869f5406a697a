-- Keys that are numbers.
use Rattle.std.proofs.Common.{◌≡◌, ℕ, ◌<◌, arith}
use Rattle.std.specs.Ordering.{nat_cmp}
use Rattle.std.specs.declared.cmp.Ordering.TheVariants.{Less}

pub less_by : (x y : ℕ) → x < y → nat_cmp x y ≡ Less
less_by x y h = grind (arith, h)

pub none_less : {A : Type 0} → 0 < 0 → A
none_less h = absurd (omega (arith, h))
