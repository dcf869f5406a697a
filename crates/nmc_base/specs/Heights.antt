-- How high a chain may be.
use Rattle.std.specs.Prelude.{ℕ}
use Rattle.nmc_base.specs.declared.limits.TheConstants.{HIGHEST_HEIGHT}

-- no chain is higher
abbrev pub highest : ℕ
highest = HIGHEST_HEIGHT
