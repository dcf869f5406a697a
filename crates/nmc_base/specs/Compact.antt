-- How bytes are kept: a few in place, and more in a vector of their own.
use Rattle.std.specs.Prelude.{ℕ, ◌≤◌, List, take}
use Rattle.nmc_base.specs.declared.compact_bytes.Held.{Held}
use Rattle.nmc_base.specs.declared.compact_bytes.Held.TheVariants.{Inside, Apart}

abbrev pub bytes_held : Held → List ℕ
bytes_held (Inside length bytes) = take length bytes
bytes_held (Apart list) = list.value.items

-- as many as there are places for
abbrev pub IsHeld : Held → Type 0
IsHeld (Inside length bytes) = length ≤ 15
IsHeld (Apart list) = Unit {0}
