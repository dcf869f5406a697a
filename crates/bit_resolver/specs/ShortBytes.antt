-- How bytes of a record are kept: a few in place, and more in a list of their own.
use Rattle.std.specs.Prelude.{ℕ, ◌≤◌, List, take}
use Rattle.bit_resolver.specs.declared.short_bytes.Held.{Held}
use Rattle.bit_resolver.specs.declared.short_bytes.Held.TheVariants.{Inside, Apart}

abbrev pub bytes_held : Held → List ℕ
bytes_held (Inside length bytes) = take length bytes
bytes_held (Apart list) = list

-- as many as there are places for
abbrev pub IsHeld : Held → Type 0
IsHeld (Inside length bytes) = length ≤ 38
IsHeld (Apart list) = Unit {0}
