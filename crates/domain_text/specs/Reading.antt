-- Reading from the front of bytes.
use Rattle.std.specs.Prelude.{ℕ, zero, suc, List, [], ◌∷◌, Option, Some, None, ◌==◌, nat_le, if◌then◌else◌}
use Rattle.std.specs.Option.{option_map}
use Rattle.domain_text.specs.declared.limits.TheConstants.{LONGEST_LABEL}

-- a value from the front of bytes, and the bytes behind it
abbrev pub Reader : Type 0 → Type 0
Reader A = List ℕ → Option (A × List ℕ)

-- the bytes behind this one
abbrev pub after : ℕ → List ℕ → Option (List ℕ)
after c [] = None
after c (b ∷ rest) = if b == c then Some rest else None

-- how many bytes the labels at the front take, with the 0 behind them, where so many bytes of a label are left
abbrev pub name_length : ℕ → List ℕ → Option ℕ
name_length left [] = None
name_length zero (b ∷ rest) = if b == 0 then Some 1 else if nat_le b LONGEST_LABEL then option_map suc (name_length b rest) else None
name_length (suc left) (b ∷ rest) = option_map suc (name_length left rest)
