-- When the coin of a name expires, and what a name output has to hold. That names expire, and that an output holds an
-- amount, are Namecoin's rules; the depths, their heights and the amounts of the two profiles are this project's own.
use Rattle.std.specs.Prelude.{◌≡◌, ℕ, zero, suc, ◌+◌, ◌-◌, Bool, true, false, nat_le, nat_lt, if◌then◌else◌, Option, Some, None}
use Rattle.nmc_base.specs.declared.chain_ends.Profile.{Profile}
use Rattle.nmc_base.specs.declared.chain_ends.Profile.TheVariants.{Regtest, Main}

-- for how many blocks a name stands, at a height
abbrev pub main_depth : ℕ → ℕ
main_depth height = if nat_lt height 24000 then 12000 else (if nat_lt height 48000 then height - 12000 else 36000)

abbrev pub expiry_depth : Profile → ℕ → ℕ
expiry_depth Regtest height = 30
expiry_depth Main height = main_depth height

-- a name that was last changed at one height is expired at another
abbrev pub is_expired : Profile → ℕ → ℕ → Bool
is_expired profile made height = nat_le (made + expiry_depth profile height) height

-- a name that was last changed at one height expires at another: it is expired there, and not one block before
abbrev pub Expires : Profile → ℕ → ℕ → Type 0
Expires profile made zero = is_expired profile made 0 ≡ true
Expires profile made (suc height) = (is_expired profile made height ≡ false) × (is_expired profile made (suc height) ≡ true)

-- The one height whose names expire at a height, if there is one. While the depth of the public network grows with the
-- height, none do.
abbrev pub main_due : ℕ → Option ℕ
main_due height =
    if nat_lt height 12000 then None
    else (if nat_le height 24000 then Some (height - 12000)
    else (if nat_le height 48000 then None
    else Some (height - 36000)))

abbrev pub due_height : Profile → ℕ → Option ℕ
due_height Regtest height = if nat_lt height 30 then None else Some (height - 30)
due_height Main height = main_due height

-- the least amount of an output that holds a name, in units of which a coin has 100,000,000
abbrev pub least_amount : Profile → ℕ
least_amount Regtest = 1000000
least_amount Main = 0
