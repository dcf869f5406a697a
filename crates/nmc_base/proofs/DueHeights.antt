-- The one height whose names expire at a height.
use Rattle.std.proofs.Common.{◌≡◌, ℕ, suc, true, false, arith}
use Rattle.std.specs.Prelude.{Some}
use Rattle.std.proofs.lemmas.Grind.{common_steps}
use Rattle.nmc_base.specs.declared.chain_ends.Profile.{Profile}
use Rattle.nmc_base.specs.declared.chain_ends.Profile.TheVariants.{Regtest, Main}
use Rattle.nmc_base.specs.Expiry.{Expires, due_height, is_expired}

-- those last changed at it expire
pub due_expires : (profile : Profile) (height made : ℕ) → due_height profile (suc height) ≡ Some made → Expires profile made (suc height)
due_expires Regtest height made due = (grind (arith, common_steps, due), grind (arith, common_steps, due))
due_expires Main height made due = (grind (arith, common_steps, due), grind (arith, common_steps, due))

-- and no others
pub expires_due : (profile : Profile) (height made : ℕ) → is_expired profile made height ≡ false → is_expired profile made (suc height) ≡ true
    → due_height profile (suc height) ≡ Some made
expires_due Regtest height made live expired = grind (arith, common_steps, live, expired)
expires_due Main height made live expired = grind (arith, common_steps, live, expired)
