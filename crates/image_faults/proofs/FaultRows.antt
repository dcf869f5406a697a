-- Faults by the grammar, of rows worked by hand.
use Rattle.std.proofs.Common.{List, [], ◌∷◌, ◌++◌, length, refl, ap, arith}
use Rattle.std.specs.Prelude.{ℕ, replicate}
use Rattle.nmc_base.specs.declared.chain_ends.Profile.TheVariants.{Regtest}
use Rattle.undo_records.specs.declared.version.Version.TheVariants.{Two}
use Rattle.image_faults.specs.Faults.{in_head, behind, other_magic, other_version, other_profile, HasImageFault, bad}

pub magic_row : HasImageFault (0x4e ∷ 0x4d ∷ 0x43 ∷ 0x48 ∷ 2 ∷ []) 3
magic_row =
    bad (0x48 ∷ 2 ∷ []) (in_head (other_magic (0x4e ∷ 0x4d ∷ 0x43 ∷ []) 0x49 [] refl (omega arith) refl (record { first = 0x48; more = 2 ∷ []; text = refl; other = (λ same. omega (arith, same), tt) }))) refl

pub version_row : HasImageFault (0x4e ∷ 0x4d ∷ 0x43 ∷ 0x49 ∷ 3 ∷ 1 ∷ []) 4
version_row =
    bad (3 ∷ 1 ∷ []) (in_head (other_version refl (record { first = 3; more = 1 ∷ []; text = refl; other = (λ same. omega (arith, same), (λ same. omega (arith, same), tt)) }))) refl

pub profile_row : HasImageFault (0x4e ∷ 0x4d ∷ 0x43 ∷ 0x49 ∷ 2 ∷ 0 ∷ []) 5
profile_row =
    bad (0 ∷ []) (in_head (other_profile Two refl (record { first = 0; more = []; text = refl; other = (λ same. omega (arith, same), (λ same. omega (arith, same), tt)) }))) refl

-- behind a head, no records, no coins and no names
pub behind_row : HasImageFault (0x4e ∷ 0x4d ∷ 0x43 ∷ 0x49 ∷ 2 ∷ 1 ∷ (replicate 48 0 ++ 7 ∷ [])) 54
behind_row =
    bad (7 ∷ []) (behind Two [] (record {
      coins = [];
      count_fits = omega arith;
      fit = tt;
      reached = record {
        undos = [];
        count_fits = omega arith;
        fit = tt;
        reached = record {
          base = record { profile = Regtest; height = 0; hash = record { 0 = replicate 32 0 } };
          height = omega arith;
          hash = refl;
          count_fits = omega arith;
          fit = tt;
          text_is = refl;
        };
      };
    }) (λ none. let size = ap (λ (l : List ℕ). length l) none in omega (arith, size))) refl
