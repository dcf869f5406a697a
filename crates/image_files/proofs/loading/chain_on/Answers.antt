use Rattle.std.proofs.Common.{◌≡◌, ℕ, Bool, true, false, refl, sym, ◌∙◌, arith, rules}
use Rattle.std.specs.Prelude.{◌&&◌, not, nat_eq}
use Rattle.std.specs.Cmp.Lexicographic.{pointwise, same_text}
use Rattle.std.proofs.lemmas.Bool.Decides.{nat_tests}
use Rattle.nmc_base.specs.contracts.chain_ends.Profile.{the_type}
use Rattle.nmc_base.specs.declared.chain_ends.Base.{Base}
use denote.Enum.Bare.{same_true, sameb}
use Rattle.image_files.proofs.loading.chain_on.Goals as goal

all_three : (a b p : Bool) → not (a && (b && p)) ≡ false → (a ≡ true) × (b ≡ true) × (p ≡ true)
all_three true true true e = (refl, refl, refl)
all_three true true false e = absurd cc
all_three true false p e = absurd cc
all_three false b p e = absurd cc

same_number : (m n : ℕ) → nat_eq m n ≡ true → m ≡ n
same_number m n e = grind (arith, nat_tests)

same_base : (a b : Base) → not (sameb the_type a.profile b.profile && (nat_eq a.height b.height && pointwise nat_eq a.hash.0 b.hash.0)) ≡ false → a ≡ b
same_base a b e =
    let all = all_three (sameb the_type a.profile b.profile) (nat_eq a.height b.height) (pointwise nat_eq a.hash.0 b.hash.0) e in
    let profile = same_true the_type (search rules) a.profile b.profile all.0 in
    let height = same_number a.height b.height all.1 in
    let hash = same_text a.hash.0 b.hash.0 (sym all.2) in
    λ i. record { profile = profile i; height = height i; hash = record { 0 = hash i } }

pub returns : goal.returns
returns c = (same_base c.args.read c.args.base.now (sym c.ne.ensures ∙ c.if-ne.false), c.from_parts.ensures)
