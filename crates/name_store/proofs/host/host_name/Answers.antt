use Rattle.std.proofs.Common.{◌≡◌, Some, ap, length, arith}
use Rattle.name_store.proofs.host.host_name.Goals as goal

-- what is taken out of two equal options
same_some : {A : Type 0} (a b : A) → Some a ≡ Some b → a ≡ b
same_some a b e = cc

pub returns-else-wire-le-LONGEST_HOST_NAME : goal.returns-else-wire-le-LONGEST_HOST_NAME
returns-else-wire-le-LONGEST_HOST_NAME c = λ is.
    let same = same_some _ _ (c.in-Some.ensures.one is.name is.host.absolute) in
    omega (arith, ap length same, ap length c.wire.ensures.value, is.host.short, c.if-wire-le-LONGEST_HOST_NAME.false)

pub returns-in-None : goal.returns-in-None
returns-in-None c = λ is. c.in-None.ensures.cases is.name is.host.absolute
