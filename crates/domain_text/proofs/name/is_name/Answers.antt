use Rattle.std.proofs.Common.{arith, sym, ap, ◌∙◌, ◌≡◌, length, Some}
use Rattle.std.proofs.lemmas.Bool.Decides.{nat_tests}
use Rattle.domain_text.proofs.NameLaws.{is_name, name_length-name, same_length}
use Rattle.domain_text.proofs.name.is_name.Goals as goal

pub returns-in-Some : goal.returns-in-Some
returns-in-Some c = (
  (λ t. is_name c.args.wire.now c.requires (sym c.in-Some.ensures ∙ ap Some (same_length c.in-Some.len (length c.args.wire.now) t))),
  λ n. let e : c.in-Some.len ≡ length c.args.wire.now = cc (c.in-Some.ensures, name_length-name c.args.wire.now n) in grind (arith, nat_tests),
)

pub returns-in-None : goal.returns-in-None
returns-in-None c = ((λ t. absurd (cc)), λ n. absurd (cc (c.in-None.ensures, name_length-name c.args.wire.now n)))
