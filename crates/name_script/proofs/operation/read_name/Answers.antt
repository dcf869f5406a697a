use Rattle.std.proofs.Common.{arith}
use Rattle.std.specs.Option.{option_map}
use Rattle.name_script.specs.Seen.{seen_operation}
use Rattle.name_script.proofs.NameScripts.{read_iff, none_iff}
use Rattle.name_script.proofs.operation.read_name.Goals as goal

pub returns-clause-some : goal.returns-clause-some
returns-clause-some c = read_iff c.args.script.now (option_map seen_operation c.operation_of.result) (λ i. omega (arith, c.type_inv.script i)) c.operation_of.ensures

pub returns-clause-none : goal.returns-clause-none
returns-clause-none c = none_iff seen_operation c.args.script.now c.operation_of.result (λ i. omega (arith, c.type_inv.script i)) c.operation_of.ensures
