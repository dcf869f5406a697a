use Rattle.std.proofs.Common.{ℕ, List, ◌∷◌, ◌++◌, [], ap, ◌∙◌}
use Rattle.block_maker.specs.Seen.{operation_of}
use Rattle.block_maker.proofs.Scripts.{script_is_at}
use Rattle.block_maker.proofs.script.script_in.Goals as goal

pub returns-clause-name : goal.returns-clause-name
returns-clause-name c =
    script_is_at c.extend.new.self (operation_of c.args.op.now) c.in_ok-script.ensures.parts (c.in_ok-extend.ensures.ok ∙ ap (λ (x : List ℕ). x ++ (0x6D ∷ 0x51 ∷ [])) c.in_ok-script.ensures.pushes)
