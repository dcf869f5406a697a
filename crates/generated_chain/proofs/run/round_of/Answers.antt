use Rattle.std.proofs.Common.{◌+◌, ap, ◌∙◌}
use Rattle.std.specs.Prelude.{Option}
use Rattle.std.specs.Option.{option_map}
use Rattle.generated_chain.specs.Stands.{making_by, made_at, output_of, stand_by}
use Rattle.generated_chain.specs.declared.stand.Deed.{Deed}
use Rattle.generated_chain.specs.declared.stand.Made.{Made}
use Rattle.generated_chain.proofs.Hashes.{read_output}
use Rattle.generated_chain.proofs.run.round_of.Goals as goal

pub returns-clause-stand : goal.returns-clause-stand
returns-clause-stand c =
    let height = c.args.tip.height + 1 in
    let stand = c.args.stand.now in
    let deed = c.deed-deed.result in
    let output = read_output _ _ c.args.tip (making_by height c.args.number deed) c.in_ok-hash.output c.in_ok-hash.ensures.output c.as_slice.ensures c.in_ok-block.ensures.block in
    c.behind.ensures
    ∙ ap (λ (m : Option Made). stand_by deed m stand) (c.made_at.ensures ∙ ap (option_map (made_at height)) output)
    ∙ ap (λ (d : Deed). stand_by d (option_map (made_at height) (option_map output_of (making_by height c.args.number d))) stand) c.deed-deed.ensures
