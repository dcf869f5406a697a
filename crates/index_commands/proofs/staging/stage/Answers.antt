use Rattle.std.proofs.Common.{arith}
use Rattle.index_commands.proofs.ByIndexLemmas.{with_room, without_room, given_up_cheap}
use Rattle.index_commands.proofs.StagedLemmas.{stages_command, given_up_fits, fits_so}
use Rattle.index_commands.proofs.SizeLemmas.{record_some}
use Rattle.index_commands.specs.Views.{command_of}
use Rattle.index_commands.proofs.staging.stage.Goals as goal

pub returns-then-is_full-clause-on_index : goal.returns-then-is_full-clause-on_index
returns-then-is_full-clause-on_index g c =
    without_room _ c.args.chain (omega (arith, c.if-is_full.true, c.saturating_sub.ensures, c.record_length.ensures.length)) c.args.command c.stage_anywhere-outcome.result c.give_up.result
    c.stage_anywhere-outcome.ensures.on_index c.give_up.ensures

pub returns-else-is_full-clause-on_index : goal.returns-else-is_full-clause-on_index
returns-else-is_full-clause-on_index g c = with_room _ c.args.chain c.args.command c.stage_anywhere-outcome.result c.stage_anywhere-outcome.ensures.on_index

pub returns-then-is_full-clause-fits : goal.returns-then-is_full-clause-fits
returns-then-is_full-clause-fits g c = given_up_fits c.args.area c.args.most (command_of c.args.command) c.stage_anywhere-outcome.result c.give_up.result c.give_up.ensures

pub returns-else-is_full-clause-fits : goal.returns-else-is_full-clause-fits
returns-else-is_full-clause-fits g c = fits_so c.args.area c.args.most (command_of c.args.command) c.stage_anywhere-outcome.result
    (λ full. omega (arith, full, c.if-is_full.false, c.saturating_sub.ensures, c.record_length.ensures.length, record_some (command_of c.args.command) c.record_length.ensures.sized))

pub returns-then-is_full-clause-stages : goal.returns-then-is_full-clause-stages
returns-then-is_full-clause-stages g c =
    stages_command c.args.area c.args.most c.args.chain c.args.command c.requires c.give_up.result (returns-then-is_full-clause-on_index g c) (returns-then-is_full-clause-fits g c)

pub returns-else-is_full-clause-stages : goal.returns-else-is_full-clause-stages
returns-else-is_full-clause-stages g c =
    stages_command c.args.area c.args.most c.args.chain c.args.command c.requires c.stage_anywhere-outcome.result (returns-else-is_full-clause-on_index g c) (returns-else-is_full-clause-fits g c)

pub returns-then-is_full-clause-cost : goal.returns-then-is_full-clause-cost
returns-then-is_full-clause-cost g c = given_up_cheap c.args.chain c.args.command c.stage_anywhere-outcome.result c.give_up.result c.args.steps.now c.give_up.new.steps c.stage_anywhere-outcome.ensures.on_index c.give_up.ensures
