-- What the report of a bridge tells.
use Rattle.name_report.specs.Text.{Reported}
use Rattle.name_report.specs.Report.{reported_on}
use Rattle.chain_commands.specs.RunState.{RunState, chain_of}

-- what the log of the run state's chain says
abbrev pub reported_of : RunState → Reported
reported_of run = let chain = chain_of run in reported_on chain.base chain.start chain.blocks
