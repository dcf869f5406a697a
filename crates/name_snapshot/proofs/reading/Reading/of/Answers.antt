use Rattle.std.proofs.Common.{refl}
use Rattle.name_snapshot.proofs.BeginLemmas.{empty_index}
use Rattle.name_snapshot.proofs.reading.Reading.of.Goals as goal

pub returns-clause-behind : goal.returns-clause-behind
returns-clause-behind c = record { begins = refl; last = refl; follow = tt; index = empty_index c.args.base c.args.tables c.requires }
