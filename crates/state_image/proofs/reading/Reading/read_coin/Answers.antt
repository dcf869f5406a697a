use Rattle.state_image.proofs.KeptLemmas.{coins_begin}
use Rattle.state_image.proofs.QueueLemmas.{free_at, up_to_next, entry_after}
use Rattle.state_image.proofs.reading.Reading.read_coin.Goals as goal

pub returns-in_ok-add_coin-in-Ok-clause-kept : goal.returns-in_ok-add_coin-in-Ok-clause-kept
returns-in_ok-add_coin-in-Ok-clause-kept c =
    let after = entry_after c.args.self.now.last c.args.bytes.now _ c.in-Ok.rest.now c.in-Ok.ensures in
    let up = coins_begin c.args.self.now c.args.coins c.requires.next c.requires.kept in
    record {
      tables = c.in_ok-add_coin-in-Ok.ensures.kept (free_at c.args.self.now.last _ c.in-Ok.at up after) c.requires.kept.tables;
      begins = up_to_next c.args.self.now.last _ _ c.in-Ok.at _ up after c.in_ok-add_coin-in-Ok.ensures.coins;
    }
