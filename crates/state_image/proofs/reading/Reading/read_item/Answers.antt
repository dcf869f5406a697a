use Rattle.state_image.proofs.reading.Reading.read_item.Goals as goal

pub returns-in_ok-add_item-in-Ok-clause-kept : goal.returns-in_ok-add_item-in-Ok-clause-kept
returns-in_ok-add_item-in-Ok-clause-kept c =
    let kept = c.requires.kept.tables in
    record {
      tables = record {
        queue = kept.queue;
        filled = record { coins = kept.filled.coins; names = c.in_ok-add_item-in-Ok.ensures.filled kept.filled.names; queue = kept.filled.queue };
      };
      begins = tt;
    }
