use Rattle.std.proofs.Common.{◌∙◌}
use Rattle.chain_names.specs.Tables.{queue_places, queued_in}
use Rattle.name_tables.proofs.TableLemmas.{placed_row}
use Rattle.name_snapshot.proofs.PutLemmas.{row_changed}
use Rattle.name_snapshot.proofs.putting.queue_at.Goals as goal

pub put-requires : goal.put-requires
put-requires g c = record { placed = placed_row (queue_places c.args.queue.now) _ c.args.height c.args.at c.in_ok-place.ensures.ok }

pub returns : goal.returns
returns g c = record {
  queued = c.put.ensures.queued ∙ row_changed _ (queued_in c.args.queue.now) c.args.height c.args.at c.in_ok-place.ensures.queued;
  places = c.put.ensures.places ∙ c.in_ok-place.ensures.ok;
}
