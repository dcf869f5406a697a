use Rattle.std.proofs.Common.{refl, ap}
use Rattle.chain_names.specs.Tables.{name_places, queue_places}
use Rattle.name_tables.proofs.TableLemmas.{coin_place_only, both_places, on_err, on_err_then}
use Rattle.name_tables.proofs.tables.Tables.make_places.Goals as goal

pub returns-in_err-place-2-clause-err : goal.returns-in_err-place-2-clause-err
returns-in_err-place-2-clause-err g c = on_err _ _ (coin_place_only _ _ _ _ c.in_ok-place.ensures.ok (ap queue_places c.in_err-place-2.ensures.err) refl)

pub returns-clause-err : goal.returns-clause-err
returns-clause-err g c =
    on_err_then _ _ _ c.place-3.ensures.err (λ same. both_places _ _ _ _ c.in_ok-place.ensures.ok c.in_ok-place-2.ensures.ok (ap name_places same))
