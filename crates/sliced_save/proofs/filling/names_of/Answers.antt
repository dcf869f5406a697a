use Rattle.std.proofs.Common.{[], sym, ap, arith, ◌∙◌}
use Rattle.std.proofs.lemmas.List.{length-map}
use Rattle.std.proofs.lemmas.Slice.Eq.{bytes_eq-Decides}
use Rattle.std.specs.List.{list_any}
use Rattle.std.specs.Map.{keys_of}
use Rattle.std.specs.Str.{bytes_eq}
use Rattle.chain_names.specs.Points.{changed}
use Rattle.chain_names.specs.Tables.{items_of, names_in}
use Rattle.pin_views.proofs.Filling.{past_end}
use Rattle.sliced_save.specs.Changes.{grown}
use Rattle.sliced_save.specs.Mirror.{items_at}
use Rattle.std.proofs.Common.{take}
use Rattle.sliced_save.proofs.FillLemmas.{filled_all, filled_next, grown_filled, unlisted_none}
use Rattle.sliced_save.proofs.filling.names_of.Goals as goal

pub loop-i-preserved : goal.loop-i-preserved
loop-i-preserved g c =
    let table = c.args.table.now in
    let name = c.in-Some.name.now in
    let old = items_at c.loop-i.names in (
      filled_next bytes_eq bytes_eq-Decides (names_in table) [] (keys_of table) old (items_at c.grow.new.self) name c.loop-i.i c.loop-i.invariant.0 c.in-Some.ensures.name
          (c.in_ok-grow-in-Some.ensures.names
          ∙ ap (changed bytes_eq old name)
          (ap (grown (old name)) c.in-Some.ensures.items ∙ grown_filled (list_any (bytes_eq name) (take c.loop-i.i (keys_of table))) (old name) (names_in table name) (c.loop-i.invariant.0.filled name))),
      omega (arith, c.in-Some.ensures.cost, c.in_ok-grow-in-Some.ensures.grows, c.loop-i.invariant.1),
      omega (arith, c.in-Some.ensures.cost, c.in_ok-grow-in-Some.ensures.cost, c.loop-i.invariant.2),
    )

pub returns-in-None : goal.returns-in-None
returns-in-None g c =
    let table = c.args.table.now in
    let past = past_end (keys_of table) c.loop-i.i (sym c.in-None.ensures.name) in
    let many = length-map table (λ p. p.0) in
    record {
      names = filled_all bytes_eq bytes_eq-Decides (names_in table) [] (keys_of table) (items_at c.loop-i.names) c.loop-i.i c.loop-i.invariant.0 past (λ q e. ap items_of (unlisted_none (bytes_eq q) table e));
      least = omega (arith, past, many, c.loop-i.invariant.1, c.in-None.ensures.cost);
      cost = omega (arith, many, c.loop-i.invariant.0.within, c.loop-i.invariant.2, c.in-None.ensures.cost);
    }
