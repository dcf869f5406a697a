use Rattle.std.proofs.Common.{refl, ap, sym, ◌∙◌}
use Rattle.std.specs.Prelude.{Some, None}
use Rattle.chain_names.specs.declared.coin.Coin.TheVariants.{Named}
use Rattle.chain_names.specs.Points.{same_point, changed}
use Rattle.chain_names.specs.Coins.{with_value}
use Rattle.chain_names.specs.Tables.{coins_in, names_in, name_places, queue_places}
use Rattle.chain_names.proofs.Changed.{changed_still}
use Rattle.chain_names.proofs.Points.{same_point-Decides}
use Rattle.name_tables.proofs.TableLemmas.{no_coin_held, none_free, row_kept}
use Rattle.name_tables.proofs.tables.Tables.move_name.Goals as goal

pub unreachable-requires : goal.unreachable-requires
unreachable-requires g c = no_coin_held c.requires.held.0 (c.in-None.ensures.value ∙ c.requires.held.1)

pub put_coin-requires-clause-free : goal.put_coin-requires-clause-free
put_coin-requires-clause-free g c =
    none_free (coins_in c.take_coin.new.self.coins) c.args.copies.item.at (Named c.args.copies.own c.args.copies.item.height)
    (ap (λ f. f c.args.copies.item.at) c.in-Some.ensures.taken.coins
    ∙ changed_still same_point-Decides (coins_in c.args.self.now.coins) c.args.spent.now c.args.copies.item.at None c.requires.fresh)

pub put_coin-requires-clause-place : goal.put_coin-requires-clause-place
put_coin-requires-clause-place g c = ap (λ f. f c.args.copies.item.at) c.in-Some.ensures.taken.places ∙ c.requires.place

pub put_coin-requires-clause-row : goal.put_coin-requires-clause-row
put_coin-requires-clause-row g c =
    row_kept (queue_places c.args.self.now.queue) (queue_places c.take_coin.new.self.queue) c.args.copies.item.height c.args.copies.item.at c.args.copies.own c.in-Some.ensures.taken.rows c.requires.row

pub returns-clause-moves : goal.returns-clause-moves
returns-clause-moves g c =
    let taken = c.in-Some.ensures.taken in
    let put = c.put_coin.ensures.put in
    let names = put.names ∙ taken.names in
    let item = c.args.copies.item in
    record {
      held = sym c.in-Some.ensures.value;
      name_is = refl;
      before_is = refl;
      coins = put.coins ∙ ap (λ f. changed same_point f item.at (Some (Named c.args.copies.own item.height))) taken.coins;
      places = put.places ∙ taken.places;
      names = c.push.ensures.names ∙ ap (λ f. with_value f c.args.name.now item) (ap names_in names);
      name_places = c.push.ensures.places ∙ ap name_places names;
      queue = put.queue;
      rows = put.rows ∙ taken.rows;
    }
