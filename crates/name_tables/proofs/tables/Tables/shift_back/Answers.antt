use Rattle.std.proofs.Common.{ap, ◌∙◌}
use Rattle.std.specs.Prelude.{Some, None}
use Rattle.std.specs.Str.{bytes_eq}
use Rattle.chain_names.specs.Points.{same_point, changed}
use Rattle.chain_names.specs.Changes.{without_entry}
use Rattle.chain_names.specs.Tables.{coins_in, names_in, name_places}
use Rattle.chain_names.proofs.Changed.{changed_still}
use Rattle.chain_names.proofs.Points.{same_point-Decides}
use Rattle.name_tables.proofs.TableLemmas.{none_free, names_popped, names_filled_by, names_filled_same}
use Rattle.name_tables.proofs.tables.Tables.shift_back.Goals as goal

pub put_coin-requires-clause-free : goal.put_coin-requires-clause-free
put_coin-requires-clause-free g c =
    none_free (coins_in c.take_coin.new.self.coins) c.args.spent.now c.args.coin
    (ap (λ f. f c.args.spent.now) c.take_coin.ensures.taken.coins
    ∙ changed_still same_point-Decides (coins_in c.args.self.now.coins) c.args.made.now c.args.spent.now None c.requires.free)

pub put_coin-requires-clause-place : goal.put_coin-requires-clause-place
put_coin-requires-clause-place g c = ap (λ f. f c.args.spent.now) c.take_coin.ensures.taken.places ∙ c.requires.place

pub put_coin-requires-clause-row : goal.put_coin-requires-clause-row
put_coin-requires-clause-row g c = λ height is. ap (λ q. q height c.args.spent.now) c.take_coin.ensures.taken.rows ∙ c.requires.row height is

pub returns-clause-back : goal.returns-clause-back
returns-clause-back g c =
    let taken = c.take_coin.ensures.taken in
    let put = c.put_coin.ensures.put in
    let popped = c.pop.ensures.names ∙ ap (λ t. changed bytes_eq (names_in t) c.args.name.now (without_entry (names_in t c.args.name.now))) taken.names in
    record {
      coins = put.coins ∙ ap (λ f. changed same_point f c.args.spent.now (Some c.args.coin)) taken.coins;
      places = put.places ∙ taken.places;
      names = ap names_in put.names ∙ c.unplace.ensures.names ∙ popped;
      names_filled = names_filled_by _ _ put.names
          (names_filled_same _ _ c.unplace.ensures.names
          (names_popped (name_places c.pop.new.self) (name_places c.unplace.new.self) (names_in c.args.self.now.names) (names_in c.pop.new.self) c.args.name.now _
          (λ n. ap (λ f. f n) (c.pop.ensures.places ∙ ap name_places taken.names) ∙ c.requires.names n)
          popped
          c.unplace.ensures.places));
      queue = put.queue;
      rows = put.rows ∙ taken.rows;
    }
