use Rattle.std.proofs.Common.{true, ap, sym, ◌∙◌}
use Rattle.std.specs.Prelude.{Some, None}
use Rattle.chain_names.specs.declared.coin.Coin.TheVariants.{Named}
use Rattle.chain_names.specs.Points.{same_point, changed}
use Rattle.chain_names.specs.declared.coin.Item.{Item}
use Rattle.chain_names.specs.Coins.{with_value}
use Rattle.chain_names.specs.Tables.{coins_in, coin_places, names_in, name_places, queue_of, queue_places}
use Rattle.chain_names.proofs.Changed.{changed_at, bytes_eq-at_changed}
use Rattle.chain_names.proofs.Points.{same_point-Decides}
use Rattle.name_tables.proofs.TableLemmas.{placed_row}
use Rattle.name_tables.proofs.tables.Tables.shift.Goals as goal

pub move_name-requires-clause-queue : goal.move_name-requires-clause-queue
move_name-requires-clause-queue g c =
    let same = c.in_ok-make_places.ensures.same in
    same.queue ∙ c.requires.queue ∙ ap queue_of (sym same.coins)

pub move_name-requires-clause-held : goal.move_name-requires-clause-held
move_name-requires-clause-held g c =
    (c.requires.held.0, ap (λ f. f c.args.spent.now) c.in_ok-make_places.ensures.same.coins ∙ c.requires.held.1)

pub move_name-requires-clause-fresh : goal.move_name-requires-clause-fresh
move_name-requires-clause-fresh g c =
    ap (λ (item : Item). coins_in c.make_places.new.self.coins item.at) c.in_ok-copies.ensures.copied.item_is
    ∙ ap (λ f. f c.args.made.now) c.in_ok-make_places.ensures.same.coins ∙ c.requires.fresh

pub move_name-requires-clause-place : goal.move_name-requires-clause-place
move_name-requires-clause-place g c =
    ap (λ (item : Item). coin_places c.make_places.new.self.coins item.at) c.in_ok-copies.ensures.copied.item_is
    ∙ ap (λ f. f c.args.made.now) c.in_ok-make_places.ensures.ok.coins ∙ changed_at same_point-Decides (coin_places c.args.self.now.coins) c.args.made.now true

pub move_name-requires-clause-row : goal.move_name-requires-clause-row
move_name-requires-clause-row g c =
    ap (λ (item : Item). queue_places c.make_places.new.self.queue item.height item.at) c.in_ok-copies.ensures.copied.item_is
    ∙ placed_row (queue_places c.args.self.now.queue) (queue_places c.make_places.new.self.queue) c.args.height c.args.made.now c.in_ok-make_places.ensures.ok.queue

pub move_name-requires-clause-named : goal.move_name-requires-clause-named
move_name-requires-clause-named g c =
    bytes_eq-at_changed (name_places c.make_places.new.self.names) (name_places c.args.self.now.names) c.args.name.now true c.in_ok-make_places.ensures.ok.names

pub move_name-requires-clause-room : goal.move_name-requires-clause-room
move_name-requires-clause-room g c = c.in_ok-make_places.ensures.ok.room

pub returns-clause-ok : goal.returns-clause-ok
returns-clause-ok g c =
    let same = c.in_ok-make_places.ensures.same in
    let ok = c.in_ok-make_places.ensures.ok in
    let copied = c.in_ok-copies.ensures.copied in
    let moves = c.move_name.ensures.moves in
    let before = c.args.self.now in
    record {
      held = ap (λ f. f c.args.spent.now) (sym same.coins) ∙ moves.held;
      name_is = moves.name_is ∙ copied.kept;
      before_is = moves.before_is ∙ copied.before;
      coins = moves.coins
          ∙ ap (λ f. changed same_point (changed same_point f c.args.spent.now None) c.in_ok-copies.copies.item.at (Some (Named c.in_ok-copies.copies.own c.in_ok-copies.copies.item.height))) same.coins
          ∙ ap (λ n. changed same_point (changed same_point (coins_in before.coins) c.args.spent.now None) c.in_ok-copies.copies.item.at (Some (Named n c.in_ok-copies.copies.item.height))) copied.own
          ∙ ap (λ (item : Item). changed same_point (changed same_point (coins_in before.coins) c.args.spent.now None) item.at (Some (Named c.args.name.now item.height))) copied.item_is;
      places = moves.places ∙ ok.coins;
      names = moves.names
          ∙ ap (λ f. with_value f c.args.name.now c.in_ok-copies.copies.item) same.names
          ∙ ap (with_value (names_in before.names) c.args.name.now) copied.item_is;
      name_places = moves.name_places ∙ ok.names;
      queue = moves.queue;
      rows = moves.rows ∙ ok.queue;
    }
