use Rattle.std.proofs.Common.{true, ap, ◌∙◌, ◌++◌, ◌∷◌, [], arith, length-append}
use Rattle.std.specs.Prelude.{Some}
use Rattle.chain_names.specs.declared.coin.Coin.TheVariants.{New}
use Rattle.chain_names.specs.declared.undo.UndoOp.TheVariants.{New as undo_new}
use Rattle.chain_names.specs.Points.{same_point, changed}
use Rattle.chain_names.specs.Tables.{coin_places}
use Rattle.chain_names.proofs.Changed.{changed_at}
use Rattle.chain_names.proofs.Points.{same_point-Decides}
use Rattle.std.proofs.lemmas.Grind.{common_steps}
use Rattle.chain_state.proofs.WorkLemmas.{commit_advances}
use Rattle.chain_state.proofs.work.Work.commit_to.Goals as goal

pub put-requires : goal.put-requires
put-requires g c =
    record { placed = ap (λ f. f c.args.made) c.in_ok-place.ensures.ok ∙ changed_at same_point-Decides (coin_places c.args.self.now.tables.coins) c.args.made true }

pub returns-clause-ok : goal.returns-clause-ok
returns-clause-ok g c =
    commit_advances c.args.self.now c.put.new.self c.push.new.self c.reserve.new.self (record {
      made = c.args.made;
      hash = c.args.hash;
      work = c.requires.work;
      fresh = c.requires.fresh;
      coins_are = c.put.ensures.coins ∙ ap (λ f. changed same_point f c.args.made (Some (New c.args.hash c.args.self.now.height))) c.in_ok-place.ensures.coins;
      places_are = c.put.ensures.places ∙ c.in_ok-place.ensures.ok;
      ops_are = c.push.ensures.items ∙ ap (λ op. c.reserve-2.new.self.items ++ op ∷ []) c.commitment.ensures ∙ ap (λ l. l ++ undo_new c.args.made ∷ []) c.in_ok-reserve-2.ensures.items;
      empty_is = c.in_ok-reserve.ensures.items;
      room = grind (arith, common_steps, length-append c.args.self.now.ops.items (undo_new c.args.made ∷ []), c.in_ok-room.ensures, c.checked_add.ensures);
    })
