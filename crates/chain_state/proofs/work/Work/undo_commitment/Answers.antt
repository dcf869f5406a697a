use Rattle.std.proofs.Common.{refl, arith}
use Rattle.chain_names.specs.declared.undo.UndoOp.TheVariants.{New as undo_new}
use Rattle.chain_names.specs.Tables.{names_in}
use Rattle.chain_state.specs.Work.{with_op}
use Rattle.chain_state.proofs.BackLemmas.{uncommitted_queue, uncommitted_work}
use Rattle.name_tables.proofs.ListLemmas.{one_more}
use Rattle.chain_state.proofs.work.Work.undo_commitment.Goals as goal

pub returns-clause-back : goal.returns-clause-back
returns-clause-back g c =
    let before = with_op c.args.self.now (undo_new c.args.made) in
    record {
      maps_are = λ i. record { coins = c.take.ensures.coins i; names = names_in c.args.self.now.tables.names };
      ops_are = refl;
      height = refl;
      work = uncommitted_work before (record { tables = record { coins = c.take.new.self; names = before.tables.names; queue = before.tables.queue }; ops = c.args.self.now.ops; empty = c.push.new.self; height = before.height }) c.args.made
          (record {
            work = c.requires;
            ops_were = refl;
            empty_is = c.push.ensures.items;
            spare_is = c.push.ensures.spare;
            height = refl;
            places = c.take.ensures.places;
            rows = refl;
            queue = uncommitted_queue before c.args.self.now.ops.items c.args.made c.take.new.self c.requires refl c.take.ensures.coins;
            names_filled = c.requires.names_filled;
            maps = λ i. record { coins = c.take.ensures.coins i; names = names_in c.args.self.now.tables.names };
          });
    }

pub returns-clause-emptied : goal.returns-clause-emptied
returns-clause-emptied g c = omega (arith, one_more _ _ _ c.push.ensures.items)
