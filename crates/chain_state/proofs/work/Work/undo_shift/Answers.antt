use Rattle.std.proofs.Common.{◌≡◌, refl, sym, ◌∙◌, arith}
use Rattle.chain_names.specs.Changes.{moved_back}
use Rattle.name_tables.specs.Tables.{maps_by}
use Rattle.chain_state.specs.Work.{with_op}
use Rattle.chain_state.proofs.BackLemmas.{unmoved_work}
use Rattle.chain_state.proofs.UndoneLemmas.{spent_free, spent_place, spent_row}
use Rattle.name_tables.proofs.ListLemmas.{one_more}
use Rattle.chain_state.proofs.work.Work.undo_shift.Goals as goal

pub shift_back-requires-clause-free : goal.shift_back-requires-clause-free
shift_back-requires-clause-free g c = spent_free c.args.self.now c.args.made c.args.spent c.args.coin c.args.name.now c.requires

pub shift_back-requires-clause-place : goal.shift_back-requires-clause-place
shift_back-requires-clause-place g c = spent_place c.args.self.now c.args.made c.args.spent c.args.coin c.args.name.now c.requires

pub shift_back-requires-clause-row : goal.shift_back-requires-clause-row
shift_back-requires-clause-row g c = spent_row c.args.self.now c.args.made c.args.spent c.args.coin c.args.name.now c.requires

pub returns-clause-back : goal.returns-clause-back
returns-clause-back g c =
    let back = c.shift_back.ensures.back in
    let before = with_op c.args.self.now c.requires.op in
    let maps : maps_by c.shift_back.new.self ≡ moved_back (maps_by c.args.self.now.tables) c.args.made c.args.spent c.args.coin c.args.name.now = λ i. record { coins = back.coins i; names = back.names i } in
    record {
      maps_are = maps;
      ops_are = refl;
      height = refl;
      work = unmoved_work before (record { tables = c.shift_back.new.self; ops = c.args.self.now.ops; empty = c.push.new.self; height = before.height })
          (record {
            made = c.args.made;
            spent = c.args.spent;
            coin = c.args.coin;
            name = c.args.name.now;
            op = c.requires.op;
            is_undo = c.requires.is_undo;
            undone = record {
              work = c.requires.work;
              ops_were = refl;
              empty_is = c.push.ensures.items;
              spare_is = c.push.ensures.spare;
              height = refl;
              places = back.places;
              rows = back.rows;
              queue = back.queue;
              names_filled = back.names_filled;
              maps = maps ∙ sym (c.requires.is_undo.back (maps_by c.args.self.now.tables));
            };
          });
    }

pub returns-clause-emptied : goal.returns-clause-emptied
returns-clause-emptied g c = omega (arith, one_more _ _ _ c.push.ensures.items)
