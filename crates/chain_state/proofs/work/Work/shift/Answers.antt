use Rattle.std.proofs.Common.{◌++◌, ◌∷◌, [], ap, ◌∙◌, arith}
use Rattle.std.proofs.lemmas.Grind.{common_steps}
use Rattle.chain_state.proofs.HaltLemmas.{halts}
use Rattle.chain_state.proofs.work.Work.shift.Goals as goal

pub returns-in-Err-clause-err : goal.returns-in-Err-clause-err
returns-in-Err-clause-err g c =
    halts c.args.self.now c.shift.new.self c.reserve-2.new.self c.push.new.self (record {
      made = c.args.made.now;
      work = c.requires.work;
      same = c.in-Err.ensures.same;
      may = c.in-Err.ensures.err;
      ops_are = c.in_ok-reserve-2.ensures.items;
      empty_is = c.push.ensures.items ∙ ap (λ l. l ++ c.args.made.now ∷ []) c.in_ok-reserve.ensures.items;
      room = grind (arith, common_steps, c.in_ok-room.ensures, c.checked_add.ensures, c.push.ensures.spare);
    })
