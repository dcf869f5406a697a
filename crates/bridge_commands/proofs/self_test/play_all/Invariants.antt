use Rattle.std.proofs.Common.{◌≡◌, ◌*◌, ◌≤◌}
use Rattle.std.specs.Prelude.{IsTrue}
use Rattle.name_store.specs.Stored.{IsOn}
use Rattle.bridge_core.specs.Reached.{Beginning}
use Rattle.bridge_commands.specs.SelfTest.{BeginsAt}
use Rattle.bridge_commands.proofs.SelfTestLemmas.{SoFar}
use Rattle.bridge_commands.proofs.self_test.play_all.Given as goal

abbrev pub invariant-loop-rounds : goal.invariant-loop-rounds
invariant-loop-rounds g l =
    let tells = g.D.Disk.tells in
    let seen = g.D.Disk.seen in
    record {
      run : l.run ≡ record { seed = l.fn.trial.seed; rounds = l.rounds };
      low : l.rounds ≤ l.fn.trial.blocks;
      answers : l.course.answers ≤ 2 * l.rounds;
      saves : l.course.saves ≤ l.rounds;
      on_disk : IsTrue tells → IsOn l.course.bridge.store (seen l.disk).moments.now;
      so_far : (start : Beginning g.row.D.Denot) → BeginsAt tells seen start l.fn.course.bridge l.fn.disk → SoFar tells seen start l.fn.trial.seed l.rounds l.course l.disk;
    }
