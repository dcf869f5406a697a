use Rattle.std.proofs.Common.{◌≡◌, ℕ, suc, ◌+◌, Err, sym, ap, subst, ◌∙◌, arith}
use Rattle.generated_chain.specs.Blocks.{run_base, run_host}
use Rattle.generated_chain.specs.Events.{round_at}
use Rattle.generated_chain.specs.Place.{Place}
use Rattle.name_store.specs.Stands.{begun_on}
use Rattle.bridge_core.specs.declared.status.Status.{Status}
use Rattle.bridge_commands.specs.Playing.{PlaysOn, PlaysRound}
use Rattle.bridge_commands.specs.SelfTest.{StopsWith}
use Rattle.bridge_commands.proofs.SelfTestLemmas.{SoFar, all_rounds, few_answers, few_saves, no_round, one_round, still_there, stops_so}
use Rattle.bridge_commands.proofs.self_test.play_all.Goals as goal

pub loop-rounds-init : goal.loop-rounds-init
loop-rounds-init g c = record {
  run = c.new-run.ensures;
  low = omega arith;
  answers = omega (arith, c.requires.answers);
  saves = omega (arith, c.requires.saves);
  on_disk = c.requires.on_disk;
  so_far = λ start at. no_round g.D.Disk.tells g.D.Disk.seen start c.args.trial c.args.course c.args.disk.now at c.requires.answers c.requires.saves;
}

pub returns-in-Err : goal.returns-in-Err
returns-in-Err g c = λ start at.
    let tells = g.D.Disk.tells in
    let seen = g.D.Disk.seen in
    let course = c.loop-rounds.course in
    let disk = c.loop-rounds.disk in
    let rounds = c.loop-rounds.rounds in
    let after = c.play_next.new.disk in
    let stops = subst (λ (place : Place). PlaysRound tells seen course disk (round_at place.seed place.rounds) after (Err c.in-Err.stop)) c.loop-rounds.invariant.run c.in-Err.ensures.round in
    subst (λ (status : Status). StopsWith tells seen start c.args.trial status) (sym c.stopped.ensures)
    (stops_so tells seen start c.args.trial course disk at.opened at.begins rounds after c.in-Err.stop c.requires.few (omega (arith, c.loop-rounds-test.true)) (c.loop-rounds.invariant.so_far start at) stops)

pub loop-rounds-preserved : goal.loop-rounds-preserved
loop-rounds-preserved g c =
    let tells = g.D.Disk.tells in
    let seen = g.D.Disk.seen in
    let old = c.loop-rounds.course in
    let new = c.in-Ok.next in
    let before = c.loop-rounds.disk in
    let after = c.play_next.new.disk in
    let rounds = c.loop-rounds.rounds in
    let seed = c.args.trial.seed in
    let inv = c.loop-rounds.invariant in
    let next : suc rounds ≡ rounds + 1 = omega arith in
    let played = subst (λ (place : Place). PlaysOn tells seen old before (round_at place.seed place.rounds) new after) inv.run c.in-Ok.ensures.round in
    record {
      run = c.in-Ok.ensures.next ∙ ap (λ (place : Place). record { seed = place.seed; rounds = place.rounds + 1 }) inv.run;
      low = omega (arith, c.loop-rounds-test.true);
      answers = omega (arith, inv.answers, few_answers tells seen old new before after (round_at seed rounds) played);
      saves = omega (arith, inv.saves, few_saves tells seen old new before after (round_at seed rounds) played);
      on_disk = still_there tells seen old new before after (round_at seed rounds) played;
      so_far = λ start at. subst (λ (behind : ℕ). SoFar tells seen start seed behind new after) next (one_round tells seen start (begun_on run_base run_host) at.opened at.begins seed rounds (omega (arith, c.loop-rounds-test.true, c.requires.few)) old new before after (inv.so_far start at) played);
    }

pub returns : goal.returns
returns g c = λ start at.
    let tells = g.D.Disk.tells in
    let seen = g.D.Disk.seen in
    let course = c.loop-rounds.course in
    let disk = c.loop-rounds.disk in
    let all : c.loop-rounds.rounds ≡ c.args.trial.blocks = omega (arith, c.loop-rounds.invariant.low, c.loop-rounds-test.false) in
    all_rounds tells seen start c.args.trial course disk at.opened at.begins
    (subst (λ (rounds : ℕ). SoFar tells seen start c.args.trial.seed rounds course disk) all (c.loop-rounds.invariant.so_far start at))
