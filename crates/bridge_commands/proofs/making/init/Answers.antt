use Rattle.std.proofs.Common.{sym, subst}
use Rattle.bridge_core.specs.declared.status.Status.{Status}
use Rattle.bridge_commands.specs.Making.{Inits}
use Rattle.bridge_commands.proofs.MakingLemmas.{inits}
use Rattle.bridge_commands.proofs.making.init.Goals as goal

pub returns : goal.returns
returns g c = λ text is.
    let tells = g.D.Disk.tells in
    let base = c.args.base.now in
    let old = g.D.Disk.seen c.args.disk.now in
    let new = g.D.Disk.seen c.create-made.new.disk in
    let by = c.create-made.ensures in
    subst (λ (s : Status). Inits tells base text old new s) (sym c.status_of.ensures) (inits tells base text old new c.create-made.result (record {
      answer = by.answer;
      spared = by.spared;
      made = λ told. by.made told text is;
      from_empty = λ told empty. by.from_empty told text is empty;
      others = by.others;
      ends = by.ends;
    }))
