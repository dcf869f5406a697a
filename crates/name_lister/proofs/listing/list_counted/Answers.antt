use Rattle.std.proofs.Common.{refl}
use Rattle.fault_counts.proofs.FaultLemmas.{NeverFell_refl}
use Rattle.disk_model.specs.Moments.{start}
use Rattle.disk_model.proofs.ImageLemmas.{keeps_unchanged}
use Rattle.frame_loop.specs.Transcript.{streams}
use Rattle.name_store.specs.declared.faults.OpenFault.TheVariants.{NoMemory}
use Rattle.bridge_core.specs.Determined.{outside}
use Rattle.bridge_core.proofs.DeterminedLemmas.{streams_unbegun}
use Rattle.bridge_core.proofs.OpeningLemmas.{memory_not_fault}
use Rattle.name_lister.proofs.ListLemmas.{lister_answers}
use Rattle.name_lister.proofs.listing.list_counted.Goals as goal

pub returns-in-Err : goal.returns-in-Err
returns-in-Err g c =
    let seen = g.D.Disk.seen in
    let same = outside (streams (g.S.Source.seen c.args.source.now) (g.K.Sink.seen c.args.sink.now)) (seen c.args.disk.now) in
    streams_unbegun (lister_answers c.args.page g.D.Disk.tells seen) (record { tells = g.D.Disk.tells; disk = c.args.disk.now; old = same; new = same; limit = c.args.limit }) NoMemory refl
    (record {
      writes_nothing = record { unchanged = refl; any_moment = λ told. keeps_unchanged (start refl) };
      answer = λ told. tt;
      follows = λ told run stands. tt;
      never_fell = NeverFell_refl (seen c.args.disk.now).faults;
      cause = λ e. memory_not_fault e;
    })
