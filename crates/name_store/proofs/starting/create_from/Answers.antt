use Rattle.std.proofs.Common.{◌≡◌, Err, List, ℕ, sym, subst, arith}
use Rattle.std.specs.Prelude.{Result}
use Rattle.disk_model.specs.Moments.{EachMoment}
use Rattle.disk_model.specs.DiskSeen.{EndsWith}
use Rattle.disk_model.proofs.MomentLemmas.{join, last_moment}
use Rattle.name_store.specs.Making.{OnlyReads, EachIsBegun}
use Rattle.name_store.specs.Stands.{begun_from}
use Rattle.name_store.specs.declared.faults.CreateFromFault.{CreateFromFault}
use Rattle.name_store.specs.declared.faults.CreateFromFault.TheVariants.{DiskFault, NoMemory}
use Rattle.name_store.proofs.StepLemmas.{from_unchanged, from_then}
use Rattle.name_store.proofs.MakingLemmas.{begun_state, looked_begun, area_begun, short_still, header_begun, header_stands}
use Rattle.name_store.proofs.StartLemmas.{one_start_text, as_fault, ends_then}
use Rattle.name_store.proofs.starting.create_from.Goals as goal

pub returns-in_err-is_initialised-clause-from_empty : goal.returns-in_err-is_initialised-clause-from_empty
returns-in_err-is_initialised-clause-from_empty g c = λ tells name is_host empty start is text is_text.
    let d0 = (g.D.Disk.seen c.args.disk.now).moments in
    looked_begun (begun_from c.args.base.now name start text) d0 (g.D.Disk.seen c.is_initialised.new.disk).moments empty (c.is_initialised.ensures.unchanged tells)

pub returns-then-branch-clause-from_empty : goal.returns-then-branch-clause-from_empty
returns-then-branch-clause-from_empty g c = λ tells name is_host empty start is text is_text.
    let d0 = (g.D.Disk.seen c.args.disk.now).moments in
    looked_begun (begun_from c.args.base.now name start text) d0 (g.D.Disk.seen c.is_initialised.new.disk).moments empty (c.is_initialised.ensures.unchanged tells)

pub returns-in_err-make_start-clause-from_empty : goal.returns-in_err-make_start-clause-from_empty
returns-in_err-make_start-clause-from_empty g c = λ tells name is_host empty start is text is_text.
    let d0 = (g.D.Disk.seen c.args.disk.now).moments in
    let d1 = (g.D.Disk.seen c.is_initialised.new.disk).moments in
    let d2 = (g.D.Disk.seen c.make_start.new.disk).moments in
    area_begun (begun_from c.args.base.now name start text) d0 d1 empty (c.is_initialised.ensures.unchanged tells) d2 (c.make_start.ensures.others tells)

pub returns-in_err-make_header-clause-from_empty : goal.returns-in_err-make_header-clause-from_empty
returns-in_err-make_header-clause-from_empty g c = λ tells name is_host empty start is text is_text.
    let base = c.args.base.now in
    let d0 = (g.D.Disk.seen c.args.disk.now).moments in
    let d1 = (g.D.Disk.seen c.is_initialised.new.disk).moments in
    let d2 = (g.D.Disk.seen c.make_start.new.disk).moments in
    let d3 = (g.D.Disk.seen c.make_header.new.disk).moments in
    let area = c.in_ok-make_start.ensures.made tells start is in
    let header = c.make_header.ensures.makes name is_host in
    let run = begun_from base name start area.text in
    let short = short_still run d0 d1 empty (c.is_initialised.ensures.unchanged tells) d2 (c.make_start.ensures.others tells) in
    subst (λ (l : List ℕ). EachMoment (EachIsBegun (begun_from base name start l)) d0 d3) (one_start_text base start area.text text area.has_text.is_text is_text)
    (join (area_begun run d0 d1 empty (c.is_initialised.ensures.unchanged tells) d2 (c.make_start.ensures.others tells))
    (header_begun base name start area.text (begun_state base name start area.text header.begun area.has_text) d2 d3 area.area (header.from_short tells short)))

pub returns-clause-from_empty : goal.returns-clause-from_empty
returns-clause-from_empty g c = λ tells name is_host empty start is text is_text.
    let base = c.args.base.now in
    let d0 = (g.D.Disk.seen c.args.disk.now).moments in
    let d1 = (g.D.Disk.seen c.is_initialised.new.disk).moments in
    let d2 = (g.D.Disk.seen c.make_start.new.disk).moments in
    let d3 = (g.D.Disk.seen c.make_header.new.disk).moments in
    let area = c.in_ok-make_start.ensures.made tells start is in
    let header = c.make_header.ensures.makes name is_host in
    let run = begun_from base name start area.text in
    let short = short_still run d0 d1 empty (c.is_initialised.ensures.unchanged tells) d2 (c.make_start.ensures.others tells) in
    subst (λ (l : List ℕ). EachMoment (EachIsBegun (begun_from base name start l)) d0 d3) (one_start_text base start area.text text area.has_text.is_text is_text)
    (join (area_begun run d0 d1 empty (c.is_initialised.ensures.unchanged tells) d2 (c.make_start.ensures.others tells))
    (header_begun base name start area.text (begun_state base name start area.text header.begun area.has_text) d2 d3 area.area (header.from_short tells short)))

pub returns-clause-made : goal.returns-clause-made
returns-clause-made g c = λ tells name is_host start is.
    let base = c.args.base.now in
    let d2 = (g.D.Disk.seen c.make_start.new.disk).moments in
    let d3 = (g.D.Disk.seen c.make_header.new.disk).moments in
    let area = c.in_ok-make_start.ensures.made tells start is in
    let header = c.in_ok-make_header.ensures.makes name is_host in (
      area.text,
      area.has_text.is_text,
      header_stands base name start area.text (begun_state base name start area.text header.begun area.has_text) d2 d3 area.area (last_moment (c.make_header.ensures.others tells)) (header.made tells),
    )

pub returns-in_err-is_initialised-clause-others : goal.returns-in_err-is_initialised-clause-others
returns-in_err-is_initialised-clause-others g c = λ tells. from_unchanged (c.is_initialised.ensures.unchanged tells)

pub returns-then-branch-clause-others : goal.returns-then-branch-clause-others
returns-then-branch-clause-others g c = λ tells. from_unchanged (c.is_initialised.ensures.unchanged tells)

pub returns-in_err-make_start-clause-others : goal.returns-in_err-make_start-clause-others
returns-in_err-make_start-clause-others g c = λ tells. from_then 1 (omega arith) (λ files so. so) (from_unchanged (c.is_initialised.ensures.unchanged tells)) (c.make_start.ensures.others tells)

pub returns-in_err-make_header-clause-others : goal.returns-in_err-make_header-clause-others
returns-in_err-make_header-clause-others g c = λ tells. from_then 0 (omega arith) (λ files so. so) (from_then 1 (omega arith) (λ files so. so) (from_unchanged (c.is_initialised.ensures.unchanged tells)) (c.make_start.ensures.others tells)) (c.make_header.ensures.others tells)

pub returns-clause-others : goal.returns-clause-others
returns-clause-others g c = λ tells. from_then 0 (omega arith) (λ files so. so) (from_then 1 (omega arith) (λ files so. so) (from_unchanged (c.is_initialised.ensures.unchanged tells)) (c.make_start.ensures.others tells)) (c.make_header.ensures.others tells)

pub returns-in_err-make_start-clause-no_memory : goal.returns-in_err-make_start-clause-no_memory
returns-in_err-make_start-clause-no_memory g c =
    let d0 = g.D.Disk.seen c.args.disk.now in
    let looked : OnlyReads g.D.Disk.tells d0 (g.D.Disk.seen c.is_initialised.new.disk) = record { reads = c.is_initialised.ensures.reads; unchanged = c.is_initialised.ensures.unchanged } in
    as_fault (λ (result : Result (Unit {0}) CreateFromFault). result ≡ Err NoMemory → OnlyReads g.D.Disk.tells d0 (g.D.Disk.seen c.make_start.new.disk))
    c.from_residual-in_err-make_start.result c.in_err-make_start.field-0.0 c.from_residual-in_err-make_start.ensures.1
    (λ none. subst (λ disk. OnlyReads g.D.Disk.tells d0 (g.D.Disk.seen disk)) (sym (c.in_err-make_start.ensures.no_memory none)) looked)

pub returns-in_err-make_start-clause-ends : goal.returns-in_err-make_start-clause-ends
returns-in_err-make_start-clause-ends g c =
    let d0 = g.D.Disk.seen c.args.disk.now in
    let d1 = g.D.Disk.seen c.is_initialised.new.disk in
    let d2 = g.D.Disk.seen c.make_start.new.disk in
    as_fault (EndsWith DiskFault d0 d2) c.from_residual-in_err-make_start.result c.in_err-make_start.field-0.0 c.from_residual-in_err-make_start.ensures.1
    (ends_then d0 d1 d2 c.in_err-make_start.field-0.0 c.is_initialised.ensures.ends.later c.in_err-make_start.ensures.ends)
