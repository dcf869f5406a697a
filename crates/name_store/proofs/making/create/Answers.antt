use Rattle.std.proofs.Common.{[], arith}
use Rattle.disk_model.proofs.MomentLemmas.{join, last_moment}
use Rattle.name_store.specs.Stands.{begun_on}
use Rattle.name_store.proofs.StepLemmas.{from_unchanged, from_then}
use Rattle.name_store.proofs.MakingLemmas.{no_start, begun_state, looked_begun, area_begun, short_still, header_begun, header_stands}
use Rattle.name_store.proofs.making.create.Goals as goal

pub returns-in_err-is_initialised-clause-from_empty : goal.returns-in_err-is_initialised-clause-from_empty
returns-in_err-is_initialised-clause-from_empty g c = λ tells text is_host empty.
    let d0 = (g.D.Disk.seen c.args.disk.now).moments in
    looked_begun (begun_on c.args.base.now text) d0 (g.D.Disk.seen c.is_initialised.new.disk).moments empty (c.is_initialised.ensures.unchanged tells)

pub returns-then-branch-clause-from_empty : goal.returns-then-branch-clause-from_empty
returns-then-branch-clause-from_empty g c = λ tells text is_host empty.
    let d0 = (g.D.Disk.seen c.args.disk.now).moments in
    looked_begun (begun_on c.args.base.now text) d0 (g.D.Disk.seen c.is_initialised.new.disk).moments empty (c.is_initialised.ensures.unchanged tells)

pub returns-in_err-make_area-clause-from_empty : goal.returns-in_err-make_area-clause-from_empty
returns-in_err-make_area-clause-from_empty g c = λ tells text is_host empty.
    let d0 = (g.D.Disk.seen c.args.disk.now).moments in
    let d1 = (g.D.Disk.seen c.is_initialised.new.disk).moments in
    let d2 = (g.D.Disk.seen c.make_area.new.disk).moments in
    area_begun (begun_on c.args.base.now text) d0 d1 empty (c.is_initialised.ensures.unchanged tells) d2 (c.make_area.ensures.any_moment tells)

pub returns-in_err-make_header-clause-from_empty : goal.returns-in_err-make_header-clause-from_empty
returns-in_err-make_header-clause-from_empty g c = λ tells text is_host empty.
    let base = c.args.base.now in
    let run = begun_on base text in
    let d0 = (g.D.Disk.seen c.args.disk.now).moments in
    let d1 = (g.D.Disk.seen c.is_initialised.new.disk).moments in
    let d2 = (g.D.Disk.seen c.make_area.new.disk).moments in
    let d3 = (g.D.Disk.seen c.make_header.new.disk).moments in
    let header = c.make_header.ensures.makes text is_host in
    let short = short_still run d0 d1 empty (c.is_initialised.ensures.unchanged tells) d2 (c.make_area.ensures.any_moment tells) in
    join (area_begun run d0 d1 empty (c.is_initialised.ensures.unchanged tells) d2 (c.make_area.ensures.any_moment tells))
    (header_begun base text [] [] (begun_state base text [] [] header.begun (no_start base)) d2 d3 (c.in_ok-make_area.ensures.made tells) (header.from_short tells short))

pub returns-clause-from_empty : goal.returns-clause-from_empty
returns-clause-from_empty g c = λ tells text is_host empty.
    let base = c.args.base.now in
    let run = begun_on base text in
    let d0 = (g.D.Disk.seen c.args.disk.now).moments in
    let d1 = (g.D.Disk.seen c.is_initialised.new.disk).moments in
    let d2 = (g.D.Disk.seen c.make_area.new.disk).moments in
    let d3 = (g.D.Disk.seen c.make_header.new.disk).moments in
    let header = c.make_header.ensures.makes text is_host in
    let short = short_still run d0 d1 empty (c.is_initialised.ensures.unchanged tells) d2 (c.make_area.ensures.any_moment tells) in
    join (area_begun run d0 d1 empty (c.is_initialised.ensures.unchanged tells) d2 (c.make_area.ensures.any_moment tells))
    (header_begun base text [] [] (begun_state base text [] [] header.begun (no_start base)) d2 d3 (c.in_ok-make_area.ensures.made tells) (header.from_short tells short))

pub returns-clause-made : goal.returns-clause-made
returns-clause-made g c = λ tells text is_host.
    let base = c.args.base.now in
    let d2 = (g.D.Disk.seen c.make_area.new.disk).moments in
    let d3 = (g.D.Disk.seen c.make_header.new.disk).moments in
    let header = c.in_ok-make_header.ensures.makes text is_host in
    header_stands base text [] [] (begun_state base text [] [] header.begun (no_start base)) d2 d3 (c.in_ok-make_area.ensures.made tells) (last_moment (c.make_header.ensures.others tells)) (header.made tells)

pub returns-in_err-is_initialised-clause-others : goal.returns-in_err-is_initialised-clause-others
returns-in_err-is_initialised-clause-others g c = λ tells. from_unchanged (c.is_initialised.ensures.unchanged tells)

pub returns-then-branch-clause-others : goal.returns-then-branch-clause-others
returns-then-branch-clause-others g c = λ tells. from_unchanged (c.is_initialised.ensures.unchanged tells)

pub returns-in_err-make_area-clause-others : goal.returns-in_err-make_area-clause-others
returns-in_err-make_area-clause-others g c = λ tells. from_then 1 (omega arith) (λ files so. so) (from_unchanged (c.is_initialised.ensures.unchanged tells)) (c.make_area.ensures.any_moment tells)

pub returns-in_err-make_header-clause-others : goal.returns-in_err-make_header-clause-others
returns-in_err-make_header-clause-others g c = λ tells. from_then 0 (omega arith) (λ files so. so) (from_then 1 (omega arith) (λ files so. so) (from_unchanged (c.is_initialised.ensures.unchanged tells)) (c.make_area.ensures.any_moment tells)) (c.make_header.ensures.others tells)

pub returns-clause-others : goal.returns-clause-others
returns-clause-others g c = λ tells. from_then 0 (omega arith) (λ files so. so) (from_then 1 (omega arith) (λ files so. so) (from_unchanged (c.is_initialised.ensures.unchanged tells)) (c.make_area.ensures.any_moment tells)) (c.make_header.ensures.others tells)
