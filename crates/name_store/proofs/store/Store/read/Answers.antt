use Rattle.std.proofs.Common.{rules, ℕ, take, Err, sym, ◌∙◌, subst, arith}
use Rattle.nmc_base.specs.declared.chain_ends.Base.{Base}
use Rattle.disk_model.specs.FileState.{IsSettled}
use Rattle.disk_model.specs.Moments.{Files}
use Rattle.disk_model.specs.DiskSeen.{bytes_in}
use Rattle.disk_model.proofs.MomentLemmas.{last_moment}
use Rattle.gate_journal.proofs.ReadLemmas.{unchanged_then}
use Rattle.chain_commands.specs.Saving.{most_selections}
use Rattle.image_slots.specs.Answers.{FaultAnswer}
use Rattle.image_slots.specs.Selections.{HasSelections, selected_by}
use Rattle.image_slots.specs.Slotted.{AreOn}
use Rattle.index_commands.proofs.ReadingLemmas.{never_fell}
use Rattle.name_store.specs.Damage.{HasSelected}
use Rattle.name_store.specs.Opening.{IsFollowed, IsOpened, OpenAnswer, AreaAnswer}
use Rattle.name_store.proofs.OpenLemmas.{HasOpened, opened_store_is, slots_bad, area_bad}
use Rattle.name_store.proofs.store.Store.read.Goals as goal

pub open-requires-clause-settled : goal.open-requires-clause-settled
open-requires-clause-settled g c = λ told. subst (λ (files : Files). IsSettled (files 0)) (sym (last_moment (c.read_header.ensures.time told))) (c.requires.settled told 0 (omega arith))

pub returns-in-Err-open-clause-answer : goal.returns-in-Err-open-clause-answer
returns-in-Err-open-clause-answer g c = λ told.
    let old = bytes_in (g.D.Disk.seen c.args.disk.now) in
    let new = (g.D.Disk.seen c.open.new.disk).moments.now in
    let has = c.in-Ok.ensures.answer told in
    let bad = subst (λ (files : Files). FaultAnswer c.in-Ok.header.selections most_selections (files 0).bytes c.in-Err-open.fault) (last_moment (c.read_header.ensures.time told)) (c.in-Err-open.ensures.answer told) in
    subst (λ e. OpenAnswer old new (Err e)) (sym c.of_slots.ensures) (slots_bad old new c.in-Ok.header c.in-Err-open.fault has.0 has.1 bad)

pub returns-in-Err-open-clause-time : goal.returns-in-Err-open-clause-time
returns-in-Err-open-clause-time g c = λ told. unchanged_then (c.read_header.ensures.time told) (c.open.ensures.unchanged told)

pub read_area-requires-clause-settled : goal.read_area-requires-clause-settled
read_area-requires-clause-settled g c = λ told.
    subst (λ (files : Files). IsSettled (files c.selected.result)) (sym (last_moment (c.open.ensures.unchanged told) ∙ last_moment (c.read_header.ensures.time told)))
    (c.requires.settled told c.selected.result (omega (arith, c.selected.ensures)))

pub returns-in-Ok-read_area-clause-answer : goal.returns-in-Ok-read_area-clause-answer
returns-in-Ok-read_area-clause-answer g c = λ told.
    let tells = g.D.Disk.tells in
    let now = (g.D.Disk.seen c.args.disk.now).moments.now in
    let header = c.in-Ok.header in
    let slots = c.in-Ok-open.slots in
    let followed = c.in-Ok-read_area.followed in
    let one = last_moment (c.read_header.ensures.time told) in
    let two = last_moment (c.open.ensures.unchanged told) ∙ one in
    let three = last_moment (c.read_area.ensures.time told) ∙ two in
    let has = c.in-Ok.ensures.answer told in
    let opens = c.in-Ok-open.ensures in
    let on = subst (λ (files : Files). AreOn (take header.selections (files 0).bytes) slots (now 0)) one
    (subst (λ (files : Files). AreOn (take header.selections (bytes_in (g.D.Disk.seen c.read_header.new.disk) 0)) slots (files 0)) two (opens.on_disk told)) in
    let area = subst (λ (f : ℕ). IsFollowed tells header.base (now f).bytes followed) c.selected.ensures
    (subst (λ (files : Files). IsFollowed tells header.base (files c.selected.result).bytes followed) two (c.in-Ok-read_area.ensures.answer told)) in
    let o : HasOpened tells now header slots followed = record {
      told = told;
      has = has.0;
      is = has.1;
      few = opens.ok.2;
      slots_on = on;
      area = area;
      settled = c.requires.settled told (selected_by slots.count) (omega arith);
    } in
    subst (λ (files : Files). IsOpened (λ file. (now file).bytes) files c.of.result) (sym three) (subst (IsOpened (λ file. (now file).bytes) now) (sym c.of.ensures) (opened_store_is tells now header slots followed o))

pub returns-in-Ok-read_area-clause-time : goal.returns-in-Ok-read_area-clause-time
returns-in-Ok-read_area-clause-time g c = λ told. unchanged_then (unchanged_then (c.read_header.ensures.time told) (c.open.ensures.unchanged told)) (c.read_area.ensures.time told)

pub returns-in-Ok-read_area-clause-ends : goal.returns-in-Ok-read_area-clause-ends
returns-in-Ok-read_area-clause-ends g c = record {
  later = never_fell (never_fell c.read_header.ensures.ends.later c.open.ensures.ends.later) c.read_area.ensures.ends.later;
  worked = c.in-Ok-read_area.ensures.ends.worked;
  none = c.in-Ok-read_area.ensures.ends.none ∙ (c.in-Ok-open.ensures.ends.none ∙ c.in-Ok.ensures.ends.none);
  failed = search rules;
}

pub returns-in-Err-read_area-clause-answer : goal.returns-in-Err-read_area-clause-answer
returns-in-Err-read_area-clause-answer g c = λ told.
    let tells = g.D.Disk.tells in
    let old = bytes_in (g.D.Disk.seen c.args.disk.now) in
    let new = (g.D.Disk.seen c.read_area.new.disk).moments.now in
    let header = c.in-Ok.header in
    let slots = c.in-Ok-open.slots in
    let fault = c.in-Err-read_area.fault in
    let one = last_moment (c.read_header.ensures.time told) in
    let two = last_moment (c.open.ensures.unchanged told) ∙ one in
    let has = c.in-Ok.ensures.answer told in
    let selected : HasSelected (old 0) slots.count = record {
      header = has.0;
      selections = subst (λ (n : ℕ). HasSelections (take n (old 0)) slots.count (old 0)) has.1.selections_is
          (subst (λ (files : Files). HasSelections (take header.selections (files 0).bytes) slots.count (files 0).bytes) one (c.in-Ok-open.ensures.answer told));
      few = c.in-Ok-open.ensures.ok.2;
    } in
    area_bad tells old new slots.count fault selected
    (subst (λ (b : Base). AreaAnswer tells b (selected_by slots.count) (old (selected_by slots.count)) (Err fault)) has.1.base_is
    (subst (λ (f : ℕ). AreaAnswer tells header.base f (old f) (Err fault)) c.selected.ensures
    (subst (λ (files : Files). AreaAnswer tells header.base c.selected.result (files c.selected.result).bytes (Err fault)) two (c.in-Err-read_area.ensures.answer told))))

pub returns-in-Err-read_area-clause-time : goal.returns-in-Err-read_area-clause-time
returns-in-Err-read_area-clause-time g c = λ told. unchanged_then (unchanged_then (c.read_header.ensures.time told) (c.open.ensures.unchanged told)) (c.read_area.ensures.time told)
