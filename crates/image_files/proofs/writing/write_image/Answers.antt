use Rattle.std.proofs.Common.{rules, List, ℕ, [], sym, subst}
use Rattle.std.specs.Prelude.{IsTrue}
use Rattle.image_slots.specs.Selections.{selections_file, drafted_by}
use Rattle.image_slots.specs.Slotted.{Slotted, AreOn}
use Rattle.image_files.specs.Selecting.{Selects}
use Rattle.image_files.proofs.SaveLemmas.{saves_drafting, keeps_drafting, on_still, saves_selecting, keeps_selecting, area_of_image, image_still, on_ok, on_err}
use Rattle.image_files.proofs.writing.write_image.Goals as goal

pub returns-in_err-ready : goal.returns-in_err-ready
returns-in_err-ready g c =
    let count = c.args.slots.now.count in
    let before = (g.D.Disk.seen c.args.disk.now).moments in
    let mid = (g.D.Disk.seen c.draft_image.new.disk).moments in
    record {
      ok = search rules;
      err = on_err c.from_residual.result c.draft_image.ensures.same;
      on_disk = search rules;
      area = search rules;
      any_moment = λ tells front on. saves_drafting count before mid (c.draft_image.ensures.others tells) front c.args.text [];
      selected = λ tells. keeps_drafting count before mid (c.draft_image.ensures.others tells);
      ends = search rules;
    }

pub select-requires-clause-on_disk : goal.select-requires-clause-on_disk
select-requires-clause-on_disk g c = λ tells.
    let before = (g.D.Disk.seen c.args.disk.now).moments in
    let mid = (g.D.Disk.seen c.draft_image.new.disk).moments in
    let held = c.requires.on_disk tells in
    let still = on_still c.args.slots.now.count before mid (c.draft_image.ensures.others tells) held.0 c.args.slots.now held.1 in
    (held.0, subst (λ (slots : Slotted). AreOn held.0 slots (mid.now selections_file)) (sym c.draft_image.ensures.same) still)

pub returns : goal.returns
returns g c =
    let slots = c.args.slots.now in
    let count = slots.count in
    let before = (g.D.Disk.seen c.args.disk.now).moments in
    let mid = g.D.Disk.seen c.draft_image.new.disk in
    let after = g.D.Disk.seen c.select.new.disk in
    let drafts = λ (tells : IsTrue g.D.Disk.tells). c.draft_image.ensures.others tells in
    let has = λ (tells : IsTrue g.D.Disk.tells). c.in_ok-ready.ensures.holds tells in
    let area = λ (tells : IsTrue g.D.Disk.tells). area_of_image c.args.text (mid.moments.now (drafted_by count)) (has tells) in
    let did = subst (λ (s : Slotted). Selects g.D.Disk.tells s c.select.new.slots mid after c.select.result) c.draft_image.ensures.same c.select.ensures in
    let still = λ (tells : IsTrue g.D.Disk.tells) (front : List ℕ). on_still count before mid.moments (drafts tells) front slots in
    record {
      ok = did.ok;
      err = did.err;
      on_disk = λ tells front on. did.adds.on_disk tells front (still tells front on);
      area = λ tells.
          let held = c.requires.on_disk tells in
          on_ok c.select.result (image_still count held.0 c.args.text mid.moments after.moments (did.adds.any_moment tells held.0 (still tells held.0 held.1)) (has tells));
      any_moment = λ tells front on.
          saves_selecting count before mid.moments (drafts tells) front c.args.text [] (area tells) after.moments (did.adds.any_moment tells front (still tells front on));
      selected = λ tells.
          let held = c.requires.on_disk tells in
          keeps_selecting count before mid.moments (drafts tells) held.0 c.args.text [] (area tells) after.moments (did.adds.any_moment tells held.0 (still tells held.0 held.1));
      ends = search rules;
    }
