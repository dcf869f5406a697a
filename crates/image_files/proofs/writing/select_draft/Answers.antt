use Rattle.std.proofs.Common.{rules, List, ℕ, subst}
use Rattle.std.specs.Prelude.{IsTrue}
use Rattle.disk_model.specs.Moments.{EachMoment}
use Rattle.disk_model.specs.Changes.{LeavesOthers}
use Rattle.disk_model.specs.DiskSeen.{bytes_in}
use Rattle.image_slots.specs.Drafted.{DraftHoldsArea}
use Rattle.image_files.specs.Saving.{HasArea}
use Rattle.image_files.proofs.SaveLemmas.{saves_drafting, keeps_drafting, on_still, saves_selecting, selected_since, area_still, on_ok, selected_same}
use Rattle.image_files.proofs.writing.select_draft.Goals as goal

pub returns-in_err-ready : goal.returns-in_err-ready
returns-in_err-ready g c =
    let count = c.args.slots.now.count in
    let before = (g.D.Disk.seen c.args.disk.now).moments in
    let mid = (g.D.Disk.seen c.finish.new.disk).moments in
    let drafts = λ (tells : IsTrue g.D.Disk.tells). subst (λ (file : ℕ). EachMoment (LeavesOthers file before.now) before mid) c.requires.drafted (c.finish.ensures.others tells) in
    record {
      ok = search rules;
      err = search rules;
      on_disk = search rules;
      area = search rules;
      any_moment = λ tells front image records on has. saves_drafting count before mid (drafts tells) front image records;
      selected = λ tells. keeps_drafting count before mid (drafts tells);
      ends = search rules;
    }

pub select-requires-clause-on_disk : goal.select-requires-clause-on_disk
select-requires-clause-on_disk g c = λ tells.
    let before = (g.D.Disk.seen c.args.disk.now).moments in
    let mid = (g.D.Disk.seen c.finish.new.disk).moments in
    let drafts = subst (λ (file : ℕ). EachMoment (LeavesOthers file before.now) before mid) c.requires.drafted (c.finish.ensures.others tells) in
    let held = c.requires.on_disk tells in
    (held.0, on_still c.args.slots.now.count before mid drafts held.0 c.args.slots.now held.1)

pub returns : goal.returns
returns g c =
    let slots = c.args.slots.now in
    let count = slots.count in
    let before = (g.D.Disk.seen c.args.disk.now).moments in
    let mid = g.D.Disk.seen c.finish.new.disk in
    let after = g.D.Disk.seen c.select.new.disk in
    let did = c.select.ensures in
    let drafts = λ (tells : IsTrue g.D.Disk.tells). subst (λ (file : ℕ). EachMoment (LeavesOthers file before.now) before mid.moments) c.requires.drafted (c.finish.ensures.others tells) in
    let still = λ (tells : IsTrue g.D.Disk.tells) (front : List ℕ). on_still count before mid.moments (drafts tells) front slots in
    let area = λ (tells : IsTrue g.D.Disk.tells) (image : List ℕ) (records : List (List ℕ)) (has : DraftHoldsArea c.args.draft image records (bytes_in (g.D.Disk.seen c.args.disk.now) c.args.draft.file)). subst (λ (file : ℕ). HasArea image records (mid.moments.now file)) c.requires.drafted (c.in_ok-ready.ensures.area tells image records has) in
    record {
      ok = did.ok;
      err = did.err;
      on_disk = λ tells front on. did.adds.on_disk tells front (still tells front on);
      area = λ tells image records has.
          let held = c.requires.on_disk tells in
          on_ok c.select.result (area_still count before mid.moments (drafts tells) held.0 image records (area tells image records has) after.moments (did.adds.any_moment tells held.0 (still tells held.0 held.1)));
      any_moment = λ tells front image records on has.
          saves_selecting count before mid.moments (drafts tells) front image records (area tells image records has) after.moments (did.adds.any_moment tells front (still tells front on));
      selected = λ tells.
          let held = c.requires.on_disk tells in
          selected_since count before mid.moments (drafts tells) after.moments (selected_same count held.0 mid.moments after.moments (did.adds.any_moment tells held.0 (still tells held.0 held.1)));
      ends = search rules;
    }
