use Rattle.std.proofs.Common.{rules, ◌≡◌, ℕ, ◌+◌, List, [], ◌∷◌, ◌++◌, ◌∙◌, ap, subst}
use Rattle.std.specs.Prelude.{IsTrue}
use Rattle.std.specs.Int.{w64, to_le_bytes}
use Rattle.disk_model.specs.FileState.{IsSettled, put}
use Rattle.disk_model.specs.Moments.{EachMoment}
use Rattle.disk_model.specs.Changes.{Changes, AfterWrite, AfterSync, LeavesOthers}
use Rattle.disk_model.specs.DiskSeen.{bytes_in, file_in}
use Rattle.gate_journal.specs.Records.{records_text}
use Rattle.image_slots.specs.Drafted.{Drafted, DraftHolds}
use Rattle.image_slots.proofs.DraftLemmas.{leaves, leaves_more, whole_is, area_is}
use Rattle.image_slots.proofs.draft.Draft.finish.Goals as goal

pub returns-in_err-write_at : goal.returns-in_err-write_at
returns-in_err-write_at g c =
    let draft = c.args.self in
    let old = (g.D.Disk.seen c.args.disk.now).moments in
    let new = (g.D.Disk.seen c.write_at.new.self).moments in
    record {
      ok = search rules;
      settled = search rules;
      whole = search rules;
      area = search rules;
      others = λ tells. leaves draft.file _ old new (subst (λ (d : Drafted). EachMoment (Changes d.file (AfterWrite (8 + d.written) 1) old.now) old new) c.self.view_is (c.write_at.ensures.time tells));
      alone = search rules;
      ends = search rules;
    }

pub returns-in_err-sync : goal.returns-in_err-sync
returns-in_err-sync g c =
    let draft = c.args.self in
    let old = (g.D.Disk.seen c.args.disk.now).moments in
    let mid = (g.D.Disk.seen c.write_at.new.self).moments in
    let new = (g.D.Disk.seen c.sync.new.self).moments in
    let file_is = ap (λ (d : Drafted). d.file) c.self.view_is in
    record {
      ok = search rules;
      settled = search rules;
      whole = search rules;
      area = search rules;
      others = λ tells. subst (λ (file : ℕ). EachMoment (LeavesOthers file old.now) old new) file_is
          (leaves_more c.self.inside.file AfterSync old mid new (leaves c.self.inside.file _ old mid (c.write_at.ensures.time tells)) (c.sync.ensures.time tells));
      alone = search rules;
      ends = search rules;
    }

pub returns : goal.returns
returns g c =
    let draft = c.args.self in
    let old = g.D.Disk.seen c.args.disk.now in
    let mid = g.D.Disk.seen c.write_at.new.self in
    let new = g.D.Disk.seen c.sync.new.self in
    let file_is = ap (λ (d : Drafted). d.file) c.self.view_is in
    let wrote : (tells : IsTrue g.D.Disk.tells) → bytes_in new draft.file ≡ put (bytes_in old draft.file) (8 + draft.written) (0 ∷ []) = λ tells.
    subst (λ (d : Drafted). bytes_in new d.file ≡ put (bytes_in old d.file) (8 + d.written) (0 ∷ [])) c.self.view_is (c.in_ok-sync.ensures.same tells ∙ c.in_ok-write_at.ensures.written tells) in
    let whole : (tells : IsTrue g.D.Disk.tells) → (pieces : List ℕ) → DraftHolds draft pieces (bytes_in old draft.file) → bytes_in new draft.file ≡ (to_le_bytes w64 draft.image ++ pieces) ++ 0 ∷ [] = λ tells pieces holds.
    whole_is draft pieces (bytes_in old draft.file) holds (bytes_in new draft.file) (wrote tells) in
    record {
      ok = search rules;
      settled = λ tells. subst (λ (file : ℕ). IsSettled (file_in new file)) file_is (c.in_ok-sync.ensures.settled tells);
      whole = whole;
      area = λ tells image records has. area_is draft image records (bytes_in old draft.file) (bytes_in new draft.file) has (whole tells (image ++ records_text records) has.holds);
      others = λ tells. subst (λ (file : ℕ). EachMoment (LeavesOthers file old.moments.now) old.moments new.moments) file_is
          (leaves_more c.self.inside.file AfterSync old.moments mid.moments new.moments (leaves c.self.inside.file _ old.moments mid.moments (c.write_at.ensures.time tells)) (c.sync.ensures.time tells));
      alone = search rules;
      ends = search rules;
    }
