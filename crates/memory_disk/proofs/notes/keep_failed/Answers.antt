use Rattle.std.proofs.Common.{◌≡◌, inl, inr, ℕ, ◌<◌, List, length, refl, sym, ◌∙◌, subst, rules}
use Rattle.disk_model.specs.FileState.{FileState}
use Rattle.memory_disk.specs.Calls.{call_on, step}
use Rattle.memory_disk.specs.Touched.{touched_at, touch}
use Rattle.memory_disk.specs.Kept.{failed_effect, touched_in}
use Rattle.memory_disk.specs.declared.touched.TouchedFile.{TouchedFile}
use Rattle.memory_disk.proofs.StoredLemmas.{added_beside}
use Rattle.memory_disk.proofs.notes.keep_failed.Goals as goal
use Rattle.memory_disk.proofs.notes.keep_failed.Goals.{in-Ok, in-Err}

pub returns-then-is_full : goal.returns-then-is_full
returns-then-is_full c =
    let inside : c.args.file < length c.args.touched.now = search rules in
    inr (record {
      calls = refl;
      has_no_room = c.if-is_full.true;
      files = added_beside c.args.touched.now (call_on c.args.file (failed_effect c.args.failed)) _ c.index-touched-file.result inside c.add.ensures;
    })

pub returns : goal.returns
returns c =
    let inside : c.args.file < length c.args.touched.now = search rules in
    elim c.match-push.branch [
      | in-Ok w ↦ inl (record {
        calls = w.in-Ok.ensures.items;
        had_room = c.if-is_full.false;
        has_room = w.is_full-is ∙ c.if-is_full.false;
        same = w.touched-is;
      })
      | in-Err w ↦ inr (record {
        calls = w.in-Err.ensures.items;
        has_no_room = w.is_full-is;
        files = subst (λ (l : List TouchedFile). (k : ℕ) (s : FileState) → touch (touched_at (touched_in l) k) s ≡ step k (call_on c.args.file (failed_effect c.args.failed)) (touch (touched_at (touched_in c.args.touched.now) k) s)) (sym w.touched-is)
            (added_beside c.args.touched.now (call_on c.args.file (failed_effect c.args.failed)) _ w.index-touched-file-in-Err.result inside w.add-in-Err.ensures);
      })
    ]
