use Rattle.std.proofs.Common.{◌≡◌, ◌<◌, ℕ, List, [], length, min, map, take, Vec, refl, sym, ◌∙◌, ap, subst, rules}
use Rattle.std.specs.Prelude.{◌&&◌, if◌then◌else◌, nat_lt, slice_index_or, Some, None, IfOk}
use Rattle.std.specs.declared.alloc.Global.{Global}
use Rattle.std.proofs.lemmas.List.{length-map}
use Rattle.disk_model.specs.FileState.{FileState, synced_file}
use Rattle.memory_disk.specs.Calls.{file_from, last_sync}
use Rattle.memory_disk.specs.Touched.{touched_at, touch}
use Rattle.memory_disk.specs.Chosen.{IsChosen}
use Rattle.memory_disk.specs.MemoryLog.{DiskLog, files_at, synced_at}
use Rattle.memory_disk.specs.Kept.{call_of, calls_of, touched_of, touched_in}
use Rattle.memory_disk.specs.declared.kept.KeptCall.{KeptCall}
use Rattle.memory_disk.proofs.StoredLemmas.{get_or-items, touched_at-of}
use Rattle.memory_disk.proofs.ReplayLemmas.{taken_calls, file_at}
use Rattle.memory_disk.proofs.memory.MemoryDisk.file_image.Goals as goal

pub returns : goal.returns
returns c =
    let in_first : c.args.file < length c.self.inside.first = search rules in
    let in_touched : c.args.file < length c.self.inside.touched = search rules in
    let calls = c.self.inside.calls.items in
    let count : c.min.result ≡ min c.args.calls (length calls) = search rules in
    let listed : c.len-2.result ≡ length calls = search rules in
    let kept : calls_of (take c.min.result c.deref.result.now) ≡ take c.args.calls (calls_of calls) =
    ap (λ (n : ℕ). calls_of (take n c.deref.result.now)) count
    ∙ ap (λ (l : List KeptCall). calls_of (take (min c.args.calls (length calls)) l)) c.deref.ensures.value ∙ taken_calls calls c.args.calls in
    let beside : c.counts_beside-is_beside.result ≡ (c.self.inside.is_full && nat_lt (length (calls_of calls)) c.args.calls) =
    c.counts_beside-is_beside.ensures ∙ ap (λ (n : ℕ). c.self.inside.is_full && nat_lt n c.args.calls) (listed ∙ sym (length-map calls call_of)) in
    let file = c.args.file in
    let held = c.index-self-place.result.items in
    let first = map (λ v. v.items) c.self.inside.first in
    let touched = touched_in c.self.inside.touched in
    let apart = touched_of c.index-self-place-2.result in
    let log : DiskLog = record { first = first; calls = calls_of calls; together = (if c.self.inside.is_full then Some touched else None); counts = c.self.inside.counts; changes = c.self.inside.changes } in
    let held_is : held ≡ slice_index_or first file [] =
    ap (λ (v : Vec ℕ Global). v.items) c.index-self-place.is ∙ sym (get_or-items c.self.inside.first file c.index-self-place.result in_first) in
    let apart_is : apart ≡ touched_at touched file = ap touched_of c.index-self-place-2.is ∙ sym (touched_at-of c.self.inside.touched file c.index-self-place-2.result in_touched) in
    let after = file_from file (synced_file held) (calls_of (take c.min.result c.deref.result.now)) in
    let last = last_sync file held (synced_file held) (calls_of (take c.min.result c.deref.result.now)) in
    let last_is : last ≡ synced_at log c.args.calls file = λ i. last_sync file (held_is i) (synced_file (held_is i)) (kept i) in
    let after_is : after ≡ file_from file (synced_file (slice_index_or first file [])) (take c.args.calls (calls_of calls)) = λ i. file_from file (synced_file (held_is i)) (kept i) in
    let file_is : (if c.counts_beside-is_beside.result then touch apart after else after) ≡ files_at log c.args.calls file =
    (λ i. if beside i then touch (apart_is i) (after_is i) else after_is i) ∙ sym (file_at log c.self.inside.is_full touched c.args.calls file c.requires refl) in
    let taken : IfOk c.crash_image.result (λ image. IsChosen c.args.choice (if c.counts_beside-is_beside.result then touch apart after else after) last image.items) = search rules in
    subst (λ (l : DiskLog). IfOk c.crash_image.result (λ image. IsChosen c.args.choice (files_at l c.args.calls file) (synced_at l c.args.calls file) image.items)) c.self.view_is
    (subst (λ (s : FileState). IfOk c.crash_image.result (λ image. IsChosen c.args.choice s (synced_at log c.args.calls file) image.items)) file_is
    (subst (λ (l : List ℕ). IfOk c.crash_image.result (λ image. IsChosen c.args.choice (if c.counts_beside-is_beside.result then touch apart after else after) l image.items)) last_is taken))
