use Rattle.std.proofs.Common.{◌≡◌, ℕ, ◌<◌, ◌^◌, List, [], ◌∷◌, ◌++◌, length, Vec, sym, ◌∙◌, ap, subst, map, arith, rules}
use Rattle.std.specs.Prelude.{slice_index_or, slice_set, if◌then◌else◌, Some, None}
use Rattle.disk_model.specs.FileState.{put}
use Rattle.disk_model.specs.Reads.{seen}
use Rattle.memory_disk.specs.MemoryLog.{DiskLog, moments_after, moments_of}
use Rattle.memory_disk.specs.Kept.{call_of, calls_of, touched_in}
use Rattle.memory_disk.specs.Stored.{IsStored}
use Rattle.std.specs.declared.alloc.Global.{Global}
use Rattle.std.proofs.lemmas.List.{length-map}
use Rattle.std.proofs.Math.Seq.{map-set_same}
use Rattle.memory_disk.specs.declared.kept.KeptCall.{KeptCall}
use Rattle.memory_disk.specs.declared.kept.KeptEffect.TheVariants.{Write}
use Rattle.memory_disk.proofs.StoredLemmas.{Store, bytes_of, bytes_of-set, stores, stored_after, stored_at, stored_changed, narrows_write, seen_touched, short_bytes}
use Rattle.memory_disk.proofs.memory.MemoryDisk.keep_write.Goals as goal

pub fail-requires-clause-range : goal.fail-requires-clause-range
fail-requires-clause-range c =
    let short : length c.args.bytes.now < 2 ^ 63 = search rules in
    let held = c.self.invariant.bytes c.args.file c.requires.file in
    let m = moments_after (map (λ v. v.items) c.self.inside.first) (calls_of c.self.inside.calls.items) in
    let shown : seen m c.args.file ≡ seen (moments_of c.args.self.now) c.args.file =
    sym (seen_touched (if c.self.inside.is_full then Some (touched_in c.self.inside.touched) else None) m c.args.file) ∙ ap (λ (log : DiskLog). seen (moments_of log) c.args.file) c.self.view_is in
    omega (arith, short, c.requires.inside, ap length held, ap length shown, short_bytes c.self.inside.files c.args.file)

pub invariant_of-self-in-Ok : goal.invariant_of-self-in-Ok
invariant_of-self-in-Ok c =
    let inside : c.args.file < length c.self.inside.files = search rules in
    let named : c.args.file < 3 = c.requires.file in
    let call : KeptCall = record { file = c.args.file; effect = Write c.args.at c.in-Ok.copy } in
    let copied : c.in-Ok.copy.items ≡ c.args.bytes.now = c.in-Ok.ensures.copy in
    let first = map (λ v. v.items) c.self.inside.first in
    let calls = c.self.inside.calls.items in
    let later = c.keep.new.calls.items in
    let store : Store = record { bytes = bytes_of c.self.inside.files; is_full = c.self.inside.is_full; touched = touched_in c.self.inside.touched } in
    let held = stored_at c.self.inside.files c.args.file c.index-self-file.result _ inside (c.self.invariant.bytes c.args.file named) in
    let bytes = c.put_copied.new.bytes.items in
    let bytes_are : bytes ≡ put (seen (moments_after first (calls_of calls)) c.args.file) c.args.at c.in-Ok.copy.items =
    c.in-Ok.ensures.ok ∙ ap (λ (l : List ℕ). put (slice_index_or c.self.inside.files c.args.file c.index-self-file.result).items c.args.at l) (sym copied)
    ∙ ap (λ (l : List ℕ). put l c.args.at c.in-Ok.copy.items) held in
    subst (λ (l : List (List ℕ)). IsStored l first (calls_of later) store.is_full store.touched) (sym (bytes_of-set c.self.inside.files c.args.file c.put_copied.new.bytes))
    (stored_after (record store { bytes = slice_set store.bytes c.args.file bytes }) first calls later call (c.keep.ensures ∙ ap (λ (l : List KeptCall). l ++ call ∷ []) c.begin.ensures.calls)
    (stored_changed store (moments_after first (calls_of calls)).now (call_of call) bytes (record { named = named; narrows = narrows_write c.args.at c.in-Ok.copy.items })
    (omega (arith, inside, length-map c.self.inside.files (λ (v : Vec ℕ Global). v.items))) bytes_are (stores store first (calls_of calls) c.self.invariant)))

pub invariant_of-self-in-Err : goal.invariant_of-self-in-Err
invariant_of-self-in-Err c =
    let first = map (λ v. v.items) c.self.inside.first in
    let touched = touched_in c.self.inside.touched in
    let same = map-set_same (λ (v : Vec ℕ Global). v.items) c.self.inside.files c.args.file c.put_copied.new.bytes c.index-self-file.result c.in-Err.ensures.err in
    subst (λ (l : List (List ℕ)). IsStored l first (calls_of c.begin.new.calls.items) c.self.inside.is_full touched) (sym same)
    (subst (λ (l : List KeptCall). IsStored (bytes_of c.self.inside.files) first (calls_of l) c.self.inside.is_full touched) (sym c.begin.ensures.calls) c.self.invariant)
