use Rattle.std.proofs.Common.{◌≡◌, ◌<◌, ℕ, Vec, List, [], ◌∷◌, ◌++◌, length, sym, ◌∙◌, ap, subst, map, arith, rules}
use Rattle.std.specs.Prelude.{slice_set}
use Rattle.std.proofs.lemmas.List.{length-map}
use Rattle.memory_disk.specs.Touched.{Touched}
use Rattle.memory_disk.specs.Stored.{IsStored}
use Rattle.std.specs.declared.alloc.Global.{Global}
use Rattle.disk_model.specs.Reads.{seen}
use Rattle.memory_disk.specs.Kept.{calls_of, touched_of, touched_in}
use Rattle.memory_disk.specs.MemoryLog.{moments_after}
use Rattle.memory_disk.specs.declared.kept.KeptCall.{KeptCall}
use Rattle.memory_disk.specs.declared.kept.KeptEffect.TheVariants.{Sync}
use Rattle.memory_disk.proofs.StoredLemmas.{Store, bytes_of, touched_in-set, stores, stored_after, stored_synced, stored_at}
use Rattle.memory_disk.proofs.memory.MemoryDisk.keep_sync.Goals as goal

pub invariant_of-self-in-Ok : goal.invariant_of-self-in-Ok
invariant_of-self-in-Ok c =
    let inside : c.args.file < length c.self.inside.files = search rules in
    let in_touched : c.args.file < length c.self.inside.touched = search rules in
    let first = map (λ v. v.items) c.self.inside.first in
    let calls = calls_of c.self.inside.calls.items in
    let touched = touched_in c.self.inside.touched in
    let named : c.args.file < 3 = c.requires in
    let stored = stored_at c.self.inside.files c.args.file c.index-self-file.result _ inside (c.self.invariant.bytes c.args.file named) in
    let held : c.index-self-file.result.items ≡ seen (moments_after first calls) c.args.file = ap (λ (v : Vec ℕ Global). v.items) c.index-self-file.is ∙ stored in
    let count : length c.index-self-file.result.items ≡ c.len-count.result = search rules in
    let call : KeptCall = record { file = c.args.file; effect = Sync } in
    let store : Store = record { bytes = bytes_of c.self.inside.files; is_full = c.self.inside.is_full; touched = touched } in
    let nothing = touched_of c.in-Ok.touched in
    subst (λ (l : List Touched). IsStored store.bytes first (calls_of c.keep.new.calls.items) store.is_full l) (sym (touched_in-set c.self.inside.touched c.args.file c.in-Ok.touched))
    (stored_after (record store { touched = slice_set touched c.args.file nothing }) first c.self.inside.calls.items c.keep.new.calls.items call
    (c.keep.ensures ∙ ap (λ (l : List KeptCall). l ++ call ∷ []) c.begin.ensures.calls)
    (stored_synced store (moments_after first calls).now c.args.file nothing named (omega (arith, in_touched, length-map c.self.inside.touched touched_of))
    (c.in-Ok.ensures (seen (moments_after first calls) c.args.file) (ap length (sym held) ∙ count)) (stores store first calls c.self.invariant)))
