use Rattle.std.proofs.Common.{◌≡◌, ℕ, ◌<◌, List, [], ◌∷◌, ◌++◌, length, Vec, sym, ◌∙◌, ap, subst, map, take, arith, rules}
use Rattle.std.specs.Prelude.{slice_set}
use Rattle.std.specs.declared.alloc.Global.{Global}
use Rattle.std.proofs.lemmas.List.{length-map}
use Rattle.disk_model.specs.Reads.{seen}
use Rattle.memory_disk.specs.MemoryLog.{moments_after}
use Rattle.memory_disk.specs.Stored.{IsStored}
use Rattle.memory_disk.specs.Kept.{call_of, calls_of, touched_in}
use Rattle.memory_disk.specs.declared.kept.KeptCall.{KeptCall}
use Rattle.memory_disk.specs.declared.kept.KeptEffect.TheVariants.{Cut}
use Rattle.memory_disk.proofs.StoredLemmas.{Store, bytes_of, bytes_of-set, stores, stored_after, stored_at, stored_changed, narrows_cut}
use Rattle.memory_disk.proofs.memory.MemoryDisk.keep_cut.Goals as goal

pub invariant_of-self-2 : goal.invariant_of-self-2
invariant_of-self-2 c =
    let inside : c.args.file < length c.self.inside.files = search rules in
    let named : c.args.file < 3 = c.requires in
    let call : KeptCall = record { file = c.args.file; effect = Cut c.args.len } in
    let first = map (λ v. v.items) c.self.inside.first in
    let calls = c.self.inside.calls.items in
    let later = c.keep.new.calls.items in
    let store : Store = record { bytes = bytes_of c.self.inside.files; is_full = c.self.inside.is_full; touched = touched_in c.self.inside.touched } in
    let held = stored_at c.self.inside.files c.args.file c.index-self-file.result _ inside (c.self.invariant.bytes c.args.file named) in
    let bytes = c.truncate.new.self.items in
    let bytes_are : bytes ≡ take c.args.len (seen (moments_after first (calls_of calls)) c.args.file) = c.truncate.ensures.items ∙ ap (λ (l : List ℕ). take c.args.len l) held in
    subst (λ (l : List (List ℕ)). IsStored l first (calls_of later) store.is_full store.touched) (sym (bytes_of-set c.self.inside.files c.args.file c.truncate.new.self))
    (stored_after (record store { bytes = slice_set store.bytes c.args.file bytes }) first calls later call (c.keep.ensures ∙ ap (λ (l : List KeptCall). l ++ call ∷ []) c.begin.ensures.calls)
    (stored_changed store (moments_after first (calls_of calls)).now (call_of call) bytes (record { named = named; narrows = narrows_cut c.args.len })
    (omega (arith, inside, length-map c.self.inside.files (λ (v : Vec ℕ Global). v.items))) bytes_are (stores store first (calls_of calls) c.self.invariant)))
