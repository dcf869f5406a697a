use Rattle.std.proofs.Common.{List, [], ◌∷◌, ◌++◌, refl, ◌∙◌, ap, map}
use Rattle.memory_disk.specs.Kept.{call_of, calls_of, touched_in}
use Rattle.memory_disk.specs.MemoryLog.{moments_after}
use Rattle.memory_disk.specs.declared.kept.KeptCall.{KeptCall}
use Rattle.memory_disk.specs.declared.kept.KeptEffect.TheVariants.{Look}
use Rattle.memory_disk.proofs.StoredLemmas.{Store, bytes_of, stores, stored_after, stored_same, narrows_look}
use Rattle.memory_disk.proofs.memory.MemoryDisk.look.Goals as goal

pub invariant_of-self-2 : goal.invariant_of-self-2
invariant_of-self-2 c =
    let first = map (λ v. v.items) c.self.inside.first in
    let calls = c.self.inside.calls.items in
    let call : KeptCall = record { file = c.args.file; effect = Look } in
    let store : Store = record { bytes = bytes_of c.self.inside.files; is_full = c.self.inside.is_full; touched = touched_in c.self.inside.touched } in
    stored_after store first calls c.keep.new.calls.items call (c.keep.ensures ∙ ap (λ (l : List KeptCall). l ++ call ∷ []) c.begin.ensures.calls)
    (stored_same store (moments_after first (calls_of calls)).now (call_of call) (record { named = c.requires; narrows = narrows_look }) (λ s. refl) (stores store first (calls_of calls) c.self.invariant))
