-- Saves: a chain has one text in each version, a save leaves the chain, and what is saved stays.
use Rattle.std.proofs.Common.{◌≡◌, ℕ, ◌<◌, ◌≤◌, List, [], ◌∷◌, ◌++◌, length, refl, sym, ap, subst, ◌∙◌, arith}
use Rattle.chain_names.specs.Index.{index_maps}
use Rattle.chain_names.specs.Undo.{UndoRecord}
use Rattle.chain_names.proofs.OneRecordLemmas.{one_undo-chain}
use Rattle.undo_records.specs.declared.version.Version.{Version}
use Rattle.undo_records.specs.declared.version.Version.TheVariants.{Two}
use Rattle.image_grammar.specs.Text.{IsStateText}
use Rattle.image_grammar.proofs.StateLaws.{one_text-state}
use Rattle.feed_frames.specs.Replies.{Reply}
use Rattle.chain_commands.specs.Chain.{Chain}
use Rattle.chain_commands.specs.Event.{Command}
use Rattle.chain_commands.specs.RunState.{RunState, after_command, after_commands, on_base, chain_of, accepted}
use Rattle.chain_commands.specs.Refusals.{accepts, declines, lacks_memory}
use Rattle.chain_commands.specs.Saving.{IsTextOf, longest_image, most_selections, SaveRefusal, CheckpointLimit, ImageLimit, HasLongText, HoldsSave, save_order, save_refusal_reply, saved_by, LeavesSaved, Saves, IsSavedText, none_yet, of_start, of_chain, HasSaved}
use Rattle.chain_commands.proofs.RefusalLemmas.{DoesOne, code_of}

-- ---- the text of a chain

pub one_text : (version : Version) (chain : Chain) (text other : List ℕ) → IsTextOf version chain text → IsTextOf version chain other → text ≡ other
one_text version chain text other is is' =
    let maps = index_maps chain.base.profile chain.start chain.base.height chain.blocks in
    let undos = one_undo-chain chain.base.profile chain.start chain.base.height chain.blocks is.undos is'.undos is.are_undos is'.are_undos in
    one_text-state version chain.base is'.undos maps text other (subst (λ (us : List UndoRecord). IsStateText version chain.base us maps text) undos is.is_text) is'.is_text

-- ---- the chain of a run state

pub after_both : (first : Chain) (since saved : List Command) → after_commands (after_commands first saved) since ≡ after_commands first (since ++ saved)
after_both first [] saved = refl
after_both first (command ∷ since) saved = ap (λ (chain : Chain). after_command chain command) (after_both first since saved)

pub chain_of_all : (run : RunState) → chain_of run ≡ after_commands (on_base run.base run.start) (run.since ++ run.saved)
chain_of_all run = after_both (on_base run.base run.start) run.since run.saved

pub saved_leaves : (run : RunState) (text : List ℕ) → chain_of (saved_by run text) ≡ chain_of run
saved_leaves run text = sym (chain_of_all run)

-- ---- the refusals of a save

pub one_at_place_save : (run : RunState) (r s : SaveRefusal) → HoldsSave run r → HoldsSave run s → save_order r ≡ save_order s → r ≡ s
one_at_place_save run CheckpointLimit CheckpointLimit hr hs e = refl
one_at_place_save run ImageLimit ImageLimit hr hs e = refl
one_at_place_save run r s hr hs e = absurd (omega arith)

pub placed_save : (r : SaveRefusal) → save_order r < 2
placed_save CheckpointLimit = omega arith
placed_save ImageLimit = omega arith

pub coded_save : (r : SaveRefusal) → (save_refusal_reply r).code ≡ 0 → ⊥
coded_save CheckpointLimit e = omega (arith, e)
coded_save ImageLimit e = omega (arith, e)

-- ---- what a save leaves

pub save_does : (old : RunState) → DoesOne (LeavesSaved old)
save_does old = record {
  code_is = λ reply new done. code_of _ _ done.told;
  one = λ reply answer new other done too.
      done.is_saved.state_is
      ∙ ap (saved_by old) (one_text Two (chain_of old) done.is_saved.text too.is_saved.text done.is_saved.is_text too.is_saved.is_text)
      ∙ sym too.is_saved.state_is;
}

pub save_leaves_chain : (old new : RunState) (reply : Reply) → Saves old reply new → chain_of new ≡ chain_of old
save_leaves_chain old new reply (accepts none done) = ap chain_of done.is_saved.state_is ∙ saved_leaves old done.is_saved.text
save_leaves_chain old new reply (declines refusal first new-is told) = ap chain_of new-is
save_leaves_chain old new reply (lacks_memory none new-is told) = ap chain_of new-is

-- ---- what is saved stays

text_kept : (run : RunState) (command : Command) → IsSavedText run → IsSavedText (accepted run command)
text_kept run command (none_yet none no_commands no_start no_text) = none_yet none no_commands no_start no_text
text_kept run command (of_start version none no_commands some is_text) = of_start version none no_commands some is_text
text_kept run command (of_chain version some is_text) = of_chain version some is_text

pub command_keeps : (run : RunState) (command : Command) → HasSaved run → HasSaved (accepted run command)
command_keeps run command has = record { text_is = text_kept run command has.text_is; short = has.short; few = has.few }

-- a text that may be saved, where one save more may be selected
pub saved_has : (run : RunState) (text : List ℕ) → run.selections < most_selections → IsTextOf Two (chain_of run) text → length text ≤ longest_image → HasSaved (saved_by run text)
saved_has run text few is_text short = record {
  text_is = of_chain Two (omega arith) (subst (λ (chain : Chain). IsTextOf Two chain text) (chain_of_all run) is_text);
  short = short;
  few = omega (arith, few);
}

not_long : (most : ℕ) (chain : Chain) (text : List ℕ) → (HasLongText most chain → ⊥) → IsTextOf Two chain text → length text ≤ most
not_long most chain text none is_text =
    let within : most < length text → ⊥ = λ long. none (record { text = text; is_text = is_text; long = long }) in
    omega (arith, within)

pub save_keeps : (old new : RunState) (reply : Reply) → Saves old reply new → HasSaved old → HasSaved new
save_keeps old new reply (accepts none done) has =
    let text = done.is_saved.text in
    let is_text = done.is_saved.is_text in
    let few : old.selections < most_selections = omega (arith, none.none CheckpointLimit (omega arith)) in
    let short = not_long longest_image (chain_of old) text (none.none ImageLimit (omega arith)) is_text in
    subst HasSaved (sym done.is_saved.state_is) (saved_has old text few is_text short)
save_keeps old new reply (declines refusal first new-is told) has = subst HasSaved (sym new-is) has
save_keeps old new reply (lacks_memory none new-is told) has = subst HasSaved (sym new-is) has
