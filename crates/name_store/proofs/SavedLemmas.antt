-- What is saved of a run state is read again: the index of its saved chain.
use Rattle.std.proofs.Common.{◌≡◌, ℕ, ◌+◌, ◌≤◌, ◌^◌, List, [], ◌∷◌, length, sym, ◌∙◌, ap, subst, refl, arith}
use Rattle.nmc_base.specs.declared.chain_ends.Base.{Base}
use Rattle.nmc_base.specs.declared.hashes.Hash32.{Hash32}
use Rattle.gate_journal.specs.Records.{IsArea}
use Rattle.chain_names.specs.Coins.{Maps}
use Rattle.chain_names.specs.Undo.{UndoRecord}
use Rattle.chain_names.specs.UndoOf.{AreUndos}
use Rattle.chain_names.specs.Tables.{queue_of}
use Rattle.chain_names.specs.Log.{Log}
use Rattle.chain_state.specs.Chain.{Indexed, newest_hash}
use Rattle.chain_state.specs.Standing.{AreValid, StandsForChain, hash_of, chain_maps}
use Rattle.chain_state.proofs.SoundLemmas.{valid_sound}
use Rattle.chain_state.proofs.StandingLemmas.{base_stands}
use Rattle.chain_commands.specs.Chain.{Chain}
use Rattle.chain_commands.specs.Event.{Command, Connect, Disconnect}
use Rattle.undo_records.specs.declared.version.Version.{Version}
use Rattle.image_grammar.specs.Image.{HasText}
use Rattle.chain_commands.specs.Saving.{IsTextOf, IsSavedText, none_yet, of_start, of_chain}
use Rattle.chain_commands.specs.RunState.{RunState, on_base, after_command, after_commands, saved_chain, chain_of}
use Rattle.index_commands.specs.Standing.{StandsFor}
use Rattle.image_files.specs.Fronts.{HasFront, image_at}
use Rattle.image_files.specs.Indexes.{BeginsWith, HasBadImage, no_front, damaged, other_base}
use Rattle.image_files.specs.SavedTexts as images
use Rattle.image_files.specs.SavedTexts.{IsIndexOfState}
use Rattle.image_files.proofs.AreaLaws.{saved_undamaged, saved_index, area_front, area_image}
use Rattle.image_files.proofs.StateLaws.{state_index}
use Rattle.saved_widths.specs.Wide.{HaveWidePoints}
use Rattle.saved_widths.proofs.ChainLemmas.{text_again}
use Rattle.name_store.specs.Stands.{IsRunState}

-- ---- the index of a chain of blocks, by its state

undos_length : (base : Base) (start : Log) (blocks : List (List ℕ)) (undos : List UndoRecord) → AreUndos base.profile start base.height blocks undos → length undos ≡ length blocks
undos_length base start [] [] are = refl
undos_length base start [] (u ∷ us) are = absurd are
undos_length base start (block ∷ blocks) [] are = absurd are
undos_length base start (block ∷ blocks) (u ∷ us) are = omega (arith, undos_length base start blocks us are.1)

undos_hash : (base : Base) (start : Log) (blocks : List (List ℕ)) (undos : List UndoRecord) → AreUndos base.profile start base.height blocks undos → (newest_hash base undos).0 ≡ hash_of base blocks
undos_hash base start [] [] are = refl
undos_hash base start [] (u ∷ us) are = absurd are
undos_hash base start (block ∷ blocks) [] are = absurd are
undos_hash base start (block ∷ blocks) (u ∷ us) are = are.0.hash

state_stands : (base : Base) (start : Log) (blocks : List (List ℕ)) (undos : List UndoRecord) (index : Indexed) → AreValid base start blocks → AreUndos base.profile start base.height blocks undos
    → IsIndexOfState base undos (chain_maps base start blocks) index → StandsForChain base start blocks index
state_stands base start blocks undos index valid are is = record {
  base_is = is.base_is;
  height = omega (arith, is.height, undos_length base start blocks undos are);
  hash = ap (λ (h : Hash32). h.0) is.hash ∙ undos_hash base start blocks undos are;
  maps = is.maps_are;
  queue = is.queue ∙ ap (λ (m : Maps). queue_of m.coins) is.maps_are;
  undos = subst (AreUndos base.profile start base.height blocks) (sym is.undos_are) are;
  valid = valid;
}

-- ---- a text of a chain's index

module _ (chain : Chain) (valid : AreValid chain.base chain.start chain.blocks) (version : Version) (text_is : List ℕ) (is : IsTextOf version chain text_is) (again : HasText is.is_text.image) where
  abbrev maps : Maps
  maps = chain_maps chain.base chain.start chain.blocks

  image_saved : images.IsSavedText version chain.base is.undos maps text_is
  image_saved = record {
    is_text = is.is_text;
    has_text = again;
    tip = chain.base.height + length chain.blocks;
    sound = valid_sound chain.base chain.start chain.blocks is.undos valid is.are_undos;
  }

  -- it is that of no other state
  pub text_stands : (index : Indexed) → BeginsWith chain.base text_is index → StandsFor index chain
  unfolding image_saved
  text_stands index begins =
      state_stands chain.base chain.start chain.blocks is.undos index valid is.are_undos
      (state_index chain.base is.undos maps is.is_text.image index is.is_text.image_is
      (saved_index version chain.base is.undos maps text_is index image_saved begins))

  -- and not damaged
  pub text_undamaged : (file : List ℕ) (at : ℕ) → HasFront file → image_at file ≡ text_is → HasBadImage chain.base file at → ⊥
  text_undamaged file at front same bad = saved_undamaged version chain.base is.undos maps text_is file at image_saved front same bad

-- an empty image is not damaged
empty_undamaged : (base : Base) (file : List ℕ) (at : ℕ) → HasFront file → image_at file ≡ [] → HasBadImage base file at → ⊥
empty_undamaged base file at front none (no_front is not) = not front
empty_undamaged base file at front none (damaged has some bad) = some none
empty_undamaged base file at front none (other_base has some other) = some none

-- ---- the base of a chain

after_base : (chain : Chain) (command : Command) → (after_command chain command).base ≡ chain.base
after_base chain (Connect block) = refl
after_base chain (Disconnect hash) = refl

commands_base : (first : Chain) (commands : List Command) → (after_commands first commands).base ≡ first.base
commands_base first [] = refl
commands_base first (command ∷ commands) = after_base (after_commands first commands) command ∙ commands_base first commands

-- and its start list
after_start : (chain : Chain) (command : Command) → (after_command chain command).start ≡ chain.start
after_start chain (Connect block) = refl
after_start chain (Disconnect hash) = refl

commands_start : (first : Chain) (commands : List Command) → (after_commands first commands).start ≡ first.start
commands_start first [] = refl
commands_start first (command ∷ commands) = after_start (after_commands first commands) command ∙ commands_start first commands

pub chain_base : (run : RunState) → (chain_of run).base ≡ run.base
chain_base run = commands_base (saved_chain run) run.since ∙ commands_base (on_base run.base run.start) run.saved

-- ---- of a run state

module _ (run : RunState) (is : IsRunState run) where
  base_of : (saved_chain run).base ≡ run.base
  base_of = commands_base (on_base run.base run.start) run.saved

  -- whichever version its text is taken for, it is one that is read again
  pub saved_again : (version : Version) (saved : IsTextOf version (saved_chain run) run.text) → HasText saved.is_text.image
  saved_again version saved =
      let wide : HaveWidePoints (saved_chain run).start = subst HaveWidePoints (sym (commands_start (on_base run.base run.start) run.saved)) is.wide in
      text_again version (saved_chain run) run.text saved (ap (λ (b : Base). length b.hash.0) base_of ∙ is.begun.hash) wide is.valid is.has_saved.short

  none_saved : run.saved ≡ [] → run.start ≡ [] → saved_chain run ≡ on_base run.base []
  none_saved none no_start = λ i. after_commands (on_base run.base (no_start i)) (none i)

  -- an index with which its area begins is that of the text
  begins_by : (version : Version) → IsTextOf version (saved_chain run) run.text → (index : Indexed) → BeginsWith run.base run.text index → StandsFor index (saved_chain run)
  begins_by version is_text index begins =
      text_stands (saved_chain run) is.valid version run.text is_text (saved_again version is_text) index (subst (λ (b : Base). BeginsWith b run.text index) (sym base_of) begins)

  -- an index with which its area begins is that of what is saved
  begins_saved : IsSavedText run → (index : Indexed) → BeginsWith run.base run.text index → StandsFor index (saved_chain run)
  begins_saved (none_yet no_selection none no_start empty) index begins =
      subst (StandsFor index) (sym (none_saved none no_start)) (base_stands run.base [] index (subst (λ (l : List ℕ). BeginsWith run.base l index) empty begins))
  begins_saved (of_start version no_selection none some is_text) index begins = begins_by version is_text index begins
  begins_saved (of_chain version some is_text) index begins = begins_by version is_text index begins

  pub saved_stands : (index : Indexed) → BeginsWith run.base run.text index → StandsFor index (saved_chain run)
  saved_stands index begins = begins_saved is.has_saved.text_is index begins

  pub short_text : length run.text ≤ 2 ^ 37
  short_text = is.has_saved.short

  module _ (records : List (List ℕ)) (file : List ℕ) (area : IsArea run.text records file) where
    pub saved_front : HasFront file
    saved_front = area_front run.text records file short_text area

    pub saved_image : image_at file ≡ run.text
    saved_image = area_image run.text records file short_text area

    whole_by : (version : Version) → IsTextOf version (saved_chain run) run.text → (at : ℕ) → HasBadImage run.base file at → ⊥
    whole_by version is_text at bad =
        text_undamaged (saved_chain run) is.valid version run.text is_text (saved_again version is_text) file at saved_front saved_image (subst (λ (b : Base). HasBadImage b file at) (sym base_of) bad)

    undamaged_by : IsSavedText run → (at : ℕ) → HasBadImage run.base file at → ⊥
    undamaged_by (none_yet no_selection none no_start empty) at bad = empty_undamaged run.base file at saved_front (saved_image ∙ empty) bad
    undamaged_by (of_start version no_selection none some is_text) at bad = whole_by version is_text at bad
    undamaged_by (of_chain version some is_text) at bad = whole_by version is_text at bad

    pub saved_not_bad : (at : ℕ) → HasBadImage run.base file at → ⊥
    saved_not_bad at bad = undamaged_by is.has_saved.text_is at bad
