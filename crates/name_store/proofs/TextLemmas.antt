-- The text of an index, of each chain that the index stands for.
use Rattle.std.proofs.Common.{◌≡◌, ◌≤◌, List, ℕ, length, reverse, subst}
use Rattle.nmc_base.specs.declared.chain_ends.Base.{Base}
use Rattle.chain_names.specs.Coins.{Maps}
use Rattle.chain_names.specs.Index.{index_maps}
use Rattle.chain_names.specs.Undo.{UndoRecord}
use Rattle.chain_names.proofs.OneRecordLemmas.{one_undo-chain}
use Rattle.name_tables.specs.Tables.{maps_by}
use Rattle.undo_records.specs.declared.version.Version.{Version}
use Rattle.undo_records.specs.declared.version.Version.TheVariants.{Two}
use Rattle.image_grammar.specs.Image.{HasText, IsImageOf}
use Rattle.image_grammar.specs.Text.{IsStateText}
use Rattle.image_writer.specs.Whole.{IsReadAgain}
use Rattle.chain_state.specs.Chain.{Indexed}
use Rattle.chain_commands.specs.Chain.{Chain}
use Rattle.chain_commands.specs.Saving.{IsTextOf, longest_image}
use Rattle.image_files.specs.SavingIndex.{IsTextOfIndex}
use Rattle.index_commands.specs.Standing as chains

-- a text of the index is one of each chain that the index stands for
module _ (index : Indexed) (chain : Chain) (s : chains.StandsFor index chain) (text : List ℕ) (is : IsTextOfIndex index text) where
  pub text_of : IsTextOf Two chain text
  text_of = record {
    undos = index.undos;
    are_undos = s.undos;
    is_text = subst (λ (maps : Maps). IsStateText Two chain.base index.undos maps text) s.maps (subst (λ (b : Base). IsStateText Two b index.undos (maps_by index.tables) text) s.base_is is.is_text);
  }

  again : IsReadAgain chain.base index.undos (index_maps chain.base.profile chain.start chain.base.height chain.blocks) text
  again = subst (λ (maps : Maps). IsReadAgain chain.base index.undos maps text) s.maps (subst (λ (b : Base). IsReadAgain b index.undos (maps_by index.tables) text) s.base_is is.again)

  -- whichever version it is taken for, it is one that is read again
  pub read_again : length text ≤ longest_image → (version : Version) (other : IsTextOf version chain text) → HasText other.is_text.image
  unfolding text_of
  read_again short version other =
      let undos : other.undos ≡ index.undos = one_undo-chain chain.base.profile chain.start chain.base.height chain.blocks other.undos index.undos other.are_undos s.undos in
      let maps = index_maps chain.base.profile chain.start chain.base.height chain.blocks in
      again short other.is_text.image (subst (λ (l : List UndoRecord). IsImageOf chain.base (reverse l) maps other.is_text.image) undos other.is_text.image_is)
