-- Disconnecting undoes connecting, and connecting again redoes.
use Rattle.std.proofs.Common.{◌≡◌, ℕ, List, ◌∷◌, sym, ap, ◌∙◌, arith}
use Rattle.block_grammar.specs.Block.{Block}
use Rattle.nmc_base.specs.declared.chain_ends.Base.{Base}
use Rattle.nmc_base.specs.declared.chain_ends.Tip.{Tip}
use Rattle.chain_names.specs.Changes.{undone}
use Rattle.chain_names.specs.Undo.{UndoRecord}
use Rattle.chain_names.proofs.OneRecordLemmas.{one_undo-chain}
use Rattle.name_tables.specs.Tables.{maps_by}
use Rattle.chain_state.specs.Chain.{Indexed, IsIndexed, SameIndex, StagedIndex, IsStagedOn, IsConnected, staged_undo, newest_hash}
use Rattle.chain_state.proofs.DisconnectLemmas.{first_same, rest_same}
use Rattle.chain_state.specs.Standing.{StandsForChain}
use Rattle.chain_names.specs.Coins.{Maps}
use Rattle.chain_names.specs.Log.{Log}
use Rattle.chain_names.specs.Tables.{queue_of}
use Rattle.chain_state.proofs.StandingLemmas.{IsTakenOff}
use Rattle.chain_state.proofs.RefusalLemmas.{joined_hash}

joined_tip : (a b : Tip) → a.height ≡ b.height → a.hash ≡ b.hash → a ≡ b
joined_tip a b height hash = λ i. record { height = height i; hash = hash i }

pub one_index : (base : Base) (start : Log) (blocks : List (List ℕ)) (a b : Indexed) → StandsForChain base start blocks a → StandsForChain base start blocks b → SameIndex a b
one_index base start blocks a b s t = record {
  base = s.base_is ∙ sym t.base_is;
  tip = joined_tip a.tip b.tip (s.height ∙ sym t.height) (joined_hash a.tip.hash b.tip.hash (s.hash ∙ sym t.hash));
  maps = s.maps ∙ sym t.maps;
  queue = s.queue ∙ sym t.queue;
  undos = one_undo-chain base.profile start base.height blocks a.undos b.undos s.undos t.undos;
}

-- ---- forth and back

-- an index that has a block more
pub record IsJoined (old new : Indexed) : Type 0 where
  pub block : Block
  pub staged : StagedIndex
  pub on : IsStagedOn old block staged
  pub connected : IsConnected staged new

pub forth_and_back : (old new gone : Indexed) → IsIndexed old → IsJoined old new → IsTakenOff new gone → SameIndex gone old
forth_and_back old new gone indexed j t =
    let work = staged_undo j.staged.hash j.staged.whole in
    let both : t.gone.undo ∷ t.gone.below ≡ work ∷ j.staged.undos = sym t.gone.undos_were ∙ t.on.same.undos ∙ j.connected.undos in
    let undo_is : t.gone.undo ≡ work = first_same _ _ _ _ both in
    let below_is : t.gone.below ≡ old.undos = rest_same _ _ _ _ both ∙ j.on.undos in
    let base_is : t.staged.base ≡ old.base = t.on.same.base ∙ j.connected.base ∙ j.on.base in
    let maps : maps_by gone.tables ≡ maps_by old.tables =
    t.gone.maps
    ∙ ap (λ (u : UndoRecord). undone u.ops u.expired (maps_by t.staged.tables)) undo_is
    ∙ ap (undone work.ops work.expired) (t.on.same.maps ∙ j.connected.maps)
    ∙ j.on.before in
    record {
      base = t.gone.base ∙ base_is;
      tip = joined_tip gone.tip old.tip
          (omega (arith, t.gone.height, ap (λ (tip : Tip). tip.height) t.on.same.tip, j.connected.height, ap (λ (tip : Tip). tip.height) j.on.tip))
          (t.gone.hash ∙ ap (λ x. newest_hash x t.gone.below) base_is ∙ ap (newest_hash old.base) below_is ∙ sym indexed.hash);
      maps = maps;
      queue = t.gone.queue ∙ ap (λ (m : Maps). queue_of m.coins) maps ∙ sym indexed.queue;
      undos = t.gone.undos ∙ below_is;
    }
