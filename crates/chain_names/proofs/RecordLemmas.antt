-- Each chain of accepted blocks has its undo records.
use Rattle.std.proofs.Common.{◌≡◌, ℕ, Bool, true, false, List, [], ◌∷◌, refl, sym, ap, subst, ◌∙◌}
use Rattle.std.specs.Prelude.{Option, Some, None, ◌||◌}
use Rattle.std.specs.List.{AllByRecursion, list_any}
use Rattle.nmc_base.specs.declared.chain_ends.Profile.{Profile}
use Rattle.nmc_base.specs.declared.hashes.OutPoint.{OutPoint}
use Rattle.chain_names.specs.declared.coin.Coin.{Coin}
use Rattle.chain_names.specs.declared.coin.HeldCoin.{HeldCoin}
use Rattle.chain_names.specs.Points.{same_point}
use Rattle.chain_names.specs.Changes.{after_all, undo_ops}
use Rattle.chain_names.specs.Index.{next_height, index_maps}
use Rattle.chain_names.specs.Log.{Log, behind_coinbase, transactions_in}
use Rattle.chain_names.specs.Undo.{UndoRecord}
use Rattle.chain_names.proofs.Shown.{true_is_not_false}
use Rattle.chain_names.proofs.Points.{same_point-true}
use Rattle.chain_names.specs.Expired.{IsSortedByPoint, IsGone}
use Rattle.chain_names.specs.Sound.{IsAccepted, AreAccepted}
use Rattle.chain_names.specs.UndoOf.{hash_in, IsUndoOf, AreUndos}
use Rattle.chain_names.proofs.InsertLemmas.{IsListed, insert_held, insert_all, insert_sorted, insert_here, insert_there, sorted_nil}
use Rattle.chain_names.proofs.StateLemmas.{transactions_stand, transactions_few}
use Rattle.chain_names.proofs.LimitLemmas.{due_points, next_coins}
use Rattle.chain_names.proofs.SoundLemmas.{sound_state}
use Rattle.chain_names.proofs.IndexLemmas.{undo_by_maps, index_sound}
use Rattle.chain_names.proofs.OutputLemmas.{accepted_few}

-- ---- the coins of listed outpoints that are gone

module _ (now next : OutPoint → Option Coin) where
  -- in order, and each is gone; and so are all of these outpoints that are
  record Found (points : List OutPoint) : Type 0 where
    helds : List HeldCoin
    each : AllByRecursion (IsGone now next) helds
    all : (point : OutPoint) (coin : Coin) → now point ≡ Some coin → next point ≡ None → list_any (same_point point) points ≡ true → IsListed point helds
    sorted : IsSortedByPoint helds

  found_more : (at : OutPoint) (points : List OutPoint) (was left : Option Coin) → now at ≡ was → next at ≡ left → Found points → Found (at ∷ points)
  found_more at points None left was_is left_is found = record {
    helds = found.helds;
    each = found.each;
    all = λ point coin held gone listed.
        by point coin held gone (same_point point at) refl listed;
    sorted = found.sorted;
  }
    where
      by : (point : OutPoint) (coin : Coin) → now point ≡ Some coin → next point ≡ None → (b : Bool) → same_point point at ≡ b → (b || list_any (same_point point) points) ≡ true
          → IsListed point found.helds
      by point coin held gone true is listed =
          let bad : None ≡ Some coin = sym was_is ∙ ap now (sym (same_point-true point at is)) ∙ held in
          absurd cc
      by point coin held gone false is listed = found.all point coin held gone listed
  found_more at points (Some coin) (Some kept) was_is left_is found = record {
    helds = found.helds;
    each = found.each;
    all = λ point c held gone listed.
        by point c held gone (same_point point at) refl listed;
    sorted = found.sorted;
  }
    where
      by : (point : OutPoint) (c : Coin) → now point ≡ Some c → next point ≡ None → (b : Bool) → same_point point at ≡ b → (b || list_any (same_point point) points) ≡ true
          → IsListed point found.helds
      by point c held gone true is listed =
          let bad : None ≡ Some kept = sym gone ∙ ap next (same_point-true point at is) ∙ left_is in
          absurd cc
      by point c held gone false is listed = found.all point c held gone listed
  found_more at points (Some coin) None was_is left_is found = record {
    helds = insert_held (record { at = at; coin = coin }) found.helds;
    each = insert_all (IsGone now next) (record { at = at; coin = coin }) found.helds (record { now_is = was_is; next_is = left_is }) found.each;
    all = λ point c held gone listed.
        by point c held gone (same_point point at) refl listed;
    sorted = insert_sorted (record { at = at; coin = coin }) found.helds found.sorted;
  }
    where
      by : (point : OutPoint) (c : Coin) → now point ≡ Some c → next point ≡ None → (b : Bool) → same_point point at ≡ b → (b || list_any (same_point point) points) ≡ true
          → IsListed point (insert_held (record { at = at; coin = coin }) found.helds)
      by point c held gone true is listed =
          subst (λ p. IsListed p (insert_held (record { at = at; coin = coin }) found.helds)) (sym (same_point-true point at is))
          (insert_here (record { at = at; coin = coin }) found.helds)
      by point c held gone false is listed = insert_there (record { at = at; coin = coin }) found.helds point (found.all point c held gone listed)

  found : (points : List OutPoint) → Found points
  found [] = record { helds = []; each = tt; all = λ point coin held gone listed. absurd (true_is_not_false (sym listed)); sorted = sorted_nil }
  found (at ∷ points) = found_more at points (now at) (next at) refl refl (found points)

-- ---- a block

record HasUndo (profile : Profile) (start : Log) (base : ℕ) (block : List ℕ) (blocks : List (List ℕ)) : Type 0 where
  undo : UndoRecord
  is_undo : IsUndoOf profile start base block blocks undo

block_has_undo : (profile : Profile) (start : Log) (base : ℕ) (block : List ℕ) (blocks : List (List ℕ)) (us : List UndoRecord) → IsAccepted profile start base block blocks
    → AreAccepted profile start base blocks → AreUndos profile start base blocks us → HasUndo profile start base block blocks
block_has_undo profile start base block blocks us accepted below undos =
    let height = next_height base blocks in
    let ts = behind_coinbase (transactions_in block) in
    let before = index_maps profile start base blocks in
    let state = sound_state profile base _ before us (index_sound profile start base blocks us below undos) in
    let after = after_all profile height ts before in
    let next = next_coins profile height after in
    let listed = due_points profile height after (transactions_stand profile _ ts before state) (transactions_few profile _ ts before state (accepted_few profile start base block blocks accepted)) in
    let all = found after.coins next listed.points in
    let u : UndoRecord = record { block = record { 0 = hash_in block }; ops = undo_ops profile height ts before; expired = all.helds } in
    record {
      undo = u;
      is_undo = undo_by_maps profile start base block blocks accepted.unrefused u refl (record {
        ops = refl;
        due = record { each = all.each; all = λ point coin held gone. all.all point coin held gone (listed.all point coin held gone) };
        sorted = all.sorted;
      });
    }

pub record HasUndos (profile : Profile) (start : Log) (base : ℕ) (blocks : List (List ℕ)) : Type 0 where
  pub undos : List UndoRecord
  pub are_undos : AreUndos profile start base blocks undos

pub chain_has_undos : (profile : Profile) (start : Log) (base : ℕ) (blocks : List (List ℕ)) → AreAccepted profile start base blocks → HasUndos profile start base blocks
chain_has_undos profile start base [] accepted = record { undos = []; are_undos = tt }
chain_has_undos profile start base (block ∷ blocks) accepted =
    let below = chain_has_undos profile start base blocks accepted.1 in
    let top = block_has_undo profile start base block blocks below.undos accepted.0 accepted.1 below.are_undos in
    record { undos = top.undo ∷ below.undos; are_undos = (top.is_undo, below.are_undos) }
