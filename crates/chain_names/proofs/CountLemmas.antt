-- Fewer than 2^32 names are given their value at one height.
use Rattle.std.proofs.Common.{◌≡◌, ℕ, suc, ◌+◌, ◌<◌, ◌≤◌, ◌^◌, Bool, true, false, cond, List, [], ◌∷◌, ◌++◌, length, ◌⊎◌, inl, inr, ⊎_elim, refl, sym, ap, subst, ◌∙◌, arith, le_trans, lt_of_le_of_lt, length-append}
use Rattle.std.specs.Prelude.{Option, Some, None, ◌==◌}
use Rattle.std.specs.Cmp.{unsigned_Decides}
use Rattle.std.specs.List.{list_any}
use Rattle.std.proofs.lemmas.Bool.{or_left, or_right, or_cases}
use Rattle.block_grammar.specs.Transaction.{TxOutput, Transaction, txid_of}
use Rattle.nmc_base.specs.declared.hashes.OutPoint.{OutPoint}
use Rattle.nmc_base.specs.declared.chain_ends.Profile.{Profile}
use Rattle.nmc_base.specs.Expiry.{is_expired}
use Rattle.chain_names.specs.declared.coin.Coin.{Coin}
use Rattle.chain_names.specs.declared.coin.Coin.TheVariants.{New, Named}
use Rattle.chain_names.specs.declared.undo.UndoOp.{UndoOp}
use Rattle.chain_names.specs.declared.undo.UndoOp.TheVariants.{New as undo_new, First as undo_first, Update as undo_update}
use Rattle.chain_names.specs.Points.{same_point, point_at}
use Rattle.chain_names.specs.Coins.{Maps, entry_of, unless_expired}
use Rattle.chain_names.specs.Meaning.{Means}
use Rattle.chain_names.specs.Tables.{is_named_at}
use Rattle.chain_names.specs.Verdict.{Verdict, plain, commits, opens, updates, refused, verdict, NameOutput, name_outputs, made_at}
use Rattle.chain_names.specs.Changes.{after_verdict, after_transaction, after_all, with_spent, undo_of_verdict, undo_ops, without_expired}
use Rattle.chain_names.proofs.Meanings.{verdict_means}
use Rattle.chain_names.proofs.Shown.{true_is_not_false}
use Rattle.chain_names.proofs.Points.{same_point-comm}
use Rattle.chain_names.specs.State.{HasFewNames}
use Rattle.block_grammar.specs.Block.{count_outputs}

-- ---- the outpoints that operations made

abbrev pub made_by : UndoOp → OutPoint
made_by (undo_new made) = made
made_by (undo_first made spent coin name before) = made
made_by (undo_update made spent coin name before) = made

abbrev points_made : List UndoOp → List OutPoint
points_made [] = []
points_made (op ∷ ops) = made_by op ∷ points_made ops

length-points_made : (ops : List UndoOp) → length (points_made ops) ≡ length ops
length-points_made [] = refl
length-points_made (op ∷ ops) = ap suc (length-points_made ops)

-- one of them is the outpoint
abbrev IsMade : List UndoOp → OutPoint → Type 0
IsMade ops point = list_any (same_point point) (points_made ops) ≡ true

made_before : (ops more : List UndoOp) (point : OutPoint) → IsMade ops point → IsMade (ops ++ more) point
made_before [] more point e = absurd (true_is_not_false (sym e))
made_before (op ∷ ops) more point e =
    ⊎_elim (λ here. or_left (same_point point (made_by op)) (list_any (same_point point) (points_made (ops ++ more))) here)
    (λ there. or_right (same_point point (made_by op)) (list_any (same_point point) (points_made (ops ++ more))) (made_before ops more point there))
    (or_cases (same_point point (made_by op)) (list_any (same_point point) (points_made ops)) e)

made_after : (ops more : List UndoOp) (point : OutPoint) → IsMade more point → IsMade (ops ++ more) point
made_after [] more point e = e
made_after (op ∷ ops) more point e =
    or_right (same_point point (made_by op)) (list_any (same_point point) (points_made (ops ++ more))) (made_after ops more point e)

-- ---- the names of one transaction

-- a name at the height was there before, or an operation of this height made it
abbrev IsOldOrMade : Maps → ℕ → List UndoOp → ℕ → OutPoint → Type 0
IsOldOrMade maps height ops row point = (is_named_at row (maps.coins point) ≡ true) ⊎ ((row ≡ height) × IsMade ops point)

made_alone : (op : UndoOp) (made point : OutPoint) → made_by op ≡ made → same_point made point ≡ true → IsMade (op ∷ []) point
made_alone op made point is e =
    or_left (same_point point (made_by op)) false (ap (same_point point) is ∙ same_point-comm point made ∙ e)

moved_name : (maps : Maps) (height row : ℕ) (name : List ℕ) (point : OutPoint) (ops : List UndoOp) (m s : Bool) → (m ≡ true → IsMade ops point)
    → is_named_at row (cond m (Some (Named name height)) (cond s None (maps.coins point))) ≡ true → IsOldOrMade maps height ops row point
moved_name maps height row name point ops true s made e = inr (sym ((unsigned_Decides height row).0 e), made refl)
moved_name maps height row name point ops false true made e = absurd (true_is_not_false (sym e))
moved_name maps height row name point ops false false made e = inl e

committed_name : (maps : Maps) (height row : ℕ) (point : OutPoint) (coin : Coin) (ops : List UndoOp) (m : Bool) → is_named_at row (Some coin) ≡ false
    → is_named_at row (cond m (Some coin) (maps.coins point)) ≡ true → IsOldOrMade maps height ops row point
committed_name maps height row point coin ops true unnamed e = absurd (true_is_not_false (sym e ∙ unnamed))
committed_name maps height row point coin ops false unnamed e = inl e

made_with_spent : (undo : Coin → UndoOp) (spent : Option Coin) (coin : Coin) (made point : OutPoint) → spent ≡ Some coin → made_by (undo coin) ≡ made
    → same_point made point ≡ true → IsMade (with_spent undo spent) point
made_with_spent undo spent coin made point held is e =
    subst (λ s. IsMade (with_spent undo s) point) (sym held) (made_alone (undo coin) made point is e)

verdict_names : (profile : Profile) (height row : ℕ) (maps : Maps) (t : Transaction) (point : OutPoint) (v : Verdict) → Means profile maps height t v
    → is_named_at row ((after_verdict maps height (txid_of t) v).coins point) ≡ true → IsOldOrMade maps height (undo_of_verdict maps (txid_of t) v) row point
verdict_names profile height row maps t point plain means e = inl e
verdict_names profile height row maps t point (commits hash place) means e =
    committed_name maps height row point (New (record { 0 = hash }) height) (undo_new (point_at (txid_of t) place) ∷ []) (same_point (point_at (txid_of t) place) point) refl e
verdict_names profile height row maps t point (opens name value place spent) means e =
    let made = point_at (txid_of t) place in
    let undo = λ (coin : Coin). undo_first made spent coin name (entry_of (maps.names name)) in
    moved_name maps height row name point (with_spent undo (maps.coins spent)) (same_point made point) (same_point spent point)
    (made_with_spent undo (maps.coins spent) (New means.hash means.made) made point means.input.held refl) e
verdict_names profile height row maps t point (updates name value place spent) means e =
    let made = point_at (txid_of t) place in
    let undo = λ (coin : Coin). undo_update made spent coin name (entry_of (maps.names name)) in
    moved_name maps height row name point (with_spent undo (maps.coins spent)) (same_point made point) (same_point spent point)
    (made_with_spent undo (maps.coins spent) (Named name means.made) made point means.input.held refl) e
verdict_names profile height row maps t point (refused refusal) means e = inl e

-- ---- the names of a block

all_names : (profile : Profile) (height row : ℕ) (ts : List Transaction) (maps : Maps) (point : OutPoint)
    → is_named_at row ((after_all profile height ts maps).coins point) ≡ true → IsOldOrMade maps height (undo_ops profile height ts maps) row point
all_names profile height row [] maps point e = inl e
all_names profile height row (t ∷ ts) maps point e =
    let v = verdict profile maps height t in
    let next = after_transaction profile height t maps in
    let first = undo_of_verdict maps (txid_of t) v in
    let rest = undo_ops profile height ts next in
    ⊎_elim
    (λ old. ⊎_elim (λ older. inl older) (λ made. inr (made.0, made_before first rest point made.1))
    (verdict_names profile height row maps t point v (verdict_means profile maps height t) old))
    (λ made. inr (made.0, made_after first rest point made.1))
    (all_names profile height row ts next point e)

-- the coin at a height is no higher than the highest
named_low : (top row : ℕ) (coin : Option Coin) → ((c : Coin) → coin ≡ Some c → made_at c ≤ top) → is_named_at row coin ≡ true → row ≤ top
named_low top row None low e = absurd (true_is_not_false (sym e))
named_low top row (Some (New hash made)) low e = absurd (true_is_not_false (sym e))
named_low top row (Some (Named name made)) low e = subst (λ h. h ≤ top) ((unsigned_Decides made row).0 e) (low (Named name made) refl)

-- Of the height itself there are those that operations made, and of another height no more than before.
pub few_after : (profile : Profile) (below : ℕ) (ts : List Transaction) (maps : Maps) → ((height : ℕ) → HasFewNames maps.coins height)
    → ((point : OutPoint) (coin : Coin) → maps.coins point ≡ Some coin → made_at coin ≤ below)
    → length (undo_ops profile (suc below) ts maps) < 2 ^ 32
    → (row : ℕ) → HasFewNames (after_all profile (suc below) ts maps).coins row
few_after profile below ts maps few low short row = by (row == suc below) refl
  where
    by : (b : Bool) → (row == suc below) ≡ b → HasFewNames (after_all profile (suc below) ts maps).coins row
    by true is = record {
      points = points_made (undo_ops profile (suc below) ts maps);
      few = subst (λ n. n < 2 ^ 32) (sym (length-points_made (undo_ops profile (suc below) ts maps))) short;
      all = λ point named.
          ⊎_elim
          (λ old.
          let here : row ≡ suc below = (unsigned_Decides row (suc below)).0 is in
          let high : row ≤ below = named_low below row (maps.coins point) (low point) old in
          absurd (omega arith))
          (λ made. made.1) (all_names profile (suc below) row ts maps point named);
    }
    by false is = record {
      points = (few row).points;
      few = (few row).few;
      all = λ point named.
          ⊎_elim (λ old. (few row).all point old) (λ made. absurd (true_is_not_false (sym ((unsigned_Decides row (suc below)).1 made.0) ∙ is)))
          (all_names profile (suc below) row ts maps point named);
    }

pub named_left : (profile : Profile) (height row : ℕ) (coin : Option Coin) → is_named_at row (unless_expired profile height coin) ≡ true → is_named_at row coin ≡ true
named_left profile height row None e = e
named_left profile height row (Some (New hash made)) e = e
named_left profile height row (Some (Named name made)) e = by (is_expired profile made height) e
  where
    by : (b : Bool) → is_named_at row (cond b None (Some (Named name made))) ≡ true → (made == row) ≡ true
    by true e' = absurd (true_is_not_false (sym e'))
    by false e' = e'

pub few_left : (profile : Profile) (height : ℕ) (maps : Maps) (row : ℕ) → HasFewNames maps.coins row → HasFewNames (without_expired profile height maps).coins row
few_left profile height maps row few = record {
  points = few.points;
  few = few.few;
  all = λ point named. few.all point (named_left profile height row (maps.coins point) named);
}

-- ---- how many operations there are

some_outputs : (outputs : List TxOutput) (output : NameOutput) → name_outputs 0 outputs ≡ output ∷ [] → 1 ≤ length outputs
some_outputs [] output e = absurd cc
some_outputs (first ∷ outputs) output e = omega arith

pub one_operation : (undo : Coin → UndoOp) (spent : Option Coin) → length (with_spent undo spent) ≤ 1
one_operation undo None = omega arith
one_operation undo (Some coin) = omega arith

operations_of-verdict : (profile : Profile) (height : ℕ) (maps : Maps) (t : Transaction) (v : Verdict) → Means profile maps height t v
    → length (undo_of_verdict maps (txid_of t) v) ≤ length t.outputs
operations_of-verdict profile height maps t plain means = omega arith
operations_of-verdict profile height maps t (refused refusal) means = omega arith
operations_of-verdict profile height maps t (commits hash place) means = some_outputs t.outputs _ means.output.outputs
operations_of-verdict profile height maps t (opens name value place spent) means =
    le_trans (one_operation _ (maps.coins spent)) (some_outputs t.outputs _ means.output.outputs)
operations_of-verdict profile height maps t (updates name value place spent) means =
    le_trans (one_operation _ (maps.coins spent)) (some_outputs t.outputs _ means.output.outputs)

-- no more than outputs
operations-outputs : (profile : Profile) (height : ℕ) (ts : List Transaction) (maps : Maps) → length (undo_ops profile height ts maps) ≤ count_outputs ts
operations-outputs profile height [] maps = omega arith
operations-outputs profile height (t ∷ ts) maps =
    let v = verdict profile maps height t in
    let next = after_transaction profile height t maps in
    let first : length (undo_of_verdict maps (txid_of t) v) ≤ length t.outputs = operations_of-verdict profile height maps t v (verdict_means profile maps height t) in
    let rest : length (undo_ops profile height ts next) ≤ count_outputs ts = operations-outputs profile height ts next in
    counted (undo_of_verdict maps (txid_of t) v) (undo_ops profile height ts next) (length t.outputs) (count_outputs ts) first rest
  where
    counted : (a b : List UndoOp) (n m : ℕ) → length a ≤ n → length b ≤ m → length (a ++ b) ≤ n + m
    counted a b n m x y = omega (arith, length-append a b)

pub few_operations : (profile : Profile) (height : ℕ) (ts : List Transaction) (maps : Maps) → count_outputs ts < 2 ^ 32 → length (undo_ops profile height ts maps) < 2 ^ 32
few_operations profile height ts maps few = lt_of_le_of_lt (operations-outputs profile height ts maps) few
