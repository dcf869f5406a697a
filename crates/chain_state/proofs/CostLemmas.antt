-- What a block costs, in steps on the tables.
use Rattle.std.proofs.Common.{◌≡◌, ℕ, suc, ◌+◌, ◌*◌, ◌≤◌, Bool, true, false, ◌&&◌, ◌||◌, ◌==◌, List, [], ◌∷◌, ◌++◌, length, refl, sym, ap, ◌∙◌, arith}
use Rattle.std.specs.Prelude.{Some, None, Option}
use Rattle.std.specs.List.{list_any, IsDistinct}
use Rattle.std.proofs.lemmas.List.Folds.{list_any-append}
use Rattle.std.proofs.lemmas.List.{length-append}
use Rattle.std.proofs.lemmas.Map.Made.{length-le_from_is_member}
use Rattle.block_grammar.specs.Transaction.{Transaction}
use Rattle.nmc_base.specs.declared.chain_ends.Profile.{Profile}
use Rattle.nmc_base.specs.declared.hashes.OutPoint.{OutPoint}
use Rattle.chain_names.specs.declared.coin.HeldCoin.{HeldCoin}
use Rattle.chain_names.specs.declared.undo.UndoOp.{UndoOp}
use Rattle.chain_names.specs.declared.undo.UndoOp.TheVariants.{New as undo_new, First as undo_first, Update as undo_update}
use Rattle.chain_names.specs.Points.{same_point}
use Rattle.chain_names.proofs.Points.{same_point-comm}
use Rattle.chain_names.specs.Coins.{Maps}
use Rattle.chain_names.specs.Verdict.{name_inputs, name_outputs}
use Rattle.chain_names.specs.Meaning.{Commits, Opens, Updates}
use Rattle.chain_names.specs.Tables.{row_points, row_at, queued_in, queue_places}
use Rattle.chain_names.specs.declared.coin.Coin.{Coin}
use Rattle.chain_names.specs.Changes.{with_spent}
use Rattle.chain_state.specs.Cost.{touched, all_touched, owed_for, spent_points}
use Rattle.name_tables.specs.Places.{spends_at}
use Rattle.chain_state.specs.Work.{IsWork, may_be_empty_at}
use Rattle.name_tables.specs.Expiring.{Expires}
use Rattle.chain_names.specs.Expired.{is_held_at, points_of}
use Rattle.block_grammar.specs.Block.{Block}
use Rattle.chain_names.specs.Log.{behind_coinbase}
use Rattle.chain_state.specs.Cost.{touched_by}
use Rattle.chain_state.specs.declared.whole.Whole.{Whole}
use Rattle.chain_state.specs.declared.work.Work.{Work}
use Rattle.name_tables.specs.declared.tables.Tables.{Tables}
use Rattle.name_tables.proofs.ExpiryLemmas.{any_key}
use Rattle.name_tables.proofs.OrderLemmas.{same_point-IsEquivalence}

-- ---- one transaction

pub plain_cost : (t : Transaction) (before after : ℕ) → after ≤ before + length t.inputs + 2 → (t.outputs ≡ [] → after ≤ before + length t.inputs) → after ≤ before + 8 * touched t
plain_cost t before after cost inputs = split t.outputs refl
  where
    split : (outputs : _) → t.outputs ≡ outputs → after ≤ before + 8 * touched t
    split [] none = let few = inputs none in omega (arith, few)
    split (output ∷ outputs) some = let many : length t.outputs ≡ suc (length outputs) = ap length some in omega (arith, cost, many)

has_output : (t : Transaction) → (o : _) (os : _) → name_outputs 0 t.outputs ≡ o ∷ os → 1 ≤ length t.outputs
has_output t o os e = split t.outputs e
  where
    split : (outputs : _) → name_outputs 0 outputs ≡ o ∷ os → 1 ≤ length outputs
    split [] none = absurd cc
    split (output ∷ outputs) some = omega arith

has_input : (maps : Maps) (t : Transaction) → (h : HeldCoin) (hs : List HeldCoin) → name_inputs maps.coins t.inputs ≡ h ∷ hs → 1 ≤ length t.inputs
has_input maps t h hs e = split t.inputs e
  where
    split : (inputs : _) → name_inputs maps.coins inputs ≡ h ∷ hs → 1 ≤ length inputs
    split [] none = absurd cc
    split (input ∷ inputs) some = omega arith

pub commits_outputs : {profile : Profile} {maps : Maps} {t : Transaction} {hash : List ℕ} {place : ℕ} → Commits profile maps t hash place → 1 ≤ length t.outputs
commits_outputs {t = t} c = has_output t _ _ c.output.outputs

pub opens_outputs : {profile : Profile} {maps : Maps} {height : ℕ} {t : Transaction} {name value : List ℕ} {place : ℕ} {spent : OutPoint} → Opens profile maps height t name value place spent → 1 ≤ length t.outputs
opens_outputs {t = t} c = has_output t _ _ c.output.outputs

pub opens_inputs : {profile : Profile} {maps : Maps} {height : ℕ} {t : Transaction} {name value : List ℕ} {place : ℕ} {spent : OutPoint} → Opens profile maps height t name value place spent → 1 ≤ length t.inputs
opens_inputs {maps = maps} {t = t} c = has_input maps t _ _ c.input.inputs

pub updates_outputs : {profile : Profile} {maps : Maps} {t : Transaction} {name value : List ℕ} {place : ℕ} {spent : OutPoint} → Updates profile maps t name value place spent → 1 ≤ length t.outputs
updates_outputs {t = t} c = has_output t _ _ c.output.outputs

pub updates_inputs : {profile : Profile} {maps : Maps} {t : Transaction} {name value : List ℕ} {place : ℕ} {spent : OutPoint} → Updates profile maps t name value place spent → 1 ≤ length t.inputs
updates_inputs {maps = maps} {t = t} c = has_input maps t _ _ c.input.inputs

pub with_spent_count : (undo : Coin → UndoOp) (coin : Option Coin) → length (with_spent undo coin) ≤ 1
with_spent_count undo None = omega arith
with_spent_count undo (Some coin) = omega arith

-- an operation more at most
pub one_operation : (ops more now : List UndoOp) → now ≡ ops ++ more → length more ≤ 1 → length now ≤ length ops + 1
one_operation ops more now now_is one =
    let count : length now ≡ length (ops ++ more) = ap length now_is in
    let long : length (ops ++ more) ≡ length ops + length more = length-append ops more in
    omega (arith, count, long, one)

-- what the transaction touched pays for it
pub paid : (t : Transaction) (before checked after : ℕ) (ops now : List UndoOp) → 2 ≤ touched t → checked ≤ before + touched t + 1 → after ≤ checked + 9 → length now ≤ length ops + 1
    → after + owed_for now ≤ before + owed_for ops + 8 * touched t
paid t before checked after ops now touches check work more = omega (arith, touches, check, work, more)

pub paid_commitment : (t : Transaction) (before checked after : ℕ) (ops now : List UndoOp) → 1 ≤ length t.outputs → checked ≤ before + length t.inputs + 2 → after ≤ checked + 2
    → length now ≤ length ops + 1 → after + owed_for now ≤ before + owed_for ops + 8 * touched t
paid_commitment t before checked after ops now outputs check work more = omega (arith, outputs, check, work, more)

-- ---- the transactions of a block

pub begun_paid : (steps : ℕ) (ts left : List Transaction) (ops : List UndoOp) → left ≡ ts → ops ≡ [] → steps + owed_for ops + 8 * all_touched left ≤ steps + 8 * all_touched ts
begun_paid steps ts left ops left_is none =
    let count : length ops ≡ 0 = ap length none in
    let same : all_touched left ≡ all_touched ts = ap all_touched left_is in
    omega (arith, count, same)

pub more_paid : (start before after : ℕ) (left rest : List Transaction) (t : Transaction) → left ≡ t ∷ rest → before + 8 * all_touched left ≤ start → after ≤ before + 8 * touched t
    → after + 8 * all_touched rest ≤ start
more_paid start before after left rest t steps so_far one =
    let sum : all_touched left ≡ touched t + all_touched rest = ap all_touched steps in
    omega (arith, sum, so_far, one)

points_count : (expired : List HeldCoin) → length (points_of expired) ≡ length expired
points_count [] = refl
points_count (held ∷ expired) = ap suc (points_count expired)

-- ---- the places of a row: each is due, or was emptied by an operation of the block

pub spent_count : (ops : List UndoOp) → length (spent_points ops) ≤ length ops
spent_count [] = omega arith
spent_count (undo_new made ∷ ops) = let rest = spent_count ops in omega (arith, rest)
spent_count (undo_first made spent coin name before ∷ ops) = let rest = spent_count ops in omega (arith, rest)
spent_count (undo_update made spent coin name before ∷ ops) = let rest = spent_count ops in omega (arith, rest)

either : (a b c d : Bool) → (a ≡ true → c ≡ true) → (b ≡ true → d ≡ true) → (a || b) ≡ true → (c || d) ≡ true
either true b c d f g e = ap (λ x. x || d) (f refl)
either false b c true f g e = or_true c
  where
    or_true : (x : Bool) → (x || true) ≡ true
    or_true true = refl
    or_true false = refl
either false b c false f g e = absurd (let no : false ≡ true = g e in cc)

second : (a b : Bool) → (a && b) ≡ true → b ≡ true
second true b e = e
second false b e = absurd cc

module _ (row : ℕ) (point : OutPoint) where
  spent_member : (ops : List UndoOp) → list_any (spends_at row point) ops ≡ true → list_any (same_point point) (spent_points ops) ≡ true
  spent_member [] e = e
  spent_member (undo_new made ∷ ops) e = spent_member ops e
  spent_member (undo_first made spent coin name before ∷ ops) e =
      either _ _ (same_point point spent) _ (λ here. same_point-comm point spent ∙ second _ _ here) (spent_member ops) e
  spent_member (undo_update made spent coin name before ∷ ops) e =
      either _ _ (same_point point spent) _ (λ here. same_point-comm point spent ∙ second _ _ here) (spent_member ops) e

held_member : (point : OutPoint) (expired : List HeldCoin) → list_any (is_held_at point) expired ≡ true → list_any (same_point point) (points_of expired) ≡ true
held_member point [] e = e
held_member point (held ∷ expired) e = either _ _ (same_point point held.at) _ (λ here. same_point-comm point held.at ∙ here) (held_member point expired) e

or_left : (a b : Bool) → a ≡ true → (a || b) ≡ true
or_left a b e = ap (λ x. x || b) e

or_right : (a b : Bool) → b ≡ true → (a || b) ≡ true
or_right true b e = refl
or_right false b e = e

no_more : (a b : Bool) → b ≡ false → (a || b) ≡ true → a ≡ true
no_more a true e f = absurd cc
no_more true false e f = refl
no_more false false e f = absurd cc

and_false : (a b : Bool) → b ≡ false → (a && b) ≡ false
and_false true b e = e
and_false false b e = refl

module _ (old : Work) (row : ℕ) (new : Tables) (expired : List HeldCoin) (due : Expires old.tables new row expired) where
  abbrev ats : List OutPoint
  ats = points_of expired

  abbrev ops : List UndoOp
  ops = old.ops.items

  -- a place that isn't queued was emptied by an operation
  unqueued : IsWork old → old.empty.items ≡ [] → (point : OutPoint) → queue_places old.tables.queue row point ≡ true → queued_in old.tables.queue row point ≡ false
      → list_any (spends_at row point) ops ≡ true
  unqueued work none_empty point place none = by (list_any (spends_at row point) ops) refl
    where
      by : (t : Bool) → list_any (spends_at row point) ops ≡ t → t ≡ true
      by true touched = refl
      by false touched =
          let untouched : may_be_empty_at old.height ops old.empty.items row point ≡ false =
          ap (λ es. list_any (spends_at row point) ops || ((old.height == row) && list_any (same_point point) es)) none_empty
          ∙ ap (λ t. t || ((old.height == row) && false)) touched ∙ and_false (old.height == row) false refl in
          absurd (let yes : true ≡ false = sym (work.queue_filled row point place untouched) ∙ none in cc)

  emptied : IsWork old → old.empty.items ≡ [] → (point : OutPoint) → queue_places old.tables.queue row point ≡ true → list_any (same_point point) (ats ++ spent_points ops) ≡ true
  emptied work none_empty point place = list_any-append (same_point point) ats (spent_points ops) ∙ by (queued_in old.tables.queue row point) refl
    where
      by : (b : Bool) → queued_in old.tables.queue row point ≡ b → (list_any (same_point point) ats || list_any (same_point point) (spent_points ops)) ≡ true
      by true queued = or_left _ _ (held_member point expired (due.all point queued))
      by false none = or_right _ _ (spent_member row point ops (unqueued work none_empty point place none))

  pub row_count : IsWork old → old.empty.items ≡ [] → IsDistinct same_point (row_points old.tables.queue row) → length (row_points old.tables.queue row) ≤ length expired + length ops
  row_count work none_empty distinct =
      let each : (point : OutPoint) → list_any (same_point point) (row_points old.tables.queue row) ≡ true → list_any (same_point point) (ats ++ spent_points ops) ≡ true =
      λ point here. emptied work none_empty point (any_key (row_at old.tables.queue row) point ∙ here) in
      let within = length-le_from_is_member same_point-IsEquivalence (row_points old.tables.queue row) (ats ++ spent_points ops) distinct each in
      omega (arith, within, length-append ats (spent_points ops), points_count expired, spent_count ops)

-- ---- a block

pub staged_cost : (block : Block) (start finished : ℕ) (ts : List Transaction) (whole : Whole) → ts ≡ behind_coinbase block.transactions
    → finished + (2 * length whole.work.ops.items + 2 * length whole.expired.items) ≤ start + 8 * (all_touched ts + length whole.expired.items) + 8
    → finished + (2 * length whole.work.ops.items + 2 * length whole.expired.items) ≤ start + 8 * (touched_by block + length whole.expired.items) + 8
staged_cost block start finished ts whole ts_are paid_for =
    let same : all_touched ts ≡ touched_by block = ap all_touched ts_are in
    omega (arith, same, paid_for)
