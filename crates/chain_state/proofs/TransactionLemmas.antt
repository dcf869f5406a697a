-- The transactions of a block, one after the other.
use Rattle.std.proofs.Common.{◌≡◌, ◌≢◌, ℕ, suc, ◌+◌, ◌<◌, ◌^◌, false, List, [], ◌∷◌, ◌++◌, ◌-◌, length, map, take, drop, refl, sym, ap, subst, ◌∙◌, arith, append_assoc}
use Rattle.std.proofs.Math.Seq.{take-length}
use Rattle.std.proofs.lemmas.List.{append-nil}
use Rattle.std.specs.Prelude.{Option}
use Rattle.std.specs.List.{AllByRecursion}
use Rattle.block_grammar.specs.Transaction.{Transaction, txid_of}
use Rattle.nmc_base.specs.declared.chain_ends.Profile.{Profile}
use Rattle.block_reader.specs.Rows.{seen_row}
use Rattle.nmc_base.specs.declared.hashes.Hash32.{Hash32}
use Rattle.chain_names.specs.declared.refusal.RuleRefusal.{RuleRefusal}
use Rattle.chain_names.specs.Verdict.{Verdict, plain, commits, opens, updates, refused, verdict}
use Rattle.chain_names.specs.Changes.{Refused, refused_or, undo_of_verdict, after_transaction, after_all, undo_ops, first_refused, back_ops}
use Rattle.chain_names.proofs.Shown.{is_refused}
use Rattle.chain_names.proofs.UndoLemmas.{transaction_back, back_ops-append}
use Rattle.name_tables.specs.Tables.{maps_by}
use Rattle.chain_state.specs.Work.{Halts}
use Rattle.chain_state.specs.Block.{IsReady, HasFewOutputs, Applied, Declined, AppliedAll, DeclinedAll, Stopped}
use Rattle.chain_state.specs.declared.work.Work.{Work}

accepts : (v : Verdict) → ((r : RuleRefusal) → v ≢ refused r) → is_refused v ≡ false
accepts plain none = refl
accepts (commits hash place) none = refl
accepts (opens name value place spent) none = refl
accepts (updates name value place spent) none = refl
accepts (refused refusal) none = absurd (none refusal refl)

goes_on : (index : ℕ) (v : Verdict) (later : Option Refused) → is_refused v ≡ false → refused_or index v later ≡ later
goes_on index plain later e = refl
goes_on index (commits hash place) later e = refl
goes_on index (opens name value place spent) later e = refl
goes_on index (updates name value place spent) later e = refl
goes_on index (refused refusal) later e = absurd cc

-- so far and the rest make the whole
pub record IsOn (profile : Profile) (start now : Work) (ts left : List Transaction) (index : ℕ) : Type 0 where
  pub ready : IsReady profile now
  pub height : now.height ≡ start.height
  pub after : after_all profile start.height left (maps_by now.tables) ≡ after_all profile start.height ts (maps_by start.tables)
  pub refusal : first_refused profile start.height index left (maps_by now.tables) ≡ first_refused profile start.height 1 ts (maps_by start.tables)
  pub ops : now.ops.items ++ undo_ops profile start.height left (maps_by now.tables) ≡ undo_ops profile start.height ts (maps_by start.tables)
  pub back : back_ops now.ops.items (maps_by now.tables) ≡ maps_by start.tables
  pub few : AllByRecursion HasFewOutputs left
  pub counted : index + length left < 2 ^ 32

pub begins : (profile : Profile) (start : Work) (ts : List Transaction) → IsReady profile start → start.ops.items ≡ [] → AllByRecursion HasFewOutputs ts → length ts + 1 < 2 ^ 32
    → IsOn profile start start ts ts 1
begins profile start ts ready fresh few short = record {
  ready = ready;
  height = refl;
  after = refl;
  refusal = refl;
  ops = ap (λ os. os ++ undo_ops profile start.height ts (maps_by start.tables)) fresh;
  back = ap (λ os. back_ops os (maps_by start.tables)) fresh;
  few = few;
  counted = omega (arith, short);
}

module _ (profile : Profile) (start now next : Work) (ts rest : List Transaction) (t : Transaction) (index : ℕ) (on : IsOn profile start now ts (t ∷ rest) index) where
  abbrev Said : ℕ → Verdict
  Said height = verdict profile (maps_by now.tables) height t

  pub went_on : Applied profile now next t → IsOn profile start next ts rest (index + 1)
  went_on applied =
      let h = start.height in
      let kept = subst (λ n. is_refused (Said n) ≡ false) on.height (accepts (Said now.height) applied.accepted) in
      let maps = applied.maps ∙ ap (λ n. after_transaction profile n t (maps_by now.tables)) on.height in
      let ops = applied.ops ∙ ap (λ n. now.ops.items ++ undo_of_verdict (maps_by now.tables) (txid_of t) (Said n)) on.height in
      let undo = undo_of_verdict (maps_by now.tables) (txid_of t) (Said h) in
      record {
        ready = applied.ready;
        height = applied.height ∙ on.height;
        after = ap (after_all profile h rest) maps ∙ on.after;
        refusal = ap (first_refused profile h (index + 1) rest) maps
            ∙ ap (λ n. first_refused profile h n rest (after_transaction profile h t (maps_by now.tables))) (next_index index)
            ∙ sym (goes_on index (Said h) _ kept) ∙ on.refusal;
        ops = ap (λ os. os ++ undo_ops profile h rest (maps_by next.tables)) ops
            ∙ ap (λ m. (now.ops.items ++ undo) ++ undo_ops profile h rest m) maps
            ∙ append_assoc now.ops.items undo (undo_ops profile h rest (after_transaction profile h t (maps_by now.tables)))
            ∙ on.ops;
        back = ap (λ os. back_ops os (maps_by next.tables)) ops
            ∙ ap (back_ops (now.ops.items ++ undo)) maps
            ∙ back_ops-append now.ops.items undo (after_transaction profile h t (maps_by now.tables))
            ∙ ap (back_ops now.ops.items) (transaction_back profile h t (maps_by now.tables) kept)
            ∙ on.back;
        few = on.few.1;
        counted = omega (arith, on.counted);
      }
    where
      next_index : (index : ℕ) → index + 1 ≡ suc index
      next_index index = omega arith

  pub stopped : Halts now next → Stopped start next
  stopped halts = record {
    before = ap (λ os. back_ops os (maps_by next.tables)) halts.ops ∙ ap (back_ops now.ops.items) halts.maps ∙ on.back;
    height = halts.height ∙ on.height;
    work = halts.work;
  }

pub declined : (profile : Profile) (start now next : Work) (ts rest : List Transaction) (t : Transaction) (first : Refused) (on : IsOn profile start now ts (t ∷ rest) first.0)
    → Declined profile now next t first.1 → DeclinedAll profile start next ts first
declined profile start now next ts rest t first on d = record {
  refusal_is = sym on.refusal
      ∙ ap (λ v. refused_or first.0 v (first_refused profile start.height (suc first.0) rest (after_transaction profile start.height t (maps_by now.tables))))
      (ap (λ height. verdict profile (maps_by now.tables) height t) (sym on.height) ∙ d.refusal_is);
  stopped = stopped profile start now next ts rest t first.0 on d.halts;
}

pub ended : (profile : Profile) (start now : Work) (ts : List Transaction) (index : ℕ) → IsOn profile start now ts [] index → AppliedAll profile start now ts
ended profile start now ts index on = record {
  accepted = sym on.refusal;
  maps = on.after;
  ops = sym (append-nil now.ops.items) ∙ on.ops;
  height = on.height;
  ready = on.ready;
}

-- ---- what is left, as the loop has it

-- the next of them is the first of those that are left
pub front : (profile : Profile) (start now : Work) (ts left rest : List Transaction) (t : Transaction) (index : ℕ) → left ≡ t ∷ rest → IsOn profile start now ts left index
    → IsOn profile start now ts (t ∷ rest) index
front profile start now ts left rest t index steps on = subst (λ l. IsOn profile start now ts l index) steps on

pub ended_at : (profile : Profile) (start now : Work) (ts left : List Transaction) (index : ℕ) → left ≡ [] → IsOn profile start now ts left index → AppliedAll profile start now ts
ended_at profile start now ts left index none on = ended profile start now ts index (subst (λ l. IsOn profile start now ts l index) none on)

-- ---- the ids of the transactions

ids_rest : (id : Hash32) (more : List Hash32) (t : Transaction) (rest : List Transaction) → seen_row (id ∷ more) ≡ map txid_of (t ∷ rest) → seen_row more ≡ map txid_of rest
ids_rest id more t rest e = cc

behind_first : (id : Hash32) (more : List Hash32) → take (length (id ∷ more) - 1) more ≡ more
behind_first id more =
    let one_less : length (id ∷ more) - 1 ≡ length more = omega arith in
    ap (λ n. take n more) one_less ∙ take-length more

-- what is left behind the first
pub more_ids : (ids : List Hash32) (left rest : List Transaction) (t : Transaction) → left ≡ t ∷ rest → seen_row ids ≡ map txid_of left
    → seen_row (take (length ids - 1) (drop 1 ids)) ≡ map txid_of rest
more_ids [] left rest t steps same = let bad : [] ≡ txid_of t ∷ map txid_of rest = same ∙ ap (map txid_of) steps in absurd cc
more_ids (id ∷ more) left rest t steps same = ap seen_row (behind_first id more) ∙ ids_rest id more t rest (same ∙ ap (map txid_of) steps)

pub ids_behind : (ids : List Hash32) (ts : List Transaction) → seen_row ids ≡ map txid_of ts → seen_row (drop 1 ids) ≡ map txid_of (drop 1 ts)
ids_behind [] [] same = refl
ids_behind [] (t ∷ ts) same = absurd cc
ids_behind (id ∷ ids) [] same = absurd cc
ids_behind (id ∷ ids) (t ∷ ts) same = ids_rest id ids t ts same
