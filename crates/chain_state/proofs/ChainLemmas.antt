-- Chains, and blocks that are staged on them.
use Rattle.std.proofs.Common.{◌≡◌, ℕ, suc, ◌+◌, ◌<◌, ◌≤◌, ◌^◌, Bool, List, [], ◌∷◌, ◌++◌, map, reverse, length, refl, sym, ap, subst, ◌∙◌, arith}
use Rattle.std.specs.Prelude.{Option, None}
use Rattle.std.specs.Option.{is_some}
use Rattle.std.specs.List.{AllByRecursion}
use Rattle.nmc_base.specs.declared.hashes.OutPoint.{OutPoint}
use Rattle.nmc_base.specs.declared.chain_ends.Base.{Base}
use Rattle.std.proofs.lemmas.List.{map-append, reverse-append}
use Rattle.nmc_base.specs.Roomy.{Roomy}
use Rattle.nmc_base.specs.declared.chain_ends.Tip.{Tip}
use Rattle.chain_names.specs.declared.undo.UndoOp.{UndoOp}
use Rattle.chain_names.specs.Expired.{IsDue}
use Rattle.block_grammar.specs.Block.{count_outputs, Block}
use Rattle.chain_names.specs.Limits.{IsWithinLimits}
use Rattle.chain_names.specs.Sound.{IsSound}
use Rattle.chain_names.specs.Undo.{UndoRecord}
use Rattle.nmc_base.specs.declared.chain_ends.Profile.{Profile}
use Rattle.chain_names.specs.State.{IsState, Stands}
use Rattle.chain_names.proofs.SoundLemmas.{block_sound, sound_state}
use Rattle.chain_names.proofs.StartLemmas.{base_sound}
use Rattle.chain_names.proofs.StandLemmas.{state_stands, stands-higher}
use Rattle.chain_names.specs.Fits.{AreUndoable}
use Rattle.chain_names.specs.Seen.{seen_undo}
use Rattle.chain_names.specs.UndoOf.{IsUndoByMaps}
use Rattle.chain_names.specs.declared.undo.Undo.{Undo}
use Rattle.chain_names.specs.Coins.{Maps, maps_of}
use Rattle.block_grammar.specs.Transaction.{Transaction}
use Rattle.block_grammar.specs.Merkle.{block_root}
use Rattle.block_grammar.specs.Header.{header_hash}
use Rattle.nmc_base.specs.declared.hashes.Hash32.{Hash32}
use Rattle.chain_names.specs.Log.{behind_coinbase}
use Rattle.chain_names.specs.Changes.{Refused as RefusedBy, undone, without_expired, back_ops, undo_ops, after_all, after_block, first_refused}
use Rattle.chain_names.specs.Tables.{AreCoinsFilled, AreNamesFilled, IsQueueFilled, coins_in, coin_places, names_in, queued_in, queue_places, queue_of, FilledBut}
use Rattle.name_tables.specs.Tables.{AreFilled}
use Rattle.name_tables.specs.Tables.{maps_by}
use Rattle.chain_state.specs.Work.{HasSpentPlace, HasSpentRow, may_be_empty, may_be_empty_at, IsWork}
use Rattle.chain_state.specs.Block.{IsReady, HasFewOutputs, AppliedAll}
use Rattle.chain_state.specs.Stage.{Begins}
use Rattle.chain_state.specs.Worked.{HandsBack}
use Rattle.chain_state.proofs.WorkedLemmas.{applied_back}
use Rattle.chain_state.specs.Whole.{Finishes, Commits, maps_before_block}
use Rattle.nmc_base.specs.Heights.{highest}
use Rattle.chain_state.specs.Chain.{rule_refused, Indexed, IsIndexed, SameIndex, IsAtBase, IsStagedIndex, IsStagedOn, IsConnected, index_of, staged_of, staged_undo, newest_hash}
use Rattle.name_tables.specs.Parts.{newest_first}
use Rattle.name_tables.specs.declared.tables.Tables.{Tables}
use Rattle.chain_state.specs.declared.whole.Committed.{Committed}
use Rattle.chain_state.specs.declared.whole.Whole.{Whole}
use Rattle.chain_state.specs.declared.work.Work.{Work}

pub next_is : (n : ℕ) → suc n ≡ n + 1
next_is n = omega arith

-- ---- what undoes the blocks

pub newest_more : (undos : List Undo) (undo : Undo) → newest_first (undos ++ undo ∷ []) ≡ seen_undo undo ∷ newest_first undos
newest_more undos undo = ap reverse (map-append seen_undo undos (undo ∷ [])) ∙ reverse-append (map seen_undo undos) (seen_undo undo ∷ [])

pub few_each : (ts : List Transaction) → count_outputs ts < 2 ^ 32 → AllByRecursion HasFewOutputs ts
few_each [] few = tt
few_each (t ∷ ts) few = (omega (arith, few), few_each ts (omega (arith, few)))

-- ---- a state stands for the next block

pub indexed_state : (c : Indexed) → IsIndexed c → IsState c.base.profile c.tip.height (maps_by c.tables)
indexed_state c indexed = sound_state c.base.profile c.base.height c.tip.height (maps_by c.tables) c.undos indexed.sound

-- each record of a sound state is within its limits
pub sound_limits : (profile : Profile) (base tip : ℕ) (maps : Maps) (undos : List UndoRecord) → IsSound profile base tip maps undos → AllByRecursion IsWithinLimits undos
sound_limits profile base tip maps [] sound = tt
sound_limits profile base tip maps (u ∷ undos) sound = (sound.1.limits, sound_limits profile base sound.0 (undone u.ops u.expired maps) undos sound.2)

-- ---- the same index again

module _ (c : Indexed) (indexed : IsIndexed c) (tables : Tables) (undos : Roomy Undo) (same_undos : newest_first undos.items ≡ c.undos) (same : maps_by tables ≡ maps_by c.tables) where
  pub returned_index : queued_in tables.queue ≡ queue_of (coins_in tables.coins) → AreFilled tables → IsIndexed (index_of c.base c.tip tables undos)
  returned_index queue filled = record {
    hash = indexed.hash ∙ sym (ap (newest_hash c.base) same_undos);
    queue = queue;
    filled = filled;
    sound = subst (λ us. IsSound c.base.profile c.base.height c.tip.height (maps_by tables) us) (sym same_undos)
        (subst (λ m. IsSound c.base.profile c.base.height c.tip.height m c.undos) (sym same) indexed.sound);
  }

  pub returned_same : queued_in tables.queue ≡ queue_of (coins_in tables.coins) → SameIndex (index_of c.base c.tip tables undos) c
  returned_same queue = record {
    base = refl;
    tip = refl;
    maps = same;
    queue = queue ∙ ap (λ (m : Maps). queue_of m.coins) same ∙ sym indexed.queue;
    undos = same_undos;
  }

-- the tables were handed back as they were given
pub unused_index : (c : Indexed) → IsIndexed c → (tables : Tables) (undos : Roomy Undo) → newest_first undos.items ≡ c.undos → tables ≡ c.tables → IsIndexed (index_of c.base c.tip tables undos)
unused_index c indexed tables undos same_undos same =
    returned_index c indexed tables undos same_undos (ap maps_by same)
    (subst (λ (t : Tables). queued_in t.queue ≡ queue_of (coins_in t.coins)) (sym same) indexed.queue) (subst AreFilled (sym same) indexed.filled)

-- ---- a block is committed, or abandoned

module _ (base : Base) (tip : Tip) (hash : Hash32) (whole : Whole) (undos : Roomy Undo) (staged : IsStagedIndex (staged_of base tip hash whole undos)) where
  module _ (c : Committed) (commits : Commits whole c) (more : Roomy Undo) (pushed : more.items ≡ undos.items ++ record { block = hash; ops = c.ops; expired = c.expired } ∷ []) where
    pub undo_added : newest_first more.items ≡ staged_undo hash whole ∷ newest_first undos.items
    undo_added =
        ap newest_first pushed ∙ newest_more undos.items (record { block = hash; ops = c.ops; expired = c.expired })
        ∙ (λ i. record { block = hash; ops = (commits.ops i).items; expired = (commits.expired i).items } ∷ newest_first undos.items)

    pub connected_index : IsIndexed (index_of base (record { height = tip.height + 1; hash = hash }) c.tables more)
    connected_index = record {
      hash = sym (ap (newest_hash base) undo_added);
      queue = commits.queue;
      filled = commits.filled;
      sound = subst (λ us. IsSound base.profile base.height (tip.height + 1) (maps_by c.tables) us) (sym undo_added)
          (subst (λ n. IsSound base.profile base.height n (maps_by c.tables) (staged_undo hash whole ∷ newest_first undos.items)) (next_is tip.height)
          (subst (λ m. IsSound base.profile base.height (suc tip.height) m (staged_undo hash whole ∷ newest_first undos.items)) (sym commits.maps) staged.sound_after));
    }

    pub connected : IsConnected (staged_of base tip hash whole undos) (index_of base (record { height = tip.height + 1; hash = hash }) c.tables more)
    connected = record {
      base = refl;
      height = sym (next_is tip.height);
      hash = refl;
      maps = commits.maps;
      queue = commits.queue;
      undos = undo_added;
    }

  pub abandoned_index : (tables : Tables) → maps_by tables ≡ maps_before_block whole → queued_in tables.queue ≡ queue_of (coins_in tables.coins) → AreFilled tables
      → IsIndexed (index_of base tip tables undos)
  abandoned_index tables before queue filled = record {
    hash = staged.tip_hash;
    queue = queue;
    filled = filled;
    sound = subst (λ m. IsSound base.profile base.height tip.height m (newest_first undos.items)) (sym before) staged.sound_before;
  }

-- ---- staging

-- the work on a chain's next block begins
pub record IsBegun (c : Indexed) (w : Work) : Type 0 where
  pub indexed : IsIndexed c
  pub low : c.tip.height < highest
  pub given : Tables
  pub given_is : given ≡ c.tables
  pub begins : Begins given (c.tip.height + 1) w

filled_coins : (t : Tables) → AreFilled t → (touched : OutPoint → Bool) → FilledBut touched (coin_places t.coins) (λ point. is_some (coins_in t.coins point))
filled_coins t filled touched point here free = sym (filled.coins point) ∙ here

filled_rows : (t : Tables) → AreFilled t → (touched : ℕ → OutPoint → Bool) (height : ℕ) → FilledBut (touched height) (queue_places t.queue height) (queued_in t.queue height)
filled_rows t filled touched height point here free = sym (filled.queue height point) ∙ here

module _ (c : Indexed) (w : Work) (b : IsBegun c w) where
  tables_are : w.tables ≡ c.tables
  tables_are = b.begins.tables_are ∙ b.given_is

  height_is : w.height ≡ suc c.tip.height
  height_is = b.begins.height_is ∙ sym (next_is c.tip.height)

  begun_work : IsWork w
  begun_work =
      let filled = subst AreFilled (sym tables_are) b.indexed.filled in
      record {
        queue = subst (λ (t : Tables). queued_in t.queue ≡ queue_of (coins_in t.coins)) (sym tables_are) b.indexed.queue;
        fits = subst (λ ops. AreUndoable w.height ops (maps_by w.tables)) (sym b.begins.ops) tt;
        spent_placed = subst (AllByRecursion (HasSpentPlace w.tables)) (sym b.begins.ops) tt;
        spent_rows = subst (AllByRecursion (HasSpentRow w.tables)) (sym b.begins.ops) tt;
        coins_filled = filled_coins w.tables filled (may_be_empty w.ops.items w.empty.items);
        queue_filled = filled_rows w.tables filled (may_be_empty_at w.height w.ops.items w.empty.items);
        names_filled = filled.names;
        room = subst (λ ops. length ops + 1 ≤ w.empty.spare) (sym b.begins.ops) b.begins.room;
      }

  same_maps : maps_by w.tables ≡ maps_by c.tables
  same_maps = ap maps_by tables_are

  pub begun_ready : IsReady c.base.profile w
  begun_ready = record {
    work = begun_work;
    none_empty = b.begins.empty;
    low = omega (arith, height_is, b.low);
    standing = subst (λ h. Stands c.base.profile h h (maps_by w.tables)) (sym height_is)
        (subst (Stands c.base.profile (suc c.tip.height) (suc c.tip.height)) (sym same_maps)
        (stands-higher c.base.profile (suc c.tip.height) c.tip.height (suc c.tip.height) (maps_by c.tables) (omega arith)
        (state_stands c.base.profile c.tip.height (maps_by c.tables) (indexed_state c b.indexed))));
  }

  pub refused_by : (block : Block) (ts : List Transaction) → ts ≡ behind_coinbase block.transactions → (first : Option RefusedBy)
      → first_refused c.base.profile w.height 1 ts (maps_by w.tables) ≡ first → rule_refused c block ≡ first
  refused_by block ts ts_are first refusal =
      ap (λ l. first_refused c.base.profile (suc c.tip.height) 1 l (maps_by c.tables)) (sym ts_are)
      ∙ ap (λ m. first_refused c.base.profile (suc c.tip.height) 1 ts m) (sym same_maps)
      ∙ ap (λ h. first_refused c.base.profile h 1 ts (maps_by w.tables)) (sym height_is) ∙ refusal

  pub back_maps : (t : Tables) → HandsBack w t → maps_by t ≡ maps_by c.tables
  back_maps t back = back.maps ∙ same_maps

-- the block stands on the tip, its root and hash are these, and these are its transactions behind the coinbase
pub record IsBlockOf (c : Indexed) (ts : List Transaction) (block : Block) (hash : Hash32) : Type 0 where
  pub on_tip : block.header.fields.previous ≡ c.tip.hash.0
  pub root : block.header.fields.root ≡ block_root block
  pub ts_are : ts ≡ behind_coinbase block.transactions
  pub hash_is : hash.0 ≡ header_hash block.header

-- the work on the block is whole
pub record IsWorkedOut (c : Indexed) (w : Work) (ts : List Transaction) (whole : Whole) (undos : Roomy Undo) : Type 0 where
  pub begun : IsBegun c w
  pub done : Work
  pub applied : AppliedAll c.base.profile w done ts
  pub finishes : Finishes c.base.profile done whole
  pub same_undos : newest_first undos.items ≡ c.undos

module _ (c : Indexed) (w : Work) (ts : List Transaction) (whole : Whole) (undos : Roomy Undo) (d : IsWorkedOut c w ts whole undos) where
  done_height : d.done.height ≡ suc c.tip.height
  done_height = d.applied.height ∙ height_is c w d.begun

  done_before : back_ops d.done.ops.items (maps_by d.done.tables) ≡ maps_by c.tables
  done_before = applied_back c.base.profile w d.done ts d.applied ∙ same_maps c w d.begun

  abbrev maps : Maps
  maps = maps_by c.tables

  unrefused : first_refused c.base.profile (suc c.tip.height) 1 ts maps ≡ None
  unrefused =
      ap (λ m. first_refused c.base.profile (suc c.tip.height) 1 ts m) (sym (same_maps c w d.begun))
      ∙ ap (λ h. first_refused c.base.profile h 1 ts (maps_by w.tables)) (sym (height_is c w d.begun)) ∙ d.applied.accepted

  done_maps : maps_by d.done.tables ≡ after_all c.base.profile (suc c.tip.height) ts maps
  done_maps =
      d.applied.maps
      ∙ ap (λ h. after_all c.base.profile h ts (maps_by w.tables)) (height_is c w d.begun)
      ∙ ap (after_all c.base.profile (suc c.tip.height) ts) (same_maps c w d.begun)

  after_is : maps_by whole.work.tables ≡ after_block c.base.profile (suc c.tip.height) ts maps
  after_is =
      d.finishes.maps
      ∙ ap (λ h. without_expired c.base.profile (suc h) (maps_by d.done.tables)) done_height
      ∙ ap (without_expired c.base.profile (suc (suc c.tip.height))) done_maps

  ops_are : whole.work.ops.items ≡ undo_ops c.base.profile (suc c.tip.height) ts maps
  ops_are =
      ap (λ (l : Roomy UndoOp). l.items) d.finishes.ops ∙ d.applied.ops
      ∙ ap (λ h. undo_ops c.base.profile h ts (maps_by w.tables)) (height_is c w d.begun)
      ∙ ap (undo_ops c.base.profile (suc c.tip.height) ts) (same_maps c w d.begun)

  due_are : IsDue (after_all c.base.profile (suc c.tip.height) ts maps).coins (after_block c.base.profile (suc c.tip.height) ts maps).coins whole.expired.items
  due_are =
      subst (λ (m : Maps). IsDue m.coins (after_block c.base.profile (suc c.tip.height) ts maps).coins whole.expired.items) done_maps
      (subst (λ (m : Maps). IsDue (coins_in d.done.tables.coins) m.coins whole.expired.items) after_is d.finishes.due)

  undoes : (hash : Hash32) → IsUndoByMaps c.base.profile (suc c.tip.height) ts maps (staged_undo hash whole)
  undoes hash = record { ops = ops_are; due = due_are; sorted = d.finishes.sorted }

  grown : (hash : Hash32) → count_outputs ts < 2 ^ 32 → IsSound c.base.profile c.base.height (suc c.tip.height) (maps_by whole.work.tables) (staged_undo hash whole ∷ newest_first undos.items)
  grown hash few =
      subst (λ us. IsSound c.base.profile c.base.height (suc c.tip.height) (maps_by whole.work.tables) (staged_undo hash whole ∷ us)) (sym d.same_undos)
      (subst (λ m. IsSound c.base.profile c.base.height (suc c.tip.height) m (staged_undo hash whole ∷ c.undos)) (sym after_is)
      (block_sound c.base.profile c.base.height c.tip.height ts maps (staged_undo hash whole) c.undos d.begun.indexed.sound
      (record { low = d.begun.low; few = few; index = 1; unrefused = unrefused }) (undoes hash)))

  pub staged_index : (hash : Hash32) → count_outputs ts < 2 ^ 32 → IsStagedIndex (staged_of c.base c.tip hash whole undos)
  staged_index hash few = record {
    height = d.begun.low;
    tip_hash = d.begun.indexed.hash ∙ sym (ap (newest_hash c.base) d.same_undos);
    work_height = d.finishes.height ∙ done_height;
    whole = d.finishes.whole;
    sound_before = subst (λ us. IsSound c.base.profile c.base.height c.tip.height (maps_before_block whole) us) (sym d.same_undos)
        (subst (λ m. IsSound c.base.profile c.base.height c.tip.height m c.undos) (sym (d.finishes.before ∙ done_before)) d.begun.indexed.sound);
    sound_after = grown hash few;
  }

  pub staged_on : (hash : Hash32) (block : Block) → IsBlockOf c ts block hash → IsStagedOn c block (staged_of c.base c.tip hash whole undos)
  staged_on hash block of = record {
    on_tip = of.on_tip;
    low = d.begun.low;
    root = of.root;
    accepted = refused_by c w d.begun block ts of.ts_are None d.applied.accepted;
    base = refl;
    tip = refl;
    hash = of.hash_is;
    before = d.finishes.before ∙ done_before;
    queue = d.begun.indexed.queue;
    after = after_is ∙ ap (λ l. after_block c.base.profile (suc c.tip.height) l maps) of.ts_are;
    undoes = subst (λ l. IsUndoByMaps c.base.profile (suc c.tip.height) l maps (staged_undo hash whole)) of.ts_are (undoes hash);
    undos = d.same_undos;
  }

-- ---- the base alone

pub begun_index : (base : Base) (c : Tables) → base.height ≤ highest → c.coins ≡ [] → c.names ≡ [] → c.queue ≡ []
    → (undos : Roomy Undo) → undos.items ≡ [] → IsIndexed (index_of base (record { height = base.height; hash = base.hash }) c undos)
begun_index base c low coins names queue undos none = record {
  hash = sym (ap (λ us. newest_hash base (newest_first us)) none);
  sound = subst (λ us. IsSound base.profile base.height base.height (maps_by c) (newest_first us)) (sym none)
      (subst (λ m. IsSound base.profile base.height base.height m []) (sym (λ i. record { coins = coins_in (coins i); names = names_in (names i) })) (base_sound base.profile [] base.height low (record { makes = tt; few = omega arith })));
  queue = ap queued_in queue ∙ sym (ap (λ s. queue_of (coins_in s)) coins);
  filled = record {
    coins = subst AreCoinsFilled (sym coins) (λ point. refl);
    names = subst AreNamesFilled (sym names) (λ name. refl);
    queue = subst IsQueueFilled (sym queue) (λ height point. refl);
  };
}

pub begun_maps : (base : Base) (c : Tables) → c.coins ≡ [] → c.names ≡ [] → maps_by c ≡ maps_of base.profile [] (suc base.height)
begun_maps base c coins names = λ i. record { coins = coins_in (coins i); names = names_in (names i) }

pub begun_at : (base : Base) (c : Tables) → base.height ≤ highest → c.coins ≡ [] → c.names ≡ [] → c.queue ≡ []
    → (undos : Roomy Undo) → undos.items ≡ [] → IsAtBase base (index_of base (record { height = base.height; hash = base.hash }) c undos)
begun_at base c low coins names queue undos none = record {
  begins = record { low = low; starts = record { makes = tt; few = omega arith } };
  base_is = refl;
  height = refl;
  hash = refl;
  maps = begun_maps base c coins names;
  queue = ap queued_in queue ∙ sym (ap (λ s. queue_of (coins_in s)) coins);
  undos = ap newest_first none;
}
