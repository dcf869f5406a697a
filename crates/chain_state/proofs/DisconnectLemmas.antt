-- The newest block of a chain is disconnected.
use Rattle.std.proofs.Common.{◌≡◌, ℕ, zero, suc, ◌+◌, ◌-◌, ◌*◌, ◌≤◌, Bool, true, false, not, ◌&&◌, List, [], ◌∷◌, ◌++◌, map, length, refl, sym, ap, subst, ◌∙◌, arith}
use Rattle.std.specs.Str.{bytes_eq}
use Rattle.std.proofs.lemmas.List.{length-map, length-reverse}
use Rattle.std.specs.Prelude.{Option, None, Some, None, ◌||◌, slice_get}
use Rattle.std.specs.List.{list_any, AllByRecursion}
use Rattle.nmc_base.specs.Roomy.{Roomy}
use Rattle.nmc_base.specs.Expiry.{due_height}
use Rattle.nmc_base.specs.declared.chain_ends.Base.{Base}
use Rattle.nmc_base.specs.declared.chain_ends.Tip.{Tip}
use Rattle.nmc_base.specs.declared.chain_ends.Profile.{Profile}
use Rattle.nmc_base.specs.declared.hashes.Hash32.{Hash32}
use Rattle.nmc_base.specs.declared.hashes.OutPoint.{OutPoint}
use Rattle.nmc_base.proofs.ListLemmas.{all-weaker}
use Rattle.chain_names.specs.declared.coin.HeldCoin.{HeldCoin}
use Rattle.chain_names.specs.declared.undo.UndoOp.{UndoOp}
use Rattle.chain_names.specs.Points.{same_point}
use Rattle.chain_names.specs.Tables.{coins_in, queued_in, queue_of, is_named_at}
use Rattle.chain_names.specs.Undo.{UndoRecord}
use Rattle.chain_names.proofs.Changed.{bytes_eq-self, bytes_eq-true, same_point-self}
use Rattle.chain_names.specs.Expired.{is_held_at}
use Rattle.chain_names.specs.Fits.{IsJustExpired, AreUndoable, with_restored}
use Rattle.chain_names.specs.Sound.{IsSound}
use Rattle.chain_names.proofs.UndoableLemmas.{fit_allows, expired-row, expired-none}
use Rattle.chain_names.specs.Seen.{seen_undo}
use Rattle.chain_names.specs.declared.undo.Undo.{Undo}
use Rattle.name_tables.specs.Tables.{HoldSame, AreFilled}
use Rattle.name_tables.specs.Tables.{maps_by}
use Rattle.name_tables.specs.Places.{spends, spends_at, is_queued_at}
use Rattle.chain_state.specs.Work.{HasSpentPlace, HasSpentRow}
use Rattle.chain_state.specs.Whole.{IsWhole, maps_before_block}
use Rattle.name_tables.specs.Expiring.{CanReturn}
use Rattle.name_tables.specs.Room.{IsPlaced, HasRoom}
use Rattle.chain_state.specs.Chain.{Indexed, IsIndexed, SameIndex, index_of, newest_hash}
use Rattle.name_tables.specs.Parts.{newest_first}
use Rattle.chain_state.specs.Back.{block_work, IsStagedBack}
use Rattle.chain_state.specs.StageBack.{IsBackRefusal, IsDisconnected, newest_work, back_commit_steps}
use Rattle.chain_state.specs.declared.back.BackRefusal.TheVariants.{AtBase, NotTip}
use Rattle.name_tables.specs.declared.tables.Tables.{Tables}
use Rattle.name_tables.proofs.ListLemmas.{or_left, or_right, or_both}
use Rattle.chain_state.proofs.ChainLemmas.{newest_more, returned_index}

-- ---- the newest of the records

pub record EndsIn (undos : List Undo) (undo : Undo) : Type 0 where
  pub front : List Undo
  pub is : undos ≡ front ++ undo ∷ []

last_at : (n : ℕ) (undos : List Undo) (undo : Undo) → length undos ≡ suc n → slice_get undos n ≡ Some undo → EndsIn undos undo
last_at n [] undo len e = absurd (omega (arith, len))
last_at zero (first ∷ []) undo len e = let same : first ≡ undo = cc in record { front = []; is = ap (λ z. z ∷ []) same }
last_at zero (first ∷ second ∷ undos) undo len e = absurd (omega (arith, len))
last_at (suc n) (first ∷ undos) undo len e =
    let rest = last_at n undos undo (omega (arith, len)) e in
    record { front = first ∷ rest.front; is = ap (λ l. first ∷ l) rest.is }

one_less : (n : ℕ) → suc n - 1 ≡ n
one_less n = omega arith

pub ends_in : (undos : List Undo) (undo : Undo) → slice_get undos (length undos - 1) ≡ Some undo → EndsIn undos undo
ends_in [] undo e = absurd cc
ends_in (first ∷ undos) undo e =
    last_at (length undos) (first ∷ undos) undo refl (subst (λ n. slice_get (first ∷ undos) n ≡ Some undo) (one_less (length undos)) e)

some_at : (n : ℕ) (undos : List Undo) → length undos ≡ suc n → slice_get undos n ≡ None → ⊥
some_at n [] len e = omega (arith, len)
some_at zero (first ∷ undos) len e = cc
some_at (suc n) (first ∷ undos) len e = some_at n undos (omega (arith, len)) e

pub none_last : (undos : List Undo) → slice_get undos (length undos - 1) ≡ None → undos ≡ []
none_last [] e = refl
none_last (first ∷ undos) e =
    absurd (some_at (length undos) (first ∷ undos) refl (subst (λ n. slice_get (first ∷ undos) n ≡ None) (one_less (length undos)) e))

pub newest_is : (undos : List Undo) (undo : Undo) (ends : EndsIn undos undo) → newest_first undos ≡ seen_undo undo ∷ newest_first ends.front
newest_is undos undo ends = ap newest_first ends.is ∙ newest_more ends.front undo

pub newest_none : (undos : List Undo) → newest_first undos ≡ [] → length undos ≡ 0
newest_none undos none = sym (length-map undos seen_undo) ∙ sym (length-reverse (map seen_undo undos)) ∙ ap length none

-- ---- the base alone, and what staging costs

pub at_the_base : (c : Indexed) (undos : List Undo) (hash : Hash32) → c.undos ≡ newest_first undos → length undos ≡ 0 → SameIndex c c × IsBackRefusal c hash AtBase
at_the_base c [] hash undos_are none = (record { base = refl; tip = refl; maps = refl; queue = refl; undos = refl }, undos_are)
at_the_base c (undo ∷ undos) hash undos_are none = absurd (omega (arith, none))

pub back_cheap : (given undos : List UndoRecord) → undos ≡ given → (undo : UndoRecord) (below : List UndoRecord) → given ≡ undo ∷ below
    → (before after : ℕ) → after ≤ before + 2 * length undo.ops + 2 * length undo.expired → after + back_commit_steps undos ≤ before + 12 * newest_work given + 8
back_cheap given undos same undo below is before after cheap =
    let commit : back_commit_steps undos ≡ 8 * length undo.ops + 2 * length undo.expired = ap back_commit_steps (same ∙ is) in
    let work : newest_work given ≡ length undo.ops + length undo.expired = ap newest_work is in
    omega (arith, commit, work, cheap)

-- ---- a hash that isn't the tip's

pub not_the_tip : (c : Indexed) (undos : List Undo) (hash : Hash32) → c.undos ≡ newest_first undos → (length undos ≡ 0 → ⊥) → true ≡ not (bytes_eq hash.0 c.tip.hash.0)
    → SameIndex c c × IsBackRefusal c hash (NotTip c.tip.hash)
not_the_tip c undos hash undos_are some differs = (
  record { base = refl; tip = refl; maps = refl; queue = refl; undos = refl },
  (
    (λ none. some (newest_none undos (sym undos_are ∙ none))),
    (λ same. let bad : true ≡ false = differs ∙ ap (λ (h : Hash32). not (bytes_eq h.0 c.tip.hash.0)) same ∙ ap not (bytes_eq-self c.tip.hash.0) in cc),
    refl,
  ),
)

pub is_the_tip : (a b : Hash32) → false ≡ not (bytes_eq a.0 b.0) → a ≡ b
is_the_tip a b same = let bytes : a.0 ≡ b.0 = bytes_eq-true a.0 b.0 (equal _ same) in λ i. record { 0 = bytes i }
  where
    equal : (x : Bool) → false ≡ not x → x ≡ true
    equal true e = refl
    equal false e = e

-- ---- a disconnect is staged

-- the lists that were handed over are those of the record
pub room_for : {ops now : List UndoOp} {expired helds : List HeldCoin} (before after : Tables) (empty : Roomy OutPoint) → now ≡ ops → helds ≡ expired
    → HasRoom before after now helds empty → HasRoom before after ops expired empty
room_for {ops = ops} {now = now} {expired = expired} {helds = helds} before after empty same_ops same_helds has =
    subst (λ es. HasRoom before after ops es empty) same_helds (subst (λ os. HasRoom before after os helds empty) same_ops has)

-- coins that expired with the tip can be put back into the row that is due
can_return : (c : Indexed) (tables : Tables) (row : ℕ) → HoldSame c.tables tables → due_height c.base.profile (suc c.tip.height) ≡ Some row → (helds : List HeldCoin)
    → AllByRecursion (IsJustExpired c.base.profile c.tip.height (maps_by c.tables)) helds → AllByRecursion (IsPlaced is_held_at is_queued_at tables) helds → AllByRecursion (CanReturn tables row) helds
can_return c tables row same due [] expired placed = tt
can_return c tables row same due (first ∷ helds) expired placed =
    let named = expired-row c.base.profile c.tip.height row (maps_by c.tables) first due expired.0 in (
      record {
        of_row = named;
        place = placed.0.coin first.at (same_point-self first.at);
        row_place = placed.0.rows row first.at (ap (λ b. b && is_named_at row (Some first.coin)) (same_point-self first.at) ∙ named);
        free = λ other apart. ap (is_named_at other) (ap (λ f. f first.at) same.coins ∙ expired.0.free);
      },
      can_return c tables row same due helds expired.1 placed.1,
    )

module _ (c : Indexed) (indexed : IsIndexed c) (undo : UndoRecord) (below : List UndoRecord) (undos_are : c.undos ≡ undo ∷ below)
    (tables : Tables) (empty : Roomy OutPoint) (has : HasRoom c.tables tables undo.ops undo.expired empty) where
  abbrev profile : Profile
  profile = c.base.profile

  maps_same : maps_by tables ≡ maps_by c.tables
  maps_same = λ i. record { coins = has.same.coins i; names = has.same.names i }

  sound_here : IsSound profile c.base.height c.tip.height (maps_by c.tables) (undo ∷ below)
  sound_here = subst (IsSound profile c.base.height c.tip.height (maps_by c.tables)) undos_are indexed.sound

  returns : (due : Option ℕ) → due_height profile (suc c.tip.height) ≡ due → (row : ℕ) × AllByRecursion (CanReturn tables row) undo.expired
  returns None undue = (0, subst (AllByRecursion (CanReturn tables 0)) (sym (expired-none profile c.tip.height (maps_by c.tables) undo.expired undue sound_here.1.fits.expired)) tt)
  returns (Some row) due = (row, can_return c tables row has.same due undo.expired sound_here.1.fits.expired has.held)

  returning : (row : ℕ) × AllByRecursion (CanReturn tables row) undo.expired
  returning = returns (due_height profile (suc c.tip.height)) refl

  work_back : (ops : Roomy UndoOp) (expired : Roomy HeldCoin)
      → IsWhole (block_work tables (record { items = undo.ops; spare = ops.spare }) (record { items = undo.expired; spare = expired.spare }) empty c.tip.height)
  work_back ops expired = record {
    queue = has.same.queue ∙ indexed.queue ∙ ap queue_of (sym has.same.coins);
    fits = subst (λ m. AreUndoable c.tip.height undo.ops (with_restored undo.expired m)) (sym maps_same)
        (fit_allows profile c.tip.height undo (maps_by c.tables) sound_here.1.fits);
    spent_placed = all-weaker (IsPlaced spends spends_at tables) (HasSpentPlace tables) undo.ops (λ op placed. placed.coin) has.spent;
    spent_rows = all-weaker (IsPlaced spends spends_at tables) (HasSpentRow tables) undo.ops (λ op placed. placed.rows) has.spent;
    coins_filled = λ point here free. has.filled.coins point here
        (or_both _ _ (or_left _ _ (or_left _ _ free)) (or_right (list_any (spends point) undo.ops || list_any (same_point point) empty.items) _ free));
    queue_filled = λ height point here free. has.filled.queue height point here
        (or_both _ _ (or_left _ _ (or_left _ _ free)) (or_right _ (list_any (is_queued_at height point) undo.expired) free));
    names_filled = has.filled.names;
    none_empty = has.none;
    room = has.room;
    row = returning.0;
    returns = returning.1;
  }

  pub staged_back : (undos : Roomy Undo) → newest_first undos.items ≡ c.undos → IsStagedBack c.base c.tip tables undos empty
  staged_back undos same_undos = record {
    undo = undo;
    below = below;
    undos_are = same_undos ∙ undos_are;
    whole = λ ops expired ops_are expired_are.
        subst (λ es. IsWhole (block_work tables ops (record { items = es; spare = expired.spare }) empty c.tip.height)) (sym expired_are)
        (subst (λ os. IsWhole (block_work tables (record { items = os; spare = ops.spare }) (record { items = undo.expired; spare = expired.spare }) empty c.tip.height)) (sym ops_are) (work_back ops expired));
    hash = indexed.hash ∙ ap (newest_hash c.base) undos_are;
    sound = subst (λ m. IsSound profile c.base.height c.tip.height m (undo ∷ below)) (sym maps_same) sound_here;
  }

-- the tables hold the same as those that were given
pub stage_again : (c : Indexed) → IsIndexed c → (given : Tables) → given ≡ c.tables → (tables : Tables) (undos : Roomy Undo) → newest_first undos.items ≡ c.undos
    → HoldSame given tables → AreFilled tables → IsIndexed (index_of c.base c.tip tables undos)
stage_again c indexed given given_is tables undos same_undos same filled =
    let held : HoldSame c.tables tables = subst (λ (t : Tables). HoldSame t tables) given_is same in
    returned_index c indexed tables undos same_undos (λ i. record { coins = held.coins i; names = held.names i })
    (held.queue ∙ indexed.queue ∙ ap queue_of (sym held.coins)) filled

pub same_again : (c : Indexed) (given : Tables) → given ≡ c.tables → (tables : Tables) (undos : Roomy Undo) → newest_first undos.items ≡ c.undos → HoldSame given tables → SameIndex (index_of c.base c.tip tables undos) c
same_again c given given_is tables undos same_undos same =
    let held : HoldSame c.tables tables = subst (λ (t : Tables). HoldSame t tables) given_is same in
    record { base = refl; tip = refl; maps = λ i. record { coins = held.coins i; names = held.names i }; queue = held.queue; undos = same_undos }

-- ---- the disconnect is committed, or abandoned

pub first_same : (u v : UndoRecord) (us vs : List UndoRecord) → u ∷ us ≡ v ∷ vs → u ≡ v
first_same u v us vs e = cc

pub rest_same : (u v : UndoRecord) (us vs : List UndoRecord) → u ∷ us ≡ v ∷ vs → us ≡ vs
rest_same u v us vs e = cc

module _ (base : Base) (tip : Tip) (tables : Tables) (undos : Roomy Undo) (empty : Roomy OutPoint) (staged : IsStagedBack base tip tables undos empty) where
  pub never_none : undos.items ≡ [] → ⊥
  never_none none = let bad : [] ≡ staged.undo ∷ staged.below = ap newest_first (sym none) ∙ staged.undos_are in cc

  module _ (undo : Undo) (front : List Undo) (undos_were : undos.items ≡ front ++ undo ∷ []) where
    newest_was : seen_undo undo ∷ newest_first front ≡ staged.undo ∷ staged.below
    newest_was = sym (newest_more front undo) ∙ ap newest_first (sym undos_were) ∙ staged.undos_are

    pub undo_is : seen_undo undo ≡ staged.undo
    undo_is = first_same _ _ _ _ newest_was

    below_is : newest_first front ≡ staged.below
    below_is = rest_same _ _ _ _ newest_was

    pub whole_back : IsWhole (block_work tables undo.ops undo.expired empty tip.height)
    whole_back = staged.whole undo.ops undo.expired (ap (λ (u : UndoRecord). u.ops) undo_is) (ap (λ (u : UndoRecord). u.expired) undo_is)

    sound_was : IsSound base.profile base.height tip.height (maps_by tables) (seen_undo undo ∷ newest_first front)
    sound_was = subst (IsSound base.profile base.height tip.height (maps_by tables)) (sym newest_was) staged.sound

    pub steps_are : back_commit_steps (newest_first undos.items) ≡ back_commit_steps (seen_undo undo ∷ newest_first front)
    steps_are = ap back_commit_steps (ap newest_first undos_were ∙ newest_more front undo)

  pub abandoned_back : (after : Tables) → maps_by after ≡ maps_by tables → queued_in after.queue ≡ queue_of (coins_in after.coins) → AreFilled after → IsIndexed (index_of base tip after undos)
  abandoned_back after same queue filled = record {
    hash = staged.hash ∙ ap (newest_hash base) (sym staged.undos_are);
    queue = queue;
    filled = filled;
    sound = subst (IsSound base.profile base.height tip.height (maps_by after)) (sym staged.undos_are)
        (subst (λ m. IsSound base.profile base.height tip.height m (staged.undo ∷ staged.below)) (sym same) staged.sound);
  }

-- what the commit of a disconnect leaves
pub record IsUndoneTo (base : Base) (tip : Tip) (tables : Tables) (undos : Roomy Undo) (after : Tables) (rest : Roomy Undo) (hash : Hash32) : Type 0 where
  pub empty : Roomy OutPoint
  pub staged : IsStagedBack base tip tables undos empty
  pub undo : Undo
  pub were : undos.items ≡ rest.items ++ undo ∷ []
  pub maps : maps_by after ≡ maps_before_block (block_work tables undo.ops undo.expired empty tip.height)
  pub queue : queued_in after.queue ≡ queue_of (coins_in after.coins)
  pub filled : AreFilled after
  pub hash_is : hash ≡ newest_hash base (newest_first rest.items)

module _ (base : Base) (tip : Tip) (tables : Tables) (undos : Roomy Undo) (after : Tables) (rest : Roomy Undo) (hash : Hash32)
    (u : IsUndoneTo base tip tables undos after rest hash) where
  abbrev shorter : Tip
  shorter = record { height = tip.height - 1; hash = hash }

  were_sound : IsSound base.profile base.height tip.height (maps_by tables) (seen_undo u.undo ∷ newest_first rest.items)
  were_sound = sound_was base tip tables undos u.empty u.staged u.undo rest.items u.were

  height_is : tip.height - 1 ≡ were_sound.0
  height_is = omega (arith, were_sound.1.above)

  sound_now : IsSound base.profile base.height (tip.height - 1) (maps_by after) (newest_first rest.items)
  sound_now =
      subst (λ n. IsSound base.profile base.height n (maps_by after) (newest_first rest.items)) (sym height_is)
      (subst (λ m. IsSound base.profile base.height were_sound.0 m (newest_first rest.items)) (sym u.maps) were_sound.2)

  pub disconnected_index : IsIndexed (index_of base shorter after rest)
  disconnected_index = record {
    hash = u.hash_is;
    queue = u.queue;
    filled = u.filled;
    sound = sound_now;
  }

  pub disconnected : IsDisconnected (index_of base tip tables undos) (index_of base shorter after rest)
  disconnected = record {
    undo = seen_undo u.undo;
    below = newest_first rest.items;
    undos_were = ap newest_first u.were ∙ newest_more rest.items u.undo;
    undos = refl;
    base = refl;
    height = omega (arith, were_sound.1.above);
    hash = u.hash_is;
    maps = u.maps;
    queue = u.queue;
  }
