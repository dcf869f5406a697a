-- What follows from records and histories goes by what version 1 tells of them, and that stays as it was.
use Rattle.std.proofs.Common.{◌≡◌, ℕ, ◌-◌, List, [], ◌∷◌, ◌++◌, length, map, take, refl, sym, ap, ◌∙◌}
use Rattle.std.proofs.Math.Path.{fun_ext}
use Rattle.std.proofs.lemmas.List.{length-map, take-map, map-append}
use Rattle.std.specs.Prelude.{Option, Some, None}
use Rattle.std.specs.Str.{bytes_eq}
use Rattle.chain_names.specs.declared.coin.Item.{Item}
use Rattle.chain_names.specs.declared.undo.UndoOp.{UndoOp}
use Rattle.chain_names.specs.declared.undo.UndoOp.TheVariants.{New, First, Update}
use Rattle.chain_names.specs.Changes.{without_entry}
use Rattle.chain_names.specs.Coins.{entry_of}
use Rattle.chain_names.specs.Points.{changed}
use Rattle.chain_names.specs.Undo.{UndoRecord}
use Rattle.chain_names.proofs.Changed.{changed_mapped}
use Rattle.undo_records.specs.Versions.{item_without, before_without, op_without, without_heights}
use Rattle.registrations.specs.declared.taking.Taken.{Taken}
use Rattle.registrations.specs.Told.{Histories, names_without, TellSame}
use Rattle.registrations.specs.Taking.{name_of, last_at, names_before, before_all, taken}
use Rattle.registrations.specs.Filling.{begun, going_on_if, registered_at, goes_on_with, with_last, with_made, op_with, with_all, ops_with, names_filled, undos_filled}
use Rattle.sound_states.proofs.HistoryLemmas.{no_entry}
use Rattle.registrations.proofs.NameLemmas.{same_there}
use Rattle.registrations.proofs.SoundLemmas.{put_back}

-- ---- histories without registration heights

pub entry_told : (items : List Item) → entry_of (map item_without items) ≡ before_without (entry_of items)
entry_told [] = refl
entry_told (item ∷ []) = refl
entry_told (item ∷ next ∷ items) = entry_told (next ∷ items)

front_told : (items : List Item) → without_entry (map item_without items) ≡ map item_without (without_entry items)
front_told items = ap (λ n. take (n - 1) (map item_without items)) (length-map items item_without) ∙ take-map item_without (length items - 1) items

last_told : (name : Option (List ℕ)) (names : Histories) → last_at name (names_without names) ≡ before_without (last_at name names)
last_told None names = refl
last_told (Some name) names = entry_told (names name)

changed_told : (names : Histories) (name : List ℕ) (items : List Item) → names_without (changed bytes_eq names name items) ≡ changed bytes_eq (names_without names) name (map item_without items)
changed_told names name items = changed_mapped bytes_eq (map item_without) names name items

names_told : (name : Option (List ℕ)) (names : Histories) → names_before name (names_without names) ≡ names_without (names_before name names)
names_told None names = refl
names_told (Some name) names =
    ap (changed bytes_eq (names_without names) name) (front_told (names name)) ∙ sym (changed_told names name (without_entry (names name)))

op_name : (op : UndoOp) → name_of (op_without op) ≡ name_of op
op_name (New made) = refl
op_name (First made spent coin name before) = refl
op_name (Update made spent coin name before) = refl

all_told : (ops : List UndoOp) (names : Histories) → before_all (map op_without ops) (names_without names) ≡ names_without (before_all ops names)
all_told [] names = refl
all_told (op ∷ ops) names =
    (λ i. names_before (op_name op i) (all_told ops names i)) ∙ names_told (name_of op) (before_all ops names)

-- ---- what is put in their place doesn't go by the registration heights that stand there

abbrev taken_without : Taken → Taken
taken_without t = record { op = op_without t.op; item = before_without t.item }

taken_told : (ops : List UndoOp) (names : Histories) → taken (map op_without ops) (names_without names) ≡ map taken_without (taken ops names)
taken_told [] names = refl
taken_told (op ∷ ops) names =
    λ i. record { op = op_without op; item = ((λ j. last_at (op_name op j) (all_told ops names j)) ∙ last_told (name_of op) (before_all ops names)) i } ∷ taken_told ops names i

same_going : (registered : Option ℕ) (item : Option Item) → going_on_if registered (before_without item) ≡ going_on_if registered item
same_going None None = refl
same_going None (Some item) = refl
same_going (Some registered) None = refl
same_going (Some registered) (Some item) = refl

same_goal : (op : UndoOp) (registered : Option ℕ) → goes_on_with (op_without op) registered ≡ goes_on_with op registered
same_goal (New made) registered = refl
same_goal (First made spent coin name before) registered = refl
same_goal (Update made spent coin name before) registered = refl

same_made : (t : Taken) (names : Histories) → with_made (taken_without t) names ≡ with_made t names
same_made t names =
    ap (λ name. with_last name (going_on_if (goes_on_with (op_without t.op) (registered_at name names)) (before_without t.item)) names) (op_name t.op)
    ∙ ap (λ item. with_last (name_of t.op) item names)
    (same_going (goes_on_with (op_without t.op) (registered_at (name_of t.op) names)) t.item ∙ ap (λ r. going_on_if r t.item) (same_goal t.op (registered_at (name_of t.op) names)))

same_op : (op : UndoOp) (names : Histories) → op_with (op_without op) names ≡ op_with op names
same_op (New made) names = refl
same_op (First made spent coin name before) names = ap (First made spent coin name) (same_going (registered_at (Some name) names) before)
same_op (Update made spent coin name before) names = ap (Update made spent coin name) (same_going (registered_at (Some name) names) before)

same_all : (ts : List Taken) (names : Histories) → with_all (map taken_without ts) names ≡ with_all ts names
same_all [] names = refl
same_all (t ∷ ts) names = ap (with_all (map taken_without ts)) (same_made t names) ∙ same_all ts (with_made t names)

same_ops : (ts : List Taken) (names : Histories) → ops_with (map taken_without ts) names ≡ ops_with ts names
same_ops [] names = refl
same_ops (t ∷ ts) names = λ i. same_op t.op names i ∷ (ap (ops_with (map taken_without ts)) (same_made t names) ∙ same_ops ts (with_made t names)) i

all_begun_told : (items : List Item) → map begun (map item_without items) ≡ map begun items
all_begun_told [] = refl
all_begun_told (item ∷ items) = ap (λ rest. begun item ∷ rest) (all_begun_told items)

-- of histories and records without registration heights the same follows
pub record FollowSame (us : List UndoRecord) (names : Histories) : Type 0 where
  pub names_are : names_filled (map without_heights us) (names_without names) ≡ names_filled us names
  pub undos_are : undos_filled (map without_heights us) (names_without names) ≡ undos_filled us names

pub follow_same : (us : List UndoRecord) (names : Histories) → FollowSame us names
follow_same [] names = record { names_are = fun_ext (λ name. all_begun_told (names name)); undos_are = refl }
follow_same (u ∷ us) names =
    let below = follow_same us (before_all u.ops names) in
    let left = all_told u.ops names in
    let filled = ap (names_filled (map without_heights us)) left ∙ below.names_are in
    let ops = taken_told u.ops names in
    record {
      names_are = (λ i. with_all (ops i) (filled i)) ∙ same_all (taken u.ops names) (names_filled us (before_all u.ops names));
      undos_are =
          λ i. record { block = u.block; ops = ((λ j. ops_with (ops j) (filled j)) ∙ same_ops (taken u.ops names) (names_filled us (before_all u.ops names))) i; expired = u.expired }
          ∷ (ap (undos_filled (map without_heights us)) left ∙ below.undos_are) i;
    }

-- ---- and version 1 tells the same of what follows

going_told : (registered : Option ℕ) (item : Option Item) → before_without (going_on_if registered item) ≡ before_without item
going_told None None = refl
going_told None (Some item) = refl
going_told (Some registered) None = refl
going_told (Some registered) (Some item) = refl

with_last_told : (name : Option (List ℕ)) (item : Option Item) (names : Histories) → names_without (with_last name item names) ≡ with_last name (before_without item) (names_without names)
with_last_told None item names = refl
with_last_told (Some name) None names = refl
with_last_told (Some name) (Some item) names =
    changed_told names name (names name ++ item ∷ [])
    ∙ ap (changed bytes_eq (names_without names) name) (map-append item_without (names name) (item ∷ []))

-- what was taken away, put back
put_last_by : (names : Histories) (name : List ℕ) (last : Option Item) → entry_of (names name) ≡ last → with_last (Some name) last (names_before (Some name) names) ≡ names
put_last_by names name None e = same_there names name (without_entry (names name)) (no_entry (names name) e ∙ sym (ap without_entry (no_entry (names name) e)))
put_last_by names name (Some item) e = put_back names name item e

put_last : (name : Option (List ℕ)) (names : Histories) → with_last name (last_at name names) (names_before name names) ≡ names
put_last None names = refl
put_last (Some name) names = put_last_by names name (entry_of (names name)) refl

made_told : (op : UndoOp) (names filled : Histories) → names_without filled ≡ names_without (names_before (name_of op) names)
    → names_without (with_made (record { op = op; item = last_at (name_of op) names }) filled) ≡ names_without names
made_told op names filled e =
    let name = name_of op in
    let registered = goes_on_with op (registered_at name filled) in
    with_last_told name (going_on_if registered (last_at name names)) filled
    ∙ (λ i. with_last name (going_told registered (last_at name names) i) (e i))
    ∙ sym (with_last_told name (last_at name names) (names_before name names)) ∙ ap names_without (put_last name names)

op_told : (op : UndoOp) (names : Histories) → op_without (op_with op names) ≡ op_without op
op_told (New made) names = refl
op_told (First made spent coin name before) names = ap (First made spent coin name) (going_told (registered_at (Some name) names) before)
op_told (Update made spent coin name before) names = ap (Update made spent coin name) (going_told (registered_at (Some name) names) before)

with_all_told : (ops : List UndoOp) (names filled : Histories) → names_without filled ≡ names_without (before_all ops names)
    → names_without (with_all (taken ops names) filled) ≡ names_without names
with_all_told [] names filled e = e
with_all_told (op ∷ ops) names filled e =
    with_all_told ops names (with_made (record { op = op; item = last_at (name_of op) (before_all ops names) }) filled) (made_told op (before_all ops names) filled e)

ops_told : (ts : List Taken) (names : Histories) → map op_without (ops_with ts names) ≡ map (λ (t : Taken). op_without t.op) ts
ops_told [] names = refl
ops_told (t ∷ ts) names = λ i. op_told t.op names i ∷ ops_told ts (with_made t names) i

taken_ops : (ops : List UndoOp) (names : Histories) → map (λ (t : Taken). op_without t.op) (taken ops names) ≡ map op_without ops
taken_ops [] names = refl
taken_ops (op ∷ ops) names = ap (λ rest. op_without op ∷ rest) (taken_ops ops names)

begun_told : (items : List Item) → map item_without (map begun items) ≡ map item_without items
begun_told [] = refl
begun_told (item ∷ items) = ap (λ rest. item_without item ∷ rest) (begun_told items)

pub filled_told : (us : List UndoRecord) (names : Histories) → TellSame (names_filled us names) names (undos_filled us names) us
filled_told [] names = record { names_told = fun_ext (λ name. begun_told (names name)); undos_told = refl }
filled_told (u ∷ us) names =
    let below = filled_told us (before_all u.ops names) in
    record {
      names_told = with_all_told u.ops names (names_filled us (before_all u.ops names)) below.names_told;
      undos_told =
          λ i. record { block = u.block; ops = (ops_told (taken u.ops names) (names_filled us (before_all u.ops names)) ∙ taken_ops u.ops names) i; expired = u.expired }
          ∷ below.undos_told i;
    }
