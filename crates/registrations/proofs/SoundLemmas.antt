-- In a sound state the registration heights are those that follow from its records.
use Rattle.std.proofs.Common.{◌≡◌, ℕ, List, [], ◌∷◌, ◌++◌, map, refl, sym, ap, subst, ◌∙◌}
use Rattle.std.proofs.Math.Path.{fun_ext}
use Rattle.std.specs.Prelude.{Option, Some, None}
use Rattle.std.specs.List.{AllByRecursion}
use Rattle.std.specs.Str.{bytes_eq}
use Rattle.nmc_base.specs.declared.chain_ends.Profile.{Profile}
use Rattle.chain_names.specs.declared.coin.Item.{Item}
use Rattle.chain_names.specs.declared.undo.UndoOp.{UndoOp}
use Rattle.chain_names.specs.declared.undo.UndoOp.TheVariants.{New, First, Update}
use Rattle.chain_names.specs.Changes.{without_entry, back_op, back_ops, undone}
use Rattle.chain_names.specs.Coins.{Maps, entry_of, with_value}
use Rattle.chain_names.specs.Fits.{with_restored, IsMadeName, FitsOp, FitsOps}
use Rattle.chain_names.specs.Points.{changed}
use Rattle.chain_names.specs.Sound.{BeginsRegistration, IsSound}
use Rattle.chain_names.specs.Undo.{UndoRecord}
use Rattle.registrations.specs.Told.{Histories}
use Rattle.registrations.specs.Taking.{name_of, last_at, names_before, before_all, taken}
use Rattle.registrations.specs.Filling.{begun, going_on_if, registered_in, registered_at, with_last, with_made, op_with, with_all, ops_with, names_filled, undos_filled}
use Rattle.registrations.proofs.ListLemmas.{front_and_last}
use Rattle.registrations.proofs.NameLemmas.{changed_over, at_name, same_there}

-- ---- one operation

-- the last item of a name, put back
pub put_back : (names : Histories) (name : List ℕ) (item : Item) → entry_of (names name) ≡ Some item → with_value (names_before (Some name) names) name item ≡ names
put_back names name item last =
    ap (λ l. changed bytes_eq (names_before (Some name) names) name (l ++ item ∷ [])) (at_name names name (without_entry (names name)))
    ∙ changed_over names name (without_entry (names name)) (without_entry (names name) ++ item ∷ [])
    ∙ same_there names name (without_entry (names name) ++ item ∷ []) (sym (front_and_last (names name) item last))

own_height : (before : Option Item) → going_on_if (registered_in before) before ≡ before
own_height None = refl
own_height (Some item) = refl

-- the item before is the last that is left
module _ (tip registered : ℕ) (made spent : _) (name : List ℕ) (before : Option Item) (maps : Maps) (fits : IsMadeName tip registered made spent name before maps) where
  made_item : Item
  made_item = record { height = tip; registered = registered; at = made; value = fits.value }

  left_registered : registered_at (Some name) (names_before (Some name) maps.names) ≡ registered_in before
  left_registered = ap (λ l. registered_in (entry_of l)) (at_name maps.names name (without_entry (maps.names name))) ∙ ap registered_in fits.before_is

  before_again : going_on_if (registered_at (Some name) (names_before (Some name) maps.names)) before ≡ before
  before_again = ap (λ r. going_on_if r before) left_registered ∙ own_height before

  made_again_by : (r : Option ℕ) → going_on_if r (Some (record { height = tip; registered = registered; at = made; value = fits.value })) ≡ Some (record { height = tip; registered = registered; at = made; value = fits.value })
      → with_last (Some name) (going_on_if r (entry_of (maps.names name))) (names_before (Some name) maps.names) ≡ maps.names
  made_again_by r is =
      ap (λ item. with_last (Some name) item (names_before (Some name) maps.names)) (ap (going_on_if r) fits.last ∙ is)
      ∙ put_back maps.names name (record { height = tip; registered = registered; at = made; value = fits.value }) fits.last

made_again : (tip : ℕ) (op : UndoOp) (maps : Maps) → FitsOp tip op maps
    → with_made (record { op = op; item = last_at (name_of op) maps.names }) (names_before (name_of op) maps.names) ≡ maps.names
made_again tip (New made) maps fits = refl
made_again tip (First made spent coin name before) maps fits = made_again_by tip tip made spent name before maps fits None refl
made_again tip (Update made spent coin name None) maps fits = absurd fits
made_again tip (Update made spent coin name (Some before)) maps fits =
    ap (λ r. with_last (Some name) (going_on_if r (entry_of (maps.names name))) (names_before (Some name) maps.names))
    (left_registered tip before.registered made spent name (Some before) maps fits)
    ∙ made_again_by tip before.registered made spent name (Some before) maps fits (Some before.registered) refl

op_again : (tip : ℕ) (op : UndoOp) (maps : Maps) → FitsOp tip op maps → op_with op (names_before (name_of op) maps.names) ≡ op
op_again tip (New made) maps fits = refl
op_again tip (First made spent coin name before) maps fits = ap (First made spent coin name) (before_again tip tip made spent name before maps fits)
op_again tip (Update made spent coin name None) maps fits = absurd fits
op_again tip (Update made spent coin name (Some before)) maps fits =
    ap (Update made spent coin name) (before_again tip before.registered made spent name (Some before) maps fits)

-- ---- operations

op_back : (op : UndoOp) (maps : Maps) → (back_op op maps).names ≡ names_before (name_of op) maps.names
op_back (New made) maps = refl
op_back (First made spent coin name before) maps = refl
op_back (Update made spent coin name before) maps = refl

names_back : (ops : List UndoOp) (maps : Maps) → (back_ops ops maps).names ≡ before_all ops maps.names
names_back [] maps = refl
names_back (op ∷ ops) maps = op_back op (back_ops ops maps) ∙ ap (names_before (name_of op)) (names_back ops maps)

-- taken back and done again, the histories and the operations are as they were
pub record AreAgain (ops : List UndoOp) (names : Histories) : Type 0 where
  pub names_are : with_all (taken ops names) (before_all ops names) ≡ names
  pub ops_are : ops_with (taken ops names) (before_all ops names) ≡ ops

all_again : (tip : ℕ) (ops : List UndoOp) (maps : Maps) → FitsOps tip ops maps → AreAgain ops maps.names
all_again tip [] maps fits = record { names_are = refl; ops_are = refl }
all_again tip (op ∷ ops) maps fits =
    let here = names_back ops maps in
    let rest = all_again tip ops maps fits.0 in
    let step = subst (λ names. with_made (record { op = op; item = last_at (name_of op) names }) (names_before (name_of op) names) ≡ names) here (made_again tip op (back_ops ops maps) fits.1) in
    let same = subst (λ names. op_with op (names_before (name_of op) names) ≡ op) here (op_again tip op (back_ops ops maps) fits.1) in
    record {
      names_are = ap (with_all (taken ops maps.names)) step ∙ rest.names_are;
      ops_are = λ i. same i ∷ (ap (ops_with (taken ops maps.names)) step ∙ rest.ops_are) i;
    }

-- ---- records

all_begin : (items : List Item) → AllByRecursion BeginsRegistration items → map begun items ≡ items
all_begin [] all = refl
all_begin (item ∷ items) all =
    λ i. record { height = item.height; registered = sym all.0 i; at = item.at; value = item.value } ∷ all_begin items all.1 i

-- the registration heights of histories and records follow from the records
pub record AreFollowing (us : List UndoRecord) (names : Histories) : Type 0 where
  pub names_are : names_filled us names ≡ names
  pub undos_are : undos_filled us names ≡ us

pub sound_following : (profile : Profile) (base tip : ℕ) (maps : Maps) (us : List UndoRecord) → IsSound profile base tip maps us → AreFollowing us maps.names
sound_following profile base tip maps [] sound = record { names_are = fun_ext (λ name. all_begin (maps.names name) (sound.registered name)); undos_are = refl }
sound_following profile base tip maps (u ∷ us) sound =
    let below = sound_following profile base sound.0 (undone u.ops u.expired maps) us sound.2 in
    let left = names_back u.ops (with_restored u.expired maps) in
    let again = all_again tip u.ops (with_restored u.expired maps) sound.1.fits.ops in
    let names = subst (λ names. names_filled us names ≡ names) left below.names_are in
    record {
      names_are = ap (with_all (taken u.ops maps.names)) names ∙ again.names_are;
      undos_are =
          λ i. record { block = u.block; ops = (ap (ops_with (taken u.ops maps.names)) names ∙ again.ops_are) i; expired = u.expired }
          ∷ subst (λ names. undos_filled us names ≡ us) left below.undos_are i;
    }
