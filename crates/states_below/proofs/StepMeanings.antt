-- What the tests of a step say.
use Rattle.std.proofs.Common.{◌≡◌, ◌≢◌, ℕ, suc, Bool, true, false, not, cond, List, [], ◌∷◌, ⊎_elim, refl, sym, ap, ◌∙◌, true≢false}
use Rattle.std.specs.Prelude.{Option, Some, None, ◌&&◌, ◌||◌, ◌==◌}
use Rattle.std.specs.Cmp.{unsigned_Decides}
use Rattle.std.specs.List.{AllByRecursion}
use Rattle.std.specs.Option.{is_none}
use Rattle.std.specs.Str.{bytes_eq}
use Rattle.std.proofs.lemmas.Bool.{and_parts, and_from, or_cases, not-true, not_from_false}
use Rattle.nmc_base.specs.declared.hashes.OutPoint.{OutPoint}
use Rattle.nmc_base.specs.declared.chain_ends.Profile.{Profile}
use Rattle.nmc_base.specs.Expiry.{is_expired}
use Rattle.chain_names.specs.declared.coin.Coin.{Coin}
use Rattle.chain_names.specs.declared.coin.Coin.TheVariants.{New, Named}
use Rattle.chain_names.specs.declared.coin.HeldCoin.{HeldCoin}
use Rattle.chain_names.specs.declared.coin.Item.{Item}
use Rattle.chain_names.specs.declared.undo.UndoOp.{UndoOp}
use Rattle.chain_names.specs.declared.undo.UndoOp.TheVariants.{New as undo_new, First as undo_first, Update as undo_update}
use Rattle.chain_names.specs.Points.{same_point}
use Rattle.chain_names.specs.Coins.{Maps, entry_of, unless_expired}
use Rattle.chain_names.specs.Changes.{without_entry, back_ops, undone}
use Rattle.chain_names.specs.Tables.{is_named_at}
use Rattle.chain_names.specs.State.{IsLastItem}
use Rattle.chain_names.specs.Fits.{IsJustExpired, with_restored, IsMadeCommitment, IsMadeName, IsMadeUpdate, FitsOp, FitsOps}
use Rattle.chain_names.specs.Limits.{IsWithinLimits}
use Rattle.chain_names.specs.Undo.{UndoRecord}
use Rattle.chain_names.proofs.Changed.{bytes_eq-true, bytes_eq-self}
use Rattle.chain_names.proofs.Points.{same_point-true, same_point-self}
use Rattle.chain_names.proofs.UndoneBlockLemmas.{live_left}
use Rattle.sound_states.specs.OneSound.{HasItsCoin}
use Rattle.sound_states.specs.StepLists.{HadCoin, StandsIfNamed, SpentStands, HeldStands, IsStepByLists}
use Rattle.sound_states.specs.Walk.{NotAskedCoin, NotAsked}
use Rattle.states_below.specs.StepTests.{all_by, expires_now, just_expired, is_coin_of, entry_has_coin, has_its_coin, not_asked_coin, op_before, stands_if_named, op_after, held_after, step_fits}
use Rattle.states_below.specs.Tests.{is_new_at, same_item, same_entry, is_item_at, is_made_item, ends_so, fits_move, fits_update, fits_op, fits_ops}

-- ---- lists

pub all_from : {A : Type 0} (test : A → Bool) (P : A → Type 0) (xs : List A) → ((x : A) → test x ≡ true → P x) → all_by test xs ≡ true → AllByRecursion P xs
all_from test P [] f e = tt
all_from test P (x ∷ xs) f e =
    let parts = and_parts (test x) (all_by test xs) e in
    (f x parts.0, all_from test P xs f parts.1)

pub all_to : {A : Type 0} (test : A → Bool) (P : A → Type 0) (xs : List A) → ((x : A) → P x → test x ≡ true) → AllByRecursion P xs → all_by test xs ≡ true
all_to test P [] f all = refl
all_to test P (x ∷ xs) f all = and_from (test x) (all_by test xs) (f x all.0) (all_to test P xs f all.1)

-- ---- values

none_from : {A : Type 0} (o : Option A) → is_none o ≡ true → o ≡ None
none_from None e = refl
none_from (Some x) e = absurd (true≢false (sym e))

none_to : {A : Type 0} (o : Option A) → o ≡ None → is_none o ≡ true
none_to {A = A} o e = ap (λ (x : Option A). is_none x) e

pub equal_from : (a b : ℕ) → (a == b) ≡ true → a ≡ b
equal_from a b = (unsigned_Decides a b).0

pub equal_to : (a b : ℕ) → a ≡ b → (a == b) ≡ true
equal_to a b = (unsigned_Decides a b).1

pub last_from : (made : ℕ) (point : OutPoint) (items : List Item) (entry : Option Item) → entry_of items ≡ entry → is_item_at made point entry ≡ true → IsLastItem items made point
last_from made point items None is e = absurd (true≢false (sym e))
last_from made point items (Some item) is e =
    let parts = and_parts (item.height == made) (same_point item.at point) e in
    record {
      registered = item.registered;
      value = item.value;
      last = is ∙ (λ i. Some (record { height = equal_from item.height made parts.0 i; registered = item.registered; at = same_point-true item.at point parts.1 i; value = item.value }));
    }

pub last_to : (made : ℕ) (point : OutPoint) (items : List Item) → IsLastItem items made point → is_item_at made point (entry_of items) ≡ true
last_to made point items last =
    ap (is_item_at made point) last.last ∙ and_from (made == made) (same_point point point) (equal_to made made refl) (same_point-self point)

-- ---- expired coins

gone_from : (profile : Profile) (tip : ℕ) (coin : Coin) → expires_now profile tip coin ≡ true
    → (unless_expired profile tip (Some coin) ≡ Some coin) × (unless_expired profile (suc tip) (Some coin) ≡ None)
gone_from profile tip (New hash made) e = absurd (true≢false (sym e))
gone_from profile tip (Named name made) e =
    let parts = and_parts (not (is_expired profile made tip)) (is_expired profile made (suc tip)) e in
    (live_left profile tip name made (not-true (is_expired profile made tip) parts.0), ap (λ b. cond b None (Some (Named name made))) parts.1)

live_of : (name : List ℕ) (made : ℕ) (b : Bool) → cond b None (Some (Named name made)) ≡ Some (Named name made) → b ≡ false
live_of name made true e = absurd cc
live_of name made false e = refl

gone_of : (name : List ℕ) (made : ℕ) (b : Bool) → cond b None (Some (Named name made)) ≡ None → b ≡ true
gone_of name made true e = refl
gone_of name made false e = absurd cc

gone_to : (profile : Profile) (tip : ℕ) (coin : Coin) → unless_expired profile tip (Some coin) ≡ Some coin → unless_expired profile (suc tip) (Some coin) ≡ None
    → expires_now profile tip coin ≡ true
gone_to profile tip (New hash made) live gone = absurd cc
gone_to profile tip (Named name made) live gone =
    and_from (not (is_expired profile made tip)) (is_expired profile made (suc tip))
    (not_from_false (is_expired profile made tip) (live_of name made (is_expired profile made tip) live)) (gone_of name made (is_expired profile made (suc tip)) gone)

expired_from : (profile : Profile) (tip : ℕ) (maps : Maps) (held : HeldCoin) → just_expired profile tip maps held ≡ true → IsJustExpired profile tip maps held
expired_from profile tip maps held e =
    let parts = and_parts (is_none (maps.coins held.at)) (expires_now profile tip held.coin) e in
    let gone = gone_from profile tip held.coin parts.1 in
    record { free = none_from (maps.coins held.at) parts.0; live = gone.0; expired = gone.1 }

expired_to : (profile : Profile) (tip : ℕ) (maps : Maps) (held : HeldCoin) → IsJustExpired profile tip maps held → just_expired profile tip maps held ≡ true
expired_to profile tip maps held just =
    and_from (is_none (maps.coins held.at)) (expires_now profile tip held.coin) (none_to (maps.coins held.at) just.free) (gone_to profile tip held.coin just.live just.expired)

-- ---- operations

new_from : (tip : ℕ) (made : OutPoint) (maps : Maps) (coin : Option Coin) → maps.coins made ≡ coin → is_new_at tip coin ≡ true → IsMadeCommitment tip made maps
new_from tip made maps None is e = absurd (true≢false (sym e))
new_from tip made maps (Some (New hash height)) is e = record { hash = hash; held = is ∙ ap (λ (h : ℕ). Some (New hash h)) (equal_from height tip e) }
new_from tip made maps (Some (Named name height)) is e = absurd (true≢false (sym e))

pub record IsNamedAt (tip : ℕ) (coin : Option Coin) : Type 0 where
  pub name : List ℕ
  pub is : coin ≡ Some (Named name tip)

named_from : (tip : ℕ) (coin : Option Coin) → is_named_at tip coin ≡ true → IsNamedAt tip coin
named_from tip None e = absurd (true≢false (sym e))
named_from tip (Some (New hash height)) e = absurd (true≢false (sym e))
named_from tip (Some (Named name height)) e = record { name = name; is = ap (λ (h : ℕ). Some (Named name h)) (equal_from height tip e) }

item_from : (a b : Item) → same_item a b ≡ true → a ≡ b
item_from a b e =
    let one = and_parts (a.height == b.height) ((a.registered == b.registered) && (same_point a.at b.at && bytes_eq a.value b.value)) e in
    let two = and_parts (a.registered == b.registered) (same_point a.at b.at && bytes_eq a.value b.value) one.1 in
    let three = and_parts (same_point a.at b.at) (bytes_eq a.value b.value) two.1 in
    λ i. record {
      height = equal_from a.height b.height one.0 i;
      registered = equal_from a.registered b.registered two.0 i;
      at = same_point-true a.at b.at three.0 i;
      value = bytes_eq-true a.value b.value three.1 i;
    }

item_self : (a : Item) → same_item a a ≡ true
item_self a =
    and_from (a.height == a.height) ((a.registered == a.registered) && (same_point a.at a.at && bytes_eq a.value a.value)) (equal_to a.height a.height refl)
    (and_from (a.registered == a.registered) (same_point a.at a.at && bytes_eq a.value a.value) (equal_to a.registered a.registered refl)
    (and_from (same_point a.at a.at) (bytes_eq a.value a.value) (same_point-self a.at) (bytes_eq-self a.value)))

entry_from : (a b : Option Item) → same_entry a b ≡ true → a ≡ b
entry_from None None e = refl
entry_from None (Some b) e = absurd (true≢false (sym e))
entry_from (Some a) None e = absurd (true≢false (sym e))
entry_from (Some a) (Some b) e = ap (λ (i : Item). Some i) (item_from a b e)

entry_self : (a : Option Item) → same_entry a a ≡ true
entry_self None = refl
entry_self (Some a) = item_self a

-- the last item is the one made
pub record IsMadeLast (tip registered : ℕ) (made : OutPoint) (entry : Option Item) : Type 0 where
  pub value : List ℕ
  pub is : entry ≡ Some (record { height = tip; registered = registered; at = made; value = value })

made_from : (tip registered : ℕ) (made : OutPoint) (entry : Option Item) → is_made_item tip registered made entry ≡ true → IsMadeLast tip registered made entry
made_from tip registered made None e = absurd (true≢false (sym e))
made_from tip registered made (Some item) e =
    let one = and_parts (item.height == tip) ((item.registered == registered) && same_point item.at made) e in
    let two = and_parts (item.registered == registered) (same_point item.at made) one.1 in
    record {
      value = item.value;
      is = λ i. Some (record {
        height = equal_from item.height tip one.0 i;
        registered = equal_from item.registered registered two.0 i;
        at = same_point-true item.at made two.1 i;
        value = item.value;
      });
    }

made_self : (tip registered : ℕ) (made : OutPoint) → ((tip == tip) && ((registered == registered) && same_point made made)) ≡ true
made_self tip registered made =
    and_from (tip == tip) ((registered == registered) && same_point made made) (equal_to tip tip refl)
    (and_from (registered == registered) (same_point made made) (equal_to registered registered refl) (same_point-self made))

module _ (tip registered : ℕ) (made spent : OutPoint) (name : List ℕ) (before : Option Item) (maps : Maps) where
  abbrev Last : Option Item
  Last = entry_of (maps.names name)

  abbrev Front : Option Item
  Front = entry_of (without_entry (maps.names name))

  move_from : fits_move tip registered made spent name before maps ≡ true → IsMadeName tip registered made spent name before maps
  move_from e =
      let one = and_parts (is_named_at tip (maps.coins made)) (is_none (maps.coins spent) && ends_so tip registered made before (maps.names name)) e in
      let two = and_parts (is_none (maps.coins spent)) (ends_so tip registered made before (maps.names name)) one.1 in
      let three = and_parts (is_made_item tip registered made Last) (same_entry Front before) two.1 in
      let named = named_from tip (maps.coins made) one.0 in
      let last = made_from tip registered made Last three.0 in
      record {
        borne = named.name;
        value = last.value;
        held = named.is;
        last = last.is;
        before_is = entry_from Front before three.1;
        free = none_from (maps.coins spent) two.0;
      }

  move_to : IsMadeName tip registered made spent name before maps → fits_move tip registered made spent name before maps ≡ true
  move_to fits =
      and_from (is_named_at tip (maps.coins made)) (is_none (maps.coins spent) && ends_so tip registered made before (maps.names name))
      (ap (is_named_at tip) fits.held ∙ equal_to tip tip refl)
      (and_from (is_none (maps.coins spent)) (ends_so tip registered made before (maps.names name)) (none_to (maps.coins spent) fits.free)
      (and_from (is_made_item tip registered made Last) (same_entry Front before) (ap (is_made_item tip registered made) fits.last ∙ made_self tip registered made)
      (ap (λ (x : Option Item). same_entry x before) fits.before_is ∙ entry_self before)))

update_from : (tip : ℕ) (made spent : OutPoint) (name : List ℕ) (before : Option Item) (maps : Maps) → fits_update tip made spent name before maps ≡ true
    → IsMadeUpdate tip made spent name before maps
update_from tip made spent name None maps e = true≢false (sym e)
update_from tip made spent name (Some before) maps e = move_from tip before.registered made spent name (Some before) maps e

update_to : (tip : ℕ) (made spent : OutPoint) (name : List ℕ) (before : Option Item) (maps : Maps) → IsMadeUpdate tip made spent name before maps
    → fits_update tip made spent name before maps ≡ true
update_to tip made spent name None maps fits = absurd fits
update_to tip made spent name (Some before) maps fits = move_to tip before.registered made spent name (Some before) maps fits

op_fits_from : (tip : ℕ) (op : UndoOp) (maps : Maps) → fits_op tip op maps ≡ true → FitsOp tip op maps
op_fits_from tip (undo_new made) maps e = new_from tip made maps (maps.coins made) refl e
op_fits_from tip (undo_first made spent coin name before) maps e = move_from tip tip made spent name before maps e
op_fits_from tip (undo_update made spent coin name before) maps e = update_from tip made spent name before maps e

op_fits_to : (tip : ℕ) (op : UndoOp) (maps : Maps) → FitsOp tip op maps → fits_op tip op maps ≡ true
op_fits_to tip (undo_new made) maps fits = ap (is_new_at tip) fits.held ∙ equal_to tip tip refl
op_fits_to tip (undo_first made spent coin name before) maps fits = move_to tip tip made spent name before maps fits
op_fits_to tip (undo_update made spent coin name before) maps fits = update_to tip made spent name before maps fits

pub ops_fit_from : (tip : ℕ) (ops : List UndoOp) (maps : Maps) → fits_ops tip ops maps ≡ true → FitsOps tip ops maps
ops_fit_from tip [] maps e = tt
ops_fit_from tip (op ∷ ops) maps e =
    let parts = and_parts (fits_ops tip ops maps) (fits_op tip op (back_ops ops maps)) e in
    (ops_fit_from tip ops maps parts.0, op_fits_from tip op (back_ops ops maps) parts.1)

pub ops_fit_to : (tip : ℕ) (ops : List UndoOp) (maps : Maps) → FitsOps tip ops maps → fits_ops tip ops maps ≡ true
ops_fit_to tip [] maps fit = refl
ops_fit_to tip (op ∷ ops) maps fit =
    and_from (fits_ops tip ops maps) (fits_op tip op (back_ops ops maps)) (ops_fit_to tip ops maps fit.0) (op_fits_to tip op (back_ops ops maps) fit.1)

-- ---- coins that names ask for

coin_from : (name : List ℕ) (height : ℕ) (coin : Option Coin) → is_coin_of name height coin ≡ true → coin ≡ Some (Named name height)
coin_from name height None e = absurd (true≢false (sym e))
coin_from name height (Some (New hash made)) e = absurd (true≢false (sym e))
coin_from name height (Some (Named other made)) e =
    let parts = and_parts (bytes_eq other name) (made == height) e in
    λ i. Some (Named (bytes_eq-true other name parts.0 i) (equal_from made height parts.1 i))

coin_to : (name : List ℕ) (height : ℕ) (coin : Option Coin) → coin ≡ Some (Named name height) → is_coin_of name height coin ≡ true
coin_to name height coin e = ap (is_coin_of name height) e ∙ and_from (bytes_eq name name) (height == height) (bytes_eq-self name) (equal_to height height refl)

pub had_from : (profile : Profile) (tip : ℕ) (maps : Maps) (name : List ℕ) → has_its_coin profile tip maps name ≡ true → HasItsCoin profile tip maps name
had_from profile tip maps name e item entry live =
    let test : (is_expired profile item.height (suc tip) || is_coin_of name item.height (maps.coins item.at)) ≡ true = sym (ap (entry_has_coin profile tip maps.coins name) entry) ∙ e in
    ⊎_elim (λ expired. absurd (true≢false (sym expired ∙ live))) (λ has. coin_from name item.height (maps.coins item.at) has)
    (or_cases (is_expired profile item.height (suc tip)) (is_coin_of name item.height (maps.coins item.at)) test)

pub had_to : (profile : Profile) (tip : ℕ) (maps : Maps) (name : List ℕ) → HasItsCoin profile tip maps name → has_its_coin profile tip maps name ≡ true
had_to profile tip maps name has = by (entry_of (maps.names name)) refl
  where
    live_or : (item : Item) → entry_of (maps.names name) ≡ Some item → (b : Bool) → is_expired profile item.height (suc tip) ≡ b → (b || is_coin_of name item.height (maps.coins item.at)) ≡ true
    live_or item is true e = refl
    live_or item is false e = coin_to name item.height (maps.coins item.at) (has item is e)

    by : (entry : Option Item) → entry_of (maps.names name) ≡ entry → entry_has_coin profile tip maps.coins name entry ≡ true
    by None is = refl
    by (Some item) is = live_or item is (is_expired profile item.height (suc tip)) refl

asked_from : (profile : Profile) (tip : ℕ) (maps : Maps) (point : OutPoint) (coin : Coin) → not_asked_coin profile tip maps point coin ≡ true → NotAskedCoin profile tip maps point coin
asked_from profile tip maps point (New hash made) e = tt
asked_from profile tip maps point (Named name made) e = λ other item entry height at.
    let here : is_item_at made point (entry_of (maps.names name)) ≡ true = ap (is_item_at made point) entry ∙ and_from (item.height == made) (same_point item.at point) (equal_to item.height made height) (ap (λ q. same_point q point) at ∙ same_point-self point) in
    ⊎_elim (λ now. absurd (other (equal_from made tip now)))
    (λ rest. ⊎_elim (λ no. absurd (true≢false (sym here ∙ not-true (is_item_at made point (entry_of (maps.names name))) no))) (λ expired. expired)
    (or_cases (not (is_item_at made point (entry_of (maps.names name)))) (is_expired profile made (suc tip)) rest))
    (or_cases (made == tip) (not (is_item_at made point (entry_of (maps.names name))) || is_expired profile made (suc tip)) e)

asked_to : (profile : Profile) (tip : ℕ) (maps : Maps) (point : OutPoint) (coin : Coin) → NotAskedCoin profile tip maps point coin → not_asked_coin profile tip maps point coin ≡ true
asked_to profile tip maps point (New hash made) so = refl
asked_to profile tip maps point (Named name made) so = by (made == tip) refl
  where
    inner : made ≢ tip → (here : Bool) → is_item_at made point (entry_of (maps.names name)) ≡ here → (not here || is_expired profile made (suc tip)) ≡ true
    inner other false is = refl
    inner other true is =
        let last = last_from made point (maps.names name) (entry_of (maps.names name)) refl is in
        so other (record { height = made; registered = last.registered; at = point; value = last.value }) last.last refl refl

    by : (b : Bool) → (made == tip) ≡ b → (b || (not (is_item_at made point (entry_of (maps.names name))) || is_expired profile made (suc tip))) ≡ true
    by true is = refl
    by false is = inner (λ e. true≢false (sym (equal_to made tip e) ∙ is)) (is_item_at made point (entry_of (maps.names name))) refl

before_from : (profile : Profile) (tip : ℕ) (maps : Maps) (op : UndoOp) → op_before profile tip maps op ≡ true → HadCoin profile tip maps op × NotAsked profile tip maps op
before_from profile tip maps (undo_new made) e = (tt, tt)
before_from profile tip maps (undo_first made spent coin name before) e =
    let parts = and_parts (has_its_coin profile tip maps name) (not_asked_coin profile tip maps spent coin) e in
    (had_from profile tip maps name parts.0, asked_from profile tip maps spent coin parts.1)
before_from profile tip maps (undo_update made spent coin name before) e =
    let parts = and_parts (has_its_coin profile tip maps name) (not_asked_coin profile tip maps spent coin) e in
    (had_from profile tip maps name parts.0, asked_from profile tip maps spent coin parts.1)

before_to : (profile : Profile) (tip : ℕ) (maps : Maps) (op : UndoOp) → HadCoin profile tip maps op → NotAsked profile tip maps op → op_before profile tip maps op ≡ true
before_to profile tip maps (undo_new made) had so = refl
before_to profile tip maps (undo_first made spent coin name before) had so =
    and_from (has_its_coin profile tip maps name) (not_asked_coin profile tip maps spent coin) (had_to profile tip maps name had) (asked_to profile tip maps spent coin so)
before_to profile tip maps (undo_update made spent coin name before) had so =
    and_from (has_its_coin profile tip maps name) (not_asked_coin profile tip maps spent coin) (had_to profile tip maps name had) (asked_to profile tip maps spent coin so)

befores_to : (profile : Profile) (tip : ℕ) (maps : Maps) (ops : List UndoOp) → AllByRecursion (HadCoin profile tip maps) ops → AllByRecursion (NotAsked profile tip maps) ops
    → all_by (op_before profile tip maps) ops ≡ true
befores_to profile tip maps [] had so = refl
befores_to profile tip maps (op ∷ ops) had so =
    and_from (op_before profile tip maps op) (all_by (op_before profile tip maps) ops) (before_to profile tip maps op had.0 so.0) (befores_to profile tip maps ops had.1 so.1)

-- ---- coins that were put back

stands_from : (profile : Profile) (tip : ℕ) (left : Maps) (point : OutPoint) (coin : Option Coin) → stands_if_named profile tip left.names point coin ≡ true → StandsIfNamed profile tip left point coin
stands_from profile tip left point None e = tt
stands_from profile tip left point (Some (New hash made)) e = tt
stands_from profile tip left point (Some (Named name made)) e =
    let parts = and_parts (not (is_expired profile made tip)) (is_item_at made point (entry_of (left.names name))) e in
    record { is_last = last_from made point (left.names name) (entry_of (left.names name)) refl parts.1; live = not-true (is_expired profile made tip) parts.0 }

stands_to : (profile : Profile) (tip : ℕ) (left : Maps) (point : OutPoint) (coin : Option Coin) → StandsIfNamed profile tip left point coin → stands_if_named profile tip left.names point coin ≡ true
stands_to profile tip left point None stands = refl
stands_to profile tip left point (Some (New hash made)) stands = refl
stands_to profile tip left point (Some (Named name made)) stands =
    and_from (not (is_expired profile made tip)) (is_item_at made point (entry_of (left.names name))) (not_from_false (is_expired profile made tip) stands.live)
    (last_to made point (left.names name) stands.is_last)

spent_from : (profile : Profile) (tip : ℕ) (left : Maps) (op : UndoOp) → op_after profile tip left op ≡ true → SpentStands profile tip left op
spent_from profile tip left (undo_new made) e = tt
spent_from profile tip left (undo_first made spent coin name before) e = stands_from profile tip left spent (left.coins spent) e
spent_from profile tip left (undo_update made spent coin name before) e = stands_from profile tip left spent (left.coins spent) e

spent_to : (profile : Profile) (tip : ℕ) (left : Maps) (op : UndoOp) → SpentStands profile tip left op → op_after profile tip left op ≡ true
spent_to profile tip left (undo_new made) stands = refl
spent_to profile tip left (undo_first made spent coin name before) stands = stands_to profile tip left spent (left.coins spent) stands
spent_to profile tip left (undo_update made spent coin name before) stands = stands_to profile tip left spent (left.coins spent) stands

-- ---- the step

module _ (profile : Profile) (tip : ℕ) (u : UndoRecord) (maps : Maps) where
  abbrev Left : Maps
  Left = undone u.ops u.expired maps

  pub step_from : IsWithinLimits u → step_fits profile tip u maps ≡ true → IsStepByLists profile tip u maps Left
  step_from limits e =
      let one = and_parts (all_by (just_expired profile tip maps) u.expired && all_by (op_before profile tip maps) u.ops) (fits_ops tip u.ops (with_restored u.expired maps) && (all_by (op_after profile tip Left) u.ops && all_by (held_after profile tip Left) u.expired)) e in
      let before = and_parts (all_by (just_expired profile tip maps) u.expired) (all_by (op_before profile tip maps) u.ops) one.0 in
      let two = and_parts (fits_ops tip u.ops (with_restored u.expired maps)) (all_by (op_after profile tip Left) u.ops && all_by (held_after profile tip Left) u.expired) one.1 in
      let after = and_parts (all_by (op_after profile tip Left) u.ops) (all_by (held_after profile tip Left) u.expired) two.1 in
      record {
        limits = limits;
        fits = record {
          expired = all_from (just_expired profile tip maps) (IsJustExpired profile tip maps) u.expired (expired_from profile tip maps) before.0;
          ops = ops_fit_from tip u.ops (with_restored u.expired maps) two.0;
        };
        had_coin = all_from (op_before profile tip maps) (HadCoin profile tip maps) u.ops (λ op test. (before_from profile tip maps op test).0) before.1;
        not_asked = all_from (op_before profile tip maps) (NotAsked profile tip maps) u.ops (λ op test. (before_from profile tip maps op test).1) before.1;
        spent = all_from (op_after profile tip Left) (SpentStands profile tip Left) u.ops (spent_from profile tip Left) after.0;
        expired = all_from (held_after profile tip Left) (HeldStands profile tip Left) u.expired (λ held test. stands_from profile tip Left held.at (Left.coins held.at) test) after.1;
      }

  pub step_to : IsStepByLists profile tip u maps Left → step_fits profile tip u maps ≡ true
  step_to step =
      and_from (all_by (just_expired profile tip maps) u.expired && all_by (op_before profile tip maps) u.ops) (fits_ops tip u.ops (with_restored u.expired maps) && (all_by (op_after profile tip Left) u.ops && all_by (held_after profile tip Left) u.expired))
      (and_from (all_by (just_expired profile tip maps) u.expired) (all_by (op_before profile tip maps) u.ops)
      (all_to (just_expired profile tip maps) (IsJustExpired profile tip maps) u.expired (expired_to profile tip maps) step.fits.expired)
      (befores_to profile tip maps u.ops step.had_coin step.not_asked))
      (and_from (fits_ops tip u.ops (with_restored u.expired maps)) (all_by (op_after profile tip Left) u.ops && all_by (held_after profile tip Left) u.expired) (ops_fit_to tip u.ops (with_restored u.expired maps) step.fits.ops)
      (and_from (all_by (op_after profile tip Left) u.ops) (all_by (held_after profile tip Left) u.expired)
      (all_to (op_after profile tip Left) (SpentStands profile tip Left) u.ops (spent_to profile tip Left) step.spent)
      (all_to (held_after profile tip Left) (HeldStands profile tip Left) u.expired (λ held stands. stands_to profile tip Left held.at (Left.coins held.at) stands) step.expired)))
