-- What undoing operations leaves as it was, and what it changes.
use Rattle.std.proofs.Common.{◌≡◌, ◌≢◌, ℕ, Bool, true, false, cond, List, [], ◌∷◌, ◌⊎◌, inl, inr, ⊎_elim, refl, sym, ap, subst, ◌∙◌}
use Rattle.std.specs.Prelude.{Option, Some, None}
use Rattle.std.specs.List.{AllByRecursion, list_any}
use Rattle.std.proofs.lemmas.Bool.{or_parts, or_from, or_cases}
use Rattle.nmc_base.specs.declared.hashes.OutPoint.{OutPoint}
use Rattle.nmc_base.specs.declared.chain_ends.Profile.{Profile}
use Rattle.chain_names.specs.declared.coin.Coin.{Coin}
use Rattle.chain_names.specs.declared.coin.Coin.TheVariants.{New, Named}
use Rattle.chain_names.specs.declared.coin.HeldCoin.{HeldCoin}
use Rattle.chain_names.specs.declared.coin.Item.{Item}
use Rattle.chain_names.specs.declared.undo.UndoOp.{UndoOp}
use Rattle.chain_names.specs.declared.undo.UndoOp.TheVariants.{New as undo_new, First as undo_first, Update as undo_update}
use Rattle.chain_names.specs.Points.{same_point}
use Rattle.chain_names.specs.Coins.{Maps}
use Rattle.chain_names.specs.Changes.{without_entry, back_op, back_ops, restored, undone}
use Rattle.chain_names.specs.Expired.{is_held_at}
use Rattle.chain_names.specs.Undo.{UndoRecord}
use Rattle.chain_names.specs.Verdict.{made_at}
use Rattle.chain_names.specs.State.{IsLastItem}
use Rattle.chain_names.specs.Fits.{IsJustExpired, with_restored, IsMadeNamed, FitsOp, FitsOps, FitsState}
use Rattle.chain_names.proofs.Changed.{bytes_eq-true}
use Rattle.chain_names.proofs.Points.{same_point-true}
use Rattle.chain_names.proofs.PointLemmas.{apart}
use Rattle.chain_names.proofs.RestoreLemmas.{restored-elsewhere}
use Rattle.chain_names.proofs.Shown.{true_is_not_false}
use Rattle.chain_names.proofs.UndoableLemmas.{op_allows}
use Rattle.sound_states.specs.Touched.{changes, returns, is_changed, is_put_back}

-- ---- names that no operation changes

name_kept : (op : UndoOp) (maps : Maps) (name : List ℕ) → changes name op ≡ false → (back_op op maps).names name ≡ maps.names name
name_kept (undo_new made) maps name e = refl
name_kept (undo_first made spent coin moved before) maps name e = ap (λ b. cond b (without_entry (maps.names moved)) (maps.names name)) e
name_kept (undo_update made spent coin moved before) maps name e = ap (λ b. cond b (without_entry (maps.names moved)) (maps.names name)) e

names_kept : (ops : List UndoOp) (maps : Maps) (name : List ℕ) → list_any (changes name) ops ≡ false → (back_ops ops maps).names name ≡ maps.names name
names_kept [] maps name none = refl
names_kept (op ∷ ops) maps name none =
    let parts = or_parts (changes name op) (list_any (changes name) ops) none in
    name_kept op (back_ops ops maps) name parts.0 ∙ names_kept ops maps name parts.1

-- ---- coins that no operation puts back

less_held : (coins : OutPoint → Option Coin) (point : OutPoint) (coin : Coin) (b : Bool) → cond b None (coins point) ≡ Some coin → coins point ≡ Some coin
less_held coins point coin true e = absurd cc
less_held coins point coin false e = e

moved_held : (maps : Maps) (made spent point : OutPoint) (put coin : Coin) (s : Bool) → s ≡ false
    → cond s (Some put) (cond (same_point made point) None (maps.coins point)) ≡ Some coin → maps.coins point ≡ Some coin
moved_held maps made spent point put coin true is e = absurd (true_is_not_false is)
moved_held maps made spent point put coin false is e = less_held maps.coins point coin (same_point made point) e

coin_before : (op : UndoOp) (maps : Maps) (point : OutPoint) (coin : Coin) → returns point op ≡ false → (back_op op maps).coins point ≡ Some coin → maps.coins point ≡ Some coin
coin_before (undo_new made) maps point coin e held = less_held maps.coins point coin (same_point made point) held
coin_before (undo_first made spent put moved before) maps point coin e held = moved_held maps made spent point put coin (same_point spent point) e held
coin_before (undo_update made spent put moved before) maps point coin e held = moved_held maps made spent point put coin (same_point spent point) e held

coins_before : (ops : List UndoOp) (maps : Maps) (point : OutPoint) (coin : Coin) → list_any (returns point) ops ≡ false → (back_ops ops maps).coins point ≡ Some coin
    → maps.coins point ≡ Some coin
coins_before [] maps point coin none held = held
coins_before (op ∷ ops) maps point coin none held =
    let parts = or_parts (returns point op) (list_any (returns point) ops) none in
    coins_before ops maps point coin parts.1 (coin_before op (back_ops ops maps) point coin parts.0 held)

-- a coin that wasn't put back was there
pub was_there : (u : UndoRecord) (maps : Maps) (point : OutPoint) (coin : Coin) → is_put_back point u ≡ false → (undone u.ops u.expired maps).coins point ≡ Some coin
    → maps.coins point ≡ Some coin
was_there u maps point coin none held =
    let parts = or_parts (list_any (returns point) u.ops) (list_any (is_held_at point) u.expired) none in
    sym (restored-elsewhere maps.coins u.expired point parts.1) ∙ coins_before u.ops (with_restored u.expired maps) point coin parts.0 held

-- ---- coins that stay: those of another height than the tip's

not_made : (tip : ℕ) (coins : OutPoint → Option Coin) (made point : OutPoint) (first coin : Coin) → coins made ≡ Some first → made_at first ≡ tip
    → coins point ≡ Some coin → made_at coin ≢ tip → same_point made point ≡ false
not_made tip coins made point first coin e at held other = by (same_point made point) refl
  where
    by : (b : Bool) → same_point made point ≡ b → b ≡ false
    by true is =
        let both : Some first ≡ Some coin = sym e ∙ ap coins (same_point-true made point is) ∙ held in
        let same : first ≡ coin = cc in
        absurd (other (ap made_at (sym same) ∙ at))
    by false is = refl

moved_stays : (tip : ℕ) (maps : Maps) (made spent point : OutPoint) (put coin : Coin) → IsMadeNamed tip made spent maps → maps.coins point ≡ Some coin → made_at coin ≢ tip
    → cond (same_point spent point) (Some put) (cond (same_point made point) None (maps.coins point)) ≡ Some coin
moved_stays tip maps made spent point put coin fits held other =
    ap (λ b. cond b (Some put) (cond (same_point made point) None (maps.coins point))) (apart maps.coins spent point coin fits.free held)
    ∙ ap (λ b. cond b None (maps.coins point)) (not_made tip maps.coins made point (Named fits.name tip) coin fits.held refl held other)
    ∙ held

coin_stays : (tip : ℕ) (op : UndoOp) (maps : Maps) (point : OutPoint) (coin : Coin) → FitsOp tip op maps → maps.coins point ≡ Some coin → made_at coin ≢ tip
    → (back_op op maps).coins point ≡ Some coin
coin_stays tip (undo_new made) maps point coin fits held other =
    ap (λ b. cond b None (maps.coins point)) (not_made tip maps.coins made point (New fits.hash tip) coin fits.held refl held other) ∙ held
coin_stays tip (undo_first made spent put moved before) maps point coin fits held other =
    moved_stays tip maps made spent point put coin (op_allows tip (undo_first made spent put moved before) maps fits) held other
coin_stays tip (undo_update made spent put moved before) maps point coin fits held other =
    moved_stays tip maps made spent point put coin (op_allows tip (undo_update made spent put moved before) maps fits) held other

pub coins_stay : (tip : ℕ) (ops : List UndoOp) (maps : Maps) (point : OutPoint) (coin : Coin) → FitsOps tip ops maps → maps.coins point ≡ Some coin → made_at coin ≢ tip
    → (back_ops ops maps).coins point ≡ Some coin
coins_stay tip [] maps point coin fits held other = held
coins_stay tip (op ∷ ops) maps point coin fits held other =
    coin_stays tip op (back_ops ops maps) point coin fits.1 (coins_stay tip ops maps point coin fits.0 held other) other

-- none of the expired coins is one of the state
not_listed : (profile : Profile) (tip : ℕ) (maps : Maps) (helds : List HeldCoin) (point : OutPoint) (coin : Coin) → AllByRecursion (IsJustExpired profile tip maps) helds
    → maps.coins point ≡ Some coin → list_any (is_held_at point) helds ≡ false
not_listed profile tip maps [] point coin all held = refl
not_listed profile tip maps (first ∷ helds) point coin all held =
    or_from (same_point first.at point) (list_any (is_held_at point) helds) (apart maps.coins first.at point coin all.0.free held)
    (not_listed profile tip maps helds point coin all.1 held)

pub held_restored : (profile : Profile) (tip : ℕ) (u : UndoRecord) (maps : Maps) (point : OutPoint) (coin : Coin) → FitsState profile tip u maps → maps.coins point ≡ Some coin
    → restored u.expired maps.coins point ≡ Some coin
held_restored profile tip u maps point coin fits held =
    restored-elsewhere maps.coins u.expired point (not_listed profile tip maps u.expired point coin fits.expired held) ∙ held

pub stays : (profile : Profile) (tip : ℕ) (u : UndoRecord) (maps : Maps) (point : OutPoint) (coin : Coin) → FitsState profile tip u maps → maps.coins point ≡ Some coin
    → made_at coin ≢ tip → (undone u.ops u.expired maps).coins point ≡ Some coin
stays profile tip u maps point coin fits held other =
    coins_stay tip u.ops (with_restored u.expired maps) point coin fits.ops (held_restored profile tip u maps point coin fits held) other

-- ---- the names that operations change have a last item of the tip's height

pub record IsLastAt (tip : ℕ) (items : List Item) : Type 0 where
  pub point : OutPoint
  pub last : IsLastItem items tip point

last_of : (tip : ℕ) (op : UndoOp) (maps : Maps) (name : List ℕ) → FitsOp tip op maps → changes name op ≡ true → IsLastAt tip (maps.names name)
last_of tip (undo_new made) maps name fits e = absurd (true_is_not_false (sym e))
last_of tip (undo_first made spent coin moved before) maps name fits e =
    subst (λ n. IsLastAt tip (maps.names n)) (bytes_eq-true moved name e) (record { point = made; last = record { registered = tip; value = fits.value; last = fits.last } })
last_of tip (undo_update made spent coin moved None) maps name fits e = absurd fits
last_of tip (undo_update made spent coin moved (Some before)) maps name fits e =
    subst (λ n. IsLastAt tip (maps.names n)) (bytes_eq-true moved name e) (record { point = made; last = record { registered = before.registered; value = fits.value; last = fits.last } })

last_changed-by : (tip : ℕ) (op : UndoOp) (ops : List UndoOp) (maps : Maps) (name : List ℕ) → FitsOp tip op (back_ops ops maps) → list_any (changes name) (op ∷ ops) ≡ true
    → (list_any (changes name) ops ≡ true → IsLastAt tip (maps.names name)) → (b : Bool) → list_any (changes name) ops ≡ b → IsLastAt tip (maps.names name)
last_changed-by tip op ops maps name fits e rest true is = rest is
last_changed-by tip op ops maps name fits e rest false is =
    let here : changes name op ≡ true =
    ⊎_elim (λ here. here) (λ there. absurd (true_is_not_false (sym there ∙ is))) (or_cases (changes name op) (list_any (changes name) ops) e) in
    subst (IsLastAt tip) (names_kept ops maps name is) (last_of tip op (back_ops ops maps) name fits here)

last_changed : (tip : ℕ) (ops : List UndoOp) (maps : Maps) (name : List ℕ) → FitsOps tip ops maps → list_any (changes name) ops ≡ true → IsLastAt tip (maps.names name)
last_changed tip [] maps name fits e = absurd (true_is_not_false (sym e))
last_changed tip (op ∷ ops) maps name fits e =
    last_changed-by tip op ops maps name fits.1 e (λ there. last_changed tip ops maps name fits.0 there) (list_any (changes name) ops) refl

pub changed_last : (profile : Profile) (tip : ℕ) (u : UndoRecord) (maps : Maps) (name : List ℕ) → FitsState profile tip u maps → is_changed name u ≡ true
    → IsLastAt tip (maps.names name)
changed_last profile tip u maps name fits e = last_changed tip u.ops (with_restored u.expired maps) name fits.ops e

-- the others keep their histories
pub name_stays : (u : UndoRecord) (maps : Maps) (name : List ℕ) → is_changed name u ≡ false → (undone u.ops u.expired maps).names name ≡ maps.names name
name_stays u maps name none = names_kept u.ops (with_restored u.expired maps) name none

-- ---- where a coin comes from

-- what an operation puts back is so
abbrev pub PutsBackSo : (OutPoint → Coin → Type 0) → UndoOp → Type 0
PutsBackSo P (undo_new made) = Unit {0}
PutsBackSo P (undo_first made spent coin moved before) = P spent coin
PutsBackSo P (undo_update made spent coin moved before) = P spent coin

module _ (P : OutPoint → Coin → Type 0) where
  -- of a coin that is put over what there was
  put_source : (spent point : OutPoint) (put coin : Coin) (was : Option Coin) → P spent put → (s : Bool) → same_point spent point ≡ s → cond s (Some put) was ≡ Some coin
      → (was ≡ Some coin) ⊎ P point coin
  put_source spent point put coin was so true is e =
      let same : put ≡ coin = cc in
      inr (subst (P point) same (subst (λ q. P q put) (same_point-true spent point is) so))
  put_source spent point put coin was so false is e = inl e

  moved_source : (coins : OutPoint → Option Coin) (made spent point : OutPoint) (put coin : Coin) → P spent put
      → cond (same_point spent point) (Some put) (cond (same_point made point) None (coins point)) ≡ Some coin → (coins point ≡ Some coin) ⊎ P point coin
  moved_source coins made spent point put coin so e =
      ⊎_elim (λ was. inl (less_held coins point coin (same_point made point) was)) (λ here. inr here)
      (put_source spent point put coin (cond (same_point made point) None (coins point)) so (same_point spent point) refl e)

  op_source : (op : UndoOp) (maps : Maps) (point : OutPoint) (coin : Coin) → PutsBackSo P op → (back_op op maps).coins point ≡ Some coin → (maps.coins point ≡ Some coin) ⊎ P point coin
  op_source (undo_new made) maps point coin so e = inl (less_held maps.coins point coin (same_point made point) e)
  op_source (undo_first made spent put moved before) maps point coin so e = moved_source maps.coins made spent point put coin so e
  op_source (undo_update made spent put moved before) maps point coin so e = moved_source maps.coins made spent point put coin so e

  ops_source : (ops : List UndoOp) (maps : Maps) (point : OutPoint) (coin : Coin) → AllByRecursion (PutsBackSo P) ops → (back_ops ops maps).coins point ≡ Some coin
      → (maps.coins point ≡ Some coin) ⊎ P point coin
  ops_source [] maps point coin all e = inl e
  ops_source (op ∷ ops) maps point coin all e =
      ⊎_elim (λ before. ops_source ops maps point coin all.1 before) (λ so. inr so) (op_source op (back_ops ops maps) point coin all.0 e)

  restored_source : (helds : List HeldCoin) (coins : OutPoint → Option Coin) (point : OutPoint) (coin : Coin) → AllByRecursion (λ (held : HeldCoin). P held.at held.coin) helds
      → restored helds coins point ≡ Some coin → (coins point ≡ Some coin) ⊎ P point coin
  restored_source [] coins point coin all e = inl e
  restored_source (held ∷ helds) coins point coin all e =
      ⊎_elim (λ before. restored_source helds coins point coin all.1 before) (λ so. inr so)
      (put_source held.at point held.coin coin (restored helds coins point) all.0 (same_point held.at point) refl e)

  -- a coin of what is left was there, or is so
  pub coin_source : (u : UndoRecord) (maps : Maps) (point : OutPoint) (coin : Coin) → AllByRecursion (PutsBackSo P) u.ops → AllByRecursion (λ (held : HeldCoin). P held.at held.coin) u.expired
      → (undone u.ops u.expired maps).coins point ≡ Some coin → (maps.coins point ≡ Some coin) ⊎ P point coin
  coin_source u maps point coin ops expired e =
      ⊎_elim (λ before. restored_source u.expired maps.coins point coin expired before) (λ so. inr so) (ops_source u.ops (with_restored u.expired maps) point coin ops e)
