-- All coins of an image and of its records are fewer than 2^32 where its text is no longer than 2^37 bytes: each has an outpoint
-- there, of more than 32 bytes.
use Rattle.std.proofs.Common.{◌≡◌, ℕ, ◌+◌, ◌*◌, ◌^◌, ◌≤◌, Bool, true, false, cond, List, [], ◌∷◌, ◌++◌, length, reverse, refl, ap, ◌∙◌, arith, length-append}
use Rattle.std.specs.Prelude.{Option, Some, None}
use Rattle.std.specs.Int.{w32, to_le_bytes}
use Rattle.std.specs.List.{flat_map, AllByRecursion, list_any}
use Rattle.std.proofs.lemmas.Bool.{or_left, or_right}
use Rattle.std.proofs.lemmas.List.{reverse-append}
use Rattle.nmc_base.specs.declared.hashes.OutPoint.{OutPoint}
use Rattle.chain_names.specs.declared.coin.Coin.{Coin}
use Rattle.chain_names.specs.declared.coin.HeldCoin.{HeldCoin}
use Rattle.chain_names.specs.declared.undo.UndoOp.{UndoOp}
use Rattle.chain_names.specs.declared.undo.UndoOp.TheVariants.{New as op_new, First, Update}
use Rattle.chain_names.specs.Expired.{points_of}
use Rattle.chain_names.specs.Points.{same_point}
use Rattle.chain_names.specs.Undo.{UndoRecord}
use Rattle.chain_names.specs.Writable.{Change, change_of, IsWritablePoint, IsWritableOp, IsWritableHeld, IsWritable}
use Rattle.chain_names.proofs.Points.{same_point-comm}
use Rattle.sound_states.specs.Touched.{spent_points, points_put_back, points_below}
use Rattle.sound_states.specs.Walk.{HasFewCoins}
use Rattle.undo_records.specs.Text.{point_text, coin_text, name_text, before_text, change_text, op_text, held_text, undo_text}
use Rattle.image_grammar.specs.Image.{Image, IsWritableEntry, HasText, coins_listed, maps_listed}
use Rattle.image_grammar.specs.Text.{head_text, counted_text, history_text, image_text}
use Rattle.undo_records.specs.declared.version.Version.{Version}

-- ---- lengths

pub point_long : (p : OutPoint) → IsWritablePoint p → 32 ≤ length (point_text p)
unfolding point_text
point_long p fits = omega (arith, fits.txid, length-append p.txid.0 (to_le_bytes w32 p.index))

pub held_long : (held : HeldCoin) → IsWritablePoint held.at → 32 ≤ length (held_text held)
unfolding held_text
held_long held fits = omega (arith, point_long held.at fits, length-append (point_text held.at) (coin_text held.coin))

change_long : (version : Version) (c : Change) → IsWritablePoint c.spent → 32 ≤ length (change_text version c)
unfolding change_text
change_long version c fits =
    let behind : List ℕ = coin_text c.coin ++ (name_text c.name ++ before_text version c.before) in
    omega (arith, point_long c.spent fits, length-append (point_text c.made) (point_text c.spent ++ behind), length-append (point_text c.spent) behind)

ops_long : (version : Version) (ops : List UndoOp) → AllByRecursion IsWritableOp ops → 32 * length (spent_points ops) ≤ length (flat_map (op_text version) ops)
unfolding op_text
ops_long version [] fits = omega arith
ops_long version (op_new made ∷ ops) fits = omega (arith, ops_long version ops fits.1, length-append (op_text version (op_new made)) (flat_map (op_text version) ops))
ops_long version (First made spent coin name before ∷ ops) fits =
    let c : Change = change_of made spent coin name before in
    omega (arith, change_long version c fits.0.spent, ops_long version ops fits.1, length-append (change_text version c) (flat_map (op_text version) ops))
ops_long version (Update made spent coin name before ∷ ops) fits =
    let c : Change = change_of made spent coin name before in
    omega (arith, change_long version c fits.0.spent, ops_long version ops fits.1, length-append (change_text version c) (flat_map (op_text version) ops))

expired_long : (helds : List HeldCoin) → AllByRecursion IsWritableHeld helds → 32 * length (points_of helds) ≤ length (flat_map held_text helds)
expired_long [] fits = omega arith
expired_long (held ∷ helds) fits = omega (arith, held_long held fits.0.at, expired_long helds fits.1, length-append (held_text held) (flat_map held_text helds))

coins_long : (helds : List HeldCoin) → AllByRecursion IsWritableEntry helds → 32 * length (points_of helds) ≤ length (flat_map held_text helds)
coins_long [] fits = omega arith
coins_long (held ∷ helds) fits = omega (arith, held_long held fits.0.at, coins_long helds fits.1, length-append (held_text held) (flat_map held_text helds))

undo_long : (version : Version) (u : UndoRecord) → IsWritable u → 32 * length (points_put_back u) ≤ length (undo_text version u)
unfolding undo_text
undo_long version u fits =
    let gone : List ℕ = flat_map held_text u.expired in
    let behind : List ℕ = to_le_bytes w32 (length u.expired) ++ gone in
    let ops : List ℕ = flat_map (op_text version) u.ops ++ behind in
    let counted : List ℕ = to_le_bytes w32 (length u.ops) ++ ops in
    omega (
      arith,
      ops_long version u.ops fits.fits.ops,
      expired_long u.expired fits.fits.expired,
      length-append (spent_points u.ops) (points_of u.expired),
      length-append u.block.0 counted,
      length-append (to_le_bytes w32 (length u.ops)) ops,
      length-append (flat_map (op_text version) u.ops) behind,
      length-append (to_le_bytes w32 (length u.expired)) gone,
    )

undos_long : (version : Version) (us : List UndoRecord) → AllByRecursion IsWritable us → 32 * length (points_below us) ≤ length (flat_map (undo_text version) us)
undos_long version [] fits = omega arith
undos_long version (u ∷ us) fits =
    omega (arith, undo_long version u fits.0, undos_long version us fits.1, length-append (undo_text version u) (flat_map (undo_text version) us), length-append (points_put_back u) (points_below us))

-- ---- the newest first

below-append : (us vs : List UndoRecord) → length (points_below (us ++ vs)) ≡ length (points_below us) + length (points_below vs)
below-append [] vs = omega arith
below-append (u ∷ us) vs = omega (arith, below-append us vs, length-append (points_put_back u) (points_below (us ++ vs)), length-append (points_put_back u) (points_below us))

below-reverse : (us : List UndoRecord) → length (points_below (reverse us)) ≡ length (points_below us)
below-reverse [] = refl
below-reverse (u ∷ us) =
    let turned : length (points_below (reverse (u ∷ us))) ≡ length (points_below (reverse us ++ u ∷ [])) = ap (λ (vs : List UndoRecord). length (points_below vs)) (reverse-append (u ∷ []) us) in
    omega (arith, turned, below-append (reverse us) (u ∷ []), below-reverse us, length-append (points_put_back u) [], length-append (points_put_back u) (points_below us))

-- ---- few coins

listed : (helds : List HeldCoin) (point : OutPoint) (coin : Coin) → coins_listed helds point ≡ Some coin → list_any (same_point point) (points_of helds) ≡ true
listed [] point coin e = let bad : None ≡ Some coin = e in absurd cc
listed (held ∷ helds) point coin e = by held.coin (coins_listed helds point) (λ more. listed helds point coin more) (same_point held.at point) refl e
  where
    by : (here : Coin) (there : Option Coin) → (there ≡ Some coin → list_any (same_point point) (points_of helds) ≡ true) → (b : Bool) → same_point held.at point ≡ b → cond b (Some here) there ≡ Some coin
        → list_any (same_point point) (points_of (held ∷ helds)) ≡ true
    by here there go true is e = or_left (same_point point held.at) (list_any (same_point point) (points_of helds)) (same_point-comm point held.at ∙ is)
    by here there go false is e = or_right (same_point point held.at) (list_any (same_point point) (points_of helds)) (go e)

power : 2 ^ 37 ≡ 32 * 2 ^ 32
power = refl

pub few_coins : (version : Version) (image : Image) → HasText image → length (image_text version image) ≤ 2 ^ 37 → HasFewCoins (maps_listed image) (reverse image.undos)
few_coins version image has short = record {
  points = points_of image.coins;
  all = λ point coin held. listed image.coins point coin held;
  few =
      let names : List ℕ = counted_text (history_text version) image.names in
      let coins : List ℕ = flat_map held_text image.coins in
      let undos : List ℕ = flat_map (undo_text version) image.undos in
      let third : List ℕ = counted_text held_text image.coins ++ names in
      let second : List ℕ = counted_text (undo_text version) image.undos ++ third in
      omega (
        arith,
        short,
        power,
        undos_long version image.undos has.undos,
        coins_long image.coins has.coins,
        below-reverse image.undos,
        length-append (head_text version image.base) second,
        length-append (counted_text (undo_text version) image.undos) third,
        length-append (counted_text held_text image.coins) names,
        length-append (to_le_bytes w32 (length image.undos)) undos,
        length-append (to_le_bytes w32 (length image.coins)) coins,
      );
}
