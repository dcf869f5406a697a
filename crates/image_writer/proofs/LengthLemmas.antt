-- How long texts are.
use Rattle.std.proofs.Common.{◌≡◌, ℕ, ◌+◌, List, ◌++◌, length, arith, length-append}
use Rattle.std.specs.Int.{w16, w32, to_le_bytes}
use Rattle.std.specs.List.{flat_map}
use Rattle.nmc_base.specs.declared.hashes.OutPoint.{OutPoint}
use Rattle.nmc_base.specs.declared.hashes.Hash20.{Hash20}
use Rattle.chain_names.specs.declared.coin.Coin.TheVariants.{New, Named}
use Rattle.chain_names.specs.declared.coin.Item.{Item}
use Rattle.chain_names.specs.Measured.{IsMeasuredCoin, IsMeasuredItem}
use Rattle.chain_names.specs.Undo.{UndoRecord}
use Rattle.chain_names.specs.Writable.{IsWritablePoint, Change}
use Rattle.undo_records.specs.declared.version.Version.TheVariants.{Two}
use Rattle.undo_records.specs.Text.{point_text, name_text, coin_text, item_text, before_text, change_text, op_text, held_text, undo_text}
use Rattle.image_grammar.specs.Image.{History}
use Rattle.image_grammar.specs.Text.{counted_text, history_text}

pub point_length : (p : OutPoint) → IsWritablePoint p → length (point_text p) ≡ 36
unfolding point_text
point_length p fits = omega (arith, fits.txid, length-append p.txid.0 (to_le_bytes w32 p.index))

pub item_length : (item : Item) → IsMeasuredItem item → length (item_text Two item) ≡ 46 + length item.value
unfolding item_text
item_length item fits =
    let value : List ℕ = to_le_bytes w16 (length item.value) ++ item.value in
    omega (
      arith,
      point_length item.at fits.at,
      length-append (to_le_bytes w32 item.height) (to_le_bytes w32 item.registered ++ (point_text item.at ++ value)),
      length-append (to_le_bytes w32 item.registered) (point_text item.at ++ value),
      length-append (point_text item.at) value,
      length-append (to_le_bytes w16 (length item.value)) item.value,
    )

pub new_length : (at : OutPoint) (hash : Hash20) (height : ℕ) → IsMeasuredCoin at (New hash height) → length (held_text (record { at = at; coin = New hash height })) ≡ 61
unfolding held_text coin_text
new_length at hash height fits =
    omega (
      arith,
      fits.hash,
      point_length at fits.at,
      length-append (point_text at) (coin_text (New hash height)),
      length-append (to_le_bytes w32 height) hash.0,
    )

pub named_length : (at : OutPoint) (name : List ℕ) (height : ℕ) → IsMeasuredCoin at (Named name height) → length (held_text (record { at = at; coin = Named name height })) ≡ 41 + length (name_text name)
unfolding held_text coin_text
named_length at name height fits =
    omega (
      arith,
      point_length at fits.at,
      length-append (point_text at) (coin_text (Named name height)),
      length-append (to_le_bytes w32 height) (name_text name),
    )

pub change_length : (c : Change) → IsWritablePoint c.made
    → length (change_text Two c) ≡ 36 + (length (held_text (record { at = c.spent; coin = c.coin })) + (length (name_text c.name) + length (before_text Two c.before)))
unfolding change_text held_text
change_length c fits =
    let last : List ℕ = name_text c.name ++ before_text Two c.before in
    omega (
      arith,
      point_length c.made fits,
      length-append (point_text c.made) (point_text c.spent ++ (coin_text c.coin ++ last)),
      length-append (point_text c.spent) (coin_text c.coin ++ last),
      length-append (point_text c.spent) (coin_text c.coin),
      length-append (coin_text c.coin) last,
      length-append (name_text c.name) (before_text Two c.before),
    )

pub undo_length : (u : UndoRecord) → length u.block.0 ≡ 32 → length (undo_text Two u) ≡ 40 + (length (flat_map (op_text Two) u.ops) + length (flat_map held_text u.expired))
unfolding undo_text
undo_length u fits =
    let ops : List ℕ = flat_map (op_text Two) u.ops in
    let gone : List ℕ = flat_map held_text u.expired in
    let last : List ℕ = to_le_bytes w32 (length u.expired) ++ gone in
    omega (
      arith,
      fits,
      length-append u.block.0 (to_le_bytes w32 (length u.ops) ++ (ops ++ last)),
      length-append (to_le_bytes w32 (length u.ops)) (ops ++ last),
      length-append ops last,
      length-append (to_le_bytes w32 (length u.expired)) gone,
    )

pub history_length : (h : History) → length (history_text Two h) ≡ length (name_text h.name) + (4 + length (flat_map (item_text Two) h.items))
history_length h =
    let items : List ℕ = flat_map (item_text Two) h.items in
    omega (arith, length-append (name_text h.name) (counted_text (item_text Two) h.items), length-append (to_le_bytes w32 (length h.items)) items)
