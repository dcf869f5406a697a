-- What is read leaves fewer bytes, so that the steps of a reading come to an end.
use Rattle.std.proofs.Common.{◌≡◌, ◌≢◌, ℕ, zero, suc, ◌+◌, ◌*◌, ◌<◌, ◌≤◌, Bool, true, false, cond, nat_lt, List, [], ◌∷◌, length, take, drop, refl, ap, arith, length-drop}
use Rattle.std.specs.Prelude.{Option, Some, None, Ok, Err, ◌==◌, nat_le}
use Rattle.std.specs.Int.{Width, w16, w32, byte_len, from_le_bytes}
use Rattle.std.proofs.lemmas.Bool.{ltb-false}
use Rattle.block_grammar.specs.Combinators.{◌>>=◌, then_from, map_from}
use Rattle.block_grammar.proofs.ReaderLaws.{bind_ok, ok_is}
use Rattle.nmc_base.specs.declared.hashes.OutPoint.{OutPoint}
use Rattle.nmc_base.specs.declared.limits.TheConstants.{DIGEST_LENGTH, LONGEST_VALUE}
use Rattle.chain_names.specs.declared.coin.Coin.{Coin}
use Rattle.chain_names.specs.declared.coin.Item.{Item}
use Rattle.chain_names.specs.declared.undo.UndoOp.TheVariants.{New as op_new}
use Rattle.undo_records.specs.declared.fault.FaultKind.{FaultKind}
use Rattle.undo_records.specs.declared.fault.FaultKind.TheVariants.{Cut, BadTag, Unsorted}
use Rattle.undo_records.specs.declared.version.Version.{Version}
use Rattle.undo_records.specs.declared.version.Version.TheVariants.{One, Two}
use Rattle.undo_records.specs.Reading.{Reads, number_from, piece_from, byte_from, tagged_from, checked_from, name_from, value_length_from, value_from, point_from, new_coin_from, named_coin_from, registered_from, item_from, before_from, change_from, first_of, update_of, op_from, is_after, later_point_from, held_from}
use Rattle.image_grammar.specs.Reading.{head_of, head_from, exactly_from, version_from, profile_from, coin_from, entry_of_pair, entry_from, comes_after, later_name_from, item_count_from, history_head_from, undo_head_from, first_other, same_or_fault}
use Rattle.image_grammar.specs.Resuming.{Answer}
use Rattle.image_grammar.specs.Stages.{Gathered, Stage, head, in_undos, in_ops, at_expired, in_expired, at_coins, in_coins, at_names, in_names, in_items}
use Rattle.image_grammar.specs.Stages.{Standing, stands, nothing_of, begun, with_op, with_expired, closed, without_last, with_entry, named, with_item, opening_from, passes_to, step_at, step_from}
use Rattle.image_grammar.specs.Text.{magic, is_version, version_of, is_profile, profile_of}
use Rattle.image_grammar.specs.Work.{idle_steps, work_left}

-- so many bytes at least are read
abbrev pub Takes : {A : Type 0} → ℕ → Reads A → Type 0
Takes {A} n read = (bytes : List ℕ) (x : A × List ℕ) → read bytes ≡ Ok x → n + length x.1 ≤ length bytes

-- ---- readers of readers

module _ {A B : Type 0} (first : Reads A) (second : A → Reads B) where
  then_takes : (m n : ℕ) → Takes m first → ((x : A) → Takes n (second x)) → Takes (m + n) (then_from first second)
  then_takes m n t1 t2 bytes z e =
      let a = bind_ok (first bytes) (λ (x : A × List ℕ). second x.0 x.1 >>= λ (y : B × List ℕ). Ok ((x.0, y.0), y.1)) z e in
      let b = bind_ok (second a.0.0 a.0.1) (λ (y : B × List ℕ). Ok ((a.0.0, y.0), y.1)) z a.2 in
      let made = ok_is ((a.0.0, b.0.0), b.0.1) z b.2 in
      omega (arith, t1 bytes a.0 a.1, t2 a.0.0 a.0.1 b.0 b.1, ap (λ (w : (A × B) × List ℕ). length w.1) made)

map_takes : {A B : Type 0} (f : A → B) (read : Reads A) (n : ℕ) → Takes n read → Takes n (map_from f read)
map_takes {A = A} {B = B} f read n t bytes z e =
    let a = bind_ok (read bytes) (λ (x : A × List ℕ). Ok (f x.0, x.1)) z e in
    let made = ok_is (f a.0.0, a.0.1) z a.2 in
    omega (arith, t bytes a.0 a.1, ap (λ (w : B × List ℕ). length w.1) made)

checked_takes : {A : Type 0} (kind : FaultKind) (test : A → Bool) (read : Reads A) (n : ℕ) → Takes n read → Takes n (checked_from kind test read)
checked_takes {A = A} kind test read n t bytes z e =
    let a = bind_ok (read bytes) (λ (x : A × List ℕ). cond (test x.0) (Ok x) (Err (kind, bytes))) z e in
    by a.0 (t bytes a.0 a.1) (test a.0.0) a.2
  where
    by : (x : A × List ℕ) → n + length x.1 ≤ length bytes → (b : Bool) → cond {A = Answer A} b (Ok x) (Err (kind, bytes)) ≡ Ok z → n + length z.1 ≤ length bytes
    by x low true e' = omega (arith, low, ap (λ (w : A × List ℕ). length w.1) (ok_is x z e'))
    by x low false e' = absurd cc

tagged_takes : {A : Type 0} (tag : ℕ) (read : Reads A) → Takes 0 read → Takes 1 (tagged_from tag read)
tagged_takes tag read t [] z e = absurd cc
tagged_takes {A = A} tag read t (b ∷ bytes) z e = by (b == tag) e
  where
    by : (c : Bool) → cond c (read bytes) (Err (BadTag, b ∷ bytes)) ≡ Ok z → 1 + length z.1 ≤ suc (length bytes)
    by true e' = omega (arith, t bytes z e')
    by false e' = absurd cc

less_takes : {A : Type 0} (m n : ℕ) (read : Reads A) → m ≤ n → Takes n read → Takes m read
less_takes m n read low t bytes x e = omega (arith, t bytes x e)

-- ---- fields

module _ {A : Type 0} (g : List ℕ → A) (n : ℕ) where
  abbrev front_from : Reads A
  front_from bytes = cond (nat_lt (length bytes) n) (Err (Cut, [])) (Ok (g (take n bytes), drop n bytes))

  front_takes : Takes n front_from
  front_takes bytes z e = by (nat_lt (length bytes) n) refl e
    where
      by : (b : Bool) → nat_lt (length bytes) n ≡ b → cond {A = Answer A} b (Err (Cut, [])) (Ok (g (take n bytes), drop n bytes)) ≡ Ok z → n + length z.1 ≤ length bytes
      by true is e' = absurd cc
      by false is e' =
          let made = ok_is (g (take n bytes), drop n bytes) z e' in
          omega (arith, ltb-false (length bytes) n is, length-drop n bytes, ap (λ (w : A × List ℕ). length w.1) made)

number_takes : (w : Width) → Takes (byte_len w) (number_from w)
number_takes w = front_takes (from_le_bytes w) (byte_len w)

number_some : Takes 1 (number_from w32)
number_some = less_takes 1 4 (number_from w32) (omega arith) (number_takes w32)

number_none : (w : Width) → Takes 0 (number_from w)
number_none w = less_takes 0 (byte_len w) (number_from w) (omega arith) (number_takes w)

piece_none : (n : ℕ) → Takes 0 (piece_from n)
piece_none n = less_takes 0 n (piece_from n) (omega arith) (front_takes (λ bytes. bytes) n)

piece_some : Takes 1 (piece_from 32)
piece_some = less_takes 1 32 (piece_from 32) (omega arith) (front_takes (λ bytes. bytes) 32)

byte_takes : Takes 1 byte_from
byte_takes [] z e = absurd cc
byte_takes (b ∷ bytes) z e = omega (arith, ap (λ (w : ℕ × List ℕ). length w.1) (ok_is (b, bytes) z e))

name_takes : Takes 1 name_from
unfolding name_from
name_takes = map_takes _ _ 1 (then_takes byte_from piece_from 1 0 byte_takes piece_none)

value_none : Takes 0 value_from
unfolding value_from value_length_from
value_none = map_takes _ _ 0 (then_takes _ piece_from 0 0 (checked_takes BadTag (λ n. nat_le n LONGEST_VALUE) (number_from w16) 0 (number_none w16)) piece_none)

point_takes : Takes 1 point_from
unfolding point_from
point_takes = map_takes _ _ 1 (then_takes (piece_from 32) (λ _. number_from w32) 1 0 piece_some (λ _. number_none w32))

later_takes : (last : Option OutPoint) → Takes 1 (later_point_from last)
unfolding later_point_from
later_takes last = checked_takes Unsorted (is_after last) point_from 1 point_takes

-- ---- coins, items and operations

new_none : Takes 0 new_coin_from
unfolding new_coin_from
new_none = less_takes 0 1 _ (omega arith) (tagged_takes 1 _ (map_takes _ _ 0 (then_takes (number_from w32) (λ _. piece_from DIGEST_LENGTH) 0 0 (number_none w32) (λ _. piece_none DIGEST_LENGTH))))

named_none : Takes 0 named_coin_from
unfolding named_coin_from
named_none = less_takes 0 1 _ (omega arith) (tagged_takes 2 _ (map_takes _ _ 0 (then_takes (number_from w32) (λ _. name_from) 0 0 (number_none w32) (λ _. less_takes 0 1 name_from (omega arith) name_takes))))

coin_none : Takes 0 coin_from
coin_none [] z e = absurd cc
coin_none (b ∷ bytes) z e = by (b == 1) e
  where
    by : (c : Bool) → cond c (new_coin_from (b ∷ bytes)) (named_coin_from (b ∷ bytes)) ≡ Ok z → 0 + length z.1 ≤ length (b ∷ bytes)
    by true e' = new_none (b ∷ bytes) z e'
    by false e' = named_none (b ∷ bytes) z e'

entry_takes : (last : Option OutPoint) → Takes 1 (entry_from last)
entry_takes last = map_takes entry_of_pair _ 1 (then_takes (later_point_from last) (λ _. coin_from) 1 0 (later_takes last) (λ _. coin_none))

held_takes : (last : Option OutPoint) → Takes 1 (held_from last)
unfolding held_from
held_takes last = map_takes _ _ 1 (then_takes (later_point_from last) (λ _. named_coin_from) 1 0 (later_takes last) (λ _. named_none))

registered_none : (version : Version) → Takes 0 (registered_from version)
registered_none One bytes z e = omega (arith, ap (λ (w : ℕ × List ℕ). length w.1) (ok_is (0, bytes) z e))
registered_none Two bytes z e = number_none w32 bytes z e

item_takes : (version : Version) → Takes 1 (item_from version)
unfolding item_from
item_takes version =
    map_takes _ _ 1 (then_takes (number_from w32) _ 1 0 number_some (λ _. then_takes (registered_from version) _ 0 0 (registered_none version)
    (λ _. then_takes point_from (λ _. value_from) 0 0 (less_takes 0 1 point_from (omega arith) point_takes) (λ _. value_none))))

before_none : (version : Version) → Takes 0 (before_from version)
unfolding before_from
before_none version [] z e = absurd cc
before_none version (b ∷ bytes) z e = by (b == 0) (b == 1) e
  where
    by : (none some : Bool) → cond none (Ok (None, bytes)) (cond some (map_from (λ item. Some item) (item_from version) bytes) (Err (BadTag, b ∷ bytes))) ≡ Ok z → 0 + length z.1 ≤ length (b ∷ bytes)
    by true some e' = omega (arith, ap (λ (w : Option Item × List ℕ). length w.1) (ok_is (None, bytes) z e'))
    by false true e' = omega (arith, map_takes (λ item. Some item) (item_from version) 1 (item_takes version) bytes z e')
    by false false e' = absurd cc

change_none : (version : Version) (coin_from : Reads Coin) → Takes 0 coin_from → Takes 0 (change_from version coin_from)
unfolding change_from
change_none version coin_from coin =
    let point : Takes 0 point_from = less_takes 0 1 point_from (omega arith) point_takes in
    let name : Takes 0 name_from = less_takes 0 1 name_from (omega arith) name_takes in
    map_takes _ _ 0 (then_takes point_from _ 0 0 point (λ _. then_takes point_from _ 0 0 point (λ _. then_takes coin_from _ 0 0 coin (λ _. then_takes name_from (λ _. before_from version) 0 0 name (λ _. before_none version)))))

op_takes : (version : Version) → Takes 1 (op_from version)
unfolding op_from
op_takes version [] z e = absurd cc
op_takes version (b ∷ bytes) z e = by (b == 0x51) (b == 0x52) (b == 0x53) e
  where
    by : (x y w : Bool) → cond x (map_from (λ point. op_new point) point_from bytes) (cond y (map_from first_of (change_from version new_coin_from) bytes) (cond w (map_from update_of (change_from version named_coin_from) bytes) (Err (BadTag, b ∷ bytes)))) ≡ Ok z
        → 1 + length z.1 ≤ suc (length bytes)
    by true y w e' = omega (arith, map_takes (λ point. op_new point) point_from 1 point_takes bytes z e')
    by false true w e' = omega (arith, map_takes first_of (change_from version new_coin_from) 0 (change_none version new_coin_from new_none) bytes z e')
    by false false true e' = omega (arith, map_takes update_of (change_from version named_coin_from) 0 (change_none version named_coin_from named_none) bytes z e')
    by false false false e' = absurd cc

-- ---- heads

exactly_takes : (want : List ℕ) → Takes (length want) (exactly_from want)
exactly_takes want bytes z e =
    let a = bind_ok (piece_from (length want) bytes) (λ (x : List ℕ × List ℕ). same_or_fault x.0 x.1 (first_other want bytes)) z e in
    by a.0 (front_takes (λ bytes. bytes) (length want) bytes a.0 a.1) (first_other want bytes) a.2
  where
    by : (x : List ℕ × List ℕ) → length want + length x.1 ≤ length bytes → (other : List ℕ) → same_or_fault x.0 x.1 other ≡ Ok z → length want + length z.1 ≤ length bytes
    by x low [] e' = omega (arith, low, ap (λ (w : List ℕ × List ℕ). length w.1) (ok_is x z e'))
    by x low (b ∷ other) e' = absurd cc

-- the magic at least
pub opening_takes : Takes 4 opening_from
opening_takes =
    then_takes head_from (λ _. number_from w32) 4 0
    (map_takes head_of _ 4 (then_takes (exactly_from magic) _ 4 0 (exactly_takes magic) (λ _. then_takes version_from _ 0 0 (map_takes version_of _ 0 (checked_takes BadTag is_version byte_from 0 (less_takes 0 1 byte_from (omega arith) byte_takes)))
    (λ _. then_takes profile_from _ 0 0 (map_takes profile_of _ 0 (checked_takes BadTag is_profile byte_from 0 (less_takes 0 1 byte_from (omega arith) byte_takes)))
    (λ _. then_takes (number_from w32) (λ _. piece_from 32) 0 0 (number_none w32) (λ _. piece_none 32))))))
    (λ _. number_none w32)

undo_head_takes : Takes 1 undo_head_from
undo_head_takes = then_takes (piece_from 32) (λ _. number_from w32) 1 0 piece_some (λ _. number_none w32)

history_head_takes : (last : Option (List ℕ)) → Takes 1 (history_head_from last)
history_head_takes last =
    then_takes (later_name_from last) (λ _. item_count_from) 1 0 (checked_takes Unsorted (comes_after last) name_from 1 name_takes) (λ _. checked_takes BadTag (λ n. nat_le 1 n) (number_from w32) 0 (number_none w32))

-- ---- steps

-- a step that reads a value leaves less to do, if it leads to two idle steps at most
value_step : {A : Type 0} (f : A → Standing) (read : Reads A) (from to : ℕ) → ((x : A) → idle_steps (f x).stage ≡ to) → to ≤ 2 → Takes 1 read
    → (bytes : List ℕ) (z : Standing × List ℕ) → map_from f read bytes ≡ Ok z → work_left z.0.stage z.1 < from + 3 * length bytes
value_step {A = A} f read from to idle low takes bytes z e =
    let a = bind_ok (read bytes) (λ (x : A × List ℕ). Ok (f x.0, x.1)) z e in
    let made = ok_is (f a.0.0, a.0.1) z a.2 in
    omega (arith, takes bytes a.0 a.1, idle a.0.0, low, ap (λ (w : Standing × List ℕ). work_left w.0.stage w.1) made)

idle_step : (next : Standing) (bytes : List ℕ) (z : Standing × List ℕ) (from : ℕ) → idle_steps next.stage < from → passes_to next bytes ≡ Ok z → work_left z.0.stage z.1 < from + 3 * length bytes
idle_step next bytes z from low e = omega (arith, low, ap (λ (w : Standing × List ℕ). work_left w.0.stage w.1) (ok_is (next, bytes) z e))

ends_at : (version : Version) (stage : Stage) (g : Gathered) (bytes : List ℕ) (z : Standing × List ℕ) → stage ≢ in_names 0 → step_at version stage g bytes ≡ Ok z
    → work_left z.0.stage z.1 < work_left stage bytes
ends_at version head g bytes z on e = value_step (λ x. stands x.0.0 (in_undos x.1) (nothing_of x.0.1)) opening_from 0 1 (λ x. refl) (omega arith) (less_takes 1 4 opening_from (omega arith) opening_takes) bytes z e
ends_at version (in_undos zero) g bytes z on e = idle_step (stands version at_coins g) bytes z 1 (omega arith) e
ends_at version (in_undos (suc n)) g bytes z on e = value_step (λ x. stands version (in_ops x.1 n) (begun g x.0)) undo_head_from 1 1 (λ x. refl) (omega arith) undo_head_takes bytes z e
ends_at version (in_ops zero undos) g bytes z on e = idle_step (stands version (at_expired undos) g) bytes z 1 (omega arith) e
ends_at version (in_ops (suc n) undos) g bytes z on e = value_step (λ op. stands version (in_ops n undos) (with_op g op)) (op_from version) 1 1 (λ x. refl) (omega arith) (op_takes version) bytes z e
ends_at version (at_expired undos) g bytes z on e = value_step (λ n. stands version (in_expired n undos) g) (number_from w32) 0 2 (λ x. refl) (omega arith) number_some bytes z e
ends_at version (in_expired zero undos) g bytes z on e = idle_step (stands version (in_undos undos) (closed g)) bytes z 2 (omega arith) e
ends_at version (in_expired (suc n) undos) g bytes z on e = value_step (λ held. stands version (in_expired n undos) (with_expired g held)) (held_from g.last) 2 2 (λ x. refl) (omega arith) (held_takes g.last) bytes z e
ends_at version at_coins g bytes z on e = value_step (λ n. stands version (in_coins n) (without_last g)) (number_from w32) 0 1 (λ x. refl) (omega arith) number_some bytes z e
ends_at version (in_coins zero) g bytes z on e = idle_step (stands version at_names g) bytes z 1 (omega arith) e
ends_at version (in_coins (suc n)) g bytes z on e = value_step (λ held. stands version (in_coins n) (with_entry g held)) (entry_from g.last) 1 1 (λ x. refl) (omega arith) (entry_takes g.last) bytes z e
ends_at version at_names g bytes z on e = value_step (λ n. stands version (in_names n) g) (number_from w32) 0 0 (λ x. refl) (omega arith) number_some bytes z e
ends_at version (in_names zero) g bytes z on e = absurd (on refl)
ends_at version (in_names (suc n)) g bytes z on e = value_step (λ x. stands version (in_items x.1 n) (named g x.0)) (history_head_from g.name) 0 1 (λ x. refl) (omega arith) (history_head_takes g.name) bytes z e
ends_at version (in_items zero names) g bytes z on e = idle_step (stands version (in_names names) g) bytes z 1 (omega arith) e
ends_at version (in_items (suc n) names) g bytes z on e = value_step (λ item. stands version (in_items n names) (with_item g item)) (item_from version) 1 1 (λ x. refl) (omega arith) (item_takes version) bytes z e

-- but behind the last name, a step reads a byte at least, or leads on to where fewer steps read none
pub step_ends : (s : Standing) (bytes : List ℕ) (x : Standing × List ℕ) → s.stage ≢ in_names 0 → step_from s bytes ≡ Ok x → work_left x.0.stage x.1 < work_left s.stage bytes
step_ends s bytes x on e = ends_at s.version s.stage s.gathered bytes x on e
