-- The values of an image are read in any pieces.
use Rattle.std.proofs.Common.{◌≡◌, ℕ, ◌≤◌, Bool, true, false, cond, nat_lt, List, [], ◌∷◌, ◌++◌, length, take, drop, inl, inr, refl, ap, ◌∙◌, arith}
use Rattle.std.specs.Prelude.{Option, Some, None, Ok, Err, ◌==◌, nat_le}
use Rattle.std.specs.Int.{w16, w32}
use Rattle.std.proofs.lemmas.Bool.{ltb-false}
use Rattle.nmc_base.specs.declared.hashes.OutPoint.{OutPoint}
use Rattle.nmc_base.specs.declared.limits.TheConstants.{DIGEST_LENGTH, LONGEST_VALUE}
use Rattle.chain_names.specs.declared.coin.Coin.{Coin}
use Rattle.chain_names.specs.declared.undo.UndoOp.TheVariants.{New as op_new}
use Rattle.block_grammar.specs.Combinators.{◌>>=◌, then_from, map_from}
use Rattle.undo_records.specs.declared.fault.FaultKind.TheVariants.{Cut, BadTag, Unsorted}
use Rattle.undo_records.specs.declared.version.Version.{Version}
use Rattle.undo_records.specs.declared.version.Version.TheVariants.{One, Two}
use Rattle.undo_records.specs.Reading.{Reads, number_from, piece_from, byte_from, name_from, value_length_from, value_from, point_from, new_coin_from, named_coin_from, registered_from, item_from, before_from, change_from, first_of, update_of, op_from, is_after, later_point_from, held_from}
use Rattle.image_grammar.specs.Resuming.{Answer, grown, Stands, IsStable}
use Rattle.image_grammar.specs.Text.{magic, is_version, version_of, is_profile, profile_of}
use Rattle.image_grammar.specs.Reading.{first_other, same_or_fault, exactly_from, version_from, profile_from, head_of, head_from, coin_from, entry_of_pair, entry_from, comes_after, later_name_from, history_head_from, undo_head_from}
use Rattle.image_grammar.specs.Stages.{opening_from}
use Rattle.image_grammar.proofs.StableLaws.{then_stable, map_stable, number_stable, piece_stable, byte_stable, tagged_stable, checked_stable}

-- ---- names, outpoints and coins

name_stable : IsStable name_from
unfolding name_from
name_stable = map_stable _ _ (then_stable byte_from piece_from byte_stable piece_stable)

point_stable : IsStable point_from
unfolding point_from
point_stable = map_stable _ _ (then_stable (piece_from 32) (λ _. number_from w32) (piece_stable 32) (λ _. number_stable w32))

new_stable : IsStable new_coin_from
unfolding new_coin_from
new_stable = tagged_stable 1 _ (map_stable _ _ (then_stable (number_from w32) (λ _. piece_from DIGEST_LENGTH) (number_stable w32) (λ _. piece_stable DIGEST_LENGTH)))

named_stable : IsStable named_coin_from
unfolding named_coin_from
named_stable = tagged_stable 2 _ (map_stable _ _ (then_stable (number_from w32) (λ _. name_from) (number_stable w32) (λ _. name_stable)))

coin_stable : IsStable coin_from
coin_stable [] more = inl refl
coin_stable (b ∷ bytes) more = by (b == 1) refl
  where
    by : (t : Bool) → (b == 1) ≡ t → Stands more (cond t (new_coin_from (b ∷ bytes)) (named_coin_from (b ∷ bytes))) (cond t (new_coin_from (b ∷ (bytes ++ more))) (named_coin_from (b ∷ (bytes ++ more))))
    by true is = new_stable (b ∷ bytes) more
    by false is = named_stable (b ∷ bytes) more

later_stable : (last : Option OutPoint) → IsStable (later_point_from last)
unfolding later_point_from
later_stable last = checked_stable Unsorted (is_after last) point_from point_stable

pub entry_stable : (last : Option OutPoint) → IsStable (entry_from last)
entry_stable last = map_stable entry_of_pair (then_from (later_point_from last) (λ _. coin_from)) (then_stable (later_point_from last) (λ _. coin_from) (later_stable last) (λ _. coin_stable))

-- ---- items and operations

value_stable : IsStable value_from
unfolding value_from value_length_from
value_stable = map_stable _ _ (then_stable value_length_from piece_from (checked_stable BadTag (λ n. nat_le n LONGEST_VALUE) (number_from w16) (number_stable w16)) piece_stable)

registered_stable : (version : Version) → IsStable (registered_from version)
registered_stable One bytes more = inr refl
registered_stable Two bytes more = number_stable w32 bytes more

pub item_stable : (version : Version) → IsStable (item_from version)
unfolding item_from
item_stable version =
    map_stable _ _ (then_stable (number_from w32) _ (number_stable w32) (λ _. then_stable (registered_from version) _ (registered_stable version) (λ _. then_stable point_from (λ _. value_from) point_stable (λ _. value_stable))))

before_stable : (version : Version) → IsStable (before_from version)
unfolding before_from
before_stable version [] more = inl refl
before_stable version (b ∷ bytes) more = by (b == 0) (b == 1)
  where
    by : (none some : Bool) → Stands more (cond none (Ok (None, bytes)) (cond some (map_from (λ item. Some item) (item_from version) bytes) (Err (BadTag, b ∷ bytes))))
        (cond none (Ok (None, bytes ++ more)) (cond some (map_from (λ item. Some item) (item_from version) (bytes ++ more)) (Err (BadTag, b ∷ (bytes ++ more)))))
    by true some = inr refl
    by false true = map_stable (λ item. Some item) (item_from version) (item_stable version) bytes more
    by false false = inr refl

change_stable : (version : Version) (coin_from : Reads Coin) → IsStable coin_from → IsStable (change_from version coin_from)
unfolding change_from
change_stable version coin_from coin =
    map_stable _ _ (then_stable point_from _ point_stable (λ _. then_stable point_from _ point_stable (λ _. then_stable coin_from _ coin (λ _. then_stable name_from (λ _. before_from version) name_stable (λ _. before_stable version)))))

pub op_stable : (version : Version) → IsStable (op_from version)
unfolding op_from
op_stable version [] more = inl refl
op_stable version (b ∷ bytes) more = by (b == 0x51) (b == 0x52) (b == 0x53)
  where
    by : (x y z : Bool) → Stands more
        (cond x (map_from (λ point. op_new point) point_from bytes) (cond y (map_from first_of (change_from version new_coin_from) bytes) (cond z (map_from update_of (change_from version named_coin_from) bytes) (Err (BadTag, b ∷ bytes)))))
        (cond x (map_from (λ point. op_new point) point_from (bytes ++ more)) (cond y (map_from first_of (change_from version new_coin_from) (bytes ++ more)) (cond z (map_from update_of (change_from version named_coin_from) (bytes ++ more)) (Err (BadTag, b ∷ (bytes ++ more))))))
    by true y z = map_stable (λ point. op_new point) point_from point_stable bytes more
    by false true z = map_stable first_of (change_from version new_coin_from) (change_stable version new_coin_from new_stable) bytes more
    by false false true = map_stable update_of (change_from version named_coin_from) (change_stable version named_coin_from named_stable) bytes more
    by false false false = inr refl

pub held_stable : (last : Option OutPoint) → IsStable (held_from last)
unfolding held_from
held_stable last = map_stable _ _ (then_stable (later_point_from last) (λ _. named_coin_from) (later_stable last) (λ _. named_stable))

-- ---- names

pub history_head_stable : (last : Option (List ℕ)) → IsStable (history_head_from last)
history_head_stable last =
    then_stable (later_name_from last) _ (checked_stable Unsorted (comes_after last) name_from name_stable) (λ _. checked_stable BadTag (λ n. nat_le 1 n) (number_from w32) (number_stable w32))

-- ---- the head

same_more-by : (w : ℕ) (want : List ℕ) (b : ℕ) (bytes more : List ℕ) → (first_other want bytes ≡ [] → first_other want (bytes ++ more) ≡ []) → (t : Bool)
    → cond t (first_other want bytes) (b ∷ bytes) ≡ [] → cond t (first_other want (bytes ++ more)) (b ∷ (bytes ++ more)) ≡ []
same_more-by w want b bytes more rest true e = rest e
same_more-by w want b bytes more rest false e = absurd cc

other_more-by : (w : ℕ) (want : List ℕ) (first : ℕ) (bytes more : List ℕ) (b : ℕ) (other : List ℕ)
    → (first_other want bytes ≡ b ∷ other → first_other want (bytes ++ more) ≡ b ∷ (other ++ more)) → (t : Bool)
    → cond t (first_other want bytes) (first ∷ bytes) ≡ b ∷ other → cond t (first_other want (bytes ++ more)) (first ∷ (bytes ++ more)) ≡ b ∷ (other ++ more)
other_more-by w want first bytes more b other rest true e = rest e
other_more-by w want first bytes more b other rest false e =
    let head : first ≡ b = cc in
    let tail : bytes ≡ other = cc in
    λ i. head i ∷ (tail i ++ more)

-- bytes as long as those wanted: whatever follows, the same byte is the first that differs, or none is
same_more : (want bytes more : List ℕ) → length want ≤ length bytes → first_other want bytes ≡ [] → first_other want (bytes ++ more) ≡ []
same_more [] bytes more long e = refl
same_more (w ∷ want) [] more long e = absurd (omega arith)
same_more (w ∷ want) (b ∷ bytes) more long e = same_more-by w want b bytes more (λ e'. same_more want bytes more (omega arith) e') (b == w) e

other_more : (want bytes more : List ℕ) (b : ℕ) (other : List ℕ) → first_other want bytes ≡ b ∷ other → first_other want (bytes ++ more) ≡ b ∷ (other ++ more)
other_more [] bytes more b other e = absurd cc
other_more (w ∷ want) [] more b other e = absurd cc
other_more (w ∷ want) (first ∷ bytes) more b other e = other_more-by w want first bytes more b other (λ e'. other_more want bytes more b other e') (first == w) e

read_long : (n : ℕ) (bytes : List ℕ) (x : List ℕ × List ℕ) → piece_from n bytes ≡ Ok x → n ≤ length bytes
read_long n bytes x e = by (nat_lt (length bytes) n) refl e
  where
    by : (t : Bool) → nat_lt (length bytes) n ≡ t → cond {A = Answer (List ℕ)} t (Err (Cut, [])) (Ok (take n bytes, drop n bytes)) ≡ Ok x → n ≤ length bytes
    by true is bad = absurd cc
    by false is ok = ltb-false (length bytes) n is

exactly_stable : (want : List ℕ) → IsStable (exactly_from want)
exactly_stable want bytes more = by (piece_from (length want) bytes) refl (piece_stable (length want) bytes more)
  where
    chosen : (x : List ℕ × List ℕ) → length want ≤ length bytes → (other : List ℕ) → first_other want bytes ≡ other
        → same_or_fault x.0 (x.1 ++ more) (first_other want (bytes ++ more)) ≡ grown more (same_or_fault x.0 x.1 other)
    chosen x long [] e = ap (same_or_fault x.0 (x.1 ++ more)) (same_more want bytes more long e)
    chosen x long (b ∷ other) e = ap (same_or_fault x.0 (x.1 ++ more)) (other_more want bytes more b other e)

    by : (r : Answer (List ℕ)) → piece_from (length want) bytes ≡ r → Stands more r (piece_from (length want) (bytes ++ more))
        → Stands more (r >>= λ x. same_or_fault x.0 x.1 (first_other want bytes)) (piece_from (length want) (bytes ++ more) >>= λ x. same_or_fault x.0 x.1 (first_other want (bytes ++ more)))
    by (Err e) is (inl early) = inl early
    by (Err e) is (inr same) = inr (ap (λ (r : Answer (List ℕ)). r >>= λ x. same_or_fault x.0 x.1 (first_other want (bytes ++ more))) same)
    by (Ok x) is (inl early) = absurd early
    by (Ok x) is (inr same) =
        inr (ap (λ (r : Answer (List ℕ)). r >>= λ x. same_or_fault x.0 x.1 (first_other want (bytes ++ more))) same ∙ chosen x (read_long (length want) bytes x is) (first_other want bytes) refl)

version_stable : IsStable version_from
version_stable = map_stable version_of _ (checked_stable BadTag is_version byte_from byte_stable)

profile_stable : IsStable profile_from
profile_stable = map_stable profile_of _ (checked_stable BadTag is_profile byte_from byte_stable)

head_stable : IsStable head_from
head_stable =
    map_stable head_of _ (then_stable (exactly_from magic) _ (exactly_stable magic) (λ _. then_stable version_from _ version_stable (λ _. then_stable profile_from _ profile_stable
    (λ _. then_stable (number_from w32) (λ _. piece_from 32) (number_stable w32) (λ _. piece_stable 32)))))

pub opening_stable : IsStable opening_from
opening_stable = then_stable head_from _ head_stable (λ _. number_stable w32)

-- ---- records

pub undo_head_stable : IsStable undo_head_from
undo_head_stable = then_stable (piece_from 32) _ (piece_stable 32) (λ _. number_stable w32)
