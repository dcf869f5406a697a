-- Name scripts are read, and nothing else is.
use Rattle.std.proofs.Common.{◌≡◌, ℕ, ◌⊎◌, ◌||◌, ◌↔◌, Bool, true, false, cond, eqb, List, [], ◌∷◌, ◌++◌, Option, Some, None, IsNone, refl, sym, ap, subst, ◌∙◌, append_assoc, inl, inr}
use Rattle.std.specs.Option.{option_map}
use Rattle.std.proofs.lemmas.Bool.{eqb-true, or_cases}
use Rattle.std.proofs.lemmas.Option.{none-some, same_Some}
use Rattle.block_grammar.specs.Fields.{◌>>=◌}
use Rattle.block_grammar.proofs.Readers.{IsBytes, IsBytes-rest, bind_some}
use Rattle.name_script.specs.NameScript.{NameOperation, name_new, name_firstupdate, name_update, opcode_of, pushed_by, IsPushThen, ArePushes, IsDrop, op_drop, op_2drop, op_nop, IsNameScript}
use Rattle.name_script.specs.Reading.{push_at, begins_with_drop, dropped_at, new_at, firstupdate_at, update_at, name_op}
use Rattle.nmc_base.proofs.TruthLemmas.{chosen}
use Rattle.name_script.proofs.Pushes.{TookPush, push_takes, push_again}

-- ---- drops

record BeginsWithDrop (bytes : List ℕ) : Type 0 where
  drop : ℕ
  is_drop : IsDrop drop
  rest : List ℕ
  text : bytes ≡ drop ∷ rest

drop_takes : (bytes : List ℕ) → begins_with_drop bytes ≡ true → BeginsWithDrop bytes
drop_takes [] e = absurd cc
drop_takes (opcode ∷ bytes) e =
    let dropped : IsDrop opcode =
    elim (or_cases ((eqb opcode 0x75) || (eqb opcode 0x6D)) (eqb opcode 0x61) e) [
      | inl p ↦ elim (or_cases (eqb opcode 0x75) (eqb opcode 0x6D) p) [
        | inl q ↦ op_drop (eqb-true opcode 0x75 q)
        | inr q ↦ op_2drop (eqb-true opcode 0x6D q)
      ]
      | inr p ↦ op_nop (eqb-true opcode 0x61 p)
    ] in
    record { drop = opcode; is_drop = dropped; rest = bytes; text = refl }

drop_again : (drop : ℕ) (rest : List ℕ) → IsDrop drop → begins_with_drop (drop ∷ rest) ≡ true
drop_again drop rest (op_drop is) = rw is refl
drop_again drop rest (op_2drop is) = rw is refl
drop_again drop rest (op_nop is) = rw is refl

-- ---- what is read is a name script

-- pushes of the values stand at the front
record BeginsWithPushes (values : List (List ℕ)) (bytes after : List ℕ) : Type 0 where
  pushes : List ℕ
  are_pushes : ArePushes values pushes
  text : bytes ≡ pushes ++ after

no_pushes : (bytes : List ℕ) → BeginsWithPushes [] bytes bytes
no_pushes bytes = record { pushes = []; are_pushes = refl; text = refl }

one_more : (value : List ℕ) (values : List (List ℕ)) (bytes rest after : List ℕ) → TookPush bytes (value, rest) → BeginsWithPushes values rest after → BeginsWithPushes (value ∷ values) bytes after
one_more value values bytes rest after took begins = record {
  pushes = took.push ++ begins.pushes;
  are_pushes = record { push = took.push; is_push = took.is_push; after = begins.pushes; holds_after = begins.are_pushes; text = refl };
  text = took.parts ∙ ap (λ (t : List ℕ). took.push ++ t) begins.text ∙ sym (append_assoc took.push begins.pushes after);
}

-- the operation that was found has this opcode, and the script is the operation's
record FoundAt (opcode : ℕ) (bytes : List ℕ) (found : NameOperation) : Type 0 where
  is_opcode : opcode_of found ≡ opcode
  is_script : IsNameScript (opcode_of found ∷ bytes) found

dropped_takes : (operation found : NameOperation) (bytes after : List ℕ) → BeginsWithPushes (pushed_by operation) bytes after → dropped_at operation after ≡ Some found
    → FoundAt (opcode_of operation) bytes found
dropped_takes operation found bytes after begins e =
    elim (chosen (begins_with_drop after) (Some operation) None (Some found) e) [
      | inl p ↦
          let dropped = drop_takes after p.0 in
          let script : IsNameScript (opcode_of operation ∷ bytes) operation = record {
            pushes = begins.pushes;
            are_pushes = begins.are_pushes;
            drop = dropped.drop;
            is_drop = dropped.is_drop;
            rest = dropped.rest;
            text = ap (λ (t : List ℕ). opcode_of operation ∷ t) (begins.text ∙ ap (λ (t : List ℕ). begins.pushes ++ t) dropped.text);
          } in
          subst (λ (o : NameOperation). FoundAt (opcode_of operation) bytes o) (same_Some operation found p.1) (record { is_opcode = refl; is_script = script })
      | inr p ↦ absurd (none-some found p.1)
    ]

new_takes : (bytes : List ℕ) (found : NameOperation) → IsBytes bytes → new_at bytes ≡ Some found → FoundAt 0x51 bytes found
new_takes bytes found fits e =
    let hash = bind_some (push_at bytes) (λ (x : List ℕ × List ℕ). dropped_at (name_new x.0) x.1) found e in
    let took = push_takes bytes hash.0 fits hash.1 in
    dropped_takes (name_new hash.0.0) found bytes hash.0.1 (one_more hash.0.0 [] bytes hash.0.1 hash.0.1 took (no_pushes hash.0.1)) hash.2

update_takes : (bytes : List ℕ) (found : NameOperation) → IsBytes bytes → update_at bytes ≡ Some found → FoundAt 0x53 bytes found
update_takes bytes found fits e =
    let name = bind_some (push_at bytes) (λ (x : List ℕ × List ℕ). push_at x.1 >>= λ (y : List ℕ × List ℕ). dropped_at (name_update x.0 y.0) y.1) found e in
    let value = bind_some (push_at name.0.1) (λ (y : List ℕ × List ℕ). dropped_at (name_update name.0.0 y.0) y.1) found name.2 in
    let took1 = push_takes bytes name.0 fits name.1 in
    let took2 = push_takes name.0.1 value.0 took1.rest_bytes value.1 in
    let last = one_more value.0.0 [] name.0.1 value.0.1 value.0.1 took2 (no_pushes value.0.1) in
    dropped_takes (name_update name.0.0 value.0.0) found bytes value.0.1 (one_more name.0.0 (value.0.0 ∷ []) bytes name.0.1 value.0.1 took1 last) value.2

firstupdate_takes : (bytes : List ℕ) (found : NameOperation) → IsBytes bytes → firstupdate_at bytes ≡ Some found → FoundAt 0x52 bytes found
firstupdate_takes bytes found fits e =
    let name = bind_some (push_at bytes) (λ (x : List ℕ × List ℕ). push_at x.1 >>= λ (y : List ℕ × List ℕ). push_at y.1 >>= λ (z : List ℕ × List ℕ). dropped_at (name_firstupdate x.0 y.0 z.0) z.1) found e in
    let rand = bind_some (push_at name.0.1) (λ (y : List ℕ × List ℕ). push_at y.1 >>= λ (z : List ℕ × List ℕ). dropped_at (name_firstupdate name.0.0 y.0 z.0) z.1) found name.2 in
    let value = bind_some (push_at rand.0.1) (λ (z : List ℕ × List ℕ). dropped_at (name_firstupdate name.0.0 rand.0.0 z.0) z.1) found rand.2 in
    let took1 = push_takes bytes name.0 fits name.1 in
    let took2 = push_takes name.0.1 rand.0 took1.rest_bytes rand.1 in
    let took3 = push_takes rand.0.1 value.0 took2.rest_bytes value.1 in
    let last = one_more value.0.0 [] rand.0.1 value.0.1 value.0.1 took3 (no_pushes value.0.1) in
    let last_two = one_more rand.0.0 (value.0.0 ∷ []) name.0.1 rand.0.1 value.0.1 took2 last in
    dropped_takes (name_firstupdate name.0.0 rand.0.0 value.0.0) found bytes value.0.1 (one_more name.0.0 (rand.0.0 ∷ value.0.0 ∷ []) bytes name.0.1 value.0.1 took1 last_two) value.2

found_is : (opcode number : ℕ) (bytes : List ℕ) (found : NameOperation) → opcode ≡ number → FoundAt number bytes found → IsNameScript (opcode ∷ bytes) found
found_is opcode number bytes found is at = subst (λ (n : ℕ). IsNameScript (n ∷ bytes) found) (at.is_opcode ∙ sym is) at.is_script

pub name_op_takes : (script : List ℕ) (found : NameOperation) → IsBytes script → name_op script ≡ Some found → IsNameScript script found
unfolding name_op
name_op_takes [] found fits e = absurd (none-some found e)
name_op_takes (opcode ∷ bytes) found fits e =
    let more = IsBytes-rest opcode bytes fits in
    elim (chosen (eqb opcode 0x51) (new_at bytes) (cond (eqb opcode 0x52) (firstupdate_at bytes) (cond (eqb opcode 0x53) (update_at bytes) None)) (Some found) e) [
      | inl p ↦ found_is opcode 0x51 bytes found (eqb-true opcode 0x51 p.0) (new_takes bytes found more p.1)
      | inr p ↦ elim (chosen (eqb opcode 0x52) (firstupdate_at bytes) (cond (eqb opcode 0x53) (update_at bytes) None) (Some found) p.1) [
        | inl q ↦ found_is opcode 0x52 bytes found (eqb-true opcode 0x52 q.0) (firstupdate_takes bytes found more q.1)
        | inr q ↦ elim (chosen (eqb opcode 0x53) (update_at bytes) None (Some found) q.1) [
          | inl r ↦ found_is opcode 0x53 bytes found (eqb-true opcode 0x53 r.0) (update_takes bytes found more r.1)
          | inr r ↦ absurd (none-some found r.1)
        ]
      ]
    ]

-- ---- a name script is read

push_then : (bytes value : List ℕ) (After : List ℕ → Type 0) (p : IsPushThen bytes value After) (tail : List ℕ) → push_at (bytes ++ tail) ≡ Some (value, p.after ++ tail)
push_then bytes value After p tail =
    let split : bytes ++ tail ≡ p.push ++ (p.after ++ tail) = ap (λ (t : List ℕ). t ++ tail) p.text ∙ append_assoc p.push p.after tail in
    ap push_at split ∙ push_again p.push value (p.after ++ tail) p.is_push

dropped_again : (operation : NameOperation) (after : List ℕ) (drop : ℕ) (rest : List ℕ) → after ≡ [] → IsDrop drop → dropped_at operation (after ++ (drop ∷ rest)) ≡ Some operation
dropped_again operation after drop rest empty is = rw (empty, drop_again drop rest is) refl

pub name_op_again : (script : List ℕ) (operation : NameOperation) → IsNameScript script operation → name_op script ≡ Some operation
unfolding name_op
name_op_again script (name_new hash) is =
    let tail = is.drop ∷ is.rest in
    let one = is.are_pushes in
    rw (is.text, push_then is.pushes hash (ArePushes []) one tail) (dropped_again (name_new hash) one.after is.drop is.rest one.holds_after is.is_drop)
name_op_again script (name_firstupdate name rand value) is =
    let tail = is.drop ∷ is.rest in
    let one = is.are_pushes in
    let two = one.holds_after in
    let three = two.holds_after in
    rw (is.text, push_then is.pushes name (ArePushes (rand ∷ value ∷ [])) one tail, push_then one.after rand (ArePushes (value ∷ [])) two tail, push_then two.after value (ArePushes []) three tail)
    (dropped_again (name_firstupdate name rand value) three.after is.drop is.rest three.holds_after is.is_drop)
name_op_again script (name_update name value) is =
    let tail = is.drop ∷ is.rest in
    let one = is.are_pushes in
    let two = one.holds_after in
    rw (is.text, push_then is.pushes name (ArePushes (value ∷ [])) one tail, push_then one.after value (ArePushes []) two tail)
    (dropped_again (name_update name value) two.after is.drop is.rest two.holds_after is.is_drop)

pub one_name_script : (script : List ℕ) (a b : NameOperation) → IsNameScript script a → IsNameScript script b → a ≡ b
one_name_script script a b is_a is_b = same_Some a b (sym (name_op_again script a is_a) ∙ name_op_again script b is_b)

-- ---- the clauses of the public reader

pub read_iff : (script : List ℕ) (answer : Option NameOperation) → IsBytes script → answer ≡ name_op script → (operation : NameOperation) → (answer ≡ Some operation) ↔ IsNameScript script operation
read_iff script answer fits e operation = (
  (λ found. name_op_takes script operation fits (sym e ∙ found)),
  λ is. e ∙ name_op_again script operation is,
)

pub none_iff : {A : Type 0} (seen : A → NameOperation) (script : List ℕ) (answer : Option A) → IsBytes script → option_map seen answer ≡ name_op script
    → IsNone answer ↔ ((operation : NameOperation) → ¬ (IsNameScript script operation))
none_iff seen script (Some x) fits e = ((λ none. absurd cc), λ no. absurd (no (seen x) (name_op_takes script (seen x) fits (sym e))))
none_iff seen script None fits e = ((λ none operation is. none-some operation (e ∙ name_op_again script operation is)), λ no. refl)
