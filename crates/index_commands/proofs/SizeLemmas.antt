-- The sizes of commands, and their records.
use Rattle.std.proofs.Common.{◌≡◌, ◌<◌, List, ℕ, [], ◌∷◌, ◌++◌, length, drop, get_or, refl, ◌∙◌, sym, ap, arith, length-append}
use Rattle.std.proofs.lemmas.List.{take_at, get_or_at}
use Rattle.std.proofs.Common.{take}
use Rattle.std.specs.List.{AllByRecursion}
use Rattle.chain_state.specs.Chain.{Indexed}
use Rattle.chain_commands.specs.Chain.{Chain}
use Rattle.chain_commands.specs.Event.{Command, Connect, Disconnect}
use Rattle.chain_commands.specs.RunState.{after_commands, record_length}
use Rattle.index_commands.specs.Records.{record_of, records_of, head_of, body_of, HasSize}
use Rattle.index_commands.specs.Allowed.{IsAllowed, AreAllowed}
use Rattle.index_commands.specs.Taking.{IsTakenBy, TakesCommand, LeadsTo}

-- ---- each command of these has its size

allowed_size : (chain : Chain) (command : Command) → IsAllowed chain command → HasSize command
allowed_size chain (Connect block) is = is.1
allowed_size chain (Disconnect hash) is = is.1

pub allowed_sizes : (first : Chain) (commands : List Command) → AreAllowed first commands → AllByRecursion HasSize commands
allowed_sizes first [] are = tt
allowed_sizes first (command ∷ commands) are = (allowed_size (after_commands first commands) command are.1, allowed_sizes first commands are.0)

pub taken_size : (index : Indexed) (command : Command) → IsTakenBy index command → HasSize command
taken_size index (Connect block) is = is.1
taken_size index (Disconnect hash) is = is.1

pub takes_size : (index new : Indexed) (command : Command) → TakesCommand index command new → HasSize command
takes_size index new (Connect block) takes = takes.short
takes_size index new (Disconnect hash) takes = takes.long

pub led_sizes : (first index : Indexed) (commands : List Command) → LeadsTo first commands index → AllByRecursion HasSize commands
led_sizes first index [] leads = tt
led_sizes first index (command ∷ commands) (below, led, takes) = (takes_size below index command takes, led_sizes first below commands led)

-- ---- the commands of records

pub record_some : (command : Command) → HasSize command → 0 < record_length command
record_some (Connect block) is = omega arith
record_some (Disconnect hash) is = omega arith

pub record_parts : (command : Command) (head : ℕ) (body : List ℕ) → head ≡ head_of command → body ≡ body_of command → head ∷ body ≡ record_of command
record_parts (Connect block) head body is_head is_body = λ i. is_head i ∷ is_body i
record_parts (Disconnect hash) head body is_head is_body = λ i. is_head i ∷ is_body i

pub record_told : (a b : Command) → record_of a ≡ record_of b → a ≡ b
record_told (Connect a) (Connect b) e = ap (λ (l : List ℕ). Connect (drop 1 l)) e
record_told (Connect a) (Disconnect b) e = absurd (omega (arith, ap (λ (l : List ℕ). get_or l 0 0) e))
record_told (Disconnect a) (Connect b) e = absurd (omega (arith, ap (λ (l : List ℕ). get_or l 0 0) e))
record_told (Disconnect a) (Disconnect b) e = ap (λ (l : List ℕ). Disconnect (drop 1 l)) e

last_told : {A : Type 0} → (xs ys : List A) (x y : A) → xs ++ x ∷ [] ≡ ys ++ y ∷ [] → (xs ≡ ys) × (x ≡ y)
last_told {A = A} xs ys x y e =
    let n = length xs in
    let same : length ys ≡ n = omega (arith, ap length e, length-append xs (x ∷ []), length-append ys (y ∷ [])) in (
      sym (take_at xs (x ∷ []) n refl) ∙ ap (take n) e ∙ take_at ys (y ∷ []) n same,
      sym (get_or_at xs x [] x n refl) ∙ ap (λ (l : List A). get_or l n x) e ∙ get_or_at ys y [] x n same,
    )

pub commands_told : (xs ys : List Command) → records_of xs ≡ records_of ys → xs ≡ ys
commands_told [] [] e = refl
commands_told [] (y ∷ ys) e = absurd (omega (arith, ap length e, length-append (records_of ys) (record_of y ∷ [])))
commands_told (x ∷ xs) [] e = absurd (omega (arith, ap length e, length-append (records_of xs) (record_of x ∷ [])))
commands_told (x ∷ xs) (y ∷ ys) e =
    let p = last_told (records_of xs) (records_of ys) (record_of x) (record_of y) e in λ i. record_told x y p.1 i ∷ commands_told xs ys p.0 i
