-- Of the refusals of one command one is the first.
use Rattle.std.proofs.Common.{◌≡◌, ℕ, ◌<◌, sym, ap, ◌∙◌, arith, inl, inr}
use Rattle.std.proofs.lemmas.Bool.{cases_lt}
use Rattle.chain_commands.specs.Chain.{Chain}
use Rattle.chain_commands.specs.Event.{Command}
use Rattle.chain_commands.specs.RunState.{RunState}
use Rattle.feed_frames.specs.Replies.{Reply}
use Rattle.chain_commands.specs.Reply.{no_memory_reply}
use Rattle.chain_commands.specs.Refusals.{Refusals, IsFirst, HasNoneBelow, Answers, accepts, declines, lacks_memory, LeavesDone}
use Rattle.chain_commands.specs.Surviving.{Survives, is_done, stays}

pub one_first : {R : Type 0} (Holds : R → Type 0) (order : R → ℕ) → ((r s : R) → Holds r → Holds s → order r ≡ order s → r ≡ s)
    → (r s : R) → IsFirst Holds order r → IsFirst Holds order s → r ≡ s
one_first Holds order same r s first second =
    elim (cases_lt (order r) (order s)) [
      | inl below ↦ absurd (second.first r below first.holds)
      | inr above ↦ elim (cases_lt (order s) (order r)) [
        | inl below ↦ absurd (first.first s below second.holds)
        | inr there ↦ same r s first.holds second.holds (omega arith)
      ]
    ]

pub code_of : (a b : Reply) → a ≡ b → a.code ≡ b.code
code_of a b e = ap (λ (r : Reply). r.code) e

pub lacking_code : no_memory_reply.code ≡ 0 → ⊥
lacking_code e = omega (arith, e)

-- what is done is told with code 0, and leaves one state
pub record DoesOne (Does : Reply → RunState → Type 0) : Type 0 where
  pub code_is : (reply : Reply) (new : RunState) → Does reply new → reply.code ≡ 0
  pub one : (reply answer : Reply) (new other : RunState) → Does reply new → Does answer other → new ≡ other

-- a reply, and the state that is left with it
abbrev pub Answered : {R : Type 0} (refusals : Refusals R) (Holds : R → Type 0) (Does : Reply → RunState → Type 0) (old : RunState) → Type 0
Answered refusals Holds Does old = (reply : Reply) × (new : RunState) × Answers refusals Holds Does old reply new

-- an acceptance has a code that no refusal has, and only it leaves another state
pub decided : {R : Type 0} (refusals : Refusals R) (Holds : R → Type 0) (Does : Reply → RunState → Type 0) (old : RunState) → DoesOne Does
    → ((r : R) → (refusals.reply_of r).code ≡ 0 → ⊥) → (one two : Answered refusals Holds Does old) → one.0.code ≡ two.0.code → one.1 ≡ two.1
decided refusals Holds Does old d coded (reply, new, accepts v done) (answer, other, accepts w too) e = d.one reply answer new other done too
decided refusals Holds Does old d coded (reply, new, accepts v done) (answer, other, declines refusal f other-is s) e =
    absurd (coded refusal (sym (code_of _ _ s) ∙ sym e ∙ d.code_is reply new done))
decided refusals Holds Does old d coded (reply, new, accepts v done) (answer, other, lacks_memory f other-is s) e =
    absurd (lacking_code (sym (code_of _ _ s) ∙ sym e ∙ d.code_is reply new done))
decided refusals Holds Does old d coded (reply, new, declines refusal f new-is r) (answer, other, accepts v done) e =
    absurd (coded refusal (sym (code_of _ _ r) ∙ e ∙ d.code_is answer other done))
decided refusals Holds Does old d coded (reply, new, lacks_memory f new-is r) (answer, other, accepts v done) e =
    absurd (lacking_code (sym (code_of _ _ r) ∙ e ∙ d.code_is answer other done))
decided refusals Holds Does old d coded (reply, new, declines refusal f new-is r) (answer, other, declines other-refusal h other-is s) e = new-is ∙ sym other-is
decided refusals Holds Does old d coded (reply, new, declines refusal f new-is r) (answer, other, lacks_memory h other-is s) e = new-is ∙ sym other-is
decided refusals Holds Does old d coded (reply, new, lacks_memory f new-is r) (answer, other, declines refusal h other-is s) e = new-is ∙ sym other-is
decided refusals Holds Does old d coded (reply, new, lacks_memory f new-is r) (answer, other, lacks_memory h other-is s) e = new-is ∙ sym other-is

-- so a command is done
pub command_does : (old : RunState) (command : Command) → DoesOne (LeavesDone old command)
command_does old command = record {
  code_is = λ reply new done. code_of _ _ done.told;
  one = λ reply answer new other done too. done.state_is ∙ sym too.state_is;
}

-- each refusal stands in the order
pub survives_once : {R : Type 0} (refusals : Refusals R) (Holds : R → Type 0) (old done : Chain) → ((r : R) → refusals.order r < refusals.places)
    → (one two : (new : Chain) × Survives refusals Holds old done new) → one.0 ≡ two.0
survives_once refusals Holds old done placed (new, is_done v new-is) (other, is_done w other-is) = new-is ∙ sym other-is
survives_once refusals Holds old done placed (new, is_done v new-is) (other, stays r f other-is) = absurd (v.none r (placed r) f.holds)
survives_once refusals Holds old done placed (new, stays r f new-is) (other, is_done v other-is) = absurd (v.none r (placed r) f.holds)
survives_once refusals Holds old done placed (new, stays r f new-is) (other, stays s g other-is) = new-is ∙ sym other-is

pub fewer_none : {R : Type 0} (Few Many : R → Type 0) (order : R → ℕ) (n : ℕ) → ((r : R) → Few r → Many r) → HasNoneBelow Many order n → HasNoneBelow Few order n
fewer_none Few Many order n more none = record { none = λ r lt h. none.none r lt (more r h) }
