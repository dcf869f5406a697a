-- Commands one after the other.
use Rattle.std.proofs.Common.{◌≡◌, List, [], ◌∷◌, ◌++◌, sym, subst, ◌∙◌}
use Rattle.chain_state.specs.Chain.{Indexed, SameIndex}
use Rattle.chain_commands.specs.Chain.{Chain}
use Rattle.chain_commands.specs.Event.{Command, Connect, Disconnect}
use Rattle.chain_commands.specs.RunState.{after_commands}
use Rattle.chain_commands.proofs.SavingLemmas.{after_both}
use Rattle.chain_state.proofs.StandingLemmas.{same_stands, same_after}
use Rattle.index_commands.specs.Standing.{StandsFor}
use Rattle.index_commands.specs.Allowed.{IsAllowed, AreAllowed}
use Rattle.index_commands.specs.Taking.{IsTakenBy, TakesCommand, LeadsTo, AreTaken}
use Rattle.index_commands.proofs.TakenLemmas.{same_back, same_self, taken, taken_alike}
use Rattle.index_commands.proofs.ResultLemmas.{one_result, takes_same}
use Rattle.index_commands.proofs.ChainLemmas.{allowed_if, taken_if, stands_behind}

-- commands lead from one index to one
pub one_lead : (a b x y : Indexed) (commands : List Command) → SameIndex a b → LeadsTo a commands x → LeadsTo b commands y → SameIndex x y
one_lead a b x y [] same p q = same_after x a y p (same_after a b y same (same_back y b q))
one_lead a b x y (command ∷ commands) same (p, to_p, at_p) (q, to_q, at_q) = one_result p q x y (one_lead a b p q commands same to_p to_q) command at_p at_q

-- the same first index leads there too
pub lead_alike : (a b index : Indexed) (commands : List Command) → SameIndex a b → LeadsTo a commands index → LeadsTo b commands index
lead_alike a b index [] same leads = same_after index a b leads same
lead_alike a b index (command ∷ commands) same (below, led, takes) = (below, lead_alike a b below commands same led, takes)

-- commands leave the base
takes_base : (index new : Indexed) (command : Command) → TakesCommand index command new → new.base ≡ index.base
takes_base index new (Connect block) takes = takes.connected.base ∙ takes.takes.on.base
takes_base index new (Disconnect hash) takes = takes.disconnected.base

pub led_base : (first index : Indexed) (commands : List Command) → LeadsTo first commands index → index.base ≡ first.base
led_base first index [] leads = leads.base
led_base first index (command ∷ commands) (below, led, takes) = takes_base below index command takes ∙ led_base first below commands led

-- a command that one takes behind them is taken by each
pub taken_behind : (first index : Indexed) (commands : List Command) (command : Command) → AreTaken first commands → LeadsTo first commands index → IsTakenBy index command
    → AreTaken first (command ∷ commands)
taken_behind first index commands command are leads is = (are, λ other also. taken_alike index other (one_lead first first index other commands (same_self first) leads also) command is)

pub led_taken : (first index : Indexed) (commands : List Command) → LeadsTo first commands index → AreTaken first commands
led_taken first index [] leads = tt
led_taken first index (command ∷ commands) (below, led, takes) = taken_behind first below commands command (led_taken first below commands led) led (taken below index command takes)

-- they lead to the same index too
pub lead_same : (first index same : Indexed) (commands : List Command) → SameIndex same index → LeadsTo first commands index → LeadsTo first commands same
lead_same first index same [] alike leads = same_after same index first alike leads
lead_same first index same (command ∷ commands) alike (below, led, takes) = (below, led, takes_same below index same alike command takes)

-- ---- in two parts

pub allowed_of_parts : (first : Chain) (later earlier : List Command) → AreAllowed first (later ++ earlier) → AreAllowed first earlier × AreAllowed (after_commands first earlier) later
allowed_of_parts first [] earlier are = (are, tt)
allowed_of_parts first (command ∷ later) earlier are =
    let both = allowed_of_parts first later earlier are.0 in
    (both.0, (both.1, subst (λ (chain : Chain). IsAllowed chain command) (sym (after_both first later earlier)) are.1))

pub parts_allowed : (first : Chain) (later earlier : List Command) → AreAllowed first earlier → AreAllowed (after_commands first earlier) later → AreAllowed first (later ++ earlier)
parts_allowed first [] earlier are also = are
parts_allowed first (command ∷ later) earlier are also =
    (parts_allowed first later earlier are also.0, subst (λ (chain : Chain). IsAllowed chain command) (after_both first later earlier) also.1)

-- ---- on a chain that the first index stands for

module _ (first : Indexed) (chain : Chain) (stands : StandsFor first chain) where
  pub led_stands : (index : Indexed) (commands : List Command) → LeadsTo first commands index → StandsFor index (after_commands chain commands)
  led_stands index [] leads = same_stands chain.base chain.start chain.blocks first index stands leads
  led_stands index (command ∷ commands) (below, led, takes) = stands_behind below (after_commands chain commands) (led_stands below commands led) command index takes

  pub led_allowed : (index : Indexed) (commands : List Command) → LeadsTo first commands index → AreAllowed chain commands
  led_allowed index [] leads = tt
  led_allowed index (command ∷ commands) (below, led, takes) =
      (led_allowed below commands led, allowed_if below (after_commands chain commands) (led_stands below commands led) command (taken below index command takes))

  pub allowed_taken : (commands : List Command) → AreAllowed chain commands → AreTaken first commands
  allowed_taken [] are = tt
  allowed_taken (command ∷ commands) are = (allowed_taken commands are.0, λ index leads. taken_if index (after_commands chain commands) (led_stands index commands leads) command are.1)
