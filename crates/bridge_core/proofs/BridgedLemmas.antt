-- When a bridge stands for a run state: behind its opening, and behind each event.
use Rattle.std.proofs.Common.{◌≡◌, ℕ, List, Some, sym, subst, ◌∙◌}
use Rattle.domain_text.proofs.HostLaws.{absolute_only}
use Rattle.kept_answers.specs.Answering.{Answering, AreRight, none_kept, outdated}
use Rattle.kept_answers.proofs.RightLemmas.{none_right, outdated_right}
use Rattle.chain_commands.specs.Chain.{Chain}
use Rattle.chain_commands.specs.RunState.{RunState, chain_of}
use Rattle.bridge_core.specs.Querying.{served_on, zone_on}
use Rattle.name_store.specs.Host.{IsHostOf}
use Rattle.name_store.specs.Stored as stores
use Rattle.bridge_core.specs.Bridged.{Bridged, StandsFor}

some_one : (name other : List ℕ) → Some name ≡ Some other → name ≡ other
some_one name other e = cc

-- a text names one host
one_host : (text name other : List ℕ) → IsHostOf text name → IsHostOf text other → name ≡ other
one_host text name other is too = some_one name other (sym (absolute_only text name is.absolute) ∙ absolute_only text other too.absolute)

-- no answer is kept
pub stands_first : (bridge : Bridged) (run : RunState) → bridge.answers ≡ none_kept → stores.StandsFor bridge.store run → StandsFor bridge run
stands_first bridge run none s =
    let live = served_on (chain_of run) in
    let z = zone_on bridge.store.host (chain_of run) in
    record { store = s; right = subst (λ (answers : Answering). AreRight live z answers) (sym none) (none_right live z) }

-- the answers that are kept are right in any zone of a host that the text names
right_at : (run : RunState) (answers : Answering) (host other : List ℕ) → IsHostOf run.host host → IsHostOf run.host other
    → AreRight (served_on (chain_of run)) (zone_on host (chain_of run)) answers → AreRight (served_on (chain_of run)) (zone_on other (chain_of run)) answers
right_at run answers host other is too right = subst (λ (h : List ℕ). AreRight (served_on (chain_of run)) (zone_on h (chain_of run)) answers) (one_host run.host host other is too) right

module _ (old new : Bridged) (run next : RunState) (s : StandsFor old run) (now : stores.StandsFor new.store next) where
  -- a command was accepted
  pub stands_outdated : new.answers ≡ outdated old.answers → StandsFor new next
  stands_outdated behind =
      let live = served_on (chain_of next) in
      let z = zone_on new.store.host (chain_of next) in
      record {
        store = now;
        right = subst (λ (answers : Answering). AreRight live z answers) (sym behind)
            (outdated_right (served_on (chain_of run)) live (zone_on old.store.host (chain_of run)) z old.answers s.right);
      }

  -- the answers stay, and so do the chain and its host
  pub stands_still : next.host ≡ run.host → chain_of next ≡ chain_of run → new.answers ≡ old.answers → StandsFor new next
  stands_still same_text same_chain same =
      let host = new.store.host in
      let right = right_at run old.answers old.store.host host s.store.host (subst (λ (text : List ℕ). IsHostOf text host) same_text now.host) s.right in
      record {
        store = now;
        right = subst (λ (answers : Answering). AreRight (served_on (chain_of next)) (zone_on host (chain_of next)) answers) (sym same)
            (subst (λ (chain : Chain). AreRight (served_on chain) (zone_on host chain) old.answers) (sym same_chain) right);
      }
