-- What a query does to a bridge, by what the machine answers it with.
use Rattle.std.proofs.Common.{◌≡◌, ℕ, List, Option, Some, None, refl, sym, subst, ◌∙◌, arith}
use Rattle.feed_frames.specs.Replies.{Reply}
use Rattle.dns_message.specs.declared.transport.Transport.{Transport}
use Rattle.dns_message.specs.declared.transport.Transport.TheVariants.{Udp, Tcp}
use Rattle.kept_answers.specs.Answering.{Answering, AnswersMessage}
use Rattle.chain_commands.specs.Event.{Carrier}
use Rattle.chain_commands.specs.RunState.{RunState, chain_of}
use Rattle.chain_commands.proofs.RefusalLemmas.{code_of}
use Rattle.bridge_core.specs.Querying.{served_on, zone_on, transport_of, query_reply}
use Rattle.name_store.specs.Stored as stores
use Rattle.name_store.specs.Stored.{Stored}
use Rattle.bridge_core.specs.Bridge.{AnswersQuery, fault_code}
use Rattle.bridge_core.specs.Bridged.{bridged}
use Rattle.bridge_core.specs.Views.{carrier_of}

transport_again : (transport : Transport) → transport ≡ transport_of (carrier_of transport)
transport_again Udp = refl
transport_again Tcp = refl

-- the code of a query's reply is 0 or 8
no_fault : (answer : Option (List ℕ)) → (query_reply answer).code ≡ fault_code → ⊥
no_fault None is = omega (arith, is)
no_fault (Some text) is = omega (arith, is)

-- what the machine answers, of each run state that the store stands for
abbrev pub AnswersFrom : Stored → Transport → List ℕ → Answering → Option (List ℕ) → Answering → Type 0
AnswersFrom store transport message old answer new =
    (run : RunState) → stores.StandsFor store run → AnswersMessage (served_on (chain_of run)) (zone_on store.host (chain_of run)) transport message old answer new

queried_by : (store : Stored) (carrier : Carrier) (message : List ℕ) (old new : Answering) (answer : Option (List ℕ)) (reply : Reply)
    → AnswersFrom store (transport_of carrier) message old answer new → reply ≡ query_reply answer → AnswersQuery (bridged store old) carrier message reply (bridged store new)
queried_by store carrier message old new answer reply by told = record {
  step = λ run s. record {
    new = run;
    step = record {
      unchanged = refl;
      host = store.host;
      is_host = s.store.host.absolute;
      answer = answer;
      answers = (by run s.store).may s.right;
      told = told;
    };
    stands = record { store = s.store; right = (by run s.store).right s.right };
  };
  no_fault = λ is. no_fault answer (sym (code_of reply (query_reply answer) told) ∙ is);
  same_store = refl;
  answers = λ run s. record { answer = answer; told = told; keeps = (by run s).keeps };
}

pub queried : (store : Stored) (transport : Transport) (message : List ℕ) (old new : Answering) (answer : Option (List ℕ)) (reply : Reply)
    → AnswersFrom store transport message old answer new → reply ≡ query_reply answer → AnswersQuery (bridged store old) (carrier_of transport) message reply (bridged store new)
queried store transport message old new answer reply by told =
    queried_by store (carrier_of transport) message old new answer reply (subst (λ (t : Transport). AnswersFrom store t message old answer new) (transport_again transport) by) told
