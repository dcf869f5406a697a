-- Events that are answered one after the other: lists of them, and where they lead.
use Rattle.std.proofs.Common.{◌≡◌, ℕ, suc, ◌+◌, ◌==◌, Bool, true, false, List, [], ◌∷◌, ◌++◌, length, map, Result, Ok, Err, refl, sym, ap, subst, ◌∙◌, append_assoc, true≢false, arith}
use Rattle.std.proofs.lemmas.List.{append-nil}
use Rattle.fault_counts.specs.Faults.{NeverFell}
use Rattle.fault_counts.proofs.FaultLemmas.{NeverFell_trans}
use Rattle.disk_model.specs.DiskSeen.{DiskSeen}
use Rattle.feed_frames.specs.Replies.{Reply}
use Rattle.chain_commands.specs.Event.{Connect, Disconnect, Event, Do, Ask, Save, event_frame}
use Rattle.chain_commands.specs.RunState.{RunState}
use Rattle.generated_chain.specs.Events.{joined_again}
use Rattle.bridge_core.specs.Leaving.{accepted_saves}
use Rattle.bridge_core.specs.Bridge.{AnswersEvent}
use Rattle.bridge_core.specs.Bridged.{Bridged}
use Rattle.bridge_core.specs.Opening.{HasOpened}
use Rattle.bridge_core.specs.Reached.{Beginning, Begins, Passes, LeadsTo, IsReached}
use Rattle.bridge_core.specs.Runs.{none_yet, one_more}
use Rattle.bridge_core.specs.Views.{request_of}
use Rattle.bridge_core.specs.declared.answering.Request.{Request}
use Rattle.bridge_core.specs.declared.answering.Request.TheVariants as requests
use Rattle.bridge_core.specs.declared.bridge.Turned.TheVariants.{On}
use Rattle.bridge_core.proofs.OpeningLemmas.{leads_first}
use Rattle.bridge_core.proofs.ReachedLemmas.{leads_next}
use Rattle.bridge_commands.specs.Playing.{AnswersEach, AreTaken, IsJudged, IsRefusal, IsRefused, IsTaken, PlaysAll, PlaysRequests, StopsIn, answers_in, counted_if, is_answered}
use Rattle.bridge_commands.specs.declared.playing.Stop.{Stop}
use Rattle.bridge_commands.specs.declared.playing.Stop.TheVariants.{Refused, NoMemory}

-- ---- lists behind one another

module _ {D : Type 0} (tells : Bool) (seen : D → DiskSeen) where
  pub each_then : (old mid new : Bridged × D) (events more : List Event) (replies others : List Reply)
      → AnswersEach tells seen old events replies mid → AnswersEach tells seen mid more others new → AnswersEach tells seen old (events ++ more) (replies ++ others) new
  each_then old mid new [] more [] others e f = subst (λ (at : Bridged × D). AnswersEach tells seen at more others new) e f
  each_then old mid new [] more (r ∷ replies) others e f = absurd e
  each_then old mid new (event ∷ events) more [] others e f = absurd e
  each_then old mid new (event ∷ events) more (r ∷ replies) others e f = (e.0, e.1, each_then e.0 mid new events more replies others e.2 f)

  pub as_many : (old new : Bridged × D) (events : List Event) (replies : List Reply) → AnswersEach tells seen old events replies new → length events ≡ length replies
  as_many old new [] [] e = refl
  as_many old new [] (r ∷ replies) e = absurd e
  as_many old new (event ∷ events) [] e = absurd e
  as_many old new (event ∷ events) (r ∷ replies) e = ap suc (as_many e.0 new events replies e.2)

pub taken_then : (events more : List Event) (replies others : List Reply) → length events ≡ length replies → AreTaken events replies → AreTaken more others
    → AreTaken (events ++ more) (replies ++ others)
taken_then [] more [] others same t u = u
taken_then [] more (r ∷ replies) others same t u = absurd (omega (arith, same))
taken_then (event ∷ events) more [] others same t u = absurd (omega (arith, same))
taken_then (event ∷ events) more (r ∷ replies) others same t u = (t.0, taken_then events more replies others (omega (arith, same)) t.1 u)

counted_more : (is_one : Bool) (count more : ℕ) → counted_if is_one (count + more) ≡ counted_if is_one count + more
counted_more true count more = omega arith
counted_more false count more = refl

pub answers_then : (events more : List Event) (replies others : List Reply) → length events ≡ length replies
    → answers_in (events ++ more) (replies ++ others) ≡ answers_in events replies + answers_in more others
answers_then [] more [] others same = omega arith
answers_then [] more (r ∷ replies) others same = absurd (omega (arith, same))
answers_then (event ∷ events) more [] others same = absurd (omega (arith, same))
answers_then (Do command ∷ events) more (r ∷ replies) others same = answers_then events more replies others (omega (arith, same))
answers_then (Ask carrier message ∷ events) more (r ∷ replies) others same =
    ap (counted_if (is_answered r)) (answers_then events more replies others (omega (arith, same))) ∙ counted_more (is_answered r) (answers_in events replies) (answers_in more others)
answers_then (Save ∷ events) more (r ∷ replies) others same = answers_then events more replies others (omega (arith, same))

pub saves_then : (events more : List Event) (replies others : List Reply) → length events ≡ length replies
    → accepted_saves (events ++ more) (replies ++ others) ≡ accepted_saves events replies + accepted_saves more others
saves_then [] more [] others same = omega arith
saves_then [] more (r ∷ replies) others same = absurd (omega (arith, same))
saves_then (event ∷ events) more [] others same = absurd (omega (arith, same))
saves_then (Do command ∷ events) more (r ∷ replies) others same = saves_then events more replies others (omega (arith, same))
saves_then (Ask carrier message ∷ events) more (r ∷ replies) others same = saves_then events more replies others (omega (arith, same))
saves_then (Save ∷ events) more (r ∷ replies) others same =
    ap (counted_if (r.code == 0)) (saves_then events more replies others (omega (arith, same))) ∙ counted_more (r.code == 0) (accepted_saves events replies) (accepted_saves more others)

-- ---- what functions promise of them

module _ {D : Type 0} (tells : Bool) (seen : D → DiskSeen) (old : Bridged × D) (events more : List Event) where
  pub all_then : (mid new : Bridged × D) → PlaysAll tells seen old events mid → PlaysAll tells seen mid more new → PlaysAll tells seen old (events ++ more) new
  all_then mid new p q = record {
    replies = p.replies ++ q.replies;
    each = each_then tells seen old mid new events more p.replies q.replies p.each q.each;
    taken = taken_then events more p.replies q.replies (as_many tells seen old mid events p.replies p.each) p.taken q.taken;
    still_on = q.still_on;
  }

  pub stops_before : StopsIn tells seen old events → StopsIn tells seen old (events ++ more)
  stops_before s = record {
    front = s.front;
    event = s.event;
    more = s.more ++ more;
    events_are = ap (λ (es : List Event). es ++ more) s.events_are ∙ append_assoc s.front (s.event ∷ s.more) more;
    replies = s.replies;
    mid = s.mid;
    each = s.each;
    taken = s.taken;
    reply = s.reply;
    turned = s.turned;
    after = s.after;
    last = s.last;
    refused = s.refused;
  }

  pub stops_behind : (mid : Bridged × D) → PlaysAll tells seen old events mid → StopsIn tells seen mid more → StopsIn tells seen old (events ++ more)
  stops_behind mid p s = record {
    front = events ++ s.front;
    event = s.event;
    more = s.more;
    events_are = ap (λ (es : List Event). events ++ es) s.events_are ∙ sym (append_assoc events s.front (s.event ∷ s.more));
    replies = p.replies ++ s.replies;
    mid = s.mid;
    each = each_then tells seen old mid s.mid events s.front p.replies s.replies p.each s.each;
    taken = taken_then events s.front p.replies s.replies (as_many tells seen old mid events p.replies p.each) p.taken s.taken;
    reply = s.reply;
    turned = s.turned;
    after = s.after;
    last = s.last;
    refused = s.refused;
  }

  pub requests_then : (mid : Bridged × D) (after : D) (result : Result Bridged Stop) → PlaysAll tells seen old events mid
      → PlaysRequests tells seen mid more after result → PlaysRequests tells seen old (events ++ more) after result
  requests_then mid after (Ok bridge) p q = all_then mid (bridge, after) p q
  requests_then mid after (Err Refused) p s = stops_behind mid p s
  requests_then mid after (Err NoMemory) p n = n

  -- what stops stays stopped, with more behind it
  pub stopped_before : (after later : D) (stop : Stop) → PlaysRequests tells seen old events after (Err stop) → PlaysRequests tells seen old (events ++ more) later (Err stop)
  stopped_before after later Refused s = stops_before s
  stopped_before after later NoMemory n = n

-- ---- where they lead

module _ {D : Type 0} (tells : Bool) (seen : D → DiskSeen) (start : Beginning D) where
  pub passes_each : (events more : List Event) (replies others : List Reply) (old new : Bridged × D)
      → Passes tells seen start events replies old.0 old.1 → AnswersEach tells seen old more others new → Passes tells seen start (events ++ more) (replies ++ others) new.0 new.1
  passes_each events [] replies [] old new p e =
      subst (λ (es : List Event). Passes tells seen start es (replies ++ []) new.0 new.1) (sym (append-nil events))
      (subst (λ (rs : List Reply). Passes tells seen start events rs new.0 new.1) (sym (append-nil replies))
      (subst (λ (at : Bridged × D). Passes tells seen start events replies at.0 at.1) (sym e) p))
  passes_each events [] replies (r ∷ others) old new p e = absurd e
  passes_each events (event ∷ more) replies [] old new p e = absurd e
  passes_each events (event ∷ more) replies (r ∷ others) old new p e =
      subst (λ (es : List Event). Passes tells seen start es (replies ++ r ∷ others) new.0 new.1) (append_assoc events (event ∷ []) more)
      (subst (λ (rs : List Reply). Passes tells seen start ((events ++ event ∷ []) ++ more) rs new.0 new.1) (append_assoc replies (r ∷ []) others)
      (passes_each (events ++ event ∷ []) more (replies ++ r ∷ []) others e.0 new (one_more event r e.0.0 e.0.1 p e.1) e.2))

  module _ (o : HasOpened tells start.before (seen start.opened) start.bridge) where
    later_all : {events : List Event} {replies : List Reply} {bridge : Bridged} {disk : D} → Passes tells seen start events replies bridge disk → NeverFell start.before.faults (seen disk).faults
    later_all none_yet = o.later
    later_all (one_more {before = before} event reply new after p by) =
        NeverFell_trans start.before.faults (seen before).faults (seen after).faults (later_all p) by.leaves.later

    -- the machine gives the same replies, of each run state that it begins at
    pub leads_all : {events : List Event} {replies : List Reply} {bridge : Bridged} {disk : D} (passes : Passes tells seen start events replies bridge disk)
        → (run : RunState) → Begins tells start run → LeadsTo tells seen start passes run
    leads_all none_yet run b = leads_first tells seen start o run b
    leads_all (one_more {events = events} {replies = replies} {old = old} {before = before} event reply new after p by) run b =
        let reached : IsReached tells seen start (map event_frame events) replies old before =
        record { events = events; frames_are = refl; passes = p; later = later_all p; each = λ other c. leads_all p other c } in
        leads_next tells seen start reached event reply after new by run b

-- ---- one request

taken_by : (request : Request) (reply : Reply) → reply.code ≡ 0 → IsTaken (request_of request) reply
taken_by (requests.Command command) reply is = is
taken_by requests.Save reply is = is

refused_by : (request : Request) (reply : Reply) → IsRefusal reply → IsRefused (request_of request) reply
refused_by (requests.Command command) reply is = is
refused_by requests.Save reply is = is

module _ {D : Type 0} (tells : Bool) (seen : D → DiskSeen) (old : Bridged) (before after : D) (request : Request) (reply : Reply) (next : Bridged)
    (a : AnswersEvent tells seen old before (request_of request) reply (On next) after) where
  pub one_played : reply.code ≡ 0 → PlaysAll tells seen (old, before) (request_of request ∷ []) (next, after)
  one_played is = record {
    replies = reply ∷ [];
    each = ((next, after), a, refl);
    taken = (taken_by request reply is, tt);
    still_on = a.leaves.still_on;
  }

  pub one_stopped : (stop : Stop) → IsJudged reply (Err stop) → PlaysRequests tells seen (old, before) (request_of request ∷ []) after (Err stop)
  one_stopped Refused judged = record {
    front = [];
    event = request_of request;
    more = [];
    events_are = refl;
    replies = [];
    mid = (old, before);
    each = refl;
    taken = tt;
    reply = reply;
    turned = On next;
    after = after;
    last = a;
    refused = refused_by request reply judged;
  }
  one_stopped NoMemory judged = tt

-- what a round that says so does
pub rejoins : (again : Bool) (block hash : List ℕ) → again ≡ true → Do (Disconnect hash) ∷ (Do (Connect block) ∷ []) ≡ joined_again again block hash
rejoins true block hash is = refl
rejoins false block hash is = absurd (true≢false (sym is))
