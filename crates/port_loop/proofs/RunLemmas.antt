-- Polls that are dealt with one after the other, and how the run ends.
use Rattle.std.proofs.Common.{◌≡◌, ℕ, suc, ◌+◌, ◌*◌, ◌<◌, ◌≤◌, List, [], ◌++◌, refl, sym, subst, ◌∙◌, arith}
use Rattle.byte_io.specs.Port.{Note, PortSeen, Notes, IsBound}
use Rattle.byte_io.specs.declared.port.TheConstants.{POLL_ROOM}
use Rattle.dns_tcp.specs.Streams.{Stream}
use Rattle.feed_frames.specs.Frames.{Frame, IsPartialFrame, nothing}
use Rattle.feed_frames.specs.Feed.{Feed, fresh_feed}
use Rattle.feed_frames.specs.Replies.{Reply}
use Rattle.port_loop.specs.Transcript.{DealsWithAll, none_yet, one_more, Attends}
use Rattle.frame_loop.specs.Answering.{fed_to, LeadsTo}
use Rattle.port_loop.specs.Polls.{AreParts}
use Rattle.port_loop.specs.Attending.{Station, station, parts_of, Deals, Breaks}
use Rattle.port_loop.specs.declared.attending.Ending.TheVariants.{Done, Ended}
use Rattle.port_loop.proofs.NoteLemmas.{Notes_nothing, Notes_append, still_bound}
use Rattle.frame_loop.proofs.DeskLemmas.{leads_nowhere, leads_then}

-- so many polls were dealt with
pub record SoFar {Start X : Type 0} (kinds : ℕ) (Ready : X → Type 0) (Reached : Start → List Frame → List Reply → X → Type 0) (old : PortSeen) (first : X) (polls : ℕ) (now : Station X) : Type 0 where
  pub frames : List Frame
  pub replies : List Reply
  pub notes : List Note
  pub dealt : DealsWithAll kinds polls (parts_of now) frames replies notes
  pub noted : Notes old now.port notes
  pub leads : LeadsTo Reached Reached first frames replies now.now
  pub reads : now.feed.kinds ≡ kinds
  pub bound : IsBound now.port
  pub ready : Ready now.now
  pub partial : IsPartialFrame kinds now.feed.left
  pub parts : AreParts now.streams
  pub fed : fed_to now.feed ≤ polls * POLL_ROOM

module _ {kinds : ℕ} where
  pub begins : {Start X : Type 0} (Ready : X → Type 0) (Reached : Start → List Frame → List Reply → X → Type 0) (old : PortSeen) (first : X) (feed : Feed) (streams : List Stream)
      → IsBound old → Ready first → feed ≡ fresh_feed kinds → streams ≡ [] → SoFar kinds Ready Reached old first 0 (station old feed streams first)
  begins Ready Reached old first feed streams bound ready fresh nobody =
      subst (λ (f : Feed). SoFar kinds Ready Reached old first 0 (station old f streams first)) (sym fresh)
      (subst (λ (ss : List Stream). SoFar kinds Ready Reached old first 0 (station old (fresh_feed kinds) ss first)) (sym nobody) (record {
        frames = [];
        replies = [];
        notes = [];
        dealt = none_yet;
        noted = Notes_nothing old;
        leads = leads_nowhere Reached first;
        reads = refl;
        bound = bound;
        ready = ready;
        partial = nothing refl;
        parts = tt;
        fed = omega arith;
      }))

  dealt_more : {Start X : Type 0} {Ready : X → Type 0} {Reached : Start → List Frame → List Reply → X → Type 0} {old : PortSeen} {first : X} {polls : ℕ} (now new : Station X)
      → SoFar kinds Ready Reached old first polls now → Deals kinds Ready Reached now new → SoFar kinds Ready Reached old first (suc polls) new
  dealt_more {old = old} {polls = polls} now new s d = record {
    frames = s.frames ++ d.frames;
    replies = s.replies ++ d.replies;
    notes = s.notes ++ d.notes;
    dealt = one_more polls (parts_of now) (parts_of new) s.dealt d.deals;
    noted = Notes_append old now.port new.port s.notes d.notes s.noted d.noted;
    leads = leads_then s.leads d.leads;
    reads = d.kinds_are ∙ s.reads;
    bound = still_bound now.port new.port d.notes d.noted s.bound;
    ready = d.ready;
    partial = d.partial;
    parts = d.parts;
    fed = omega (arith, s.fed, d.fed);
  }

  pub goes_on : {Start X : Type 0} {Ready : X → Type 0} {Reached : Start → List Frame → List Reply → X → Type 0} {old : PortSeen} {first : X} {polls : ℕ} (now new : Station X)
      → SoFar kinds Ready Reached old first polls now → Deals kinds Ready Reached now new → SoFar kinds Ready Reached old first (polls + 1) new
  goes_on {Ready = Ready} {Reached = Reached} {old = old} {first = first} {polls = polls} now new s d =
      subst (λ (n : ℕ). SoFar kinds Ready Reached old first n new) (omega arith) (dealt_more now new s d)

  pub is_done : {Start X : Type 0} {Ready : X → Type 0} {Reached Broken : Start → List Frame → List Reply → X → Type 0} {old : PortSeen} {first : X} {polls turns : ℕ} (now : Station X)
      → SoFar kinds Ready Reached old first polls now → polls ≡ turns → Attends kinds Reached Broken old now.port turns first Done now.now
  is_done {Ready = Ready} {Reached = Reached} {old = old} {first = first} now s all =
      let whole = subst (λ (n : ℕ). SoFar kinds Ready Reached old first n now) all s in
      record {
        notes = whole.notes;
        noted = whole.noted;
        transcript = record { part = parts_of now; frames = whole.frames; replies = whole.replies; dealt = whole.dealt; leads = whole.leads };
      }

  pub has_ended : {Start X : Type 0} {Ready : X → Type 0} {Reached Broken : Start → List Frame → List Reply → X → Type 0} {old : PortSeen} {first : X} {polls turns : ℕ} (now new : Station X)
      → SoFar kinds Ready Reached old first polls now → Breaks kinds Reached Broken now new → polls < turns → Attends kinds Reached Broken old new.port turns first Ended new.now
  has_ended {old = old} {polls = polls} now new s b fewer = record {
    notes = s.notes ++ b.notes;
    noted = Notes_append old now.port new.port s.notes b.notes s.noted b.noted;
    transcript = record {
      polls = polls;
      part = parts_of now;
      frames = s.frames;
      replies = s.replies;
      before = s.notes;
      fewer = fewer;
      dealt = s.dealt;
      last_frames = b.frames;
      last_replies = b.replies;
      last_notes = b.notes;
      last = b.breaks;
      notes_are = refl;
      leads = leads_then s.leads b.leads;
    };
  }
