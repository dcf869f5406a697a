-- What a port noted, call by call.
use Rattle.std.specs.Prelude.{Result, Ok, Err, if◌then◌else◌}
use Rattle.std.proofs.Common.{◌≡◌, ◌⊎◌, inl, inr, ◌==◌, Bool, true, false, List, [], ◌∷◌, ◌++◌, refl, sym, ap, subst, ◌∙◌, append_assoc}
use Rattle.std.proofs.lemmas.List.{append-nil}
use Rattle.std.proofs.lemmas.Bool.{eqb-true, eq-eqb, cases_Bool}
use Rattle.fault_counts.proofs.FaultLemmas.{NeverFell_refl, NeverFell_trans}
use Rattle.byte_io.specs.Port.{Note, PortSeen, IsBound, Notes, Sends}
use Rattle.byte_io.specs.declared.errors.Failed.{Failed}
use Rattle.feed_frames.specs.Frames.{Frame}
use Rattle.feed_frames.specs.Replies.{Reply}
use Rattle.frame_loop.specs.Answering.{GivesAll, none_yet, one_more}
use Rattle.port_loop.specs.Sends.{to_feed, Replied, none, one, SendsOne, SendsToFeed}
use Rattle.port_loop.specs.declared.sending.TheConstants.{DROPPED}

pub Notes_nothing : (port : PortSeen) → Notes port port []
Notes_nothing port = record {
  bound = refl;
  added = λ after told. record { before = after; told = told; after_is = sym (append-nil after) };
  later = NeverFell_refl port.faults;
}

pub Notes_append : (a b c : PortSeen) (xs ys : List Note) → Notes a b xs → Notes b c ys → Notes a c (xs ++ ys)
Notes_append a b c xs ys first second = record {
  bound = second.bound ∙ first.bound;
  added = λ after told.
      let s = second.added after told in
      let f = first.added s.before s.told in
      record { before = f.before; told = f.told; after_is = s.after_is ∙ ap (λ (q : List Note). q ++ ys) f.after_is ∙ append_assoc f.before xs ys };
  later = NeverFell_trans a.faults b.faults c.faults first.later second.later;
}

pub still_bound : (a b : PortSeen) (xs : List Note) → Notes a b xs → IsBound a → IsBound b
still_bound a b xs n bound = record { numbers = bound.numbers; are = n.bound ∙ bound.are }

-- replies to frames, and those to the frames behind them
pub replied_then : {to : Reply → Bool → List Note} {fs gs : List Frame} {rs qs : List Reply} {xs ys : List Note}
    → Replied to fs rs xs → Replied to gs qs ys → Replied to (fs ++ gs) (rs ++ qs) (xs ++ ys)
replied_then none second = second
replied_then {to = to} {gs = gs} {qs = qs} {ys = ys} (one frame reply is_sent frames replies notes rest) second =
    subst (λ (q : List Note). Replied to (frame ∷ (frames ++ gs)) (reply ∷ (replies ++ qs)) q) (sym (append_assoc (to reply is_sent) notes ys))
    (one frame reply is_sent (frames ++ gs) (replies ++ qs) (notes ++ ys) (replied_then rest second))

-- a reply to one frame
pub replied_one : (to : Reply → Bool → List Note) (frame : Frame) (reply : Reply) (is_sent : Bool) → Replied to (frame ∷ []) (reply ∷ []) (to reply is_sent)
replied_one to frame reply is_sent = subst (λ (q : List Note). Replied to (frame ∷ []) (reply ∷ []) q) (append-nil (to reply is_sent)) (one frame reply is_sent [] [] [] none)

-- the sends for replies that were given to the feed
pub record SentAll (old new : PortSeen) (frames : List Frame) (replies : List Reply) : Type 0 where
  pub sends : List Note
  pub replied : Replied to_feed frames replies sends
  pub noted : Notes old new sends

pub sent_all : {old new : PortSeen} {frames : List Frame} {replies : List Reply} → GivesAll SendsToFeed old frames replies new → SentAll old new frames replies
sent_all {old = old} (none_yet outlet) = record { sends = []; replied = none; noted = Notes_nothing old }
sent_all {old = old} (one_more {mid = mid} {new = new} frame reply before sent) =
    let first = sent_all before in
    let send = to_feed reply sent.is_sent in
    record {
      sends = first.sends ++ send;
      replied = replied_then first.replied (replied_one to_feed frame reply sent.is_sent);
      noted = Notes_append old mid new first.sends send first.noted sent.noted;
    }

-- this note, but none for the code of a dropped query
abbrev pub unless_dropped : (Bool → Note) → Reply → Bool → List Note
unless_dropped note reply is_sent = if reply.code == DROPPED then [] else (note is_sent ∷ [])

-- the reply to a dropped query isn't sent
pub dropped : (note : Bool → Note) (port : PortSeen) (reply : Reply) → reply.code ≡ DROPPED → SendsOne port port (unless_dropped note reply)
dropped note port reply same =
    let test : (reply.code == DROPPED) ≡ true = eq-eqb reply.code DROPPED same in
    record { is_sent = true; noted = rw test (Notes_nothing port) }

-- another was sent, or the send failed
pub sent_to_client : (note : Bool → Note) (old new : PortSeen) (reply : Reply) (result : Result (Unit {0}) Failed) → (reply.code ≡ DROPPED → ⊥) → Sends old new note result
    → SendsOne old new (unless_dropped note reply)
sent_to_client note old new reply result other sends = after (cases_Bool (reply.code == DROPPED)) result sends where
  after : ((reply.code == DROPPED) ≡ true) ⊎ ((reply.code == DROPPED) ≡ false) → (r : Result (Unit {0}) Failed) → Sends old new note r → SendsOne old new (unless_dropped note reply)
  after (inl same) r s = absurd (other (eqb-true reply.code DROPPED same))
  after (inr differs) (Ok done) s = record { is_sent = true; noted = rw differs s }
  after (inr differs) (Err e) s = record { is_sent = false; noted = rw differs s.noted }
