-- Frames that are answered one after the other, wherever their replies are given.
use Rattle.std.proofs.Common.{◌≡◌, ℕ, List, [], ◌∷◌, ◌++◌, length, refl, sym, ap, subst, ◌∙◌, append_assoc, length-append, arith}
use Rattle.std.proofs.lemmas.List.{append-nil}
use Rattle.std.proofs.lemmas.Grind.{flat_map-append}
use Rattle.nmc_base.proofs.ListLemmas.{all-append}
use Rattle.feed_frames.specs.Frames.{Frame, frame_text, frames_text, IsFramed, IsBadFrame, IsPartialFrame, Splits}
use Rattle.feed_frames.specs.Feed.{Feed, Takes, Waits, Sticks}
use Rattle.feed_frames.specs.Replies.{Reply}
use Rattle.feed_frames.proofs.SplittingLemmas.{splits_push, length-frame_text}
use Rattle.frame_loop.specs.Turns.{GoesOn, GoesOut}
use Rattle.frame_loop.specs.Answering.{Desk, desk, GivesAll, none_yet, one_more, LeadsTo, Answered, AnswersOne, HaltsAtPart, HaltsAtBad, HaltsBehind, AnswersAll}
use Rattle.frame_loop.specs.declared.answering.Halted.{Halted}
use Rattle.frame_loop.specs.declared.answering.Halted.TheVariants.{Partial, Bad, Undelivered, Ended}

-- ---- where frames and replies lead

pub leads_nowhere : {Start X : Type 0} (Reached : Start → List Frame → List Reply → X → Type 0) (now : X) → LeadsTo Reached Reached now [] [] now
leads_nowhere Reached now = record {
  from = λ start before answered there.
      subst (λ (fs : List Frame). Reached start fs (answered ++ []) now) (sym (append-nil before))
      (subst (λ (rs : List Reply). Reached start before rs now) (sym (append-nil answered)) there);
}

pub leads_then : {Start X : Type 0} {Reached After : Start → List Frame → List Reply → X → Type 0} {a b c : X} {fs gs : List Frame} {rs qs : List Reply}
    → LeadsTo Reached Reached a fs rs b → LeadsTo Reached After b gs qs c → LeadsTo Reached After a (fs ++ gs) (rs ++ qs) c
leads_then {After = After} {c = c} {fs = fs} {gs = gs} {rs = rs} {qs = qs} first second = record {
  from = λ start before answered there.
      subst (λ (all : List Frame). After start all (answered ++ (rs ++ qs)) c) (append_assoc before fs gs)
      (subst (λ (all : List Reply). After start ((before ++ fs) ++ gs) all c) (append_assoc answered rs qs)
      (second.from start (before ++ fs) (answered ++ rs) (first.from start before answered there)));
}

-- one turn leads on, or out
pub leads_on : {Start X : Type 0} {Ready : X → Type 0} {Reached : Start → List Frame → List Reply → X → Type 0} {old new : X} {frame : Frame} {reply : Reply}
    → GoesOn Ready Reached old frame reply new → LeadsTo Reached Reached old (frame ∷ []) (reply ∷ []) new
leads_on turn = record { from = λ start before answered there. turn.goes_on start before answered there }

pub leads_out : {Start X : Type 0} {Reached Broken : Start → List Frame → List Reply → X → Type 0} {old new : X} {frame : Frame} {reply : Reply}
    → GoesOut Reached Broken old frame reply new → LeadsTo Reached Broken old (frame ∷ []) (reply ∷ []) new
leads_out turn = record { from = λ start before answered there. turn.goes_out start before answered there }

-- ---- replies that were given

gives_then : {O : Type 0} {Gives : O → Reply → O → Type 0} {a b c : O} {fs gs : List Frame} {rs qs : List Reply}
    → GivesAll Gives a fs rs b → GivesAll Gives b gs qs c → GivesAll Gives a (fs ++ gs) (rs ++ qs) c
gives_then {Gives = Gives} {a = a} {fs = fs} {rs = rs} first (none_yet outlet) =
    subst (λ (ts : List Frame). GivesAll Gives a ts (rs ++ []) outlet) (sym (append-nil fs)) (subst (λ (ts : List Reply). GivesAll Gives a fs ts outlet) (sym (append-nil rs)) first)
gives_then {Gives = Gives} {a = a} {c = c} {fs = fs} {rs = rs} first (one_more {frames = gs} {replies = qs} frame reply before gave) =
    subst (λ (ts : List Frame). GivesAll Gives a ts (rs ++ (qs ++ reply ∷ [])) c) (append_assoc fs gs (frame ∷ []))
    (subst (λ (ts : List Reply). GivesAll Gives a ((fs ++ gs) ++ frame ∷ []) ts c) (append_assoc rs qs (reply ∷ [])) (one_more frame reply (gives_then first before) gave))

-- what takes replies takes them still
pub still_takes : {O : Type 0} {Gives : O → Reply → O → Type 0} (Takes_more : O → Type 0) → ((old : O) (reply : Reply) (new : O) → Gives old reply new → Takes_more old → Takes_more new)
    → {old new : O} {frames : List Frame} {replies : List Reply} → GivesAll Gives old frames replies new → Takes_more old → Takes_more new
still_takes Takes_more stays (none_yet outlet) before_it = before_it
still_takes Takes_more stays (one_more {mid = mid} {new = new} frame reply before gave) before_it = stays mid reply new gave (still_takes Takes_more stays before before_it)

-- ---- one after the other

module _ {kinds : ℕ} where
  pub splits_then : (a b c : List ℕ) (fs gs : List Frame) → Splits kinds a fs b → Splits kinds b gs c → Splits kinds a (fs ++ gs) c
  splits_then a b c fs gs first second = record {
    whole = first.whole ∙ ap (λ (q : List ℕ). frames_text fs ++ q) second.whole ∙ sym (append_assoc (frames_text fs) (frames_text gs) c)
        ∙ ap (λ (q : List ℕ). q ++ c) (sym (flat_map-append frame_text fs gs));
    framed = all-append (IsFramed kinds) fs gs first.framed second.framed;
  }

module _ {kinds : ℕ} {O Start X : Type 0} {Gives : O → Reply → O → Type 0} {Reached : Start → List Frame → List Reply → X → Type 0} where
  -- no frame was answered
  pub stays : (old : Desk O X) → Answered kinds Gives Reached old old
  stays old = record {
    frames = [];
    replies = [];
    split = record { whole = refl; framed = tt };
    kinds_are = refl;
    fed = refl;
    given = none_yet old.outlet;
    leads = leads_nowhere Reached old.now;
  }

  pub answered_then : (a b c : Desk O X) → Answered kinds Gives Reached a b → Answered kinds Gives Reached b c → Answered kinds Gives Reached a c
  answered_then a b c first second = record {
    frames = first.frames ++ second.frames;
    replies = first.replies ++ second.replies;
    split = splits_then a.feed.left b.feed.left c.feed.left first.frames second.frames first.split second.split;
    kinds_are = second.kinds_are ∙ first.kinds_are;
    fed = second.fed ∙ first.fed;
    given = gives_then first.given second.given;
    leads = leads_then first.leads second.leads;
  }

  -- frames were answered, and then one more, behind which none is
  behind_then : {Last : O → Reply → O → Type 0} {After : Start → List Frame → List Reply → X → Type 0} (a b c : Desk O X)
      → Answered kinds Gives Reached a b → HaltsBehind kinds Gives Last Reached After b c → HaltsBehind kinds Gives Last Reached After a c
  behind_then {After = After} a b c first halts = record {
    frames = first.frames ++ halts.frames;
    replies = first.replies ++ halts.replies;
    frame = halts.frame;
    reply = halts.reply;
    mid = halts.mid;
    split = subst (λ (fs : List Frame). Splits kinds a.feed.left fs c.feed.left) (sym (append_assoc first.frames halts.frames (halts.frame ∷ [])))
        (splits_then a.feed.left b.feed.left c.feed.left first.frames (halts.frames ++ halts.frame ∷ []) first.split halts.split);
    given = gives_then first.given halts.given;
    last = halts.last;
    leads = subst (λ (fs : List Frame). LeadsTo Reached After a.now fs ((first.replies ++ halts.replies) ++ halts.reply ∷ []) c.now) (sym (append_assoc first.frames halts.frames (halts.frame ∷ [])))
        (subst (λ (rs : List Reply). LeadsTo Reached After a.now (first.frames ++ (halts.frames ++ halts.frame ∷ [])) rs c.now) (sym (append_assoc first.replies halts.replies (halts.reply ∷ [])))
        (leads_then first.leads halts.leads));
  }

-- whatever comes behind
pub finishes : {O Start X : Type 0} (kinds : ℕ) (Gives Refuses GivesLast : O → Reply → O → Type 0) (Ready : X → Type 0) (Reached Broken : Start → List Frame → List Reply → X → Type 0)
    (a b c : Desk O X) (halted : Halted) → Answered kinds Gives Reached a b → AnswersAll kinds Gives Refuses GivesLast Ready Reached Broken b c halted
    → AnswersAll kinds Gives Refuses GivesLast Ready Reached Broken a c halted
finishes kinds Gives Refuses GivesLast Ready Reached Broken a b c Partial first second = record { answered = answered_then a b c first second.answered; ready = second.ready; partial = second.partial }
finishes kinds Gives Refuses GivesLast Ready Reached Broken a b c (Bad offset) first second =
    record { answered = answered_then a b c first second.answered; ready = second.ready; bad = second.bad; offset_is = second.offset_is }
finishes kinds Gives Refuses GivesLast Ready Reached Broken a b c Undelivered first second = behind_then a b c first second
finishes kinds Gives Refuses GivesLast Ready Reached Broken a b c Ended first second = behind_then a b c first second

-- ---- the frame at the front

module _ {kinds : ℕ} {O Start X : Type 0} (Gives : O → Reply → O → Type 0) (Ready : X → Type 0) (Reached : Start → List Frame → List Reply → X → Type 0) (old : Desk O X) (reads : old.feed.kinds ≡ kinds) where
  -- no whole frame is left
  pub waits : (feed : Feed) → Ready old.now → Waits old.feed feed → HaltsAtPart kinds Gives Ready Reached old (desk old.outlet feed old.now)
  waits feed ready w =
      subst (λ (f : Feed). HaltsAtPart kinds Gives Ready Reached old (desk old.outlet f old.now)) (sym w.same)
      (record { answered = stays old; ready = ready; partial = subst (λ (k : ℕ). IsPartialFrame k old.feed.left) reads w.partial })

  -- what is left begins no frame
  pub sticks : (feed : Feed) (offset : ℕ) → Ready old.now → Sticks old.feed feed offset → HaltsAtBad kinds Gives Ready Reached old (desk old.outlet feed old.now) offset
  sticks feed offset ready w =
      subst (λ (f : Feed). HaltsAtBad kinds Gives Ready Reached old (desk old.outlet f old.now) offset) (sym w.same)
      (record { answered = stays old; ready = ready; bad = subst (λ (k : ℕ). IsBadFrame k old.feed.left) reads w.bad; offset_is = w.offset_is })

  module _ (new : Desk O X) (frame : Frame) (reply : Reply) (t : Takes old.feed frame new.feed) where
    split_one : Splits kinds old.feed.left (frame ∷ []) new.feed.left
    split_one = splits_push kinds old.feed.left [] frame new.feed.left (subst (λ (k : ℕ). IsFramed k frame) reads t.framed) (record { whole = t.whole; framed = tt })

    -- it was answered, and its reply given
    pub answered_one : GoesOn Ready Reached old.now frame reply new.now → Gives old.outlet reply new.outlet → AnswersOne kinds Gives Ready Reached old new
    answered_one turn gave = record {
      answered = record {
        frames = frame ∷ [];
        replies = reply ∷ [];
        split = split_one;
        kinds_are = t.kinds_are;
        fed = omega (arith, t.offset, ap length t.whole, length-append (frame_text frame) new.feed.left);
        given = one_more {frames = []} {replies = []} frame reply (none_yet old.outlet) gave;
        leads = leads_on turn;
      };
      ready = turn.ready;
      less = omega (arith, ap length t.whole, length-append (frame_text frame) new.feed.left, length-frame_text frame);
    }

    -- and none is behind it
    pub halts_behind : {Last : O → Reply → O → Type 0} {After : Start → List Frame → List Reply → X → Type 0} → LeadsTo Reached After old.now (frame ∷ []) (reply ∷ []) new.now
        → Last old.outlet reply new.outlet → HaltsBehind kinds Gives Last Reached After old new
    halts_behind leads last = record {
      frames = [];
      replies = [];
      frame = frame;
      reply = reply;
      mid = old.outlet;
      split = split_one;
      given = none_yet old.outlet;
      last = last;
      leads = leads;
    }
