-- A run goes on by one turn, or a fault of the disk ends it, whatever machine it is.
use Rattle.std.proofs.Common.{◌≡◌, inl, inr, ℕ, ◌+◌, ◌≤◌, List, [], ◌∷◌, ◌++◌, length, map, Some, None, Option, refl, sym, ap, subst, ◌∙◌, append_assoc, length-append, arith}
use Rattle.std.specs.Prelude.{IsTrue}
use Rattle.std.proofs.lemmas.List.{append-nil}
use Rattle.fault_counts.proofs.FaultLemmas.{NeverFell_trans, stayed_then_Rose}
use Rattle.disk_model.specs.Moments.{EachMoment, start}
use Rattle.disk_model.specs.DiskSeen.{DiskSeen}
use Rattle.disk_model.proofs.MomentLemmas.{last_moment, weaken, join}
use Rattle.feed_frames.specs.Frames.{Frame}
use Rattle.feed_frames.specs.Replies.{Reply}
use Rattle.chain_commands.specs.RunState.{RunState}
use Rattle.name_store.specs.Stands.{Bytes, Stands}
use Rattle.bridge_core.specs.Bridge.{fault_reply, AreFilesOf}
use Rattle.bridge_core.specs.Runs.{Machine, Start, Begins, Passes, none_yet, one_more, StandsForFront, StandsForAsked, Asked, asked, LeavesFront, LeavesOldOrFront, HoldsAnswered, LeadsTo, IsReached, KeepsNext, BreaksAt, IsBroken, KeepsFiles, Moves, Turns, KeepsEither, CutsShort, Fails, IsMachine}

pub frames_push : {E : Type 0} (frame_of : E → Frame) (events : List E) (event : E) → map frame_of events ++ frame_of event ∷ [] ≡ map frame_of (events ++ event ∷ [])
frames_push frame_of [] event = refl
frames_push frame_of (e ∷ events) event = ap (λ (fs : List Frame). frame_of e ∷ fs) (frames_push frame_of events event)

-- ---- what images stand for

module _ {S E X D : Type 0} (m : Machine S E X D) (run : RunState) where
  -- the run state behind all events
  pub front_of_all : {events : List E} {replies : List Reply} {reached : S} {image_is : Bytes} (least : ℕ)
      → least ≤ length events → m.Run (m.begin run) events replies reached → Stands image_is (m.run_of reached) → StandsForFront m run least events replies image_is
  front_of_all {events} {replies} {reached} least no_fewer runs stands = record {
    front = events;
    more = [];
    answered = replies;
    others = [];
    events_are = sym (append-nil events);
    replies_are = sym (append-nil replies);
    no_fewer = no_fewer;
    reached = reached;
    runs = runs;
    stands = stands;
  }

  -- a front is one with more events behind it
  pub front_more : {least : ℕ} {events : List E} {replies : List Reply} {image_is : Bytes} (event : E) (reply : Reply)
      → StandsForFront m run least events replies image_is → StandsForFront m run least (events ++ event ∷ []) (replies ++ reply ∷ []) image_is
  front_more event reply f = record {
    front = f.front;
    more = f.more ++ event ∷ [];
    answered = f.answered;
    others = f.others ++ reply ∷ [];
    events_are = ap (λ (es : List E). es ++ event ∷ []) f.events_are ∙ append_assoc f.front f.more (event ∷ []);
    replies_are = ap (λ (rs : List Reply). rs ++ reply ∷ []) f.replies_are ∙ append_assoc f.answered f.others (reply ∷ []);
    no_fewer = f.no_fewer;
    reached = f.reached;
    runs = f.runs;
    stands = f.stands;
  }

  -- and one of fewer
  front_fewer : {least events_least : ℕ} {events : List E} {replies : List Reply} {image_is : Bytes} → least ≤ events_least
      → StandsForFront m run events_least events replies image_is → StandsForFront m run least events replies image_is
  front_fewer fewer f = record {
    front = f.front;
    more = f.more;
    answered = f.answered;
    others = f.others;
    events_are = f.events_are;
    replies_are = f.replies_are;
    no_fewer = omega (arith, fewer, f.no_fewer);
    reached = f.reached;
    runs = f.runs;
    stands = f.stands;
  }

  fewer_asked : {least most : ℕ} (so_far : Asked E) → least ≤ most → (image_is : Bytes) → StandsForAsked m run most so_far image_is → StandsForAsked m run least so_far image_is
  fewer_asked so_far fewer image_is (inl f) = inl (front_fewer fewer f)
  fewer_asked so_far fewer image_is (inr kept) = inr kept

  -- what stands for a front of these events stands for one of more, and behind these no run state was kept
  pub more_asked : {events : List E} {replies : List Reply} (event : E) (reply : Reply) (least : ℕ) (image_is : Bytes)
      → StandsForAsked m run least (asked events replies None) image_is → StandsForAsked m run least (asked (events ++ event ∷ []) (replies ++ reply ∷ []) None) image_is
  more_asked event reply least image_is (inl f) = inl (front_more event reply f)
  more_asked event reply least image_is (inr none) = absurd none

  pub kept_asked : {events : List E} {replies : List Reply} (kept : Option RunState) (least : ℕ) (image_is : Bytes)
      → StandsForAsked m run least (asked events replies None) image_is → StandsForAsked m run least (asked events replies kept) image_is
  kept_asked kept least image_is (inl f) = inl f
  kept_asked kept least image_is (inr none) = absurd none

  -- One stretch of moments more, before which few was asked and behind which many: what stood for an event of the few stands for it among
  -- the many, and whatever a crash leaves in the stretch stands for so many events at least.
  pub record Stretch (few many : Asked E) (most : ℕ) (mid now : DiskSeen) : Type 0 where
    pub lifts : (least : ℕ) (image_is : Bytes) → StandsForAsked m run least few image_is → StandsForAsked m run least many image_is
    pub leaves : EachMoment (LeavesFront m run most many) mid.moments now.moments

  module _ {few many : Asked E} {most : ℕ} {mid now : DiskSeen} (s : Stretch few many most mid now) where
    -- whatever a crash leaves at any moment was there before the files were opened, or stands for a front
    pub old_or_more : (old : DiskSeen) → EachMoment (LeavesOldOrFront m old run few) old.moments mid.moments → EachMoment (LeavesOldOrFront m old run many) old.moments now.moments
    old_or_more old so_far =
        join (weaken (LeavesOldOrFront m old run many) (λ files leaves image_is is. elim (leaves image_is is) [
          | inl there ↦ inl there
          | inr so ↦ inr (s.lifts 0 image_is so)
        ]) so_far)
        (weaken (LeavesOldOrFront m old run many) (λ files leaves image_is is. inr (fewer_asked many (omega arith) image_is (leaves image_is is))) s.leaves)

    -- from a moment on, it stands for so many events at least
    since_more : (least : ℕ) (from : DiskSeen) → least ≤ most → EachMoment (LeavesFront m run least few) from.moments mid.moments → EachMoment (LeavesFront m run least many) from.moments now.moments
    since_more least from fewer so_far =
        join (weaken (LeavesFront m run least many) (λ files leaves image_is is. s.lifts least image_is (leaves image_is is)) so_far)
        (weaken (LeavesFront m run least many) (λ files leaves image_is is. fewer_asked many fewer image_is (leaves image_is is)) s.leaves)

    -- since each reply was given away, images hold at least the events answered by then
    pub holds_more : {begun : Start X D} {events : List E} {replies : List Reply} {x : X} {disk : D} (passes : Passes m begun events replies x disk)
        → length events ≤ most → HoldsAnswered m run few mid passes → HoldsAnswered m run many now passes
    holds_more {begun = begun} none_yet no_more held = since_more 0 (m.seen begun.opened) (omega arith) held
    holds_more (one_more {events = events} event reply new after before by) no_more held =
        let here : length events + 1 ≤ most = omega (arith, no_more, length-append events (event ∷ [])) in
        (since_more (length events + 1) (m.seen after) here held.0, holds_more before (omega (arith, here)) held.1)

-- ---- a turn that leaves the run state

-- of the disk nothing was asked
pub keeps_aside : {D : Type 0} (seen : D → DiskSeen) (old new : RunState) (before after : D) → new ≡ old → after ≡ before → AreFilesOf old (seen before).moments.now
    → KeepsFiles old new (seen before) (seen after)
keeps_aside {D} seen old new before after same untouched stood =
    subst (λ (run : RunState). KeepsFiles old run (seen before) (seen after)) (sym same)
    (subst (λ (d : D). KeepsFiles old old (seen before) (seen d)) (sym untouched) (record { files = stood; any_moment = start (λ image_is is. inl (stood.each image_is is)) }))

-- ---- a turn

module _ {S E X D : Type 0} (m : Machine S E X D) (laws : IsMachine m) (begun : Start X D) {frames : List Frame} {replies : List Reply} {old : X} {before : D}
    (r : IsReached m begun frames replies old before) (event : E) where
  frames_are : frames ++ m.frame_of event ∷ [] ≡ map m.frame_of (r.events ++ event ∷ [])
  frames_are = ap (λ (fs : List Frame). fs ++ m.frame_of event ∷ []) r.frames_are ∙ frames_push m.frame_of r.events event

  -- the event was answered
  module _ (reply : Reply) (after : D) (new : X) (a : m.Answers old before event reply new after) where
    abbrev turn : Turns m old before event reply new after
    turn = laws.turns old before event reply new after a

    module _ (run : RunState) (b : Begins m begun run) where
      abbrev led : LeadsTo m r.passes run
      led = r.each run b

      abbrev move : Moves m led.new before event reply new after
      move = turn.moves led.new led.stands

      abbrev with_event : Asked E
      with_event = asked (r.events ++ event ∷ []) (replies ++ reply ∷ []) None

      runs_next : m.Run (m.begin run) (r.events ++ event ∷ []) (replies ++ reply ∷ []) move.new
      runs_next = laws.next_step (m.begin run) r.events replies led.new event reply move.new led.runs move.step

      of_next : (image_is : Bytes) → Stands image_is (m.run_of move.new) → (least : ℕ) → least ≤ length r.events + 1 → StandsForAsked m run least with_event image_is
      of_next image_is stands least no_more = inl (front_of_all m run least (omega (arith, no_more, length-append r.events (event ∷ []))) runs_next stands)

      -- whatever a crash left in the turn
      between : IsTrue m.tells → Stretch m run (asked r.events replies None) with_event (length r.events) (m.seen before) (m.seen after)
      between told = record {
        lifts = λ least image_is stands. more_asked m run event reply least image_is stands;
        leaves = weaken (LeavesFront m run (length r.events) with_event) (λ files each image_is is. elim (each image_is is) [
          | inl stands ↦ inl (front_more m run event reply (front_of_all m run (length r.events) (omega arith) led.runs stands))
          | inr stands ↦ of_next image_is stands (length r.events) (omega arith)
        ]) (move.keeps told (led.files told)).any_moment;
      }

      pub leads_next : LeadsTo m (one_more event reply new after r.passes a) run
      leads_next = record {
        new = move.new;
        runs = runs_next;
        stands = move.stands;
        files = λ told. (move.keeps told (led.files told)).files;
        any_moment = λ told. old_or_more m run (between told) begun.before (led.any_moment told);
        acknowledged = λ told. (
          start (λ image_is is. of_next image_is ((move.keeps told (led.files told)).files.each image_is is) (length r.events + 1) (omega arith)),
          holds_more m run (between told) r.passes (omega arith) (led.acknowledged told),
        );
      }

    pub reached_by : IsReached m begun (frames ++ m.frame_of event ∷ []) (replies ++ reply ∷ []) new after
    reached_by = record {
      events = r.events ++ event ∷ [];
      frames_are = frames_are;
      passes = one_more event reply new after r.passes a;
      later = NeverFell_trans begun.before.faults (m.seen before).faults (m.seen after).faults r.later turn.later;
      each = λ run b. leads_next run b;
    }

  -- a fault of the disk cut the event short
  module _ (after : D) (a : m.Breaks old before event after) where
    abbrev failure : Fails m old before event after
    failure = laws.fails old before event after a

    module _ (run : RunState) (b : Begins m begun run) where
      abbrev led_to : LeadsTo m r.passes run
      led_to = r.each run b

      abbrev cut : CutsShort m led_to.new before event after
      cut = failure.cuts led_to.new led_to.stands

      module _ (told : IsTrue m.tells) where
        abbrev either : KeepsEither (m.IsDone led_to.new event) (m.run_of led_to.new) (m.seen before) (m.seen after)
        either = cut.keeps told (led_to.files told)

        abbrev keeping : Asked E
        keeping = asked r.events replies (Some either.kept)

        between_cut : Stretch m run (asked r.events replies None) keeping (length r.events) (m.seen before) (m.seen after)
        between_cut = record {
          lifts = λ least image_is stands. kept_asked m run keeping.kept least image_is stands;
          leaves = weaken (LeavesFront m run (length r.events) keeping) (λ files each image_is is. elim (each image_is is) [
            | inl stands ↦ inl (front_of_all m run (length r.events) (omega arith) led_to.runs stands)
            | inr stands ↦ inr stands
          ]) either.any_moment;
        }

        keeps_next : KeepsNext m r.passes event after run led_to.new
        keeps_next = record {
          kept = either.kept;
          is_kept = either.is_kept;
          files = last_moment either.any_moment;
          any_moment = old_or_more m run between_cut begun.before (led_to.any_moment told);
          acknowledged = holds_more m run between_cut r.passes (omega arith) (led_to.acknowledged told);
        }

      breaks_at : BreaksAt m r.passes event after run
      breaks_at = record { new = led_to.new; runs = led_to.runs; valid = cut.valid; crashes = λ told. keeps_next told }

    pub broken_by : IsBroken m begun (frames ++ m.frame_of event ∷ []) (replies ++ fault_reply ∷ []) after
    broken_by = record {
      events = r.events;
      last = event;
      answered = replies;
      old = old;
      before = before;
      frames_are = frames_are;
      replies_are = refl;
      passes = r.passes;
      ends = a;
      failed = failure.failed;
      later = NeverFell_trans begun.before.faults (m.seen before).faults (m.seen after).faults r.later failure.later;
      rose = record { last = failure.failed.last; rose = stayed_then_Rose begun.before.faults (m.seen before).faults (m.seen after).faults r.later failure.failed.rose };
      each = λ run b. breaks_at run b;
    }
