-- A run over a stream, piece by piece, and how it ends.
use Rattle.std.proofs.Common.{◌≡◌, ℕ, ◌+◌, ◌<◌, ◌≤◌, List, [], ◌∷◌, ◌++◌, length, Some, None, refl, sym, ap, subst, ◌∙◌, append_assoc, length-append, arith}
use Rattle.std.proofs.lemmas.List.{append-nil, nil_from_length, flat_map_more}
use Rattle.std.proofs.lemmas.Grind.{flat_map-append}
use Rattle.std.specs.Io.KnownBytes.{Consumes, Appends, IsAtEnd}
use Rattle.fault_counts.specs.Faults.{NeverFell}
use Rattle.fault_counts.proofs.FaultLemmas.{NeverFell_refl, NeverFell_trans, stayed_then_Rose}
use Rattle.byte_io.specs.Source.{SourceSeen}
use Rattle.byte_io.specs.Sink.{SinkSeen}
use Rattle.byte_io.proofs.SourceLemmas.{Consumes_nothing, Consumes_append}
use Rattle.byte_io.proofs.SinkLemmas.{Appends_nothing, Appends_append}
use Rattle.feed_frames.specs.Frames.{Frame, frame_text, frames_text, Splits, IsPartialFrame, nothing}
use Rattle.feed_frames.specs.Replies.{Reply, reply_text, replies_text}
use Rattle.feed_frames.specs.Feed.{Feed, fresh_feed, after_piece}
use Rattle.feed_frames.specs.declared.reader.TheConstants.{PIECE}
use Rattle.feed_frames.proofs.SplittingLemmas.{splits_nothing, splits_more, partial_is_shorter}
use Rattle.frame_loop.specs.Filling.{FillsPiece, FillBreaks}
use Rattle.frame_loop.specs.Delivery.{TookAll, TookPart, TookUpTo}
use Rattle.frame_loop.specs.Answering.{Desk, desk, fed_to, GivesAll, none_yet, one_more, Answered, HaltsAtPart, HaltsAtBad, HaltsBehind}
use Rattle.frame_loop.specs.Transcript.{SoFar, Streams, streams, Follows}
use Rattle.frame_loop.specs.declared.following.Ending.TheVariants.{Done, BadFrame, CutFrame, SourceFault, SinkFault, Ended, InputLimit}
use Rattle.frame_loop.proofs.DeliveryLemmas.{since, whole_since}
use Rattle.frame_loop.proofs.DeskLemmas.{splits_then}

-- ---- replies on a sink

-- a reply was taken whole, or a part of it, or as much as the sink took
abbrev pub TookReply : SinkSeen → Reply → SinkSeen → Type 0
TookReply old reply new = TookAll old new (reply_text reply)

abbrev pub TookPartOf : SinkSeen → Reply → SinkSeen → Type 0
TookPartOf old reply new = TookPart old new (reply_text reply)

abbrev pub TookSomeOf : SinkSeen → Reply → SinkSeen → Type 0
TookSomeOf old reply new = TookUpTo old new (reply_text reply)

-- the sink took the text of all replies
record TookReplies (old new : SinkSeen) (replies : List Reply) : Type 0 where
  took : Appends old.taken new.taken (replies_text replies)
  later : NeverFell old.faults new.faults

took_all : {old new : SinkSeen} {frames : List Frame} {replies : List Reply} → GivesAll TookReply old frames replies new → TookReplies old new replies
took_all {old = old} (none_yet outlet) = record { took = Appends_nothing old.taken; later = NeverFell_refl old.faults }
took_all {old = old} (one_more {mid = mid} {new = new} {replies = replies} frame reply before took) =
    let so_far = took_all before in
    record {
      took = subst (λ (q : List ℕ). Appends old.taken new.taken q) (flat_map_more reply_text [] replies reply) (Appends_append old.taken mid.taken new.taken (replies_text replies) (reply_text reply) so_far.took took.took);
      later = NeverFell_trans old.faults mid.faults new.faults so_far.later took.later;
    }

told_then : (written : List ℕ) (first second : List Reply) → written ≡ replies_text first → written ++ replies_text second ≡ replies_text (first ++ second)
told_then written first second told = ap (λ (q : List ℕ). q ++ replies_text second) told ∙ sym (flat_map-append reply_text first second)

-- what was read and written from one start on
pub record Since {X : Type 0} (kinds : ℕ) (Reached : List Frame → List Reply → X → Type 0) (old : Streams) (source : SourceSeen) (now : Desk SinkSeen X) : Type 0 where
  pub read : List ℕ
  pub written : List ℕ
  pub given : Consumes old.source.left source.left read
  pub took : Appends old.sink.taken now.outlet.taken written
  pub counted : length read ≡ fed_to now.feed
  pub so_far : SoFar kinds Reached read now.feed.left written now.now

-- the bytes up to the limit were read, of which some aren't dealt with
pub record IsAt {Start X : Type 0} (kinds : ℕ) (Reached : Start → List Frame → List Reply → X → Type 0) (old : Streams) (limit : ℕ) (first : X) (source : SourceSeen) (now : Desk SinkSeen X) : Type 0 where
  pub reads : now.feed.kinds ≡ kinds
  pub within : fed_to now.feed ≤ limit
  pub source_later : NeverFell old.source.faults source.faults
  pub sink_later : NeverFell old.sink.faults now.outlet.faults
  pub since : (start : Start) → Reached start [] [] first → Since kinds (Reached start) old source now

-- a part of a frame, and one piece behind it
pub record IsFresh (kinds : ℕ) (rest : List ℕ) : Type 0 where
  pub partial : List ℕ
  pub piece : List ℕ
  pub rest_is : rest ≡ partial ++ piece
  pub cut : IsPartialFrame kinds partial
  pub one_piece : length piece ≤ PIECE

-- the same before the frames behind the last piece are answered
pub record Arrives {Start X : Type 0} (kinds : ℕ) (Reached : Start → List Frame → List Reply → X → Type 0) (old : Streams) (limit count : ℕ) (first : X) (source : SourceSeen) (now : Desk SinkSeen X) : Type 0 where
  pub at : IsAt kinds Reached old limit first source now
  pub counted : count ≡ fed_to now.feed
  pub fresh : IsFresh kinds now.feed.left

fed_more : (before after : Feed) (piece : List ℕ) → after ≡ after_piece before piece → fed_to after ≡ fed_to before + length piece
fed_more before after piece grown = omega (arith, ap fed_to grown, length-append before.left piece)

-- an empty piece was read
pub record ReadNothing {Start X : Type 0} (kinds : ℕ) (Reached : Start → List Frame → List Reply → X → Type 0) (old : Streams) (limit : ℕ) (first : X) (source : SourceSeen) (now : Desk SinkSeen X) (feed : Feed) : Type 0 where
  pub at : IsAt kinds Reached old limit first source now
  pub same : feed ≡ now.feed
  pub at_end : IsAtEnd source.left

-- a part of a frame of which no place is told is none at all
nothing_there : (rest : List ℕ) (offset : ℕ) → (0 < length rest → None ≡ Some offset) → rest ≡ []
nothing_there [] offset told = refl
nothing_there (x ∷ xs) offset told = absurd (let e : None ≡ Some offset = told (omega arith) in cc)

module _ {kinds : ℕ} where
  pub begins : {Start X : Type 0} (Reached : Start → List Frame → List Reply → X → Type 0) (old : Streams) (limit : ℕ) (first : X) (feed : Feed) → feed ≡ fresh_feed kinds
      → Arrives kinds Reached old limit 0 first old.source (desk old.sink feed first)
  begins Reached old limit first feed fresh = subst (λ (f : Feed). Arrives kinds Reached old limit 0 first old.source (desk old.sink f first)) (sym fresh) (record {
    at = record {
      reads = refl;
      within = omega arith;
      source_later = NeverFell_refl old.source.faults;
      sink_later = NeverFell_refl old.sink.faults;
      since = λ start there. record {
        read = [];
        written = [];
        given = Consumes_nothing old.source.left;
        took = Appends_nothing old.sink.taken;
        counted = refl;
        so_far = record { frames = []; replies = []; split = splits_nothing kinds; reached = there; told = refl };
      };
    };
    counted = refl;
    fresh = record { partial = []; piece = []; rest_is = refl; cut = nothing refl; one_piece = omega arith };
  })

  -- the whole frames were answered
  pub moves : {Start X : Type 0} {Reached : Start → List Frame → List Reply → X → Type 0} {old : Streams} {limit : ℕ} {first : X} {source : SourceSeen} {a b : Desk SinkSeen X}
      → IsAt kinds Reached old limit first source a → Answered kinds TookReply Reached a b → IsAt kinds Reached old limit first source b
  moves {old = old} {limit = limit} {source = source} {a = a} {b = b} at answered =
      let took = took_all answered.given in
      record {
        reads = answered.kinds_are ∙ at.reads;
        within = omega (arith, at.within, answered.fed);
        source_later = at.source_later;
        sink_later = NeverFell_trans old.sink.faults a.outlet.faults b.outlet.faults at.sink_later took.later;
        since = λ start there.
            let s = at.since start there in
            record {
              read = s.read;
              written = s.written ++ replies_text answered.replies;
              given = s.given;
              took = Appends_append old.sink.taken a.outlet.taken b.outlet.taken s.written (replies_text answered.replies) s.took took.took;
              counted = s.counted ∙ sym answered.fed;
              so_far = record {
                frames = s.so_far.frames ++ answered.frames;
                replies = s.so_far.replies ++ answered.replies;
                split = splits_then s.read a.feed.left b.feed.left s.so_far.frames answered.frames s.so_far.split answered.split;
                reached = answered.leads.from start s.so_far.frames s.so_far.replies s.so_far.reached;
                told = told_then s.written s.so_far.replies answered.replies s.so_far.told;
              };
            };
      }

  -- one more piece was read
  pub reads_on : {Start X : Type 0} {Reached : Start → List Frame → List Reply → X → Type 0} {old : Streams} {limit : ℕ} {first : X} {mid new : SourceSeen} {now : Desk SinkSeen X} {feed : Feed} {count most n : ℕ}
      → IsAt kinds Reached old limit first mid now → IsPartialFrame kinds now.feed.left → FillsPiece mid new most now.feed feed n → count ≡ fed_to now.feed → most ≤ PIECE → count + most ≤ limit
      → Arrives kinds Reached old limit (count + n) first new (desk now.outlet feed now.now)
  reads_on {Reached = Reached} {old = old} {mid = mid} {new = new} {now = now} {feed = feed} at cut f counted one_piece below =
      let more = fed_more now.feed feed f.piece f.grown in
      let left : feed.left ≡ now.feed.left ++ f.piece = ap (λ (g : Feed). g.left) f.grown in
      record {
        at = record {
          reads = ap (λ (g : Feed). g.kinds) f.grown ∙ at.reads;
          within = omega (arith, more, counted, f.length_is, f.within);
          source_later = NeverFell_trans old.source.faults mid.faults new.faults at.source_later f.later;
          sink_later = at.sink_later;
          since = λ start there.
              let s = at.since start there in
              record {
                read = s.read ++ f.piece;
                written = s.written;
                given = Consumes_append old.source.left mid.left new.left s.read f.piece s.given f.given;
                took = s.took;
                counted = omega (arith, s.counted, more, length-append s.read f.piece);
                so_far = record {
                  frames = s.so_far.frames;
                  replies = s.so_far.replies;
                  split = subst (λ (q : List ℕ). Splits kinds (s.read ++ f.piece) s.so_far.frames q) (sym left) (splits_more kinds s.read s.so_far.frames now.feed.left f.piece s.so_far.split);
                  reached = s.so_far.reached;
                  told = s.so_far.told;
                };
              };
        };
        counted = omega (arith, more, counted, f.length_is);
        fresh = record { partial = now.feed.left; piece = f.piece; rest_is = left; cut = cut; one_piece = omega (arith, f.length_is, f.within) };
      }

  -- ---- behind the last frame

  -- with one frame less at least, less than a piece is left behind a part of a frame
  shorter_by : (before : List ℕ) (frame : Frame) (more : List Frame) (after : List ℕ) → Splits kinds before (frame ∷ more) after → (partial piece : List ℕ)
      → before ≡ partial ++ piece → IsPartialFrame kinds partial → length after < length piece
  shorter_by before frame more after split partial piece e cut =
      let whole : partial ++ piece ≡ frame_text frame ++ (frames_text more ++ after) = sym e ∙ split.whole ∙ append_assoc (frame_text frame) (frames_text more) after in
      let short = partial_is_shorter kinds partial piece frame (frames_text more ++ after) cut split.framed.0 whole in
      omega (arith, short, ap length whole, length-append partial piece, length-append (frame_text frame) (frames_text more ++ after), length-append (frames_text more) after)

  shorter_behind : (before : List ℕ) (frames : List Frame) (frame : Frame) (after : List ℕ) → Splits kinds before (frames ++ frame ∷ []) after → (partial piece : List ℕ)
      → before ≡ partial ++ piece → IsPartialFrame kinds partial → length after < length piece
  shorter_behind before [] frame after split partial piece e cut = shorter_by before frame [] after split partial piece e cut
  shorter_behind before (x ∷ frames) frame after split partial piece e cut = shorter_by before x (frames ++ frame ∷ []) after split partial piece e cut

  -- ---- endings

  pub at_bad_frame : {Start X : Type 0} {Ready : X → Type 0} {Reached Broken : Start → List Frame → List Reply → X → Type 0} {old : Streams} {limit : ℕ} {first : X} {source : SourceSeen} {a b : Desk SinkSeen X} {offset : ℕ}
      → IsAt kinds Reached old limit first source a → HaltsAtBad kinds TookReply Ready Reached a b offset → Follows kinds Reached Broken old (streams source b.outlet) limit first (BadFrame offset) b.now
  at_bad_frame {b = b} before halts =
      let at = moves before halts.answered in
      record {
        source_later = at.source_later;
        sink_later = at.sink_later;
        transcript = λ start there.
            let s = at.since start there in
            record {
              read = s.read;
              written = s.written;
              given = s.given;
              took = s.took;
              within = omega (arith, s.counted, at.within);
              ending = record { rest = b.feed.left; answered = s.so_far; bad = halts.bad; offset_is = omega (arith, s.counted, halts.offset_is) };
            };
      }

  pub at_limit : {Start X : Type 0} {Ready : X → Type 0} {Reached Broken : Start → List Frame → List Reply → X → Type 0} {old : Streams} {limit : ℕ} {first : X} {source : SourceSeen} {a b : Desk SinkSeen X}
      → IsAt kinds Reached old limit first source a → HaltsAtPart kinds TookReply Ready Reached a b → limit ≤ fed_to a.feed → Follows kinds Reached Broken old (streams source b.outlet) limit first InputLimit b.now
  at_limit {b = b} before halts full =
      let at = moves before halts.answered in
      record {
        source_later = at.source_later;
        sink_later = at.sink_later;
        transcript = λ start there.
            let s = at.since start there in
            record {
              read = s.read;
              written = s.written;
              given = s.given;
              took = s.took;
              within = omega (arith, s.counted, at.within);
              ending = record { rest = b.feed.left; answered = s.so_far; partial = halts.partial; at_limit = omega (arith, s.counted, at.within, halts.answered.fed) };
            };
      }

  pub at_sink : {Start X : Type 0} {Reached Broken : Start → List Frame → List Reply → X → Type 0} {old : Streams} {limit count : ℕ} {first : X} {source : SourceSeen} {a b : Desk SinkSeen X}
      → Arrives kinds Reached old limit count first source a → HaltsBehind kinds TookReply TookPartOf Reached Reached a b → Follows kinds Reached Broken old (streams source b.outlet) limit first SinkFault b.now
  at_sink {Reached = Reached} {old = old} {a = a} {b = b} arrives halts =
      let at = arrives.at in
      let fresh = arrives.fresh in
      let took = took_all halts.given in
      let last = halts.last in
      let later = NeverFell_trans old.sink.faults a.outlet.faults halts.mid.faults at.sink_later took.later in
      record {
        source_later = at.source_later;
        sink_later = NeverFell_trans old.sink.faults halts.mid.faults b.outlet.faults later last.later;
        transcript = λ start there.
            let s = at.since start there in
            let replies = s.so_far.replies ++ halts.replies in
            record {
              read = s.read;
              written = (s.written ++ replies_text halts.replies) ++ last.part;
              given = s.given;
              took = Appends_append old.sink.taken halts.mid.taken b.outlet.taken (s.written ++ replies_text halts.replies) last.part
                  (Appends_append old.sink.taken a.outlet.taken halts.mid.taken s.written (replies_text halts.replies) s.took took.took) last.took;
              within = omega (arith, s.counted, at.within);
              ending = record {
                rest = b.feed.left;
                interrupted = record {
                  frames = s.so_far.frames ++ (halts.frames ++ halts.frame ∷ []);
                  replies = replies;
                  last = halts.reply;
                  split = splits_then s.read a.feed.left b.feed.left s.so_far.frames (halts.frames ++ halts.frame ∷ []) s.so_far.split halts.split;
                  reached = subst (λ (rs : List Reply). Reached start (s.so_far.frames ++ (halts.frames ++ halts.frame ∷ [])) rs b.now) (sym (append_assoc s.so_far.replies halts.replies (halts.reply ∷ [])))
                      (halts.leads.from start s.so_far.frames s.so_far.replies s.so_far.reached);
                  part = last.part;
                  missing = last.missing;
                  last_is = last.text_is;
                  some_missing = last.some_missing;
                  told = ap (λ (q : List ℕ). q ++ last.part) (told_then s.written s.so_far.replies halts.replies s.so_far.told);
                };
                one_piece = omega (arith, shorter_behind a.feed.left halts.frames halts.frame b.feed.left halts.split fresh.partial fresh.piece fresh.rest_is fresh.cut, fresh.one_piece);
                cause = since old.sink halts.mid b.outlet later last.cause;
              };
            };
      }

  pub at_its_end : {Start X : Type 0} {Reached Broken : Start → List Frame → List Reply → X → Type 0} {old : Streams} {limit count : ℕ} {first : X} {source : SourceSeen} {a b : Desk SinkSeen X}
      → Arrives kinds Reached old limit count first source a → HaltsBehind kinds TookReply TookSomeOf Reached Broken a b → Follows kinds Reached Broken old (streams source b.outlet) limit first Ended b.now
  at_its_end {Broken = Broken} {old = old} {a = a} {b = b} arrives halts =
      let at = arrives.at in
      let fresh = arrives.fresh in
      let took = took_all halts.given in
      let last = halts.last in
      let later = NeverFell_trans old.sink.faults a.outlet.faults halts.mid.faults at.sink_later took.later in
      record {
        source_later = at.source_later;
        sink_later = NeverFell_trans old.sink.faults halts.mid.faults b.outlet.faults later last.later;
        transcript = λ start there.
            let s = at.since start there in
            let replies = s.so_far.replies ++ halts.replies in
            record {
              read = s.read;
              written = (s.written ++ replies_text halts.replies) ++ last.part;
              given = s.given;
              took = Appends_append old.sink.taken halts.mid.taken b.outlet.taken (s.written ++ replies_text halts.replies) last.part
                  (Appends_append old.sink.taken a.outlet.taken halts.mid.taken s.written (replies_text halts.replies) s.took took.took) last.took;
              within = omega (arith, s.counted, at.within);
              ending = record {
                rest = b.feed.left;
                broken_off = record {
                  frames = s.so_far.frames ++ (halts.frames ++ halts.frame ∷ []);
                  replies = replies;
                  last = halts.reply;
                  split = splits_then s.read a.feed.left b.feed.left s.so_far.frames (halts.frames ++ halts.frame ∷ []) s.so_far.split halts.split;
                  broken = subst (λ (rs : List Reply). Broken start (s.so_far.frames ++ (halts.frames ++ halts.frame ∷ [])) rs b.now) (sym (append_assoc s.so_far.replies halts.replies (halts.reply ∷ [])))
                      (halts.leads.from start s.so_far.frames s.so_far.replies s.so_far.reached);
                  part = last.part;
                  missing = last.missing;
                  last_is = last.text_is;
                  whole = whole_since old.sink halts.mid b.outlet later last.whole;
                  told = ap (λ (q : List ℕ). q ++ last.part) (told_then s.written s.so_far.replies halts.replies s.so_far.told);
                };
                one_piece = omega (arith, shorter_behind a.feed.left halts.frames halts.frame b.feed.left halts.split fresh.partial fresh.piece fresh.rest_is fresh.cut, fresh.one_piece);
              };
            };
      }

  pub at_source : {Start X : Type 0} {Reached Broken : Start → List Frame → List Reply → X → Type 0} {old : Streams} {limit : ℕ} {first : X} {mid new : SourceSeen} {now : Desk SinkSeen X} {feed : Feed}
      → IsAt kinds Reached old limit first mid now → IsPartialFrame kinds now.feed.left → fed_to now.feed < limit → FillBreaks mid new now.feed feed → Follows kinds Reached Broken old (streams new now.outlet) limit first SourceFault now.now
  at_source {old = old} {mid = mid} {new = new} {now = now} at cut below f = record {
    source_later = NeverFell_trans old.source.faults mid.faults new.faults at.source_later f.later;
    sink_later = at.sink_later;
    transcript = λ start there.
        let s = at.since start there in
        record {
          read = s.read;
          written = s.written;
          given = subst (λ (q : List ℕ). Consumes old.source.left new.left q) (append-nil s.read) (Consumes_append old.source.left mid.left new.left s.read [] s.given f.given);
          took = s.took;
          within = omega (arith, s.counted, at.within);
          ending = record {
            rest = now.feed.left;
            answered = s.so_far;
            partial = cut;
            below_limit = omega (arith, s.counted);
            cause = record { last_failed = f.cause.last_failed; rose = stayed_then_Rose old.source.faults mid.faults new.faults at.source_later f.cause.rose };
          };
        };
  }

  pub reads_nothing : {Start X : Type 0} {Reached : Start → List Frame → List Reply → X → Type 0} {old : Streams} {limit : ℕ} {first : X} {mid new : SourceSeen} {now : Desk SinkSeen X} {feed : Feed} {most n : ℕ}
      → IsAt kinds Reached old limit first mid now → FillsPiece mid new most now.feed feed n → n ≡ 0 → 0 < most → ReadNothing kinds Reached old limit first new now feed
  reads_nothing {Reached = Reached} {old = old} {mid = mid} {new = new} {now = now} {feed = feed} at f none some =
      let empty : f.piece ≡ [] = nil_from_length f.piece (f.length_is ∙ none) in
      record {
        at = record {
          reads = at.reads;
          within = at.within;
          source_later = NeverFell_trans old.source.faults mid.faults new.faults at.source_later f.later;
          sink_later = at.sink_later;
          since = λ start there.
              let s = at.since start there in
              record {
                read = s.read;
                written = s.written;
                given = subst (λ (q : List ℕ). Consumes old.source.left new.left q) (ap (λ (p : List ℕ). s.read ++ p) empty ∙ append-nil s.read) (Consumes_append old.source.left mid.left new.left s.read f.piece s.given f.given);
                took = s.took;
                counted = s.counted;
                so_far = s.so_far;
              };
        };
        same = f.grown ∙ ap (after_piece now.feed) empty ∙ ap (with_left now.feed) (append-nil now.feed.left);
        at_end = f.ended none some;
      } where
        with_left : Feed → List ℕ → Feed
        with_left feed left = record { kinds = feed.kinds; offset = feed.offset; left = left }

  pub at_done : {Start X : Type 0} {Reached Broken : Start → List Frame → List Reply → X → Type 0} {old : Streams} {limit : ℕ} {first : X} {source : SourceSeen} {now : Desk SinkSeen X} {feed : Feed}
      → ReadNothing kinds Reached old limit first source now feed → fed_to now.feed < limit → IsPartialFrame kinds now.feed.left → (IsPartialFrame feed.kinds feed.left → 0 < length feed.left → None ≡ Some feed.offset) → Follows kinds Reached Broken old (streams source now.outlet) limit first Done now.now
  at_done {Reached = Reached} {now = now} {feed = feed} r below cut told =
      let at = r.at in
      let left : now.feed.left ≡ feed.left = sym (ap (λ (f : Feed). f.left) r.same) in
      let of_feed = subst (λ (k : ℕ). IsPartialFrame k feed.left) (sym (ap (λ (f : Feed). f.kinds) r.same ∙ at.reads)) in
      let empty : now.feed.left ≡ [] = left ∙ nothing_there feed.left feed.offset (told (of_feed (subst (IsPartialFrame kinds) left cut))) in
      record {
        source_later = at.source_later;
        sink_later = at.sink_later;
        transcript = λ start there.
            let s = at.since start there in
            record {
              read = s.read;
              written = s.written;
              given = s.given;
              took = s.took;
              within = omega (arith, s.counted, at.within);
              ending = record {
                answered = subst (λ (q : List ℕ). SoFar kinds (Reached start) s.read q s.written now.now) empty s.so_far;
                at_end = r.at_end;
                below_limit = omega (arith, s.counted);
              };
            };
      }

  pub in_frame : {Start X : Type 0} {Reached Broken : Start → List Frame → List Reply → X → Type 0} {old : Streams} {limit : ℕ} {first : X} {source : SourceSeen} {now : Desk SinkSeen X} {feed : Feed} {offset : ℕ}
      → ReadNothing kinds Reached old limit first source now feed → fed_to now.feed < limit → offset ≡ feed.offset → IsPartialFrame feed.kinds feed.left → 0 < length feed.left
      → Follows kinds Reached Broken old (streams source now.outlet) limit first (CutFrame offset) now.now
  in_frame {now = now} {feed = feed} r below offset-is cut some =
      let at = r.at in
      let left : feed.left ≡ now.feed.left = ap (λ (f : Feed). f.left) r.same in
      record {
        source_later = at.source_later;
        sink_later = at.sink_later;
        transcript = λ start there.
            let s = at.since start there in
            record {
              read = s.read;
              written = s.written;
              given = s.given;
              took = s.took;
              within = omega (arith, s.counted, at.within);
              ending = record {
                rest = now.feed.left;
                answered = s.so_far;
                partial = subst (IsPartialFrame kinds) left (subst (λ (k : ℕ). IsPartialFrame k feed.left) (ap (λ (f : Feed). f.kinds) r.same ∙ at.reads) cut);
                some_left = omega (arith, ap length left);
                offset_is = omega (arith, s.counted, offset-is, ap (λ (f : Feed). f.offset) r.same);
                at_end = r.at_end;
                below_limit = omega (arith, s.counted);
              };
            };
      }
