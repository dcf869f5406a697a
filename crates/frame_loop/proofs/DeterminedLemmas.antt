-- Where nothing failed, the bytes and the limit decide how a run ends.
use Rattle.std.proofs.Common.{◌≡◌, ℕ, ◌+◌, ◌-◌, ◌<◌, ◌≤◌, true, false, List, [], ◌++◌, length, take, Option, Some, None, refl, sym, ap, subst, ◌∙◌, length-append, arith}
use Rattle.std.proofs.Math.Seq.{take-append-add}
use Rattle.std.proofs.lemmas.List.{append-nil, take_all}
use Rattle.std.specs.Io.KnownBytes.{Consumes, IsAtEnd}
use Rattle.std.proofs.lemmas.Option.{none-some}
use Rattle.feed_frames.specs.Frames.{Frame, frames_text, Splits, IsRest, bad, partial, IsBadFrame, unknown_kind, wrong_length, IsPartialFrame, nothing}
use Rattle.feed_frames.specs.Law.{HasSplitting}
use Rattle.feed_frames.specs.Replies.{Reply}
use Rattle.feed_frames.proofs.SplittingLemmas.{SameSplitting, are_parts, same_splitting, splitting, splits_more, bad_then}
use Rattle.frame_loop.specs.Causes.{SinkCause, failing, stalling}
use Rattle.frame_loop.specs.Transcript.{SoFar, Streams, Transcript}
use Rattle.frame_loop.specs.Determined.{NothingFailed, IsDetermined, IsComplete, IsOutcome, whole, cut, over, broken, EndsWell, all_answered, ended_before}
use Rattle.frame_loop.specs.Determined as outcomes
use Rattle.frame_loop.specs.declared.following.Ending.{Ending}
use Rattle.frame_loop.specs.declared.following.Ending.TheVariants.{Done, BadFrame, CutFrame, SourceFault, SinkFault, Ended, InputLimit}

-- the bytes read are the first of those that were there
pub record ReadFront (limit : ℕ) (bytes read : List ℕ) : Type 0 where
  pub left : List ℕ
  pub bytes_are : bytes ≡ read ++ left
  pub front_is : take limit bytes ≡ read ++ take (limit - length read) left

pub read_front : (limit : ℕ) (before after : Option (List ℕ)) (bytes read : List ℕ) → before ≡ Some bytes → Consumes before after read → length read ≤ limit → ReadFront limit bytes read
read_front limit None after bytes read e given within = absurd (none-some bytes e)
read_front limit (Some before) None bytes read e given within = absurd given
read_front limit (Some before) (Some left) bytes read e given within =
    let same : before ≡ bytes = cc in
    let whole : bytes ≡ read ++ left = sym same ∙ given in
    let k : limit ≡ length read + (limit - length read) = omega arith in
    record {
      left = left;
      bytes_are = whole;
      front_is = ap (take limit) whole ∙ ap (λ (n : ℕ). take n (read ++ left)) k ∙ take-append-add read left (limit - length read);
    }

-- all that there was, was read
pub read_all : (before after : Option (List ℕ)) (bytes read : List ℕ) → before ≡ Some bytes → Consumes before after read → IsAtEnd after → bytes ≡ read
read_all None after bytes read e given end = absurd (none-some bytes e)
read_all (Some before) None bytes read e given end = absurd given
read_all (Some before) (Some left) bytes read e given end =
    let same : before ≡ bytes = cc in
    sym same ∙ given ∙ ap (λ (q : List ℕ). read ++ q) end ∙ append-nil read

no_cause : (old new : Streams) → SinkCause old.sink new.sink → NothingFailed old new → ⊥
no_cause old new (failing f rose) well = well.sink rose
no_cause old new (stalling s) well = let e : true ≡ false = sym s ∙ well.moving in cc

module _ {kinds : ℕ} where
  -- the splitting kinds of the bytes up to the limit is that of the bytes read, where these are they
  pub same_as_read : {X : Type 0} {Reached : List Frame → List Reply → X → Type 0} {now : X} {written : List ℕ} (front read left : List ℕ) (s : HasSplitting kinds front)
      → (answered : SoFar kinds Reached read left written now) → front ≡ read → IsRest kinds left → SameSplitting s.frames s.rest answered.frames left
  same_as_read front read left s answered same is-left =
      same_splitting kinds s.frames s.rest answered.frames left (are_parts kinds s.frames s.rest s.splits.framed s.is_rest) (are_parts kinds answered.frames left answered.split.framed is-left) (sym s.splits.whole ∙ same ∙ answered.split.whole)

  pub determined : {X : Type 0} (Reached Broken : List Frame → List Reply → X → Type 0) (old new : Streams) (limit : ℕ) (how : Ending) (now : X)
      → Transcript kinds Reached Broken old new limit how now → IsDetermined kinds old new limit how
  determined Reached Broken old new limit Done now t = λ bytes frames rest told split is-rest well.
      let e = t.ending in
      let all = read_all old.source.left new.source.left bytes t.read told t.given e.at_end in
      let front = take_all limit bytes (omega (arith, ap length all, e.below_limit)) ∙ all in
      let same = same_as_read (take limit bytes) t.read [] (splitting kinds frames rest split is-rest) e.answered front (partial (nothing refl)) in
      whole (record { no_rest = same.rest; below_limit = omega (arith, ap length all, e.below_limit) })
  determined Reached Broken old new limit (BadFrame offset) now t = λ bytes frames rest told split is-rest well.
      let e = t.ending in
      let f = read_front limit old.source.left new.source.left bytes t.read told t.given t.within in
      let more = take (limit - length t.read) f.left in
      let longer = splits_more kinds t.read e.answered.frames e.rest more e.answered.split in
      let same = same_splitting kinds frames rest e.answered.frames (e.rest ++ more) (are_parts kinds frames rest split.framed is-rest) (are_parts kinds e.answered.frames (e.rest ++ more) longer.framed (bad (bad_then kinds e.rest more e.bad))) (sym split.whole ∙ f.front_is ∙ longer.whole) in
      outcomes.bad offset (record {
        bad = subst (λ (q : List ℕ). IsBadFrame kinds q) (sym same.rest) (bad_then kinds e.rest more e.bad);
        offset_is = omega (arith, e.offset_is, ap length e.answered.split.whole, length-append (frames_text e.answered.frames) e.rest, ap (λ (x : List Frame). length (frames_text x)) same.frames);
      })
  determined Reached Broken old new limit (CutFrame offset) now t = λ bytes frames rest told split is-rest well.
      let e = t.ending in
      let all = read_all old.source.left new.source.left bytes t.read told t.given e.at_end in
      let front = take_all limit bytes (omega (arith, ap length all, e.below_limit)) ∙ all in
      let same = same_as_read (take limit bytes) t.read e.rest (splitting kinds frames rest split is-rest) e.answered front (partial e.partial) in
      cut offset (record {
        partial = subst (λ (q : List ℕ). IsPartialFrame kinds q) (sym same.rest) e.partial;
        some_left = omega (arith, e.some_left, ap length same.rest);
        below_limit = omega (arith, ap length all, e.below_limit);
        offset_is = omega (arith, e.offset_is, ap length e.answered.split.whole, length-append (frames_text e.answered.frames) e.rest, ap (λ (x : List Frame). length (frames_text x)) same.frames);
      })
  determined Reached Broken old new limit InputLimit now t = λ bytes frames rest told split is-rest well.
      let e = t.ending in
      let f = read_front limit old.source.left new.source.left bytes t.read told t.given t.within in
      let none : limit - length t.read ≡ 0 = omega (arith, e.at_limit) in
      let front : take limit bytes ≡ t.read = f.front_is ∙ ap (λ (n : ℕ). t.read ++ take n f.left) none ∙ append-nil t.read in
      let same = same_as_read (take limit bytes) t.read e.rest (splitting kinds frames rest split is-rest) e.answered front (partial e.partial) in
      over (record {
        partial = subst (λ (q : List ℕ). IsPartialFrame kinds q) (sym same.rest) e.partial;
        reached = omega (arith, e.at_limit, ap length f.bytes_are, length-append t.read f.left);
      })
  determined Reached Broken old new limit Ended now t = λ bytes frames rest told split is-rest well. broken
  determined Reached Broken old new limit SourceFault now t = λ bytes frames rest told split is-rest well. absurd (well.source t.ending.cause.rose)
  determined Reached Broken old new limit SinkFault now t = λ bytes frames rest told split is-rest well. absurd (no_cause old new t.ending.cause well)

  empty_is_not_bad : IsBadFrame kinds [] → ⊥
  empty_is_not_bad (unknown_kind kind rest e odd) = cc
  empty_is_not_bad (wrong_length kind n rest e fits is-kind odd) = cc

  -- an outcome of whole frames below the limit
  ends_well : {limit : ℕ} {bytes : List ℕ} {frames : List Frame} {how : Ending} → length bytes < limit → IsOutcome kinds limit bytes frames [] how → EndsWell how
  ends_well below (whole o) = all_answered
  ends_well below (outcomes.bad offset o) = absurd (empty_is_not_bad o.bad)
  ends_well below (cut offset o) = absurd (omega (arith, o.some_left))
  ends_well below (over o) = absurd (omega (arith, o.reached))
  ends_well below broken = ended_before

  pub complete : (old new : Streams) (limit : ℕ) (how : Ending) → IsDetermined kinds old new limit how → IsComplete kinds old new limit how
  complete old new limit how d = λ bytes frames told split below well.
      let front : take limit bytes ≡ bytes = take_all limit bytes (omega arith) in
      ends_well below (d bytes frames [] told (subst (λ (q : List ℕ). Splits kinds q frames []) (sym front) split) (partial (nothing refl)) well)
