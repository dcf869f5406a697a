-- Pieces of a source, one behind the other.
use Rattle.std.proofs.Common.{◌≡◌, ℕ, ◌+◌, ◌-◌, ◌<◌, ◌≤◌, List, [], ◌++◌, length, take, refl, sym, ap, subst, ◌∙◌, append-nil, length-append, length-take, arith}
use Rattle.std.specs.Prelude.{Result, Ok, Err, IsErrAnd}
use Rattle.fault_counts.proofs.FaultLemmas.{NeverFell_refl, NeverFell_trans, stayed_then_Rose}
use Rattle.byte_io.specs.Source.{SourceSeen, ReadsSome, ReadFails}
use Rattle.byte_io.proofs.SourceLemmas.{Consumes_nothing, Consumes_kept, Consumes_append}
use Rattle.nmc_base.specs.declared.chain_ends.Base.{Base}
use Rattle.name_snapshot.specs.Answers.{IsSnapshotAnswer}
use Rattle.name_snapshot.specs.Faults.{HasFault}
use Rattle.name_snapshot.specs.Feeding.{Feeding, HasRead, Takes}
use Rattle.name_snapshot.specs.declared.fault.SnapshotFault.{SnapshotFault}
use Rattle.name_snapshot.specs.declared.fault.SnapshotFault.TheVariants as snapshot
use Rattle.name_snapshot.specs.declared.feed_fault.FeedFault.{FeedFault}
use Rattle.name_snapshot.specs.declared.feed_fault.FeedFault.TheVariants.{Bad, SourceFault, InputLimit, NoMemory}
use Rattle.name_snapshot.specs.SourceAnswers.{TakesUpTo, HasOpenEnd, IsReadOut, shown, at_its_end, EndsAtLimit, FaultOf}
use Rattle.name_snapshot.specs.FeedFaults.{of_snapshot}
use Rattle.name_snapshot.specs.SourceFeeding.{FeedsMore, PieceOf, FeedsPiece, FeedsSource}

-- ---- what was taken

pub takes_none : (limit : ℕ) (source : SourceSeen) (Of : List ℕ → Type 0) → Of [] → TakesUpTo limit source source Of
takes_none limit source Of holds = record {
  taken = [];
  consumed = Consumes_nothing source.left;
  within = omega arith;
  later = NeverFell_refl source.faults;
  holds = holds;
}

-- a read that failed took nothing
pub takes_fault : (limit : ℕ) {old new : SourceSeen} (Of : List ℕ → Type 0) → ReadFails old new → Of [] → TakesUpTo limit old new Of
takes_fault limit {old} {new} Of fails holds = record {
  taken = [];
  consumed = Consumes_kept old.left new.left fails.kept;
  within = omega arith;
  later = fails.later;
  holds = holds;
}

-- what one read gave
pub takes_some : (limit : ℕ) {old new : SourceSeen} (buffer : List ℕ) (n : ℕ) (Of : List ℕ → Type 0) → length buffer ≡ limit → ReadsSome old new buffer n → Of (take n buffer) → TakesUpTo limit old new Of
takes_some limit buffer n Of room reads holds = record {
  taken = take n buffer;
  consumed = reads.bytes;
  within = omega (arith, length-take n buffer, reads.bound, room);
  later = reads.later;
  holds = holds;
}

pub takes_then : {limit most : ℕ} {old mid new : SourceSeen} {First Second : List ℕ → Type 0} (Both : List ℕ → Type 0) (first : TakesUpTo limit old mid First) (second : TakesUpTo most mid new Second)
    → length first.taken + most ≤ limit → Both (first.taken ++ second.taken) → TakesUpTo limit old new Both
takes_then {old = old} {mid = mid} {new = new} Both first second low holds = record {
  taken = first.taken ++ second.taken;
  consumed = Consumes_append old.left mid.left new.left first.taken second.taken first.consumed second.consumed;
  within = omega (arith, length-append first.taken second.taken, second.within, low);
  later = NeverFell_trans old.faults mid.faults new.faults first.later second.later;
  holds = holds;
}

-- of the same bytes something else holds
pub takes_same : {limit : ℕ} {old new : SourceSeen} {One : List ℕ → Type 0} (Other : List ℕ → Type 0) (takes : TakesUpTo limit old new One) → Other takes.taken → TakesUpTo limit old new Other
takes_same Other takes holds = record { taken = takes.taken; consumed = takes.consumed; within = takes.within; later = takes.later; holds = holds }

-- ---- one piece

-- a fault that was passed on
pub as_fault : {T : Type 0} (Holds : Result T FeedFault → Type 0) (result : Result T FeedFault) (fault : FeedFault) → IsErrAnd result (λ e. e ≡ fault) → Holds (Err fault) → Holds result
as_fault Holds (Ok value) fault passed holds = absurd passed
as_fault Holds (Err e) fault passed holds = subst (λ (f : FeedFault). Holds (Err f)) (sym passed) holds

-- a fault that a piece showed
pub piece_fault : (text piece : List ℕ) (old new : SourceSeen) (before after : Feeding) (fault : SnapshotFault) → after.base ≡ before.base → Takes (text ++ piece) after (Err fault)
    → PieceOf text old new before after (Err (of_snapshot fault)) piece
piece_fault text piece old new before after (snapshot.Bad at) base stopped = λ more. subst (λ (b : Base). HasFault b ((text ++ piece) ++ more) at) base (stopped.bad more)
piece_fault text piece old new before after snapshot.NoMemory base stopped = tt

module _ (text : List ℕ) {old new : SourceSeen} (before after : Feeding) (buffer : List ℕ) (count : ℕ) (reads : ReadsSome old new buffer count) where
  -- the front of the buffer was fed
  pub piece_fed : 0 < count → HasRead (text ++ take count buffer) after → FeedsPiece text (length buffer) old new before after (Ok count)
  piece_fed some read = takes_some (length buffer) buffer count (FeedsMore text new after count) refl reads (record {
    length_is = omega (arith, length-take count buffer, reads.bound);
    read = read;
    ended = λ none. absurd (omega (arith, some, none));
  })

  -- nothing is left
  pub piece_end : 0 < length buffer → count ≡ 0 → HasRead text after → FeedsPiece text (length buffer) old new before after (Ok 0)
  piece_end room none read = takes_some (length buffer) buffer count (FeedsMore text new after 0) refl reads (record {
    length_is = omega (arith, length-take count buffer, none);
    read = subst (λ (l : List ℕ). HasRead l after) (sym (ap (λ (n : ℕ). text ++ take n buffer) none ∙ append-nil text)) read;
    ended = λ same. reads.ended none room;
  })

-- ---- piece by piece

-- the text was fed that is so long
pub record HasFed (base : Base) (fed : ℕ) (s : Feeding) (text : List ℕ) : Type 0 where
  pub base_is : s.base ≡ base
  pub length_is : length text ≡ fed
  pub read : HasRead text s

pub open_end : {base : Base} {fed : ℕ} {s : Feeding} {text : List ℕ} → HasFed base fed s text → HasOpenEnd base text
open_end {text = text} has = subst (λ (b : Base). HasOpenEnd b text) has.base_is has.read.open_end

pub at_limit : {base : Base} {limit fed : ℕ} {old new : SourceSeen} {s : Feeding} → TakesUpTo limit old new (HasFed base fed s) → limit ≤ fed → TakesUpTo limit old new (EndsAtLimit base limit)
at_limit {base = base} {limit = limit} so_far high =
    takes_same (EndsAtLimit base limit) so_far (record { at_limit = omega (arith, so_far.within, so_far.holds.length_is, high); open_end = open_end so_far.holds })

-- a piece of so many bytes at most may be read behind these
pub record HasRoom (limit fed most : ℕ) : Type 0 where
  pub below_limit : fed < limit
  pub within : fed + most ≤ limit
  pub one_piece : most ≤ 65536

-- in the front of a buffer, of so many bytes at most
pub has_room : (limit fed most : ℕ) (buffer : List ℕ) → fed < limit → most ≤ limit - fed → most ≤ 65536 → HasRoom limit fed (length (take most buffer))
has_room limit fed most buffer below few small = record {
  below_limit = below;
  within = omega (arith, below, few, length-take most buffer);
  one_piece = omega (arith, small, length-take most buffer);
}

module _ {base : Base} {limit fed most : ℕ} {old mid : SourceSeen} {s : Feeding} (room : HasRoom limit fed most) (so_far : TakesUpTo limit old mid (HasFed base fed s)) (new : SourceSeen) (after : Feeding) where
  low : length so_far.taken + most ≤ limit
  low = omega (arith, room.within, so_far.holds.length_is)

  pub feeds_fault : (fault : FeedFault) → FeedsPiece so_far.taken most mid new s after (Err fault) → FeedsSource base limit old new after (Err fault)
  feeds_fault (Bad at) feeds = takes_then (FaultOf base limit old new (Bad at)) so_far feeds low (shown (record {
    before = so_far.taken;
    piece = feeds.taken;
    text_is = refl;
    one_piece = omega (arith, feeds.within, room.one_piece);
    open_before = open_end so_far.holds;
    bad = λ more. subst (λ (b : Base). HasFault b ((so_far.taken ++ feeds.taken) ++ more) at) so_far.holds.base_is (feeds.holds more);
  }))
  feeds_fault SourceFault feeds =
      let none = feeds.holds.none in
      takes_then (FaultOf base limit old new SourceFault) so_far feeds low (record {
        last_failed = feeds.holds.fails.failed;
        rose = stayed_then_Rose old.faults mid.faults new.faults so_far.later feeds.holds.fails.rose;
        below_limit = omega (arith, length-append so_far.taken feeds.taken, ap length none, so_far.holds.length_is, room.below_limit);
        open_end = subst (HasOpenEnd base) (sym (ap (λ (p : List ℕ). so_far.taken ++ p) none ∙ append-nil so_far.taken)) (open_end so_far.holds);
      })
  feeds_fault InputLimit feeds = absurd feeds.holds
  feeds_fault NoMemory feeds = takes_then (FaultOf base limit old new NoMemory) so_far feeds low tt

  module _ (count : ℕ) (feeds : FeedsPiece so_far.taken most mid new s after (Ok count)) where
    pub feeds_end : count ≡ 0 → FeedsSource base limit old new after (Ok tt)
    feeds_end none =
        let fed_all = feeds.holds in
        takes_then (λ (text : List ℕ). IsReadOut limit new text × HasRead text after) so_far feeds low
        (record { at_end = fed_all.ended none; below_limit = omega (arith, length-append so_far.taken feeds.taken, fed_all.length_is, none, so_far.holds.length_is, room.below_limit) }, fed_all.read)

    pub feeds_more : after.base ≡ s.base → TakesUpTo limit old new (HasFed base (fed + count) after)
    feeds_more same = takes_then (HasFed base (fed + count) after) so_far feeds low (record {
      base_is = same ∙ so_far.holds.base_is;
      length_is = omega (arith, length-append so_far.taken feeds.taken, feeds.holds.length_is, so_far.holds.length_is);
      read = feeds.holds.read;
    })

    pub feeds_within : fed + count ≤ limit
    feeds_within = omega (arith, feeds.within, feeds.holds.length_is, room.within)

-- ---- the end

-- the text that was fed is no snapshot
pub end_fault : (base : Base) (limit : ℕ) (old new : SourceSeen) (text : List ℕ) (fault : SnapshotFault) → IsReadOut limit new text → IsSnapshotAnswer base text (Err fault)
    → FaultOf base limit old new (of_snapshot fault) text
end_fault base limit old new text (snapshot.Bad at) out bad = at_its_end out bad
end_fault base limit old new text snapshot.NoMemory out none = tt
