-- The bytes of a source decide the answer.
use Rattle.std.proofs.Common.{◌≡◌, ℕ, ◌<◌, ◌≤◌, List, [], ◌∷◌, ◌++◌, length, refl, sym, ap, subst, ◌∙◌, append-nil, length-append, arith}
use Rattle.std.specs.Prelude.{Option, Some, None, Result, Ok, Err}
use Rattle.std.specs.Io.KnownBytes.{Consumes, IsAtEnd}
use Rattle.byte_io.specs.Source.{SourceSeen}
use Rattle.nmc_base.specs.declared.chain_ends.Base.{Base}
use Rattle.chain_names.specs.Index.{index_maps}
use Rattle.name_tables.specs.Parts.{tables_of}
use Rattle.name_tables.specs.Tables.{maps_by}
use Rattle.name_tables.specs.declared.parts.Parts.{Parts}
use Rattle.name_snapshot.specs.Faults.{HasFault}
use Rattle.name_snapshot.specs.Makes.{IsSnapshot}
use Rattle.name_snapshot.specs.Text.{StartMake, start_of}
use Rattle.name_snapshot.proofs.StayLaws.{one_fault, one_start, no_fault}
use Rattle.name_snapshot.specs.declared.feed_fault.FeedFault.{FeedFault}
use Rattle.name_snapshot.specs.declared.feed_fault.FeedFault.TheVariants.{Bad, SourceFault, InputLimit, NoMemory}
use Rattle.name_snapshot.specs.SourceAnswers.{HasOpenEnd, IsReadOut, IsBadAt, shown, at_its_end, EndsOf, ReadsSnapshot}
use Rattle.name_snapshot.specs.Agreeing.{IsOfTheBytes, SameAnswer}
use Rattle.name_snapshot.proofs.PlaceLemmas.{place_inside}

-- ---- fronts

-- the shorter front of a text is one of the longer
front_of : (short long rest more : List ℕ) → short ++ rest ≡ long ++ more → length short ≤ length long → (middle : List ℕ) × (long ≡ short ++ middle)
front_of [] long rest more same low = (long, refl)
front_of (x ∷ short) [] rest more same low = absurd (omega (arith, low))
front_of (x ∷ short) (y ∷ long) rest more same low =
    let tail : short ++ rest ≡ long ++ more = cc in
    let head : x ≡ y = cc in
    let found = front_of short long rest more tail (omega (arith, low)) in
    (found.0, λ i. sym head i ∷ found.1 i)

-- what a source that told its bytes has left
left_of : (bytes : List ℕ) (left : Option (List ℕ)) (taken : List ℕ) → Consumes (Some bytes) left taken → (rest : List ℕ) × (left ≡ Some rest) × (bytes ≡ taken ++ rest)
left_of bytes None taken consumed = absurd consumed
left_of bytes (Some rest) taken consumed = (rest, refl, consumed)

-- ---- one run

-- as many bytes as the limit have no fault but perhaps their end
record IsOpenTo (base : Base) (limit : ℕ) (bytes : List ℕ) : Type 0 where
  front : List ℕ
  rest : List ℕ
  bytes_are : bytes ≡ front ++ rest
  at_limit : length front ≡ limit
  open_end : HasOpenEnd base front

-- what the answer says of all bytes of the source
abbrev Decides : Base → ℕ → List ℕ → Result Parts FeedFault → Type 0
Decides base limit bytes (Ok parts) = (makes : List StartMake) × IsSnapshot base bytes makes × (maps_by (tables_of parts) ≡ index_maps base.profile (start_of makes) base.height []) × (length bytes < limit)
Decides base limit bytes (Err (Bad at)) = HasFault base bytes at × ¬ (IsOpenTo base limit bytes)
Decides base limit bytes (Err SourceFault) = Unit {0}
Decides base limit bytes (Err InputLimit) = IsOpenTo base limit bytes
Decides base limit bytes (Err NoMemory) = Unit {0}

too_short : (base : Base) (limit : ℕ) (bytes : List ℕ) → length bytes < limit → ¬ (IsOpenTo base limit bytes)
too_short base limit bytes low is = absurd (omega (arith, ap length is.bytes_are, length-append is.front is.rest, is.at_limit, low))

module _ (base : Base) (limit : ℕ) (bytes : List ℕ) (new : SourceSeen) (taken rest : List ℕ) (left : new.left ≡ Some rest) (bytes_are : bytes ≡ taken ++ rest) where
  -- all bytes were taken
  all_taken : IsReadOut limit new taken → taken ≡ bytes
  all_taken out = sym (bytes_are ∙ ap (λ (l : List ℕ). taken ++ l) (subst IsAtEnd left out.at_end) ∙ append-nil taken)

  decides_bad : (at : ℕ) → length taken ≤ limit → IsBadAt base limit new taken at → HasFault base bytes at × ¬ (IsOpenTo base limit bytes)
  decides_bad at low (at_its_end out fault) =
      let all = all_taken out in
      (subst (λ (l : List ℕ). HasFault base l at) all fault, too_short base limit bytes (subst (λ (l : List ℕ). length l < limit) all out.below_limit))
  decides_bad at low (shown shows) = (subst (λ (l : List ℕ). HasFault base l at) (sym bytes_are) (shows.bad rest), closed)
    where
      closed : ¬ (IsOpenTo base limit bytes)
      closed is =
          let found = front_of taken is.front rest is.rest (sym bytes_are ∙ is.bytes_are) (omega (arith, low, is.at_limit)) in
          let place : at ≡ length is.front = is.open_end at (subst (λ (l : List ℕ). HasFault base l at) (sym found.1) (shows.bad found.0)) in
          absurd (omega (arith, place, is.at_limit, low, place_inside base taken at shows.bad))

  decides : (old : SourceSeen) (answer : Result Parts FeedFault) → length taken ≤ limit → EndsOf base limit old new answer taken → Decides base limit bytes answer
  decides old (Ok parts) low ends =
      let all = all_taken ends.0 in
      (ends.1.makes, subst (λ (l : List ℕ). IsSnapshot base l ends.1.makes) all ends.1.is_snapshot, ends.1.maps_are, subst (λ (l : List ℕ). length l < limit) all ends.0.below_limit)
  decides old (Err (Bad at)) low ends = decides_bad at low ends
  decides old (Err SourceFault) low ends = tt
  decides old (Err InputLimit) low ends = record { front = taken; rest = rest; bytes_are = bytes_are; at_limit = ends.at_limit; open_end = ends.open_end }
  decides old (Err NoMemory) low ends = tt

decides_all : (base : Base) (limit : ℕ) (bytes : List ℕ) (old new : SourceSeen) (answer : Result Parts FeedFault) → old.left ≡ Some bytes → ReadsSnapshot base limit old new answer → Decides base limit bytes answer
decides_all base limit bytes old new answer told reads =
    let left = left_of bytes new.left reads.taken (subst (λ (l : Option (List ℕ)). Consumes l new.left reads.taken) told reads.consumed) in
    decides base limit bytes new reads.taken left.0 left.1 left.2 old answer reads.within reads.holds

-- ---- two runs

agree : (base : Base) (limit : ℕ) (bytes : List ℕ) (answer second : Result Parts FeedFault) → Decides base limit bytes answer → Decides base limit bytes second
    → IsOfTheBytes answer → IsOfTheBytes second → SameAnswer answer second
agree base limit bytes (Ok parts) (Ok others) a b p q = a.2 ∙ ap (λ (makes : List StartMake). index_maps base.profile (start_of makes) base.height []) (one_start base bytes a.0 b.0 a.1 b.1) ∙ sym b.2
agree base limit bytes (Ok parts) (Err (Bad at)) a b p q = no_fault base bytes a.0 at a.1 b.0
agree base limit bytes (Ok parts) (Err SourceFault) a b p q = absurd q
agree base limit bytes (Ok parts) (Err InputLimit) a b p q = too_short base limit bytes a.3 b
agree base limit bytes (Ok parts) (Err NoMemory) a b p q = absurd q
agree base limit bytes (Err (Bad at)) (Ok others) a b p q = no_fault base bytes b.0 at b.1 a.0
agree base limit bytes (Err (Bad at)) (Err (Bad other)) a b p q = one_fault base bytes at other a.0 b.0
agree base limit bytes (Err (Bad at)) (Err SourceFault) a b p q = absurd q
agree base limit bytes (Err (Bad at)) (Err InputLimit) a b p q = a.1 b
agree base limit bytes (Err (Bad at)) (Err NoMemory) a b p q = absurd q
agree base limit bytes (Err SourceFault) second a b p q = absurd p
agree base limit bytes (Err InputLimit) (Ok others) a b p q = too_short base limit bytes b.3 a
agree base limit bytes (Err InputLimit) (Err (Bad at)) a b p q = b.1 a
agree base limit bytes (Err InputLimit) (Err SourceFault) a b p q = absurd q
agree base limit bytes (Err InputLimit) (Err InputLimit) a b p q = tt
agree base limit bytes (Err InputLimit) (Err NoMemory) a b p q = absurd q
agree base limit bytes (Err NoMemory) second a b p q = absurd p

pub answers_agree : (base : Base) (limit : ℕ) (bytes : List ℕ) (old new other last : SourceSeen) (answer second : Result Parts FeedFault) → old.left ≡ Some bytes → other.left ≡ Some bytes
    → ReadsSnapshot base limit old new answer → ReadsSnapshot base limit other last second → IsOfTheBytes answer → IsOfTheBytes second → SameAnswer answer second
answers_agree base limit bytes old new other last answer second told told_too reads again =
    agree base limit bytes answer second (decides_all base limit bytes old new answer told reads) (decides_all base limit bytes other last second told_too again)
