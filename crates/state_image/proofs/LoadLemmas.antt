-- A loader goes on from piece to piece, and what it answers at the end.
use Rattle.std.proofs.Common.{◌≡◌, ◌≢◌, ℕ, zero, suc, ◌+◌, ◌-◌, ◌≤◌, List, [], ◌∷◌, ◌++◌, length, ◌⊎◌, inl, inr, refl, sym, ap, subst, ◌∙◌, arith, append_assoc, append-nil, length-append}
use Rattle.std.specs.Prelude.{Option, Some, None, Result, Ok, Err}
use Rattle.block_grammar.proofs.Readers.{IsBytes}
use Rattle.block_grammar.proofs.ReaderLaws.{ok_err}
use Rattle.undo_records.specs.declared.fault.FaultKind.{FaultKind}
use Rattle.undo_records.specs.declared.fault.FaultKind.TheVariants.{Cut, BadTag, Unsorted}
use Rattle.undo_records.specs.declared.version.Version.{Version}
use Rattle.image_grammar.specs.Answers.{IsWhole}
use Rattle.image_grammar.specs.Image.{Image, image_told}
use Rattle.image_grammar.specs.Resuming.{Answer, EndsEarly}
use Rattle.image_grammar.specs.Stages.{Gathered, end_from, image_from}
use Rattle.image_grammar.proofs.WholeLaws.{text_again}
use Rattle.state_image.specs.Answers.{IsSoundText, IsDamaged, IsImageAnswer, place_by}
use Rattle.state_image.specs.Forming.{IsReadWhole}
use Rattle.state_image.specs.Loading.{Loading, loading_of, HasRead, ShowsFault, Takes, IsLoading, StopsShort, TakesOn, stop_of, fault_unless, fault_or, fault_at}
use Rattle.state_image.specs.Standing.{standing, standing_at}
use Rattle.state_image.specs.Turning.{Waits}
use Rattle.state_image.specs.Versioned.{Versioned, in_version, left_from, read_from}
use Rattle.state_image.specs.declared.fault.ImageFault.{ImageFault}
use Rattle.state_image.specs.declared.fault.ImageFault.TheVariants.{Damaged, NoMemory}
use Rattle.state_image.specs.declared.next.Next.{Next}
use Rattle.state_image.specs.declared.next.Next.TheVariants.{Head as at_head, Undos, Ops, ExpiredCount, Expired, CoinCount, Coins, NameCount, Names, Items}
use Rattle.state_image.specs.declared.reading.Reading.{Reading}
use Rattle.state_image.proofs.VersionedLemmas.{fault_read}

-- ---- faults of form

no_state : (text : List ℕ) (e : FaultKind × List ℕ) → image_from text ≡ Err e → (version : Version) (image : Image) → IsSoundText text version image → ⊥
no_state text e fault version image is = subst (IsWhole (image_told version image)) (ap image_from (sym is.text_is) ∙ fault) (text_again version image is.has_text)

place_of : (text more : List ℕ) (kind : FaultKind) (rest : List ℕ) (at : ℕ) → kind ≢ Cut → at ≡ length text - length rest → at ≡ place_by (text ++ more) (Err (kind, rest ++ more))
place_of text more Cut rest at other is = absurd (other refl)
place_of text more BadTag rest at other is = omega (arith, is, length-append text more, length-append rest more)
place_of text more Unsorted rest at other is = omega (arith, is, length-append text more, length-append rest more)

fault_damaged : (text : List ℕ) (at : ℕ) → ShowsFault text at → (more : List ℕ) → IsDamaged (text ++ more) at
fault_damaged text at shows more = record {
  none = no_state (text ++ more) (shows.kind, shows.rest ++ more) (shows.stops more);
  at_is = place_of text more shows.kind shows.rest at shows.other shows.at_is ∙ ap (place_by (text ++ more)) (sym (shows.stops more));
}

-- ---- the end

ended : (version : Version) (g : Gathered) (pending : List ℕ) → (pending ≡ []) ⊎ EndsEarly (in_version version (end_from g) pending)
    → in_version version (end_from g) pending ≡ Ok ((version, g), [])
ended version g [] waits = refl
ended version g (b ∷ pending) (inl none) = absurd cc
ended version g (b ∷ pending) (inr early) = absurd cc

end_waits : (r : Reading) (pending : List ℕ) → r.next ≡ Names 0 → Waits r pending → (pending ≡ []) ⊎ EndsEarly (left_from (standing_at (Names 0) r) pending)
end_waits r pending at (inl whole) = inl whole.1
end_waits r pending at (inr early) = inr (subst (λ n. EndsEarly (left_from (standing_at n r) pending)) at early)

read_end : (r : Reading) (pending : List ℕ) → r.next ≡ Names 0 → Waits r pending → left_from (standing r) pending ≡ Ok ((r.version, (standing r).gathered), [])
read_end r pending at waits =
    ap (λ n. left_from (standing_at n r) pending) at ∙ ended r.version (standing_at (Names 0) r).gathered pending (end_waits r pending at waits)
    ∙ ap (λ n. Ok ((r.version, (standing_at n r).gathered), [])) (sym at)

open_by : (r : Reading) (pending : List ℕ) → Waits r pending → (kind : FaultKind) (rest : List ℕ) → left_from (standing r) pending ≡ Err (kind, rest) → kind ≡ Cut
open_by r pending (inl whole) kind rest e = absurd (ok_err (left_from (standing r) pending) ((r.version, (standing r).gathered), []) (kind, rest) (read_end r pending whole.0 (inl whole)) e)
open_by r pending (inr early) kind rest e = subst (λ (x : Answer Versioned). EndsEarly x) e early

-- ---- one piece more

IsBytes-append : (xs ys : List ℕ) → IsBytes xs → IsBytes ys → IsBytes (xs ++ ys)
IsBytes-append [] ys hx hy i = hy i
IsBytes-append (x ∷ xs) ys hx hy zero = hx 0
IsBytes-append (x ∷ xs) ys hx hy (suc i) = IsBytes-append xs ys (λ j. hx (suc j)) hy i

module _ (text bytes : List ℕ) (l : Loading) (has : HasRead text l) where
  joined : (more : List ℕ) → read_from ((text ++ bytes) ++ more) ≡ left_from (standing l.reading) ((l.pending ++ bytes) ++ more)
  joined more = ap read_from (append_assoc text bytes more) ∙ has.goes_on (bytes ++ more) ∙ ap (left_from (standing l.reading)) (sym (append_assoc l.pending bytes more))

  fed_more : l.fed + length bytes ≡ length (text ++ bytes)
  fed_more = omega (arith, has.fed, length-append text bytes)

  abbrev with_more : Reading → List ℕ → Option ImageFault → Loading
  with_more new pending stop = loading_of new pending (l.fed + length bytes) l.total stop

  loads : IsBytes bytes → (new : Reading) (pending : List ℕ) → TakesOn l.reading (l.pending ++ bytes) (l.fed + length bytes) new pending (Ok tt) → HasRead (text ++ bytes) (with_more new pending None)
  loads are new pending on =
      let goes : (more : List ℕ) → read_from ((text ++ bytes) ++ more) ≡ left_from (standing new) (pending ++ more) = λ more. joined more ∙ on.0 more in
      let here : read_from (text ++ bytes) ≡ left_from (standing new) pending = ap read_from (sym (append-nil (text ++ bytes))) ∙ goes [] ∙ ap (left_from (standing new)) (append-nil pending) in
      record {
        bytes = IsBytes-append text bytes has.bytes are;
        fed = fed_more;
        no_fault = refl;
        goes_on = goes;
        waits = on.1;
        kept = on.2;
        open_end = λ kind rest e. open_by new pending on.1 kind rest (sym here ∙ e);
      }

  shows : (at : ℕ) → StopsShort l.reading (l.pending ++ bytes) (l.fed + length bytes) at → ShowsFault (text ++ bytes) at
  shows at short = record {
    kind = short.kind;
    rest = short.rest;
    stops = λ more. fault_read ((text ++ bytes) ++ more) short.kind (short.rest ++ more) (joined more ∙ short.stops more);
    other = short.other;
    at_is = short.at_is ∙ ap (λ (n : ℕ). n - length short.rest) fed_more;
  }

  pub takes_piece : IsBytes bytes → (new : Reading) (pending : List ℕ) (read : Result (Unit {0}) ImageFault)
      → TakesOn l.reading (l.pending ++ bytes) (l.fed + length bytes) new pending read → Takes (text ++ bytes) (with_more new pending (stop_of read)) read
  takes_piece are new pending (Ok done) on = loads are new pending on
  takes_piece are new pending (Err (Damaged at)) on = record { stop = refl; shows = shows at on; damaged = fault_damaged (text ++ bytes) at (shows at on) }
  takes_piece are new pending (Err NoMemory) on = refl

  pub loading_more : IsLoading l → l.fed + length bytes ≤ l.total → IsBytes bytes → (new : Reading) (pending : List ℕ) (read : Result (Unit {0}) ImageFault)
      → TakesOn l.reading (l.pending ++ bytes) (l.fed + length bytes) new pending read → IsLoading (with_more new pending (stop_of read))
  loading_more is low are new pending (Ok done) on = record { few = is.few; within = low; reads = λ none. (text ++ bytes, loads are new pending on) }
  loading_more is low are new pending (Err fault) on = record { few = is.few; within = low; reads = λ none. absurd cc }

-- ---- all pieces

module _ (text : List ℕ) (l : Loading) (has : HasRead text l) where
  read_here : read_from text ≡ left_from (standing l.reading) l.pending
  read_here = ap read_from (sym (append-nil text)) ∙ has.goes_on [] ∙ ap (left_from (standing l.reading)) (append-nil l.pending)

  pub read_whole : IsLoading l → l.reading.next ≡ Names 0 → IsReadWhole text l.reading
  read_whole is at = record {
    bytes = has.bytes;
    few = omega (arith, has.fed, is.few, is.within);
    read = read_here ∙ read_end l.reading l.pending at has.waits;
    kept = has.kept;
  }

  pub cut_short : l.reading.next ≢ Names 0 → IsDamaged text l.fed
  cut_short on = by (left_from (standing l.reading) l.pending) refl (early has.waits)
    where
      early : Waits l.reading l.pending → EndsEarly (left_from (standing l.reading) l.pending)
      early (inl whole) = absurd (on whole.0)
      early (inr e) = e

      by : (r : Answer Versioned) → left_from (standing l.reading) l.pending ≡ r → EndsEarly r → IsDamaged text l.fed
      by (Ok x) e end = absurd end
      by (Err (kind, rest)) e end =
          let cut : image_from text ≡ Err (Cut, rest) = fault_read text Cut rest (read_here ∙ e ∙ ap (λ (k : FaultKind). Err (k, rest)) end) in
          record { none = no_state text (Cut, rest) cut; at_is = has.fed ∙ ap (place_by text) (sym cut) }

-- ---- why it isn't whole

whole_by : (next : Next) (fed : ℕ) → None ≡ fault_unless next fed → next ≡ Names 0
whole_by (Names zero) fed e = refl
whole_by (Names (suc n)) fed e = absurd cc
whole_by at_head fed e = absurd cc
whole_by (Undos undos) fed e = absurd cc
whole_by (Ops ops undos) fed e = absurd cc
whole_by (ExpiredCount undos) fed e = absurd cc
whole_by (Expired expired undos) fed e = absurd cc
whole_by CoinCount fed e = absurd cc
whole_by (Coins coins) fed e = absurd cc
whole_by NameCount fed e = absurd cc
whole_by (Items items names) fed e = absurd cc

not_whole : (next : Next) (fed : ℕ) (fault : ImageFault) → Some fault ≡ fault_unless next fed → (next ≢ Names 0) × (fault ≡ Damaged fed)
not_whole (Names zero) fed fault e = absurd cc
not_whole (Names (suc n)) fed fault e = ((λ at. cc), cc)
not_whole at_head fed fault e = ((λ at. cc), cc)
not_whole (Undos undos) fed fault e = ((λ at. cc), cc)
not_whole (Ops ops undos) fed fault e = ((λ at. cc), cc)
not_whole (ExpiredCount undos) fed fault e = ((λ at. cc), cc)
not_whole (Expired expired undos) fed fault e = ((λ at. cc), cc)
not_whole CoinCount fed fault e = ((λ at. cc), cc)
not_whole (Coins coins) fed fault e = ((λ at. cc), cc)
not_whole NameCount fed fault e = ((λ at. cc), cc)
not_whole (Items items names) fed fault e = ((λ at. cc), cc)

pub no_fault_whole : (l : Loading) → None ≡ fault_at l → (l.stop ≡ None) × (l.reading.next ≡ Names 0)
no_fault_whole l e = by l.stop refl e
  where
    by : (stop : Option ImageFault) → l.stop ≡ stop → None ≡ fault_or stop (fault_unless l.reading.next l.fed) → (l.stop ≡ None) × (l.reading.next ≡ Names 0)
    by None is e' = (is, whole_by l.reading.next l.fed e')
    by (Some fault) is e' = absurd cc

pub fault_answers : (text : List ℕ) (l : Loading) → HasRead text l → (fault : ImageFault) → Some fault ≡ fault_at l → IsImageAnswer text (Err fault)
fault_answers text l has fault e =
    let unless : Some fault ≡ fault_unless l.reading.next l.fed = e ∙ ap (λ stop. fault_or stop (fault_unless l.reading.next l.fed)) has.no_fault in
    let cut = not_whole l.reading.next l.fed fault unless in
    subst (λ f. IsImageAnswer text (Err f)) (sym cut.1) (cut_short text l has cut.0)
