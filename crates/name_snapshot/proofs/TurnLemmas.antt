-- The steps of a reading.
use Rattle.std.proofs.Common.{◌≡◌, ℕ, suc, ◌+◌, List, [], ◌∷◌, ◌++◌, refl, sym, ap, subst, ◌∙◌, append_assoc, append-nil, arith}
use Rattle.std.specs.Prelude.{Option, Some, None, Result, Ok, Err}
use Rattle.std.specs.Borrow.{Bor}
use Rattle.block_grammar.specs.Combinators.{◌>>=◌}
use Rattle.block_grammar.proofs.Readers.{IsBytes, Took}
use Rattle.nmc_base.specs.declared.chain_ends.Base.{Base}
use Rattle.nmc_base.specs.declared.hashes.OutPoint.{OutPoint}
use Rattle.chain_names.specs.declared.coin.Item.{Item}
use Rattle.chain_names.specs.Coins.{Maps, history_of}
use Rattle.chain_names.specs.Tables.{names_in}
use Rattle.undo_records.specs.declared.fault.FaultKind.{FaultKind}
use Rattle.undo_records.specs.declared.fault.FaultKind.TheVariants.{Cut}
use Rattle.undo_records.specs.declared.fault.Stop.{Stop}
use Rattle.undo_records.specs.declared.fault.Stop.TheVariants.{At, NoMemory}
use Rattle.name_snapshot.specs.Makes.{MayFollow, MayFollowAll, last_of}
use Rattle.name_snapshot.specs.Reading.{next_by, next_from, head_from, makes_then, snapshot_from}
use Rattle.name_snapshot.specs.Standing.{IsIndexOf, BeginsAt, IsBehind, IsPut, left_from}
use Rattle.name_snapshot.specs.Text.{StartMake, make_text, head_text, start_of}
use Rattle.name_snapshot.specs.Turning.{IsFaultOf, GoesOn, StopsAt, WaitsAt, Waits, Steps, ReadsOn, ReadsWhole}
use Rattle.name_snapshot.specs.declared.next.Next.{Next}
use Rattle.name_snapshot.specs.declared.next.Next.TheVariants.{Head, Makes}
use Rattle.name_snapshot.specs.declared.reading.Reading.{Reading}
use Rattle.name_snapshot.proofs.IndexLemmas.{index_more}
use Rattle.name_snapshot.proofs.WholeLaws.{IsHead, head_takes, head_again, next_again, next_takes, one_more, none_more}

-- ---- the head

module _ (old : Reading) (at : old.next ≡ Head) (bytes : List ℕ) (are : IsBytes bytes) (makes : ℕ) (rest : List ℕ) (read : Ok (makes, rest) ≡ head_from bytes) (below : List StartMake) (is : IsBehind below old) where
  head_is : IsHead bytes makes rest
  head_is = head_takes bytes (makes, rest) are (sym read)

  none_below : below ≡ []
  none_below = subst (λ (n : Next). BeginsAt n below) at is.begins

  head_then : (more : List ℕ) → left_from old.base old.next below (bytes ++ more) ≡ makes_then old.base makes below (rest ++ more)
  head_then more =
      ap (λ (n : Next). left_from old.base n below (bytes ++ more)) at
      ∙ ap (snapshot_from old.base) (ap (λ (l : List ℕ). l ++ more) head_is.text_is ∙ append_assoc (head_text makes) rest more)
      ∙ ap (λ r. r >>= λ x. makes_then old.base x.0 [] x.1) (head_again makes (rest ++ more) head_is.fits)
      ∙ ap (λ (b : List StartMake). makes_then old.base makes b (rest ++ more)) (sym none_below)

  pub head_goes : (new : Reading) → new.base ≡ old.base → new.next ≡ Makes makes → new.last ≡ old.last → new.tables ≡ old.tables → GoesOn below old bytes new rest
  head_goes new base next last tables = record {
    base = base;
    now = below;
    behind = record {
      begins = subst (λ (n : Next). BeginsAt n below) (sym next) tt;
      last = last ∙ is.last;
      follow = subst (λ (b : Base). MayFollowAll b below) (sym base) is.follow;
      index = subst (λ (b : Base). IsIndexOf b below new.tables) (sym base) (subst (IsIndexOf old.base below) (sym tables) is.index);
    };
    bytes_are = λ _. head_is.rest_bytes;
    goes = λ more.
        head_then more ∙ ap (λ (n : Next). left_from old.base n below (rest ++ more)) (sym next)
        ∙ ap (λ (b : Base). left_from b new.next below (rest ++ more)) (sym base);
  }

-- ---- the next make

module _ (old : Reading) (left : ℕ) (at : old.next ≡ Makes (left + 1)) (bytes : List ℕ) where
  module _ (below : List StartMake) (is : IsBehind below old) where
    names_are : names_in old.tables.names ≡ history_of (start_of below)
    names_are = ap (λ (m : Maps). m.names) is.index.maps

    same_next : next_by old.base old.last (names_in old.tables.names) bytes ≡ next_from old.base below bytes
    same_next =
        ap (λ (last : Option OutPoint). next_by old.base last (names_in old.tables.names) bytes) is.last
        ∙ ap (λ (names : List ℕ → List Item). next_by old.base (last_of below) names bytes) names_are

    left_is : (l : List ℕ) → left_from old.base old.next below l ≡ makes_then old.base (suc left) below l
    left_is l =
        let count : left + 1 ≡ suc left = omega arith in
        ap (λ (next : Next). left_from old.base next below l) at ∙ ap (λ (n : ℕ). makes_then old.base n below l) count

    module _ (are : IsBytes bytes) (m : StartMake) (rest : List ℕ) (read : Ok (m, rest) ≡ next_by old.base old.last (names_in old.tables.names) bytes) where
      took : Took make_text (MayFollow old.base below) bytes (m, rest)
      took = next_takes old.base below bytes (m, rest) is.follow are (sym (read ∙ same_next))

      goes : (more : List ℕ) → left_from old.base old.next below (bytes ++ more) ≡ makes_then old.base left (m ∷ below) (rest ++ more)
      goes more =
          left_is (bytes ++ more)
          ∙ ap (makes_then old.base (suc left) below) (ap (λ (l : List ℕ). l ++ more) took.parts ∙ append_assoc (make_text m) rest more)
          ∙ one_more old.base left below (make_text m ++ (rest ++ more)) (m, rest ++ more) (next_again old.base below m (rest ++ more) took.fits)

      pub make_goes : (new : Reading) → new.base ≡ old.base → new.next ≡ Makes left → new.last ≡ Some m.at → IsPut m old.tables new.tables → GoesOn below old bytes new rest
      make_goes new base next last put = record {
        base = base;
        now = m ∷ below;
        behind = record {
          begins = subst (λ (n : Next). BeginsAt n (m ∷ below)) (sym next) tt;
          last = last;
          follow = subst (λ (b : Base). MayFollowAll b (m ∷ below)) (sym base) (took.fits, is.follow);
          index = subst (λ (b : Base). IsIndexOf b (m ∷ below) new.tables) (sym base) (index_more old.base below m took.fits old.tables new.tables is.index put);
        };
        bytes_are = λ _. took.rest_bytes;
        goes = λ more.
            goes more ∙ ap (λ (n : Next). left_from old.base n (m ∷ below) (rest ++ more)) (sym next)
            ∙ ap (λ (b : Base). left_from b new.next (m ∷ below) (rest ++ more)) (sym base);
      }

    pub make_stops : (kind : FaultKind) (rest : List ℕ) (new : Reading) (result : Result (Option (Bor (List ℕ))) Stop) → new ≡ old
        → Err (kind, rest) ≡ next_by old.base old.last (names_in old.tables.names) bytes → IsFaultOf kind rest result → Steps below old bytes new result
    make_stops kind rest new result same read is_fault = by result is_fault
      where
        waits : kind ≡ Cut → Waits below old bytes
        waits f =
            let count : left + 1 ≡ suc left = omega arith in
            subst (λ (n : Next). WaitsAt old.base n below bytes) (sym (at ∙ ap (λ (n : ℕ). Makes n) count)) (rest, sym (read ∙ same_next) ∙ ap (λ (k : FaultKind). Err (k, rest)) f)

        stopped : left_from old.base old.next below bytes ≡ Err (kind, rest)
        stopped = left_is bytes ∙ none_more old.base left below bytes (kind, rest) (sym (read ∙ same_next))

        by : (result : Result (Option (Bor (List ℕ))) Stop) → IsFaultOf kind rest result → Steps below old bytes new result
        by (Ok (Some after)) f = absurd f
        by (Ok None) f = (same, waits f)
        by (Err (At fault)) f = (stopped ∙ (λ i. Err (sym f.0 i, sym f.1 i)), λ cut. f.2 (sym f.0 ∙ cut))
        by (Err NoMemory) f = absurd f

-- ---- one step after the other

pub goes_nowhere : (r : Reading) (bytes : List ℕ) (below : List StartMake) → IsBehind below r → GoesOn below r bytes r bytes
goes_nowhere r bytes below is = record { base = refl; now = below; behind = is; bytes_are = λ are. are; goes = λ more. refl }

module _ (below : List StartMake) (first : Reading) (bytes : List ℕ) (middle : Reading) (rest : List ℕ) (on : GoesOn below first bytes middle rest) where
  pub goes_further : (last : Reading) (after : List ℕ) → GoesOn on.now middle rest last after → GoesOn below first bytes last after
  goes_further last after more = record { base = more.base ∙ on.base; now = more.now; behind = more.behind; bytes_are = λ are. more.bytes_are (on.bytes_are are); goes = λ l. on.goes l ∙ more.goes l }

  here : left_from first.base first.next below bytes ≡ left_from middle.base middle.next on.now rest
  here = ap (left_from first.base first.next below) (sym (append-nil bytes)) ∙ on.goes [] ∙ ap (left_from middle.base middle.next on.now) (append-nil rest)

  pub stops_there : (kind : FaultKind) (at : List ℕ) → StopsAt on.now middle rest kind at → StopsAt below first bytes kind at
  stops_there kind at stops = (here ∙ stops.0, stops.1)

  pub waits_there : (last : Reading) (after : Option (Bor (List ℕ))) → after ≡ None → Steps on.now middle rest last (Ok after) → ReadsOn below first bytes last rest
  waits_there last (Some after) none steps = absurd cc
  waits_there last None none steps = subst (λ (r : Reading). ReadsOn below first bytes r rest) (sym steps.0) (record { on = on; waits = steps.1 })

  pub fails_there : (last : Reading) (e : Stop) → Steps on.now middle rest last (Err e) → ReadsWhole below first bytes last (Err e)
  fails_there last (At fault) steps = stops_there fault.kind fault.rest.now steps
  fails_there last NoMemory steps = tt
