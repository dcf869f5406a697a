use Rattle.std.proofs.Common.{◌≡◌, ◌+◌, ℕ, suc, true, List, take, Option, Some, sym, ap, subst, ◌∙◌, arith}
use Rattle.std.specs.Prelude.{slice_get, IfSome}
use Rattle.std.specs.Map.{keys_of}
use Rattle.chain_names.specs.Tables.{names_in, name_places}
use Rattle.registrations.proofs.ListLemmas.{take_next}
use Rattle.registrations.proofs.BeginningLemmas.{IsBeginning, one_begun, whole_begun}
use Rattle.registrations.proofs.beginnings.begin_all.Goals as goal

pub begin_name-requires : goal.begin_name-requires
begin_name-requires g c =
    subst (λ (name : List ℕ). name_places c.loop-i.names name ≡ true) (sym c.as_slice.ensures)
    (subst (λ (name : Option (List ℕ)). IfSome name (λ bytes. name_places c.loop-i.names bytes ≡ true)) c.in-Some.is c.in_ok-name.ensures.placed)

pub returns-in-None-clause-names : goal.returns-in-None-clause-names
returns-in-None-clause-names g c =
    whole_begun c.args.names.now c.loop-i.names c.loop-i.i c.loop-i.invariant.list (sym c.in_ok-name.ensures.copy ∙ c.in-None.is) c.loop-i.invariant.going

pub loop-i-preserved : goal.loop-i-preserved
loop-i-preserved g c =
    let keys = keys_of c.args.names.now in
    let here : slice_get keys c.loop-i.i ≡ Some c.as_slice.result.now =
    ap (λ ks. slice_get ks c.loop-i.i) (sym c.loop-i.invariant.list) ∙ sym c.in_ok-name.ensures.copy ∙ c.in-Some.is ∙ ap Some (sym c.as_slice.ensures) in
    let next : suc c.loop-i.i ≡ c.loop-i.i + 1 = omega arith in
    record {
      going =
          subst (λ (listed : List (List ℕ)). IsBeginning listed (names_in c.args.names.now) (names_in c.begin_name.new.names))
          (sym (take_next keys c.loop-i.i c.as_slice.result.now here) ∙ ap (λ n. take n keys) next)
          (one_begun (take c.loop-i.i keys) c.as_slice.result.now (names_in c.args.names.now) (names_in c.loop-i.names) (names_in c.begin_name.new.names) c.in_ok-begin_name-in-Some.ensures.names
          c.loop-i.invariant.going);
      list = c.in_ok-begin_name-in-Some.ensures.list ∙ c.loop-i.invariant.list;
    }
