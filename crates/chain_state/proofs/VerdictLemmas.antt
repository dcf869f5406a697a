-- A transaction was accepted, and did what its verdict says.
use Rattle.std.proofs.Common.{◌≡◌, ℕ, ◌≤◌, false, List, ◌++◌, sym, ap, subst, ◌∙◌}
use Rattle.block_grammar.specs.Transaction.{Transaction, txid_of}
use Rattle.nmc_base.specs.Heights.{highest}
use Rattle.nmc_base.specs.declared.hashes.Hash32.{Hash32}
use Rattle.nmc_base.specs.declared.chain_ends.Profile.{Profile}
use Rattle.chain_names.specs.Verdict.{Verdict, verdict}
use Rattle.chain_names.specs.Changes.{after_verdict, undo_of_verdict}
use Rattle.chain_names.proofs.Shown.{is_refused, true_is_not_false}
use Rattle.name_tables.specs.Tables.{maps_by}
use Rattle.chain_state.specs.Work.{Advances}
use Rattle.chain_state.specs.Block.{IsReady, Applied}
use Rattle.chain_state.specs.declared.work.Work.{Work}
use Rattle.chain_names.specs.State.{Stands}
use Rattle.chain_names.proofs.UndoneBlockLemmas.{verdict_stands}
use Rattle.chain_names.proofs.Meanings.{verdict_means}

abbrev pub AdvancesBy : ℕ → List ℕ → Verdict → Work → Work → Type 0
AdvancesBy height txid v old new = Advances old new (undo_of_verdict (maps_by old.tables) txid v) (after_verdict (maps_by old.tables) height txid v)

pub applied : (profile : Profile) (old new : Work) (t : Transaction) → IsReady profile old → (v : Verdict) → verdict profile (maps_by old.tables) old.height t ≡ v → is_refused v ≡ false
    → AdvancesBy old.height (txid_of t) v old new → Applied profile old new t
applied profile old new t ready v is kept advances =
    let maps = maps_by old.tables in
    let maps_are = advances.maps ∙ ap (after_verdict maps old.height (txid_of t)) (sym is) in
    record {
      accepted = λ refusal e. true_is_not_false (ap is_refused (sym e ∙ is) ∙ kept);
      maps = maps_are;
      ops = advances.ops ∙ ap (λ w. old.ops.items ++ undo_of_verdict maps (txid_of t) w) (sym is);
      height = advances.height;
      ready = record {
        work = advances.work;
        none_empty = advances.empty ∙ ready.none_empty;
        low = subst (λ h. h ≤ highest) (sym advances.height) ready.low;
        standing = subst (λ h. Stands profile h h (maps_by new.tables)) (sym advances.height)
            (subst (Stands profile old.height old.height) (sym maps_are)
            (verdict_stands profile old.height maps t (verdict profile maps old.height t) (verdict_means profile maps old.height t) ready.standing));
      };
    }

-- with the id that was handed over
pub applied_with : (old new : Work) (t : Transaction) (txid : Hash32) → txid.0 ≡ txid_of t → (v : Verdict)
    → AdvancesBy old.height txid.0 v old new → AdvancesBy old.height (txid_of t) v old new
applied_with old new t txid same v advances = subst (λ id. AdvancesBy old.height id v old new) same advances
