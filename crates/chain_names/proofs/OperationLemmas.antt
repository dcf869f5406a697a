-- Undo operations by the log and by the maps.
use Rattle.std.proofs.Common.{◌≡◌, ℕ, suc, List, [], ◌∷◌, ◌++◌, refl, ap, ◌∙◌}
use Rattle.std.specs.Prelude.{None}
use Rattle.block_grammar.specs.Transaction.{Transaction, txid_of}
use Rattle.nmc_base.specs.declared.chain_ends.Profile.{Profile}
use Rattle.chain_names.specs.Log.{Log, touches}
use Rattle.chain_names.specs.Coins.{maps_of}
use Rattle.chain_names.specs.Verdict.{verdict}
use Rattle.chain_names.specs.Changes.{undo_of_verdict, undo_ops}
use Rattle.chain_names.specs.Index.{refused_in}
use Rattle.chain_names.proofs.LogLemmas.{transaction_follows}
use Rattle.chain_names.proofs.BlockLemmas.{no_refusal}
use Rattle.chain_names.specs.UndoOf.{undo_ops_in}

pub undo_ops_in-maps : (profile : Profile) (height index : ℕ) (ts : List Transaction) (log : Log) → refused_in profile height index ts log ≡ None
    → undo_ops_in profile height ts log ≡ undo_ops profile height ts (maps_of profile log height)
undo_ops_in-maps profile height index [] log e = refl
undo_ops_in-maps profile height index (t ∷ ts) log e =
    let maps = maps_of profile log height in
    let v = verdict profile maps height t in
    let h = no_refusal index v (refused_in profile height (suc index) ts (touches height t log)) e in
    ap (λ ops. undo_of_verdict maps (txid_of t) v ++ ops)
    (undo_ops_in-maps profile height (suc index) ts (touches height t log) h.1
    ∙ ap (undo_ops profile height ts) (transaction_follows profile height t log h.0))
