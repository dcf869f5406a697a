use Rattle.std.proofs.Common.{◌∷◌, ◌++◌, [], List, ap, ◌∙◌}
use Rattle.chain_names.specs.declared.coin.HeldCoin.{HeldCoin}
use Rattle.chain_names.specs.declared.undo.UndoOp.{UndoOp}
use Rattle.nmc_base.specs.Roomy.{Roomy}
use Rattle.table_trials.proofs.ImageLemmas.{small}
use Rattle.table_trials.proofs.images.record_of.Goals as goal

pub returns : goal.returns
returns c =
    let op = c.in_ok-update.field-0 in
    let held = c.in_ok-gone.field-0 in
    small _ op held
    (c.push.ensures.items ∙ ap (λ (os : List UndoOp). os ++ op ∷ []) (c.reserve.ensures.items ∙ ap (λ (l : Roomy UndoOp). l.items) c.new-ops.ensures))
    (c.push-2.ensures.items ∙ ap (λ (hs : List HeldCoin). hs ++ held ∷ []) (c.reserve-2.ensures.items ∙ ap (λ (l : Roomy HeldCoin). l.items) c.new-expired.ensures))
    c.in_ok-update.ensures c.in_ok-gone.ensures
