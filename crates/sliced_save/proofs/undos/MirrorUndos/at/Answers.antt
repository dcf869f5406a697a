use Rattle.std.proofs.Common.{◌≡◌, List, Some, sym, ◌∙◌, ap, arith}
use Rattle.std.proofs.lemmas.Option.{slice_get_within}
use Rattle.std.specs.List.{slice_get}
use Rattle.std.specs.Option.{option_map}
use Rattle.chain_names.specs.Seen.{seen_undo}
use Rattle.chain_names.specs.Undo.{UndoRecord}
use Rattle.sliced_save.specs.Kept.{IsKeptUndo}
use Rattle.sliced_save.proofs.PairLemmas.{all_get}
use Rattle.sliced_save.proofs.UndoLemmas.{slice_get_map}
use Rattle.sliced_save.proofs.undos.MirrorUndos.at.Goals as goal

pub returns-in-Some : goal.returns-in-Some
returns-in-Some g c =
    let here : Some (seen_undo c.in-Some.undo.now) ≡ slice_get _ c.args.i = ap (option_map seen_undo) c.in-Some.ensures ∙ sym (slice_get_map seen_undo c.self.inside.stack c.args.i) in
    record {
      undo = here ∙ ap (λ (z : List UndoRecord). slice_get z c.args.i) c.self.view_is;
      kept = all_get IsKeptUndo _ c.args.i (seen_undo c.in-Some.undo.now) c.self.invariant.0 (sym here);
      within = omega (arith, slice_get_within c.self.inside.stack c.args.i c.in-Some.undo.now (sym c.in-Some.ensures), c.len-count.ensures, c.len-count.type_inv);
      cost = c.tick.ensures;
    }

pub returns-in-None : goal.returns-in-None
returns-in-None g c = record {
  undo = ap (option_map seen_undo) c.in-None.ensures ∙ sym (slice_get_map seen_undo c.self.inside.stack c.args.i) ∙ ap (λ (z : List UndoRecord). slice_get z c.args.i) c.self.view_is;
  kept = tt;
  within = tt;
  cost = c.tick.ensures;
}
