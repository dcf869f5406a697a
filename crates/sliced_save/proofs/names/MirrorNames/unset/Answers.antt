use Rattle.std.proofs.Common.{[], sym, ap, subst, ◌∙◌}
use Rattle.std.specs.Str.{bytes_eq}
use Rattle.chain_names.specs.Points.{changed}
use Rattle.sliced_save.specs.Lengths.{UnsetsLength}
use Rattle.sliced_save.specs.Mirror.{NamePairs, items_at}
use Rattle.sliced_save.proofs.NameLemmas.{items_unset, names_unset}
use Rattle.sliced_save.proofs.names.MirrorNames.unset.Goals as goal

pub invariant_of-self-2 : goal.invariant_of-self-2
invariant_of-self-2 g c =
    names_unset c.self.inside.map c.unset.new.self c.args.name.now c.args.len c.self.invariant.0 c.in_ok-unset.ensures.map c.in_ok-unset.ensures.order
    (subst (λ (z : NamePairs). UnsetsLength z c.args.name.now c.args.len) (sym c.self.view_is) c.requires) (rw (← c.self.invariant.1) c.self.invariant.2)

pub returns-clause-names : goal.returns-clause-names
returns-clause-names g c =
    items_unset c.self.inside.map c.unset.new.self c.args.name.now c.self.invariant.0.order c.in_ok-unset.ensures.map
    ∙ ap (λ (z : NamePairs). changed bytes_eq (items_at z) c.args.name.now []) c.self.view_is
