use Rattle.std.proofs.Common.{sym, ap, ◌∙◌}
use Rattle.std.proofs.Common.{subst}
use Rattle.std.specs.Str.{bytes_eq}
use Rattle.chain_names.specs.Points.{changed}
use Rattle.sliced_save.specs.Lengths.{SetsLength}
use Rattle.sliced_save.specs.Mirror.{NamePairs, items_at}
use Rattle.sliced_save.proofs.NameLemmas.{items_set, names_set}
use Rattle.sliced_save.proofs.names.MirrorNames.set.Goals as goal

pub invariant_of-self-2 : goal.invariant_of-self-2
invariant_of-self-2 g c =
    names_set c.self.inside.map c.set.new.self c.args.name c.args.items c.args.len c.self.invariant.0 c.requires.kept c.in_ok-set.ensures.ok c.in_ok-set.ensures.order
    (subst (λ (z : NamePairs). SetsLength z c.args.name c.args.items c.args.len) (sym c.self.view_is) c.requires.len) c.requires.most

pub returns-clause-names : goal.returns-clause-names
returns-clause-names g c = items_set c.self.inside.map c.set.new.self c.args.name c.args.items c.in_ok-set.ensures.ok ∙ ap (λ (z : NamePairs). changed bytes_eq (items_at z) c.args.name c.args.items) c.self.view_is
