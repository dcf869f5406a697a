use Rattle.std.proofs.Common.{sym, ap, ◌∙◌}
use Rattle.ifa_value.specs.Elements.{elements_if}
use Rattle.ifa_value.specs.Object.{members}
use Rattle.ifa_value.specs.Values.{item_of}
use Rattle.ifa_value.specs.declared.item.Key.TheVariants.{Import}
use Rattle.import_expand.proofs.ExpandLemmas.{is_none}
use Rattle.import_expand.proofs.marked.Marked.import_elements.Goals as goal

pub returns-then-not-self : goal.returns-then-not-self
returns-then-not-self c =
    let self = c.args.self.now in
    rw c.new.ensures (sym (ap (elements_if Import) (is_none (item_of Import (members self.object)) (sym self.is_import ∙ c.if-not-self.true))))
