use Rattle.std.proofs.Common.{◌≡◌, false, sym, ap, ◌∙◌, subst}
use Rattle.ifa_value.specs.declared.object.IfaObject.{IfaObject}
use Rattle.ifa_value.specs.Labels.{map_labels, label_numbers}
use Rattle.ifa_value.specs.Object.{members}
use Rattle.import_expand.specs.Labels.{is_among}
use Rattle.import_expand.specs.declared.labels.Labels.{Labels}
use Rattle.import_expand.proofs.LabelLemmas.{no_entry}
use Rattle.import_expand.proofs.marked.Marked.list_labels.Goals as goal

pub invariant_of-self : goal.invariant_of-self
invariant_of-self c = record {
  is_ns = c.args.self.now.is_ns;
  is_translate = c.args.self.now.is_translate;
  is_map = c.args.self.now.is_map;
  is_import = c.args.self.now.is_import;
  are_labels = λ label no. no_entry label (members c.args.self.now.object)
      (subst (λ (o : IfaObject). is_among (label_numbers (map_labels (members o))) label ≡ false) c.as_ref.ensures
      (sym (c.in_ok-labels.ensures label) ∙ ap (λ (ls : Labels). is_among ls.numbers.items label) (sym c.in_ok-new.ensures) ∙ no));
}
