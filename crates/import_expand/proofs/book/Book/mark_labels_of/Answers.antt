use Rattle.std.proofs.Common.{ap, refl, ◌∙◌}
use Rattle.std.proofs.Math.Seq.{map-set_same}
use Rattle.ifa_value.specs.Object.{members}
use Rattle.import_expand.specs.Books.{shown}
use Rattle.import_expand.proofs.BookLemmas.{shown_keeps}
use Rattle.import_expand.proofs.book.Book.mark_labels_of.Goals as goal

pub returns-in-Some-clause-objects : goal.returns-in-Some-clause-objects
returns-in-Some-clause-objects c = map-set_same shown c.args.self.now.objects.items c.args.at c.list_labels.new.self c.in-Some.object.now (ap members c.list_labels.ensures ∙ ap shown c.in-Some.ensures.item.1)

pub returns-in-Some-clause-keeps : goal.returns-in-Some-clause-keeps
returns-in-Some-clause-keeps c = shown_keeps c.args.self.now _ (record {
  objects = map-set_same shown c.args.self.now.objects.items c.args.at c.list_labels.new.self c.in-Some.object.now (ap members c.list_labels.ensures ∙ ap shown c.in-Some.ensures.item.1);
  names = refl;
  entries = refl;
  links = refl;
  expanded = refl;
  held = refl;
})
