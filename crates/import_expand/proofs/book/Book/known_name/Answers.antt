use Rattle.std.proofs.Common.{sym, subst, ◌∙◌}
use Rattle.std.specs.Cmp.Lexicographic.{same_text}
use Rattle.import_expand.specs.Books.{held, IsCounted}
use Rattle.import_expand.proofs.book.Book.known_name.Goals as goal

pub returns-then-eq-clause-counted : goal.returns-then-eq-clause-counted
returns-then-eq-clause-counted c live sound =
    subst (IsCounted live (held c.args.self.now)) (sym c.as_slice-in-Some.ensures ∙ same_text c.as_slice-in-Some.result.now c.args.name.now (sym c.if-eq.true ∙ c.eq.ensures)) (c.in-Some.ensures.counted live sound)
