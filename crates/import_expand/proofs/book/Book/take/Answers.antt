use Rattle.std.proofs.Common.{arith, refl, sym, subst}
use Rattle.ifa_value.specs.declared.object.IfaObject.{IfaObject}
use Rattle.ifa_value.specs.Object.{members}
use Rattle.import_expand.specs.Books.{IsMet}
use Rattle.import_expand.proofs.BookLemmas.{counted_more}
use Rattle.import_expand.proofs.book.Book.take.Goals as goal

pub returns-clause-keeps : goal.returns-clause-keeps
returns-clause-keeps c met =
    let k = c.in_ok-at.ensures.keeps (λ live all. subst (λ (x : IfaObject). IsMet live (members x)) (sym c.alone.ensures) (met live all)) in
    record { grows = k.grows; held = omega (arith, k.held, c.in_ok-take.ensures.counted); sound = λ live s. k.sound live (counted_more live c.args.self.now _ s (record { objects = refl; names = refl; entries = refl; links = refl; expanded = refl; held = omega (arith, c.in_ok-take.ensures.counted) })) }
