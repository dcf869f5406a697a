use Rattle.std.proofs.Common.{arith}
use Rattle.import_expand.proofs.ToldLemmas.{told_new, told_push}
use Rattle.import_expand.proofs.joining.keep.Goals as goal

pub returns-clause-told : goal.returns-clause-told
returns-clause-told c live os label o ms first here shown told =
    told_push live os label _ c.args.joining.now.told.items c.push.new.self.items _ c.in_ok-push.ensures.items told
    (told_new live os label o ms c.args.joining.now.found.items _ here first (omega arith) (omega arith) shown)
