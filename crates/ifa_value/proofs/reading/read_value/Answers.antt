use Rattle.std.proofs.Common.{sym, ◌∙◌, arith}
use Rattle.ifa_value.proofs.ReadLemmas.{object_of_read, object_of_unread, members_of_null}
use Rattle.ifa_value.proofs.reading.read_value.Goals as goal

pub returns-in-Ok : goal.returns-in-Ok
returns-in-Ok c = c.of.ensures ∙ object_of_read _ _ c.in-Ok.ensures.ok.0 c.in-Ok.ensures.ok.1

pub returns-else-is_memory : goal.returns-else-is_memory
returns-else-is_memory c =
    c.of-else-is_memory.ensures ∙ members_of_null ∙ sym (object_of_unread c.args.value.now (c.in-Err.ensures.err (λ m. let t = c.is_memory.ensures.1 m in grind arith)))
