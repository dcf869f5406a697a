use Rattle.std.proofs.Common.{◌≡◌, ℕ, ◌-◌, List, length, take, drop, subst, arith}
use Rattle.std.proofs.lemmas.List.{take_all, length-drop}
use Rattle.dns_tcp.specs.Messages.{BeginsWithBytes}
use Rattle.dns_tcp.proofs.BufferLemmas.{turned}
use Rattle.dns_tcp.proofs.buffer.Buffer.next.Goals as goal

pub returns : goal.returns
returns c =
    let bytes = c.deref.result.now in
    let start = c.self.inside.start in
    let whole : take (length bytes - start) (drop start bytes) ≡ drop start bytes = take_all (length bytes - start) (drop start bytes) (omega (arith, length-drop start bytes)) in
    let begins : BeginsWithBytes (drop start bytes) c.in_ok-length.length = subst (λ (q : List ℕ). BeginsWithBytes q c.in_ok-length.length) whole c.in_ok-length.ensures in
    rw (← c.self.view_is) (turned c.self.inside.bytes.items start c.in_ok-length.length (rw c.deref.ensures.value at begins))
