use Rattle.std.proofs.Common.{◌-◌, Some, length, sym, ap, subst, ◌∙◌, arith}
use Rattle.sliced_save.specs.Lengths.{SetsLength, UnsetsLength}
use Rattle.sliced_save.specs.Mirror.{NamePairs}
use Rattle.sliced_save.proofs.NameLemmas.{gone_length, gone_part, kept_found, kept_less, last_part, less_length}
use Rattle.sliced_save.proofs.names.MirrorNames.shrink.Goals as goal

pub last_len-requires : goal.last_len-requires
last_len-requires g c = rw c.in_ok-items-in-Some.ensures (kept_found c.self.inside.map c.in_ok-key.key c.in-Some.items.now c.self.invariant.0 c.in-Some.ensures.value).items

pub overflow_sub-len : goal.overflow_sub-len
overflow_sub-len g c =
    last_part c.self.inside.map c.in_ok-key.key c.in_ok-items-in-Some.items c.last_len.result c.self.inside.len (ap Some c.in_ok-items-in-Some.ensures ∙ c.in-Some.ensures.value) c.self.invariant.1
    c.last_len.ensures.length

pub overflow_sub-len-then-len-eq0 : goal.overflow_sub-len-then-len-eq0
overflow_sub-len-then-len-eq0 g c =
    let part =
    gone_part c.self.inside.map c.in_ok-key.key c.in_ok-items-in-Some.items c.last_len.result c.self.inside.len (ap Some c.in_ok-items-in-Some.ensures ∙ c.in-Some.ensures.value) c.self.invariant.1
    c.pop.new.self c.pop.ensures.items (sym c.len.ensures ∙ c.if-len-eq0.true) c.last_len.ensures.length in
    omega (arith, part)

pub overflow_sub-len-then-len-eq0-2 : goal.overflow_sub-len-then-len-eq0-2
overflow_sub-len-then-len-eq0-2 g c =
    let part =
    gone_part c.self.inside.map c.in_ok-key.key c.in_ok-items-in-Some.items c.last_len.result c.self.inside.len (ap Some c.in_ok-items-in-Some.ensures ∙ c.in-Some.ensures.value) c.self.invariant.1
    c.pop.new.self c.pop.ensures.items (sym c.len.ensures ∙ c.if-len-eq0.true) c.last_len.ensures.length in
    omega (arith, part, ap length c.in_ok-key.ensures.bytes)

pub unset-requires : goal.unset-requires
unset-requires g c =
    let less = c.self.inside.len - c.last_len.result - 5 - length c.args.name.now in
    subst (λ (z : NamePairs). UnsetsLength z c.in_ok-key.key less) c.self.view_is
    (rw (← c.in_ok-key.ensures.bytes)
    (gone_length c.self.inside.map c.in_ok-key.key c.in_ok-items-in-Some.items c.last_len.result c.self.inside.len (ap Some c.in_ok-items-in-Some.ensures ∙ c.in-Some.ensures.value) c.self.invariant.1
    c.pop.new.self c.pop.ensures.items (sym c.len.ensures ∙ c.if-len-eq0.true) c.last_len.ensures.length))

pub set-requires-clause-kept : goal.set-requires-clause-kept
set-requires-clause-kept g c =
    kept_less c.in_ok-key.key c.in_ok-items-in-Some.items c.pop.new.self
    (kept_found c.self.inside.map c.in_ok-key.key c.in_ok-items-in-Some.items c.self.invariant.0 (ap Some c.in_ok-items-in-Some.ensures ∙ c.in-Some.ensures.value)) c.pop.ensures.items
    (λ e. c.if-len-eq0.false (c.len.ensures ∙ e))

pub set-requires-clause-len : goal.set-requires-clause-len
set-requires-clause-len g c =
    subst (λ (z : NamePairs). SetsLength z c.in_ok-key.key c.pop.new.self (c.self.inside.len - c.last_len.result)) c.self.view_is
    (less_length c.self.inside.map c.in_ok-key.key c.in_ok-items-in-Some.items c.last_len.result c.self.inside.len (ap Some c.in_ok-items-in-Some.ensures ∙ c.in-Some.ensures.value) c.self.invariant.1
    c.pop.new.self c.pop.ensures.items c.last_len.ensures.length)
