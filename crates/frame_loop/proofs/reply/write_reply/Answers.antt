use Rattle.std.proofs.Common.{◌≡◌, ℕ, ◌+◌, ◌-◌, List, ◌++◌, length, take, drop, sym, ap, ◌∙◌, arith, append_assoc, length-append}
use Rattle.std.proofs.lemmas.List.{length-take-le, take_at, drop_at}
use Rattle.frame_loop.specs.declared.reply.TheConstants.{REPLY_HEAD}
use Rattle.frame_loop.proofs.reply.write_reply.Goals as goal

-- behind the head stand the pieces that were put there one behind the other
put_both : (head first second rest more one two : List ℕ) (end : ℕ) → length head ≡ REPLY_HEAD → end ≡ REPLY_HEAD + length first
    → one ≡ head ++ (first ++ rest) → two ≡ take end one ++ (second ++ more) → take (end + length second - REPLY_HEAD) (drop REPLY_HEAD two) ≡ first ++ second
put_both head first second rest more one two end size ends one_is two_is =
    let front : take end one ≡ head ++ first =
    ap (take end) (one_is ∙ sym (append_assoc head first rest)) ∙ take_at (head ++ first) rest end (omega (arith, length-append head first)) in
    let behind : drop REPLY_HEAD two ≡ (first ++ second) ++ more =
    ap (drop REPLY_HEAD) (two_is ∙ ap (λ (l : List ℕ). l ++ (second ++ more)) front ∙ append_assoc head first (second ++ more))
    ∙ drop_at head (first ++ (second ++ more)) REPLY_HEAD size ∙ sym (append_assoc first second more) in
    ap (take (end + length second - REPLY_HEAD)) behind ∙ take_at (first ++ second) more (end + length second - REPLY_HEAD) (omega (arith, length-append first second))

pub returns-clause-payload : goal.returns-clause-payload
returns-clause-payload c =
    let head = length-take-le REPLY_HEAD c.args.text.now (omega (arith, c.requires.room)) in
    let payload = put_both _ _ _ _ _ _ _ _ head c.put-end.ensures.end c.put-end.ensures.text c.put-end-2.ensures.text in
    ap (take (c.put-end-2.result - REPLY_HEAD)) (ap (drop REPLY_HEAD) c.put_head.ensures) ∙ ap (λ (end : ℕ). take (end - REPLY_HEAD) (drop REPLY_HEAD c.put-end-2.new.text)) c.put-end-2.ensures.end ∙ payload
