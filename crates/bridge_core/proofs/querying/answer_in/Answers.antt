use Rattle.std.proofs.Common.{◌≡◌, ℕ, ◌+◌, ◌-◌, ◌≤◌, List, ◌++◌, length, Some, None, take, drop, sym, ap, subst, ◌∙◌, arith, append_assoc}
use Rattle.std.proofs.Math.Seq.{take-append-add}
use Rattle.std.proofs.lemmas.List.{length-take-le, take-append-le, drop_at}
use Rattle.dns_message.specs.Limits.{most_of}
use Rattle.dns_message.specs.declared.transport.Transport.{Transport}
use Rattle.dns_message.specs.declared.transport.Transport.TheVariants.{Udp, Tcp}
use Rattle.frame_loop.specs.declared.reply.TheConstants.{LONGEST_REPLY, REPLY_HEAD}
use Rattle.chain_state.specs.Chain.{Indexed}
use Rattle.index_commands.specs.Standing as chains
use Rattle.kept_answers.specs.Answering.{AnswersMessage}
use Rattle.chain_commands.specs.RunState.{chain_of}
use Rattle.bridge_core.specs.Querying.{served_on, zone_on}
use Rattle.bridge_core.proofs.QueryingLemmas.{queried}
use Rattle.bridge_core.proofs.querying.answer_in.Goals as goal

most_small : (transport : Transport) → most_of transport ≤ LONGEST_REPLY
most_small Udp = omega arith
most_small Tcp = omega arith

-- what is written behind the head stands there in the room
behind_head : (head text more rest : List ℕ) (whole size : ℕ) → length head ≡ REPLY_HEAD → size ≤ length text → REPLY_HEAD + length text ≤ whole
    → take size (drop REPLY_HEAD (take whole ((head ++ (text ++ more)) ++ rest))) ≡ take size text
behind_head head text more rest whole size is within fits =
    let left = whole - (REPLY_HEAD + length text) in
    let joined : (head ++ (text ++ more)) ++ rest ≡ head ++ (text ++ (more ++ rest)) = append_assoc head (text ++ more) rest ∙ ap (λ (l : List ℕ). head ++ l) (append_assoc text more rest) in
    let counted : whole ≡ length head + (length text + left) = omega (arith, is, fits) in
    let cut : take whole ((head ++ (text ++ more)) ++ rest) ≡ head ++ (text ++ take left (more ++ rest)) =
    ap (λ (n : ℕ). take n ((head ++ (text ++ more)) ++ rest)) counted ∙ ap (take (length head + (length text + left))) joined
    ∙ take-append-add head (text ++ (more ++ rest)) (length text + left) ∙ ap (λ (l : List ℕ). head ++ l) (take-append-add text (more ++ rest) left) in
    ap (λ (l : List ℕ). take size (drop REPLY_HEAD l)) cut ∙ ap (take size) (drop_at head (text ++ take left (more ++ rest)) REPLY_HEAD is)
    ∙ take-append-le size text (take left (more ++ rest)) within

pub returns-in-Dropped-clause-reply : goal.returns-in-Dropped-clause-reply
returns-in-Dropped-clause-reply c =
    queried c.args.store.now c.args.transport c.args.message.now c.args.answers.now c.answer.new.answers None c.set.new.self (λ run s.
    let chain = chain_of run in
    subst (λ (host : List ℕ). AnswersMessage (served_on chain) (zone_on host chain) c.args.transport c.args.message.now c.args.answers.now None c.answer.new.answers) c.host-host.ensures
    (c.in-Dropped.ensures.chain chain.base chain.start chain.blocks (subst (λ (index : Indexed). chains.StandsFor index chain) (sym c.chain-chain.ensures) s.index)))
    c.set.ensures

pub returns-in-Text-clause-reply : goal.returns-in-Text-clause-reply
returns-in-Text-clause-reply c =
    let text = Some (take c.in-Text.size c.answer.new.buffer) in
    let front = length-take-le REPLY_HEAD c.deref_mut.result.now (omega (arith, c.requires)) in
    let auto = c.answer.auto.buffer in
    let within = c.in-Text.ensures.within in
    let most = most_small c.args.transport in
    let asked = c.requires in
    let fits : c.in-Text.size ≤ length c.answer.new.buffer = omega (arith, auto, within, most, asked) in
    let whole : REPLY_HEAD + length c.answer.new.buffer ≤ c.args.room.now.len = omega (arith, auto, asked) in
    queried c.args.store.now c.args.transport c.args.message.now c.args.answers.now c.answer.new.answers text c.exchange.new.self (λ run s.
    let chain = chain_of run in
    subst (λ (host : List ℕ). AnswersMessage (served_on chain) (zone_on host chain) c.args.transport c.args.message.now c.args.answers.now text c.answer.new.answers) c.host-host.ensures
    (c.in-Text.ensures.chain chain.base chain.start chain.blocks (subst (λ (index : Indexed). chains.StandsFor index chain) (sym c.chain-chain.ensures) s.index)))
    (c.exchange.ensures.reply ∙ ap (λ (payload : List ℕ). record { code = 0; payload = payload }) (behind_head _ _ _ _ _ _ front fits whole))
