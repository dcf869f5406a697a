use Rattle.std.proofs.Common.{rules, [], ◌∷◌, Bool, drop, subst}
use Rattle.std.specs.Int.{w64, to_be_bytes}
use Rattle.byte_io.specs.Port.{replied}
use Rattle.system_io.specs.Net.{Adds, noted}
use Rattle.system_io.proofs.PortLemmas.{Noted_reply, Sends_noted}
use Rattle.system_io.proofs.socket_port.PortOfPort.reply.Goals as goal

pub returns-clause-sends : goal.returns-clause-sends
returns-clause-sends g c =
    Sends_noted _ _ (λ (is_sent : Bool). replied c.args.client c.args.bytes.now is_sent) _ c.is_ok.result c.is_ok.ensures.value (search rules) c.count-answer.ensures.cause
    (Noted_reply (g.N.Net.told c.args.self.now.net) (g.N.Net.told c.reply-answer.new.net) (g.N.Net.told c.note_send.new.self) (drop 2 (to_be_bytes w64 c.args.client)) c.args.bytes.now c.reply-answer.result
    (replied c.args.client c.args.bytes.now c.is_ok.result) c.reply-answer.ensures.given c.note_send.ensures)

pub returns-clause-told : goal.returns-clause-told
returns-clause-told g c = record {
  between = g.N.Net.told c.reply-answer.new.net;
  happened = (c.reply-answer.result, c.count-answer.ensures.same, c.reply-answer.ensures.given);
  noted_it = subst (λ (b : Bool). Adds (g.N.Net.told c.reply-answer.new.net) (g.N.Net.told c.note_send.new.self) (noted (replied c.args.client c.args.bytes.now b) ∷ [])) c.is_ok.ensures.value c.note_send.ensures;
}
