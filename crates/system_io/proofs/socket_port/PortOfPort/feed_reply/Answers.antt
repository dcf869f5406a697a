use Rattle.std.proofs.Common.{rules, [], ◌∷◌, Bool, refl, subst}
use Rattle.byte_io.specs.Port.{fed_back}
use Rattle.system_io.specs.declared.link.Peer.TheVariants.{Feed}
use Rattle.system_io.specs.FeedReplies.{SendsReply}
use Rattle.system_io.specs.Net.{Adds, noted}
use Rattle.system_io.proofs.PortLemmas.{Noted_sends, OfBound_some, Sends_noted}
use Rattle.system_io.proofs.socket_port.PortOfPort.feed_reply.Goals as goal

pub returns-clause-sends : goal.returns-clause-sends
returns-clause-sends g c =
    Sends_noted _ _ (λ (is_sent : Bool). fed_back c.args.bytes.now is_sent) _ c.is_ok.result c.is_ok.ensures.value (search rules) c.count-answer.ensures.cause
    (Noted_sends (g.N.Net.told c.args.self.now.net) (g.N.Net.told c.feed_reply-answer.new.net) (g.N.Net.told c.note_send.new.self) Feed (fed_back c.args.bytes.now c.is_ok.result) c.feed_reply-answer.ensures.sends c.note_send.ensures)

pub returns-clause-told : goal.returns-clause-told
returns-clause-told g c = record {
  between = g.N.Net.told c.feed_reply-answer.new.net;
  happened = (
    c.feed_reply-answer.ensures.sends,
    (
      c.feed_reply-answer.result,
      c.count-answer.ensures.same,
      OfBound_some (λ before after. SendsReply (g.N.Net.told c.args.self.now.net) (g.N.Net.told c.feed_reply-answer.new.net) before.sockets.feed.place after.sockets.feed.place c.feed_reply-answer.result c.args.bytes.now)
          _ _ c.in-Some.bound _ (search rules) refl c.feed_reply-answer.ensures.reply,
    ),
  );
  noted_it = subst (λ (b : Bool). Adds (g.N.Net.told c.feed_reply-answer.new.net) (g.N.Net.told c.note_send.new.self) (noted (fed_back c.args.bytes.now b) ∷ [])) c.is_ok.ensures.value c.note_send.ensures;
}
