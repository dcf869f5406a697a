use Rattle.std.proofs.Common.{◌≡◌, ◌∙◌, ℕ, Some, refl, sym, ap, subst}
use Rattle.std.proofs.lemmas.Option.{slice_get-get_or}
use Rattle.system_io.specs.declared.link.Peer.{Peer}
use Rattle.system_io.specs.declared.link.Peer.TheVariants as peers
use Rattle.system_io.specs.Net.{SendsOn}
use Rattle.system_io.proofs.NetLemmas.{Sends_nothing}
use Rattle.system_io.proofs.StreamsLemmas.{clients-set, up_to-same, apart-same, few-same, others-set, reply-set, reply-none, GivesAnew-same}
use Rattle.system_io.proofs.streams.Streams.reply.Goals as goal

pub invariant_of-self : goal.invariant_of-self
invariant_of-self g c =
    let items = c.args.self.now.streams.items in
    let same = clients-set items c.in-Some.at c.index_mut.result.now c.reply.new.self c.index_mut.ensures.value c.reply.ensures.client in
    record {
      up_to = up_to-same _ _ c.args.self.now.last same c.args.self.now.up_to;
      apart = apart-same _ _ same c.args.self.now.apart;
      few = few-same _ _ _ same c.args.self.now.few;
    }

pub returns-in-Some-clause-others : goal.returns-in-Some-clause-others
returns-in-Some-clause-others g c = others-set c.args.self.now.streams.items c.in-Some.at c.args.client c.reply.new.self c.in-Some.ensures.its

pub returns-in-Some-clause-reply : goal.returns-in-Some-clause-reply
returns-in-Some-clause-reply g c = reply-set c.args.self.now.streams.items c.in-Some.at c.args.client c.index_mut.result.now c.reply.new.self _ _ c.args.bytes.now c.args.self.now.apart c.in-Some.ensures.its c.in-Some.ensures.within c.index_mut.ensures.value c.reply.ensures.client c.reply.ensures.kept

pub returns-in-Some-clause-anew : goal.returns-in-Some-clause-anew
returns-in-Some-clause-anew g c =
    let same = clients-set c.args.self.now.streams.items c.in-Some.at c.index_mut.result.now c.reply.new.self c.index_mut.ensures.value c.reply.ensures.client in
    GivesAnew-same _ _ _ _ refl same

pub returns-in_default-clause-reply : goal.returns-in_default-clause-reply
returns-in_default-clause-reply g c = reply-none _ _ c.args.self.now.streams.items c.args.self.now.streams.items c.args.client c.args.bytes.now (c.place_of.ensures.none c.in_default.is)

pub returns-in-Some-clause-sends : goal.returns-in-Some-clause-sends
returns-in-Some-clause-sends g c =
    let stream = c.index_mut.result.now in
    let there = slice_get-get_or c.args.self.now.streams.items c.in-Some.at stream c.in-Some.ensures.within ∙ ap Some (sym c.index_mut.ensures.value) in
    let its : stream.client ≡ c.args.client = c.in-Some.ensures.its stream there in
    subst (λ (peer : Peer). SendsOn (g.N.Net.told c.args.net.now) (g.N.Net.told c.reply.new.net) peer) (stream.its ∙ ap (λ (n : ℕ). peers.Client n) its) c.reply.ensures.sends

pub returns-in_default-clause-sends : goal.returns-in_default-clause-sends
returns-in_default-clause-sends g c = Sends_nothing _ _
