use Rattle.std.proofs.Common.{rules, ◌≡◌, ◌<◌, ℕ, List, [], ◌∷◌, ◌++◌, true, is_ok, sym, ap, subst, ◌∙◌, arith}
use Rattle.system_io.specs.declared.stream.Stream.{Stream}
use Rattle.system_io.specs.Streams.{clients_of, AreUpTo, AreApart, GivesAnew}
use Rattle.system_io.proofs.StreamsLemmas.{clients-push, few-push, AreUpTo-push, AreApart-push, GivesAnew-push}
use Rattle.system_io.proofs.streams.Streams.take_in.Goals as goal

pub invariant_of-self : goal.invariant_of-self
invariant_of-self c =
    let ok : is_ok c.push.result ≡ true = sym c.is_ok.ensures.value ∙ c.if-is_ok.true in
    let items : c.push.new.self.items ≡ c.args.self.now.streams.items ++ c.in-Ok.stream ∷ [] = rw ok at c.push.ensures.items in
    let client : c.in-Ok.stream.client ≡ c.in-Some.client = search rules in
    let above : c.args.self.now.last < c.in-Some.client = search rules in
    let clients : clients_of c.push.new.self.items ≡ clients_of c.args.self.now.streams.items ++ c.in-Some.client ∷ [] =
    ap (λ (ss : List Stream). clients_of ss) items ∙ clients-push c.args.self.now.streams.items c.in-Ok.stream ∙ ap (λ (n : ℕ). clients_of c.args.self.now.streams.items ++ n ∷ []) client in
    record {
      up_to = subst (λ (ns : List ℕ). AreUpTo ns c.in-Some.client) (sym clients) (AreUpTo-push _ c.args.self.now.last c.in-Some.client (omega (arith, above)) c.args.self.now.up_to);
      apart = subst AreApart (sym clients) (AreApart-push _ c.args.self.now.last c.in-Some.client above c.args.self.now.up_to c.args.self.now.apart);
      few = few-push c.args.self.now.streams.items c.in-Ok.stream c.push.new.self.items _ items c.requires;
    }

pub returns-then-is_ok : goal.returns-then-is_ok
returns-then-is_ok c =
    let ok : is_ok c.push.result ≡ true = sym c.is_ok.ensures.value ∙ c.if-is_ok.true in
    let items : c.push.new.self.items ≡ c.args.self.now.streams.items ++ c.in-Ok.stream ∷ [] = rw ok at c.push.ensures.items in
    let client : c.in-Ok.stream.client ≡ c.in-Some.client = search rules in
    let above : c.args.self.now.last < c.in-Some.client = search rules in
    let clients : clients_of c.push.new.self.items ≡ clients_of c.args.self.now.streams.items ++ c.in-Some.client ∷ [] =
    ap (λ (ss : List Stream). clients_of ss) items ∙ clients-push c.args.self.now.streams.items c.in-Ok.stream ∙ ap (λ (n : ℕ). clients_of c.args.self.now.streams.items ++ n ∷ []) client in
    subst (GivesAnew c.args.self.now.last c.in-Some.client (clients_of c.args.self.now.streams.items)) (sym clients) (GivesAnew-push c.args.self.now.last c.in-Some.client _ above)
