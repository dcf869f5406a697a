use Rattle.std.proofs.Common.{List, ℕ, [], ◌∷◌, ◌++◌, Err, subst}
use Rattle.std.proofs.lemmas.Result.{err_from_is_err_and}
use Rattle.chain_commands.specs.Event.{Connect, Do}
use Rattle.generated_chain.specs.Events.{joined_again, saved}
use Rattle.bridge_core.specs.Bridged.{Bridged}
use Rattle.bridge_commands.specs.Playing.{PlaysAll, PlaysRequests}
use Rattle.bridge_commands.proofs.PlayingLemmas.{requests_then, stopped_before}
use Rattle.bridge_commands.proofs.playing.play_requests.Goals as goal

pub returns-in_err-bridge : goal.returns-in_err-bridge
returns-in_err-bridge g c =
    let tells = g.D.Disk.tells in
    let seen = g.D.Disk.seen in
    let old : Bridged × g.row.D.Denot = (c.args.bridge, c.args.disk.now) in
    let round = c.args.round.now in
    let p = err_from_is_err_and c.from_residual.result c.from_residual.ensures.1 in
    let stops = subst (λ (block : List ℕ). PlaysRequests tells seen old (Do (Connect block) ∷ []) c.connect.new.disk (Err c.in_err-bridge.field-0.0)) c.as_slice.ensures c.in_err-bridge.ensures in
    rw (p.1, p.2) (stopped_before tells seen old (Do (Connect round.block) ∷ []) (joined_again round.reconnects round.block round.hash.0 ++ saved round.saves) c.connect.new.disk c.connect.new.disk c.in_err-bridge.field-0.0 stops)

pub returns-in_err-bridge-2 : goal.returns-in_err-bridge-2
returns-in_err-bridge-2 g c =
    let tells = g.D.Disk.tells in
    let seen = g.D.Disk.seen in
    let old : Bridged × g.row.D.Denot = (c.args.bridge, c.args.disk.now) in
    let mid : Bridged × g.row.D.Denot = (c.in_ok-bridge.bridge, c.connect.new.disk) in
    let round = c.args.round.now in
    let stop = c.in_err-bridge-2.field-0.0 in
    let p = err_from_is_err_and c.from_residual-in_err-bridge-2.result c.from_residual-in_err-bridge-2.ensures.1 in
    let first = subst (λ (block : List ℕ). PlaysAll tells seen old (Do (Connect block) ∷ []) mid) c.as_slice.ensures c.in_ok-bridge.ensures in
    rw (p.1, p.2) (requests_then tells seen old (Do (Connect round.block) ∷ []) (joined_again round.reconnects round.block round.hash.0 ++ saved round.saves) mid c.rejoin.new.disk (Err stop) first
    (stopped_before tells seen mid (joined_again round.reconnects round.block round.hash.0) (saved round.saves) c.rejoin.new.disk c.rejoin.new.disk stop c.in_err-bridge-2.ensures))

pub returns : goal.returns
returns g c =
    let tells = g.D.Disk.tells in
    let seen = g.D.Disk.seen in
    let old : Bridged × g.row.D.Denot = (c.args.bridge, c.args.disk.now) in
    let mid : Bridged × g.row.D.Denot = (c.in_ok-bridge.bridge, c.connect.new.disk) in
    let next : Bridged × g.row.D.Denot = (c.in_ok-bridge-2.bridge, c.rejoin.new.disk) in
    let round = c.args.round.now in
    let first = subst (λ (block : List ℕ). PlaysAll tells seen old (Do (Connect block) ∷ []) mid) c.as_slice.ensures c.in_ok-bridge.ensures in
    requests_then tells seen old (Do (Connect round.block) ∷ []) (joined_again round.reconnects round.block round.hash.0 ++ saved round.saves) mid c.save.new.disk c.save.result first
    (requests_then tells seen mid (joined_again round.reconnects round.block round.hash.0) (saved round.saves) next c.save.new.disk c.save.result c.in_ok-bridge-2.ensures c.save.ensures)
