use Rattle.std.proofs.Common.{List, ℕ, [], ◌∷◌, Err, subst}
use Rattle.std.proofs.lemmas.Result.{err_from_is_err_and}
use Rattle.chain_commands.specs.Event.{Connect, Disconnect, Event, Do}
use Rattle.bridge_core.specs.Bridged.{Bridged}
use Rattle.bridge_commands.specs.Playing.{PlaysRequests}
use Rattle.bridge_commands.proofs.PlayingLemmas.{rejoins, requests_then, stopped_before}
use Rattle.bridge_commands.proofs.playing.rejoin.Goals as goal

pub returns-in_err-bridge : goal.returns-in_err-bridge
returns-in_err-bridge g c =
    let tells = g.D.Disk.tells in
    let seen = g.D.Disk.seen in
    let old : Bridged × g.row.D.Denot = (c.args.bridge, c.args.disk.now) in
    let round = c.args.round.now in
    let p = err_from_is_err_and c.from_residual.result c.from_residual.ensures.1 in
    rw (p.1, p.2) (subst (λ (es : List Event). PlaysRequests tells seen old es c.disconnect.new.disk (Err c.in_err-bridge.field-0.0)) (rejoins round.reconnects round.block round.hash.0 c.if-not-round.false)
    (stopped_before tells seen old (Do (Disconnect round.hash.0) ∷ []) (Do (Connect round.block) ∷ []) c.disconnect.new.disk c.disconnect.new.disk c.in_err-bridge.field-0.0 c.in_err-bridge.ensures))

pub returns : goal.returns
returns g c =
    let tells = g.D.Disk.tells in
    let seen = g.D.Disk.seen in
    let old : Bridged × g.row.D.Denot = (c.args.bridge, c.args.disk.now) in
    let mid : Bridged × g.row.D.Denot = (c.in_ok-bridge.bridge, c.disconnect.new.disk) in
    let round = c.args.round.now in
    let connects = subst (λ (block : List ℕ). PlaysRequests tells seen mid (Do (Connect block) ∷ []) c.connect.new.disk c.connect.result) c.as_slice.ensures c.connect.ensures in
    subst (λ (es : List Event). PlaysRequests tells seen old es c.connect.new.disk c.connect.result) (rejoins round.reconnects round.block round.hash.0 c.if-not-round.false)
    (requests_then tells seen old (Do (Disconnect round.hash.0) ∷ []) (Do (Connect round.block) ∷ []) mid c.connect.new.disk c.connect.result c.in_ok-bridge.ensures connects)
