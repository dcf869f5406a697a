use Rattle.std.proofs.Common.{◌-◌, arith}
use Rattle.system_io.specs.declared.sockets.TheConstants.{FIRST_PLACES, PLACES}
use Rattle.system_io.proofs.WaitsLemmas.{LooksAtEach-behind}
use Rattle.system_io.proofs.sockets.Sockets.look.Goals as goal

pub returns : goal.returns
returns c =
    LooksAtEach-behind c.args.self.now.streams.streams.items c.look.new.self.streams.items c.args.places.now FIRST_PLACES (PLACES - FIRST_PLACES) c.args.now c.look.ensures.looks (omega (arith, c.told-places))
