use Rattle.chain_names.specs.Seen.{seen_undo}
use Rattle.name_tables.specs.Parts.{tables_of}
use Rattle.sliced_save.proofs.IndexMirror.{coins_short, index_joined, names_fit}
use Rattle.sliced_save.proofs.mirror.Mirror.connected.Goals as goal

pub bring_in-requires-clause-coins : goal.bring_in-requires-clause-coins
bring_in-requires-clause-coins g c =
    coins_short c.args.chain.now (tables_of c.parts-parts.result.now) c.parts-parts.ensures.sound c.parts-parts.ensures.parts.tables

pub bring_in-requires-clause-names : goal.bring_in-requires-clause-names
bring_in-requires-clause-names g c =
    names_fit c.args.chain.now (tables_of c.parts-parts.result.now) c.parts-parts.ensures.sound c.parts-parts.ensures.parts.tables

pub returns-in_ok-bring_in-in-Some-clause-mirror : goal.returns-in_ok-bring_in-in-Some-clause-mirror
returns-in_ok-bring_in-in-Some-clause-mirror g c =
    index_joined c.args.chain.now c.parts-parts.result.now c.as_slice.result.now (seen_undo c.in-Some.undo.now) c.args.self c.bring_in.new.self c.parts-parts.ensures.parts c.as_slice.ensures
    c.in-Some.ensures c.in_ok-bring_in-in-Some.ensures.forth
