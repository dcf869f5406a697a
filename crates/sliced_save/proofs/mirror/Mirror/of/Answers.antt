use Rattle.std.proofs.Common.{List, map, sym, subst}
use Rattle.std.specs.List.{AllByRecursion}
use Rattle.chain_names.specs.Limits.{IsWithinLimits}
use Rattle.chain_names.specs.Seen.{seen_undo}
use Rattle.chain_names.specs.declared.undo.Undo.{Undo}
use Rattle.name_tables.specs.Parts.{tables_of}
use Rattle.sliced_save.proofs.IndexMirror.{coins_short, names_fit, undos_fit}
use Rattle.sliced_save.proofs.mirror.Mirror.of.Goals as goal

pub undos_of-requires : goal.undos_of-requires
undos_of-requires g c =
    subst (λ (l : List Undo). AllByRecursion IsWithinLimits (map seen_undo l)) (sym c.as_slice.ensures) (undos_fit c.parts-parts.result.now.undos.items c.parts-parts.ensures.limits)

pub coins_of-requires-clause-short : goal.coins_of-requires-clause-short
coins_of-requires-clause-short g c =
    coins_short c.args.chain.now (tables_of c.parts-parts.result.now) c.parts-parts.ensures.sound c.parts-parts.ensures.parts.tables

pub names_of-requires : goal.names_of-requires
names_of-requires g c =
    names_fit c.args.chain.now (tables_of c.parts-parts.result.now) c.parts-parts.ensures.sound c.parts-parts.ensures.parts.tables
