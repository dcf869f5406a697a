use Rattle.std.proofs.Common.{List, sym, subst, ◌∙◌, arith}
use Rattle.chain_names.specs.declared.coin.Item.{Item}
use Rattle.chain_names.specs.Tables.{names_in}
use Rattle.registrations.proofs.BeginningLemmas.{IsEmptying, one_less, shorter, all_taken}
use Rattle.registrations.proofs.beginnings.take_items.Goals as goal

pub loop-item-smaller : goal.loop-item-smaller
loop-item-smaller g c =
    omega (arith, shorter (names_in c.loop-item.names) (names_in c.pop.new.self) c.args.name.now c.in-Some.item (sym c.in-Some.ensures.value) c.pop.ensures.names)

pub loop-item-preserved : goal.loop-item-preserved
loop-item-preserved g c =
    let now = names_in c.loop-item.names in
    record {
      room = omega (arith, c.loop-item.invariant.room, shorter now (names_in c.pop.new.self) c.args.name.now c.in-Some.item (sym c.in-Some.ensures.value) c.pop.ensures.names, c.push.ensures.spare);
      going =
          subst (λ (items : List Item). IsEmptying (names_in c.args.names.now) (names_in c.pop.new.self) c.args.name.now items) (sym c.push.ensures.items)
          (one_less (names_in c.args.names.now) now (names_in c.pop.new.self) c.args.name.now c.loop-item.items.items c.in-Some.item (sym c.in-Some.ensures.value) c.pop.ensures.names c.loop-item.invariant.going);
      list = c.pop.ensures.list ∙ c.loop-item.invariant.list;
    }

pub returns-clause-items : goal.returns-clause-items
returns-clause-items g c =
    (all_taken (names_in c.args.names.now) (names_in c.loop-item.names) (names_in c.pop.new.self) c.args.name.now c.loop-item.items.items (sym c.in_default.ensures.value) c.pop.ensures.names c.loop-item.invariant.going).all

pub returns-clause-names : goal.returns-clause-names
returns-clause-names g c =
    (all_taken (names_in c.args.names.now) (names_in c.loop-item.names) (names_in c.pop.new.self) c.args.name.now c.loop-item.items.items (sym c.in_default.ensures.value) c.pop.ensures.names c.loop-item.invariant.going).none
