use Rattle.std.proofs.Common.{[], get_or, take, subst, arith}
use Rattle.std.specs.List.{flat_map}
use Rattle.serde_json.specs.Data.{no_members}
use Rattle.import_expand.specs.Sources.{under}
use Rattle.import_expand.specs.Books.{objects}
use Rattle.import_expand.specs.Joinings.{IsJoined}
use Rattle.import_expand.proofs.BookLemmas.{later_same, later_both}
use Rattle.import_expand.proofs.ExpandLemmas.{cut_more, shows_at, shows_length, shows_same, shows_enough, shows_all, under_all}
use Rattle.import_expand.proofs.ToldLemmas.{joined_start}
use Rattle.import_expand.proofs.joining.join_many.Goals as goal

pub loop-source-init : goal.loop-source-init
loop-source-init g c =
    let live = g.N.Names.served c.args.names.now in
    (later_same live c.args.book.now c.requires.sound, λ ns hn. joined_start live (objects c.args.book.now) c.args.label.now c.in_ok-joining.joining c.in_ok-joining.ensures.found c.in_ok-joining.ensures.told)

pub loop-source-preserved : goal.loop-source-preserved
loop-source-preserved g c =
    let live = g.N.Names.served c.args.names.now in
    let label = c.args.label.now in
    let inv = c.loop-source.invariant in
    let k = c.loop-source.source-index in (
      later_both live c.args.book.now c.loop-source.book c.ask.new.book inv.0 c.in_ok-ask.ensures.later,
      λ ns hn.
          let l = shows_length (objects c.args.book.now) c.args.of.now ns hn in
          subst (IsJoined live (objects c.ask.new.book) label c.ask.new.joining) (cut_more (under live label) [] ns k (omega (arith, l)))
          (c.in_ok-ask.ensures.added (get_or ns k no_members) (take 256 (flat_map (under live label) (take k ns))) (inv.0.grows _ _ (shows_at (objects c.args.book.now) c.args.of.now ns k hn (omega arith))) (inv.1 ns hn)),
    )

pub returns-then-len-eq-MOST_SOURCES-clause-found : goal.returns-then-len-eq-MOST_SOURCES-clause-found
returns-then-len-eq-MOST_SOURCES-clause-found g c ns hn =
    let live = g.N.Names.served c.args.names.now in
    let os = objects c.loop-source.book in
    let found = c.loop-source.joining.found.items in
    shows_same os found _ _ (under_all live c.args.label.now ns []) (shows_enough os (under live c.args.label.now) found ns [] c.loop-source.source-index (omega arith) (c.loop-source.invariant.1 ns hn).shown)

pub returns-clause-found : goal.returns-clause-found
returns-clause-found g c ns hn =
    let live = g.N.Names.served c.args.names.now in
    let os = objects c.loop-source.book in
    let found = c.loop-source.joining.found.items in
    shows_same os found _ _ (under_all live c.args.label.now ns [])
    (shows_all (record { gives = under live c.args.label.now; first = objects c.args.book.now; numbers = c.args.of.now; of = ns; before = []; shown = hn }) os found c.loop-source.source-index (omega arith) (c.loop-source.invariant.1 ns hn).shown)
