use Rattle.std.proofs.Common.{arith, Some}
use Rattle.ifa_value.specs.Values.{entry_of}
use Rattle.import_expand.specs.Sources.{under}
use Rattle.import_expand.specs.Books.{objects}
use Rattle.import_expand.proofs.BookLemmas.{passed_on, later_same, later_both, keeps_later, shows_later}
use Rattle.import_expand.proofs.ExpandLemmas.{shows_start, shows_same, shows_enough, shows_all, shows_some, shows_none, finds_by, finds_is_some, under_all, under_some, under_none}
use Rattle.import_expand.proofs.children.join.Goals as goal
use Rattle.import_expand.proofs.children.join.Goals.{in-Some+in_ok-expand-in-Some, in-None}

pub loop-source-init : goal.loop-source-init
loop-source-init g c = (
  c.requires.few,
  later_same (g.N.Names.served c.args.names.now) c.args.book.now c.requires.sound,
  λ ns ms hn hm. shows_start (objects c.args.book.now) c.args.found.now.items ms hm c.requires.few,
)

pub returns-then-len-eq-MOST_SOURCES-clause-added : goal.returns-then-len-eq-MOST_SOURCES-clause-added
returns-then-len-eq-MOST_SOURCES-clause-added g c ns ms hn hm =
    let live = g.N.Names.served c.args.names.now in
    shows_same (objects c.loop-source.book) c.loop-source.found.items _ _ (under_all live c.args.label.now ns ms)
    (shows_enough (objects c.loop-source.book) (under live c.args.label.now) c.loop-source.found.items ns ms c.loop-source.source-index (omega arith) (c.loop-source.invariant.2 ns ms hn hm))

pub returns-clause-added : goal.returns-clause-added
returns-clause-added g c ns ms hn hm =
    let live = g.N.Names.served c.args.names.now in
    shows_same (objects c.loop-source.book) c.loop-source.found.items _ _ (under_all live c.args.label.now ns ms)
    (shows_all (record { gives = under live c.args.label.now; first = objects c.args.book.now; numbers = c.args.of.now; of = ns; before = ms; shown = hn }) (objects c.loop-source.book) c.loop-source.found.items c.loop-source.source-index (omega arith) (c.loop-source.invariant.2 ns ms hn hm))

pub expand-requires-clause-sound : goal.expand-requires-clause-sound
expand-requires-clause-sound g c = c.in_ok-entry.ensures.keeps.sound (g.N.Names.served c.args.names.now) c.loop-source.invariant.1.sound

pub loop-source-preserved : goal.loop-source-preserved
loop-source-preserved g c = elim c.match-branch-2.branch [
  | in-Some+in_ok-expand-in-Some w ↦
      let live = g.N.Names.served c.args.names.now in
      let inv = c.loop-source.invariant in
      let keeps = c.in_ok-entry.ensures.keeps in
      rw (w.book-is, w.found-is) (
        w.in_ok-expand-in-Some.ensures.few,
        later_both live c.args.book.now c.loop-source.book _ inv.1 (later_both live c.loop-source.book c.entry.new.self _ (keeps_later live c.loop-source.book c.entry.new.self keeps inv.1.sound) w.in_ok-expand-in-Some.ensures.later),
        λ ns ms hn hm.
            shows_some (record { gives = under live c.args.label.now; first = objects c.args.book.now; numbers = c.args.of.now; of = ns; before = ms; shown = hn }) (objects c.loop-source.book) (objects w.expand.new.book) c.loop-source.found.items w.expand.new.found.items c.loop-source.source-index
            inv.1.grows (omega arith) (inv.2 ns ms hn hm)
            (λ o cur at hc.
            let f = finds_is_some (objects c.entry.new.self) w.in-Some.entry (entry_of c.args.label.now o) (finds_by (objects c.entry.new.self) c.in_ok-entry.field-0 (Some w.in-Some.entry) _ w.in-Some.is (c.in_ok-entry.ensures.found live o inv.1.sound at)) in
            under_some live (objects w.expand.new.book) c.args.label.now w.expand.new.found.items o f.object cur f.is
            (w.in_ok-expand-in-Some.ensures.added f.object cur f.at (shows_later (objects c.loop-source.book) (objects c.entry.new.self) keeps.grows c.loop-source.found.items cur hc))),
      )
  | in-None w ↦
      let live = g.N.Names.served c.args.names.now in
      let inv = c.loop-source.invariant in
      let keeps = c.in_ok-entry.ensures.keeps in
      rw (w.book-is, w.found-is) (
        inv.0,
        later_both live c.args.book.now c.loop-source.book c.entry.new.self inv.1 (keeps_later live c.loop-source.book c.entry.new.self keeps inv.1.sound),
        λ ns ms hn hm.
            shows_none (record { gives = under live c.args.label.now; first = objects c.args.book.now; numbers = c.args.of.now; of = ns; before = ms; shown = hn }) (objects c.loop-source.book) (objects c.entry.new.self) c.loop-source.found.items c.loop-source.source-index
            inv.1.grows keeps.grows (omega arith) (inv.2 ns ms hn hm)
            (λ o at. under_none live (objects c.entry.new.self) c.args.label.now c.in_ok-entry.field-0 o w.in-None.is (c.in_ok-entry.ensures.found live o inv.1.sound at)),
      )
]

pub returns-in_err-entry-clause-refused : goal.returns-in_err-entry-clause-refused
returns-in_err-entry-clause-refused g c = passed_on c.from_residual.result c.in_err-entry.field-0.0 _ c.from_residual.ensures.1 (c.in_err-entry.ensures.refused (g.N.Names.served c.args.names.now) c.loop-source.invariant.1.sound)
