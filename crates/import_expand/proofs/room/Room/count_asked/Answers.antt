use Rattle.std.proofs.Common.{refl, ap, subst, ℕ, length, ◌≡◌, ◌+◌, ◌<◌, ◌∙◌}
use Rattle.std.proofs.lemmas.Result.{err_from_is_err_and}
use Rattle.import_expand.specs.Books as books
use Rattle.import_expand.specs.Rooms.{objects_in, numbers_of}
use Rattle.import_expand.specs.declared.room.Room.{Room}
use Rattle.import_expand.specs.declared.limits.TheConstants.{MOST_HELD}
use Rattle.import_expand.proofs.ExpandLemmas.{shows_length}
use Rattle.import_expand.proofs.RoomLemmas.{asks_too_many, book_keeps, found_at, keeps_later, node_numbers, node_shown, no_node_there}
use Rattle.import_expand.proofs.room.Room.count_asked.Goals as goal

pub returns-in_ok-count_asked-in-Some-clause-later : goal.returns-in_ok-count_asked-in-Some-clause-later
returns-in_ok-count_asked-in-Some-clause-later c live sound =
    let a = c.args.self.now in
    let b : Room = record a { book = c.count_asked.new.self } in
    keeps_later live a b (book_keeps a b c.in_ok-count_asked-in-Some.ensures.keeps refl refl refl) sound

pub returns-in_ok-count_asked-in-Some-clause-counted : goal.returns-in_ok-count_asked-in-Some-clause-counted
returns-in_ok-count_asked-in-Some-clause-counted c ns node =
    let a = c.args.self.now in
    let s = c.in-Some.sources.now in
    let w = found_at a.nodes.items c.deref.result.now c.args.of s c.deref.ensures.value c.in-Some.ensures.lookup.0 c.in-Some.ensures.lookup.1 in
    let many = shows_length (objects_in a) (numbers_of s) ns (node_shown a c.args.of (numbers_of s) ns (node_numbers a.nodes.items c.args.of s w.0 w.1) node) in
    subst (λ (n : ℕ). books.held c.count_asked.new.self ≡ books.held a.book + n) (ap length c.as_slice.ensures.value ∙ many) c.in_ok-count_asked-in-Some.ensures.counted

pub returns-in_err-count_asked-in-Some-clause-refused : goal.returns-in_err-count_asked-in-Some-clause-refused
returns-in_err-count_asked-in-Some-clause-refused c =
    let a = c.args.self.now in
    let b : Room = record a { book = c.count_asked.new.self } in
    let s = c.in-Some.sources.now in
    let w = found_at a.nodes.items c.deref.result.now c.args.of s c.deref.ensures.value c.in-Some.ensures.lookup.0 c.in-Some.ensures.lookup.1 in
    let p = err_from_is_err_and c.from_residual.result c.from_residual.ensures.1 in
    rw (p.1, p.2) (λ live sound. asks_too_many live a b c.args.of s _ sound c.in_err-count_asked-in-Some.ensures.objects refl w
    (subst (λ (n : ℕ). MOST_HELD < books.held c.count_asked.new.self + n) (ap length c.as_slice.ensures.value) c.in_err-count_asked-in-Some.ensures.refused))

pub returns-in-None-clause-counted : goal.returns-in-None-clause-counted
returns-in-None-clause-counted c ns node = absurd (no_node_there c.args.self.now c.deref.result.now c.args.of ns c.deref.ensures.value c.in-None.ensures.lookup.0 node)
