use Rattle.std.proofs.Common.{◌≡◌, ℕ, ◌+◌, List, ◌++◌, length, refl, ap, ◌∙◌, arith}
use Rattle.std.specs.Vec.{with_items}
use Rattle.std.proofs.lemmas.List.{with_items_is}
use Rattle.feed_frames.specs.Places.{between}
use Rattle.feed_frames.proofs.BufferLemmas.{put_behind}
use Rattle.feed_frames.proofs.reader.Frames.feed.Goals as goal

pub returns : goal.returns
returns c =
    let start = c.make_room-start.result.0 in
    let end = c.make_room-start.result.1 in
    let piece = c.args.piece.now in
    let before = c.make_room-start.new.bytes in
    let room = c.make_room-start.ensures in
    let items : c.deref_mut.result.now ≡ before.items = c.deref_mut.ensures.value in
    let e : (with_items before c.put.new.bytes).items ≡ c.put.new.bytes = with_items_is before c.put.new.bytes (omega (arith, c.put.ensures.same_length, c.deref_mut.ensures.len)) in
    let left : between start (end + length piece) c.put.new.bytes ≡ between c.self.inside.start c.self.inside.end c.self.inside.bytes.items ++ piece =
    put_behind c.deref_mut.result.now c.put.new.bytes start end piece room.ordered c.put.ensures.kept c.put.ensures.put
    ∙ ap (λ (q : List ℕ). between start end q ++ piece) items ∙ ap (λ (q : List ℕ). q ++ piece) room.same in
    rw (← c.self.view_is, e, left) refl
