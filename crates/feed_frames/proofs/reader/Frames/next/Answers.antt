use Rattle.std.proofs.Common.{refl}
use Rattle.feed_frames.specs.Front.{frame_of}
use Rattle.feed_frames.proofs.BufferLemmas.{taken}
use Rattle.feed_frames.proofs.reader.Frames.next.Goals as goal

pub returns-in-Bad : goal.returns-in-Bad
returns-in-Bad c = rw (← c.self.view_is) ((refl, λ _. tt, record { same = refl; bad = rw c.deref.ensures.value at c.in-Bad.ensures; offset_is = refl }), record { ends = tt })

pub returns-in-Partial : goal.returns-in-Partial
returns-in-Partial c = rw (← c.self.view_is) ((refl, λ _. tt, record { same = refl; partial = rw c.deref.ensures.value at c.in-Partial.ensures }), record { ends = tt })

pub returns-in-Whole : goal.returns-in-Whole
returns-in-Whole c = rw (← c.self.view_is) ((refl, λ _. tt, taken c.self.inside.kinds c.self.inside.bytes.items c.self.inside.start c.self.inside.end c.self.inside.offset (frame_of c.in-Whole.frame) c.self.invariant.0 (rw c.deref.ensures.value at c.in-Whole.ensures)), record { ends = tt })
