-- What a reader of frames is, once the frame that it gave is let go.
use Rattle.std.specs.Prelude.{⊤, Option, Result}
use Rattle.std.specs.Borrow.{Fml, MutBor, follows_so}
use mathlib.Core.Option.{none}
use Rattle.feed_frames.specs.Feed.{Feed, Gives}
use Rattle.feed_frames.specs.declared.frame.Frame.{Frame}
use Rattle.feed_frames.specs.declared.reader.BadFrame.{BadFrame}
use Rattle.feed_frames.specs.contracts.reader.Frames.{the_row}

abbrev pub ends_as : MutBor Feed → Result (Option Frame) BadFrame → Fml
ends_as feed result = follows_so the_row the_row feed.ghost_name none (λ _ _. ⊤) (λ new. Gives feed.now new result)
