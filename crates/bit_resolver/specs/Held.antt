-- What is held of the value that a question asks first.
use Rattle.std.specs.Prelude.{◌≡◌, ℕ, ◌++◌, List, codes, true, false}
use Rattle.dns_message.specs.Query.{Query}
use Rattle.import_expand.specs.Sources.{Live}
use Rattle.import_expand.specs.Books.{IsCounted}
use Rattle.bit_resolver.specs.Places.{Below, Place, outside, apex, below, place_of, is_domain_label}
use Rattle.bit_resolver.specs.Answers.{is_refused}
use Rattle.bit_resolver.specs.declared.replying.Replied.{Replied}
use Rattle.bit_resolver.specs.declared.replying.Replied.TheVariants as replied

-- the value of the name `d/` and a label is among so many bytes
abbrev pub HoldsValue : Live → ℕ → List ℕ → Type 0
HoldsValue live bytes x = is_domain_label x ≡ true → IsCounted live bytes (codes "d/" ++ x)

-- the value that answers a name of this place
abbrev pub HoldsPlace : Live → ℕ → Place → Type 0
HoldsPlace live bytes outside = Unit {0}
HoldsPlace live bytes apex = Unit {0}
HoldsPlace live bytes (below b) = HoldsValue live bytes b.x

abbrev pub HoldsUnlessRefused : Live → ℕ → ℕ → ℕ → Place → Type 0
HoldsUnlessRefused live bytes kind «class» p = is_refused kind «class» p ≡ false → HoldsPlace live bytes p

-- the value of the question's own name, where it isn't refused
abbrev pub HoldsAsked : Live → ℕ → Query → Type 0
HoldsAsked live bytes q = HoldsUnlessRefused live bytes q.kind q.«class» (place_of q.name)

-- where it was answered
abbrev pub HoldsReplied : Live → ℕ → Query → Replied → Type 0
HoldsReplied live bytes q (replied.Answer size) = HoldsAsked live bytes q
HoldsReplied live bytes q (replied.Failure size) = Unit {0}
