-- What holds of every answer, whatever the names and the question.
use Rattle.std.specs.Prelude.{◌≡◌, ℕ, suc, ◌≤◌, ◌==◌, if◌then◌else◌, List, [], ◌∷◌}
use Rattle.std.specs.List.{AllByRecursion}
use Rattle.bit_resolver.specs.Answers.{Answer}
use Rattle.bit_resolver.specs.declared.resource.Resource.{Resource}
use Rattle.bit_resolver.specs.declared.rr_type.TheConstants as rr

-- Why a record stands in the answer section: it has the type that is asked, or all are asked for, or it leads to another name.
pub data IsAnswerOf (kind : ℕ) (r : Resource) : Type 0 where
  asked : r.kind ≡ kind → IsAnswerOf kind r
  any : kind ≡ rr.ANY → IsAnswerOf kind r
  cname : r.kind ≡ rr.CNAME → IsAnswerOf kind r
  dname : r.kind ≡ rr.DNAME → IsAnswerOf kind r

-- Why a record stands in the authority section: it names a server of a referral, or it is the SOA of a negative answer.
pub data IsAuthority (r : Resource) : Type 0 where
  server : r.kind ≡ rr.NS → IsAuthority r
  start : r.kind ≡ rr.SOA → IsAuthority r

-- how many CNAME records there are
abbrev pub cnames : List Resource → ℕ
cnames [] = 0
cnames (r ∷ rs) = if r.kind == rr.CNAME then suc (cnames rs) else cnames rs

pub record IsLawful (kind most : ℕ) (a : Answer) : Type 0 where
  pub answer : AllByRecursion (IsAnswerOf kind) a.answer
  pub authority : AllByRecursion IsAuthority a.authority
  pub few : cnames a.answer ≤ most
