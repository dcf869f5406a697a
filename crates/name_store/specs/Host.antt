-- The host of a base: an absolute host text, whose name is so short that `hostmaster.` fits before it.
use Rattle.std.specs.Prelude.{ℕ, ◌≤◌, List, length}
use Rattle.domain_text.specs.Host.{IsAbsoluteHost}
use Rattle.name_store.specs.declared.host.TheConstants.{LONGEST_HOST_NAME}

-- the text and the name of a base's host
pub record IsHostOf (text name : List ℕ) : Type 0 where
  pub absolute : IsAbsoluteHost text name
  pub short : length name ≤ LONGEST_HOST_NAME

-- the text of a base's host
pub record IsHostText (text : List ℕ) : Type 0 where
  pub name : List ℕ
  pub host : IsHostOf text name
