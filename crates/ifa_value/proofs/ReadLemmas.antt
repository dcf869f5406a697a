-- What a value is read as.
use Rattle.std.proofs.Common.{◌≡◌, ℕ, List, Bool, true, false, Option, Some, None, cond, refl}
use Rattle.std.specs.Str.{IsUtf8, is_utf8}
use Rattle.std.proofs.lemmas.Str.{IsUtf8-from_is_utf8, is_utf8-from_IsUtf8}
use Rattle.serde_json.specs.Data.{Data, no_members}
use Rattle.serde_json.specs.Read.{read}
use Rattle.std.proofs.Common.{rules}
use Rattle.serde_json.specs.View.{view}
use Rattle.serde_json.specs.declared.value.Value.{the_lemmas}
use Rattle.serde_json.specs.declared.value.Value.{Null}
use Rattle.ifa_value.specs.Values.{members_of, read_or_null, object_of}

pub object_of_read : (value : List ℕ) (d : Data) → IsUtf8 value → read value ≡ Some d → members_of d ≡ object_of value
unfolding object_of
object_of_read value d text is = rw (is_utf8-from_IsUtf8 value text) (rw is refl)

none_read : (b : Bool) (r : Option Data) → (b ≡ true → r ≡ None) → members_of (read_or_null (cond b r None)) ≡ no_members
none_read true r h = rw (h refl) refl
none_read false r h = refl

pub object_of_unread : (value : List ℕ) → (IsUtf8 value → read value ≡ None) → object_of value ≡ no_members
unfolding object_of
object_of_unread value none = none_read (is_utf8 value) (read value) (λ h. none (IsUtf8-from_is_utf8 value h))

pub members_of_null : members_of (view Null) ≡ no_members
members_of_null = search (rules, the_lemmas)
