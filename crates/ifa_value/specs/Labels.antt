-- The labels of an object's map (IFA-0001), and a number that stands for each where two are compared.
use Rattle.std.specs.Prelude.{ℕ, ◌+◌, ◌*◌, ◌%◌, List, [], ◌∷◌, Option, Some, None, map}
use Rattle.serde_json.specs.Data.{Data, null, boolean, number, string, array, object, Members, no_members, member}
use Rattle.serde_json.specs.Find.{as_object}
use Rattle.ifa_value.specs.declared.item.Key.TheVariants as key
use Rattle.ifa_value.specs.Values.{item_of}

abbrev pub key_of_object : List ℕ → Option Members → List (List ℕ) → List (List ℕ)
key_of_object k (Some o) more = k ∷ more
key_of_object k None more = more

-- the keys under which an object stands
abbrev pub keys_of : Members → List (List ℕ)
keys_of no_members = []
keys_of (member k d ms) = key_of_object k (as_object d) (keys_of ms)

-- anything but an object has none
abbrev pub keys_in : Option Data → List (List ℕ)
keys_in (Some (object ms)) = keys_of ms
keys_in (Some null) = []
keys_in (Some (boolean b)) = []
keys_in (Some (number n)) = []
keys_in (Some (string s)) = []
keys_in (Some (array ds)) = []
keys_in None = []

-- the labels of an object's map under which an object stands, in order
abbrev pub map_labels : Members → List (List ℕ)
map_labels o = keys_in (item_of key.Map o)

abbrev pub number_from : ℕ → List ℕ → ℕ
number_from n [] = n
number_from n (b ∷ bs) = number_from (n % 36028797018963968 * 257 + (b + 1)) bs

-- a number that stands for a label: no two labels of up to six bytes have the same
abbrev pub label_number : List ℕ → ℕ
label_number = number_from 0

abbrev pub label_numbers : List (List ℕ) → List ℕ
label_numbers = map label_number
