-- Labels, names, values and queries are short.
use Rattle.std.proofs.Common.{ℕ, ◌/◌, ◌%◌, ◌<◌, ◌≤◌, [], ◌∷◌, ◌++◌, length, arith, length-append}
use Rattle.std.specs.Prelude.{codes, decimal}
use Rattle.std.proofs.lemmas.Fmt.{length-decimal-le}
use Rattle.block_maker.specs.declared.operation.TheConstants.{LONGEST_PART}
use Rattle.generated_chain.specs.Texts.{label_text, name_text, query_text, value_text}

byte_short : (n : ℕ) → n < 256 → length (decimal n) ≤ 3
byte_short n lt = length-decimal-le 3 n (omega arith) (omega (arith, lt)) (omega (arith, lt))

pub label_short : (n : ℕ) → n < 256 → length (label_text n) ≤ 4
label_short n lt = omega (arith, byte_short n lt, length-append (codes "n") (decimal n))

pub name_short : (n : ℕ) → n < 256 → length (name_text n) ≤ LONGEST_PART
name_short n lt = omega (arith, byte_short n lt, length-append (codes "d/n") (decimal n))

pub value_short : (height : ℕ) → length (value_text height) ≤ LONGEST_PART
value_short height =
    let high = decimal (height / 256 % 256) in
    let low = decimal (height % 256) in
    let front = codes "{\"ip\":\"10.0." in
    let end = codes "\"}" in
    omega (
      arith,
      byte_short (height / 256 % 256) (omega arith),
      byte_short (height % 256) (omega arith),
      length-append front high,
      length-append (front ++ high) (codes "."),
      length-append (front ++ high ++ codes ".") low,
      length-append (front ++ high ++ codes "." ++ low) end,
    )

pub query_short : (height number : ℕ) → number < 256 → length (query_text height number) ≤ 512
query_short height number lt =
    let label = label_text number in
    let end = codes "bit" ++ 0 ∷ [] in
    omega (arith, label_short number lt, length-append label (3 ∷ end), length-append (label ++ (3 ∷ end)) (0 ∷ 1 ∷ 0 ∷ 1 ∷ []))
