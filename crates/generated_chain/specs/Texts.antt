-- The texts of a run: names, values, and queries.
use Rattle.std.specs.Prelude.{ℕ, ◌/◌, ◌%◌, List, [], ◌∷◌, ◌++◌, codes, decimal, None}
use Rattle.std.specs.Int.{w32, to_le_bytes}
use Rattle.domain_text.specs.Names.{wire_of}
use Rattle.dns_message.specs.Header.{header_text}
use Rattle.dns_message.specs.Query.{Query, question_text}

-- the label of a name below `bit`
abbrev pub label_text : ℕ → List ℕ
label_text number = codes "n" ++ decimal number

-- the name as Namecoin keeps it
abbrev pub name_text : ℕ → List ℕ
name_text number = codes "d/n" ++ decimal number

-- what opens the NAME_NEW of a block at a height
abbrev pub rand_text : ℕ → List ℕ
rand_text height = to_le_bytes w32 height

-- the value that a block at a height gives a name
abbrev pub value_text : ℕ → List ℕ
value_text height = codes "{\"ip\":\"10.0." ++ decimal (height / 256 % 256) ++ codes "." ++ decimal (height % 256) ++ codes "\"}"

-- a question for the address of a name below `bit`, in the class IN (RFC 1035, 3.2.2 and 3.2.4)
abbrev pub question_for : (id number : ℕ) → Query
question_for id number =
    record { id = id; flags = 0x0100; name = wire_of (label_text number ∷ codes "bit" ∷ []); kind = 1; «class» = 1; edns = None }

-- a standard query of this question, with RD, and of nothing else (RFC 1035, 4.1.1)
abbrev pub query_with : Query → List ℕ
query_with q = header_text (record { id = q.id; flags = q.flags; questions = 1; answers = 0; authorities = 0; additionals = 0 }) ++ question_text q

-- the query of a block at a height
abbrev pub query_text : (height number : ℕ) → List ℕ
query_text height number = query_with (question_for (height % 65536) number)
