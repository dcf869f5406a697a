-- The parts of a reply whose RCODE has no high bits: header, question, records, OPT record.
use Rattle.std.specs.Prelude.{ℕ, ◌+◌, List, ◌++◌, length}
use Rattle.dns_message.specs.Edns.{opt_of_reply, opt_size_of_reply}
use Rattle.dns_message.specs.Query.{Query, question_text}

abbrev pub parts_text : Query → List ℕ → List ℕ → List ℕ
parts_text q header records = header ++ (question_text q ++ (records ++ opt_of_reply q.edns 0))

-- how many bytes they have
abbrev pub parts_size : Query → List ℕ → List ℕ → ℕ
parts_size q header records = length header + length (question_text q) + length records + opt_size_of_reply q.edns
