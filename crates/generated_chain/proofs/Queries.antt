-- What a query asks.
use Rattle.std.proofs.Common.{ℕ, ◌%◌, ◌<◌, ◌^◌, [], ◌∷◌, refl, sym, arith, append-nil, length-append}
use Rattle.std.specs.Prelude.{codes, decimal}
use Rattle.domain_text.specs.Names.{IsName}
use Rattle.dns_message.specs.Edns.{no_opt}
use Rattle.dns_message.specs.Query.{ReadsAs, IsQuery, Asks, question, question_text}
use Rattle.generated_chain.specs.Texts.{label_text, query_text, question_for}
use Rattle.generated_chain.proofs.Lengths.{label_short}

name_is : (id number : ℕ) → number < 64 → IsName (question_for id number).name
name_is id number lt =
    let label = label_text number in
    let short = label_short number (omega (arith, lt)) in
    record {
      labels = label ∷ codes "bit" ∷ [];
      are = ((omega (arith, length-append (codes "n") (decimal number)), omega (arith, short)), ((omega arith, omega arith), tt));
      text = refl;
      fits = omega (arith, short, length-append label (3 ∷ 98 ∷ 105 ∷ 116 ∷ 0 ∷ []));
    }

query_is : (height number : ℕ) → number < 64 → IsQuery (question_for (height % 65536) number) (query_text height number)
query_is height number lt =
    let q = question_for (height % 65536) number in
    let id : height % 65536 < 2 ^ 16 = omega arith in
    record {
      header = record { id = height % 65536; flags = 0x0100; questions = 1; answers = 0; authorities = 0; additionals = 0 };
      rest = question_text q;
      begins = record {
        text = refl;
        words = record { id = id; flags = omega arith; questions = omega arith; answers = omega arith; authorities = omega arith; additionals = omega arith };
      };
      standard = record { query = refl; opcode = refl };
      question = record {
        more = [];
        asks = record {
          one = refl;
          text = sym (append-nil (question_text q));
          name = name_is (height % 65536) number lt;
          kind = omega arith;
          class_fits = omega arith;
          id = refl;
          flags = refl;
        };
        edns = no_opt (λ begins. omega (arith, begins.counts.additionals));
      };
    }

pub asks : (height number : ℕ) → number < 64 → ReadsAs (query_text height number) (Asks (question_for (height % 65536) number))
asks height number lt = question (question_for (height % 65536) number) (query_is height number lt) tt
