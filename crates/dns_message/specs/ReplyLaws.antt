-- What holds of every reply to a question.
use Rattle.std.specs.Prelude.{◌≡◌, ℕ, Bool, List, ◌++◌}
use Rattle.dns_message.specs.Header.{header_text}
use Rattle.dns_message.specs.Query.{Query, question_text}
use Rattle.dns_message.specs.Replies.{head_text, additional_text, extended_of}
use Rattle.dns_message.specs.declared.header.Header.{Header}

-- Whether it is truncated or not, the text begins with a header of the query's ID and of this RCODE and AA, and with the question
-- as it was asked, and ends with the additional section of the query.
pub record IsHeaded (q : Query) (rcode : ℕ) (aa : Bool) (text : List ℕ) : Type 0 where
  pub truncated : Bool
  pub answers : ℕ
  pub authorities : ℕ
  pub records : List ℕ
  pub text_is : text ≡ head_text q rcode aa truncated answers authorities ++ (question_text q ++ (records ++ additional_text q (extended_of rcode)))

-- The text begins with a header that counts so many records of the additional section, and ends with this.
pub record EndsWith (additionals : ℕ) (end text : List ℕ) : Type 0 where
  pub header : Header
  pub between : List ℕ
  pub counted : header.additionals ≡ additionals
  pub text_is : text ≡ header_text header ++ (between ++ end)
