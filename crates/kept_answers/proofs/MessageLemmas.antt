-- What a message is answered with, by its question.
use Rattle.std.proofs.Common.{◌≡◌, ℕ, List, Some, Option, refl, sym, ap, ◌∙◌, inl, inr}
use Rattle.dns_message.specs.Limits.{limit_of}
use Rattle.dns_message.specs.Query.{Query}
use Rattle.dns_message.specs.Query.Reading.{Asks}
use Rattle.dns_message.specs.Reading.{reading_of}
use Rattle.dns_message.specs.declared.transport.Transport.{Transport}
use Rattle.import_expand.specs.Sources.{Live}
use Rattle.bit_resolver.specs.Replies.{reply_for, dns_reply, MayReply}
use Rattle.bit_resolver.specs.Replies.MayReply.{replies, lacks_memory}
use Rattle.bit_resolver.specs.declared.zone.Zone.{Zone}
use Rattle.kept_answers.specs.Answering.{Answering, IsAnswered, IsLookedFor, AnswersQuestion, AnswersMessage}
use Rattle.kept_answers.specs.Answering.Keeps.{unasked, asked}

module _ (live : Live) (z : Zone) (transport : Transport) (bytes : List ℕ) where
  may_reply : (q : Query) (text : List ℕ) → Asks q ≡ reading_of bytes → IsAnswered live z (limit_of transport q) q text → MayReply live z transport bytes (Some text)
  unfolding dns_reply
  may_reply q text e (inl h) = replies (ap Some h ∙ ap (reply_for live z transport) e)
  may_reply q text e (inr h) = lacks_memory q (sym e) (ap Some h)

  -- its answer is looked for
  pub by_question : (q : Query) (text : List ℕ) (old new : Answering) → Asks q ≡ reading_of bytes → IsLookedFor old q
      → AnswersQuestion live z (limit_of transport q) q old text new → AnswersMessage live z transport bytes old (Some text) new
  by_question q text old new e looked by = record {
    may = λ right. may_reply q text e (by.may right);
    right = by.right;
    keeps = asked q text (sym e) looked refl by.looks;
  }

  -- it isn't
  pub by_names : (reply : Option (List ℕ)) (answers : Answering) → ((q : Query) → reading_of bytes ≡ Asks q → ¬ (IsLookedFor answers q))
      → MayReply live z transport bytes reply → AnswersMessage live z transport bytes answers reply answers
  by_names reply answers none may = record { may = λ right. may; right = λ right. right; keeps = unasked none refl }
