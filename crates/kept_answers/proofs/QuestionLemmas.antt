-- What a question is answered with that is looked for, by where its answer comes from.
use Rattle.std.proofs.Common.{◌≡◌, ℕ, ◌≤◌, List, None, refl, sym, subst, ◌∙◌, inl, inr}
use Rattle.domain_text.specs.Names.{IsName}
use Rattle.dns_message.specs.Query.{Query}
use Rattle.dns_message.specs.declared.numbers.TheConstants.{GREATEST_LIMIT}
use Rattle.import_expand.specs.Sources.{Live}
use Rattle.bit_resolver.specs.Answers.{answer_to}
use Rattle.bit_resolver.specs.Replies.{answer_text, failure_text}
use Rattle.bit_resolver.specs.declared.zone.Zone.{Zone}
use Rattle.answer_cache.specs.Cached.{held}
use Rattle.kept_answers.specs.Kept.{kept_text}
use Rattle.kept_answers.specs.Answering.{Answering, AreRight, AnswersQuestion, GivesKept, IsLookedFor, Stores, key_for, kept_answer}
use Rattle.kept_answers.specs.Answering.Looks.{hit, answered, failed}
use Rattle.kept_answers.proofs.AnswerLemmas.{answer_kept, answer_fits}
use Rattle.kept_answers.proofs.RightLemmas.{held_right, right_found, right_stored}

module _ (live : Live) (z : Zone) (limit : ℕ) (q : Query) (old : Answering) (looked : IsLookedFor old q) (text : List ℕ) (new : Answering) where
  pub by_kept : limit ≤ GREATEST_LIMIT → IsName q.name → GivesKept (key_for old.accepted limit q) q old new text → AnswersQuestion live z limit q old text new
  by_kept greatest name gives = record {
    may = λ right.
        let same = held_right live z limit q old looked name right (kept_text gives.kept) gives.is_held in
        inl (gives.reply_is (kept_answer live z limit q) (answer_fits live z limit q greatest) same ∙ sym (answer_kept live z limit q));
    right = λ right. subst (AreRight live z) (sym gives.found_is) (right_found live z limit q old looked right);
    looks = hit gives.kept gives.is_held (gives.reply_is gives.kept gives.is_kept refl) gives.found_is;
  }

  module _ (none : held (key_for old.accepted limit q) old.cache ≡ None) where
    pub by_answer : text ≡ answer_text limit q (answer_to live z q) → Stores (key_for old.accepted limit q) (kept_answer live z limit q) old new
        → AnswersQuestion live z limit q old text new
    by_answer is stores = record {
      may = λ right. inl is;
      right = λ right. right_stored live z limit q old looked new right stores;
      looks = answered none is stores;
    }

    pub by_failure : text ≡ failure_text q → new ≡ old → AnswersQuestion live z limit q old text new
    by_failure is same = record {
      may = λ right. inr is;
      right = λ right. subst (AreRight live z) (sym same) right;
      looks = failed none is same;
    }
