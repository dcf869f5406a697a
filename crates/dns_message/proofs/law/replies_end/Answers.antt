use Rattle.dns_message.proofs.ReplyLaws.{length-reply_text, length-bad_version_text, reading_of-reply_text, reading_of-bare_text, reading_of-bad_version_text}
use Rattle.dns_message.proofs.law.replies_end.Goals as goal

pub returns-clause-within : goal.returns-clause-within
returns-clause-within c = length-reply_text

pub returns-clause-dropped : goal.returns-clause-dropped
returns-clause-dropped c = reading_of-reply_text

pub returns-clause-bare_dropped : goal.returns-clause-bare_dropped
returns-clause-bare_dropped c = reading_of-bare_text

pub returns-clause-bad_version_within : goal.returns-clause-bad_version_within
returns-clause-bad_version_within c = length-bad_version_text

pub returns-clause-bad_version_dropped : goal.returns-clause-bad_version_dropped
returns-clause-bad_version_dropped c = reading_of-bad_version_text
