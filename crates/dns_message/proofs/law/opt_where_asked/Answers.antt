use Rattle.dns_message.proofs.ReplyLaws.{ends_with_opt, ends_without_opt, bad_version_ends}
use Rattle.dns_message.proofs.law.opt_where_asked.Goals as goal

pub returns-clause-asked : goal.returns-clause-asked
returns-clause-asked c = ends_with_opt

pub returns-clause-not_asked : goal.returns-clause-not_asked
returns-clause-not_asked c = ends_without_opt

pub returns-clause-bad_version : goal.returns-clause-bad_version
returns-clause-bad_version c = bad_version_ends
