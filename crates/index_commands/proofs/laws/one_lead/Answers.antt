use Rattle.index_commands.proofs.LeadLemmas as leads
use Rattle.index_commands.proofs.laws.one_lead.Goals as goal

pub returns-clause-one : goal.returns-clause-one
returns-clause-one c = leads.one_lead

pub returns-clause-alike : goal.returns-clause-alike
returns-clause-alike c = λ a b x y commands same alike led. leads.lead_same b x y commands alike (leads.lead_alike a b x commands same led)

pub returns-clause-taken : goal.returns-clause-taken
returns-clause-taken c = leads.led_taken

pub returns-clause-next : goal.returns-clause-next
returns-clause-next c = λ first index commands command led is. leads.taken_behind first index commands command (leads.led_taken first index commands led) led is
