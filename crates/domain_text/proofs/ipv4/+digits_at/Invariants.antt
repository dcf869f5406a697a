use Rattle.domain_text.proofs.ipv4.+digits_at.Given as goal

abbrev pub decreases-digits_at : goal.decreases-digits_at
decreases-digits_at l = l.more
