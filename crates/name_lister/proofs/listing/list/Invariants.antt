use Rattle.name_lister.proofs.listing.list.Given as goal

-- the ledger of the steps on the tables is the first blank's, and that of the mirror's the second's
abbrev pub ghosts-list_counted-L-Ledger : goal.ghosts-list_counted-L-Ledger
ghosts-list_counted-L-Ledger g a = record { name = a.blank.name; parts = a.blank.parts }

abbrev pub ghosts-list_counted-M-Ledger : goal.ghosts-list_counted-M-Ledger
ghosts-list_counted-M-Ledger g a = record { name = a.mirror_blank.name; parts = a.mirror_blank.parts }
