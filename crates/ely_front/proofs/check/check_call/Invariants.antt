use Rattle.ely_front.proofs.check.check_call.Given as goal

-- the counter's ledger is the one that was opened for it
abbrev pub ghosts-check_counted : goal.ghosts-check_counted
ghosts-check_counted g a = record { name = a.blank.name; parts = a.blank.parts }
