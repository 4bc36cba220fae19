use Rattle.ely_front_tests.proofs.scripts.status_of.Given as goal

-- the counter's ledger is the one that was opened for it
abbrev pub ghosts-counted : goal.ghosts-counted
ghosts-counted a = record { name = a.blank.name; parts = a.blank.parts }
