use Rattle.ely_front_tests.proofs.config.check_of.Given as goal

-- the counter's ledger is the one that was opened for it
abbrev pub ghosts-checked : goal.ghosts-checked
ghosts-checked a = record { name = a.blank.name; parts = a.blank.parts }
