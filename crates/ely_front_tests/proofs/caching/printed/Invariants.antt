use Rattle.ely_front_tests.proofs.caching.printed.Given as goal

-- the counter's ledger is the one that was opened for it
abbrev pub ghosts-counted : goal.ghosts-counted
ghosts-counted a = record { name = a.blank.name; parts = a.blank.parts }
