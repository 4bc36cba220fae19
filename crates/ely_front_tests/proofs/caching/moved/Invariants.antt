use Rattle.ely_front_tests.proofs.caching.moved.Given as goal

-- the counter's ledger is the one that was opened for it
abbrev pub ghosts-played : goal.ghosts-played
ghosts-played a = record { name = a.blank.name; parts = a.blank.parts }
