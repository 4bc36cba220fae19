use Rattle.ely_identity_tests.proofs.cred.guessed.Given as goal

abbrev pub ghosts-counted_guess : goal.ghosts-counted_guess
ghosts-counted_guess a = record { name = a.blank.name; parts = a.blank.parts }
