use Rattle.ely_identity_tests.proofs.cred.ready.Given as goal

abbrev pub ghosts-counted_ready : goal.ghosts-counted_ready
ghosts-counted_ready a = record { name = a.blank.name; parts = a.blank.parts }
