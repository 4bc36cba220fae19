use Rattle.ely_front.proofs.call.run_script.Given as goal

abbrev pub ghost-run_lines : goal.ghost-run_lines
ghost-run_lines g a = g.start
