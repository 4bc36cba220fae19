use Rattle.std.proofs.Common.{◌≡◌, map, length}
use Rattle.ely_script.specs.Verbs.{named_in}
use Rattle.ely_script.proofs.verbs.named_in.Given as goal

-- the rows that are left have the word as all have it
abbrev pub invariant-loop-rows : goal.invariant-loop-rows
invariant-loop-rows l = named_in (map (λ row. (row.0.now, row.1)) l.rows) l.word ≡ named_in (map (λ row. (row.0.now, row.1)) l.fn.table) l.word

abbrev pub decreases-loop-rows : goal.decreases-loop-rows
decreases-loop-rows l = length l.rows
