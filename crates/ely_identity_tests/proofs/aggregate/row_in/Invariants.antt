use Rattle.std.proofs.Common.{◌≡◌, drop, find}
use Rattle.ely_row.specs.Edits.{is_place}
use Rattle.ely_identity_tests.proofs.aggregate.row_in.Given as goal

-- what is sought stands among what is left
abbrev pub invariant-loop-listed : goal.invariant-loop-listed
invariant-loop-listed l =
    find (λ p. is_place p.realm p.name l.realm l.name) (drop l.listed-index l.rows) ≡ find (λ p. is_place p.realm p.name l.realm l.name) l.rows
