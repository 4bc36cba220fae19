use Rattle.std.proofs.Common.{sym, ap, ◌∙◌}
use Rattle.ely_table.specs.Touching.{touched_since}
use Rattle.ely_domain.specs.Contexts.{read_of}
use Rattle.ely_domain.proofs.Touching.{key_since}
use Rattle.ely_domain.proofs.caching.settle.Goals as goal

-- the key of then is that of now, since no edit touched what it rests on
pub returns-clause-current : goal.returns-clause-current
returns-clause-current c = λ key are.
    let known = read_of c.args.planned.now c.args.tables.now in
    let pin = c.args.pin.now in
    let none = ap (touched_since known.edits pin.version) (sym c.in_ok-deps.ensures) ∙ sym c.touched_since.ensures ∙ c.if-touched_since.false in
    c.fill.ensures.current known c.in_ok-deps.ensures (key_since known c.args.mech pin.place pin.version none ∙ key) are
