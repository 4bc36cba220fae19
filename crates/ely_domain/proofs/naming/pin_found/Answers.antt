use Rattle.std.proofs.Common.{ap, subst, sym, ◌∙◌}
use Rattle.ely_domain.specs.Caches.{AreCurrent, lists_of}
use Rattle.ely_domain.specs.Contexts.{read_of}
use Rattle.ely_domain.proofs.CacheLists.{lists_used, used_current}
use Rattle.ely_domain.proofs.KeyLists.{code_of}
use Rattle.ely_domain.proofs.Sounds.{pinned_keeps, pinned_sound}
use Rattle.ely_domain.proofs.naming.pin_found.Goals as goal

pub returns-in-Ok-clause-keeps : goal.returns-in-Ok-clause-keeps
returns-in-Ok-clause-keeps c = λ id.
    let login = c.args.context.now in
    let known = read_of c.args.planned.now c.args.tables.now in
    let place = c.args.found.place in
    pinned_keeps known login.serial login.mech login.nonce login.stage c.name1.new.self c.args.claim c.args.found c.in_ok-word.word c.in_ok-word.held
    c.requires.fresh c.requires.found id c.args.caches.now c.use_key.new.self
    (rw c.mech-mech.ensures at c.in_ok-word.ensures.word)
    (ap lists_of (rw c.mech-mech.ensures at c.use_key.ensures) ∙ lists_used place.realm (record { name = place.name; mech = login.mech }) c.args.caches.now)
    (rw c.version-version.ensures.value at c.in-Ok.ensures.moved)

pub returns-in-Ok-clause-sound : goal.returns-in-Ok-clause-sound
returns-in-Ok-clause-sound c =
    let login = c.args.context.now in
    let known = read_of c.args.planned.now c.args.tables.now in
    pinned_sound known login.serial login.mech login.nonce login.stage c.name1.new.self c.args.claim c.args.found c.in_ok-word.word c.in_ok-word.held
    c.requires.fresh c.requires.found (rw c.mech-mech.ensures at (c.in_ok-word.ensures.current known c.requires.current)) c.in_ok-word.ensures.hit
    (rw c.version-version.ensures.value at c.in-Ok.ensures.moved)

pub returns-in-Ok-clause-current : goal.returns-in-Ok-clause-current
returns-in-Ok-clause-current c =
    let known = read_of c.args.planned.now c.args.tables.now in
    let place = c.args.found.place in
    subst (AreCurrent known) (sym c.use_key.ensures)
    (used_current known c.args.caches.now c.requires.current place.realm (code_of (record { name = place.name; mech = c.mech-mech.result })))
