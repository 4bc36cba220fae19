use Rattle.std.proofs.Common.{sym}
use Rattle.ely_domain.specs.Contexts.{read_of}
use Rattle.ely_domain.proofs.Sounds.{named_keeps, named_sound, named_reply}
use Rattle.ely_domain.proofs.Working.{brought_to_loading, held_key, loading_cost, loading_key}
use Rattle.ely_domain.proofs.naming.name2.Goals as goal

pub ready_by-requires-clause-held : goal.ready_by-requires-clause-held
ready_by-requires-clause-held g c =
    let login = c.args.context.now in
    rw (c.mech-mech.ensures, c.config.ensures)
    (held_key (read_of c.args.planned.now c.args.tables.now) login.serial login.mech login.nonce login.stage c.in-Some.pin.now (sym c.in-Some.ensures) c.requires.holds)

pub returns-in-Ok-clause-reply : goal.returns-in-Ok-clause-reply
returns-in-Ok-clause-reply g c =
    let login = c.args.context.now in
    let known = read_of c.args.planned.now c.args.tables.now in
    named_reply known login.serial login.mech login.nonce login.stage c.name2.new.self
    c.in-Some.pin.now c.in_ok-ready.ready c.in_ok-server_first.server_first c.in_ok-outcome.outcome (sym c.in-Some.ensures) c.requires.holds
    (rw (c.mech-mech.ensures, c.config.ensures) at c.in_ok-ready.ensures.value) (rw c.nonce.ensures at (c.in_ok-server_first.ensures known.given)) c.in_ok-outcome.ensures
    c.in-Ok.ensures.moved

pub returns-in-Ok-clause-sound : goal.returns-in-Ok-clause-sound
returns-in-Ok-clause-sound g c =
    let login = c.args.context.now in
    let known = read_of c.args.planned.now c.args.tables.now in
    named_sound known login.serial login.mech login.nonce login.stage c.name2.new.self
    c.in-Some.pin.now c.in_ok-ready.ready c.in_ok-server_first.server_first (sym c.in-Some.ensures)
    (rw (c.mech-mech.ensures, c.config.ensures) at c.in_ok-ready.ensures.value) (rw c.nonce.ensures at (c.in_ok-server_first.ensures known.given)) c.in-Ok.ensures.moved

pub returns-in-Ok-clause-keeps : goal.returns-in-Ok-clause-keeps
returns-in-Ok-clause-keeps g c = λ id serial.
    let login = c.args.context.now in
    let known = read_of c.args.planned.now c.args.tables.now in
    named_keeps known login.serial login.mech login.nonce login.stage c.name2.new.self
    c.in-Some.pin.now c.in_ok-ready.ready c.in_ok-server_first.server_first c.in_ok-outcome.outcome id serial c.args.done c.in_ok-word.word
    c.args.caches.now c.settle.new.caches (sym c.in-Some.ensures) c.in_ok-outcome.ensures c.in-Ok.ensures.moved
    c.in_ok-word.ensures.word (rw c.mech-mech.ensures at c.in_ok-word.ensures.lists)

pub returns-in-Ok-clause-current : goal.returns-in-Ok-clause-current
returns-in-Ok-clause-current g c =
    let login = c.args.context.now in
    let known = read_of c.args.planned.now c.args.tables.now in
    c.settle.ensures.current
    (rw c.mech-mech.ensures (loading_key known login.serial login.mech login.nonce login.stage c.in-Some.pin.now c.in_ok-ready.ready (sym c.in-Some.ensures) c.requires.holds
    (rw (c.mech-mech.ensures, c.config.ensures) at c.in_ok-ready.ensures.value)))
    c.requires.current

pub returns-in_err-ready-clause-brought : goal.returns-in_err-ready-clause-brought
returns-in_err-ready-clause-brought g c = λ brought.
    let login = c.args.context.now in
    brought_to_loading (read_of c.args.planned.now c.args.tables.now) login.serial login.mech login.nonce login.stage c.in-Some.pin.now c.args.done _ _
    (sym c.in-Some.ensures) c.requires.holds c.ready_by.ensures.held (rw (c.mech-mech.ensures, c.config.ensures) at c.ready_by.ensures.brought) brought

pub returns-in_err-ready-clause-cost : goal.returns-in_err-ready-clause-cost
returns-in_err-ready-clause-cost g c =
    let login = c.args.context.now in
    loading_cost (read_of c.args.planned.now c.args.tables.now) login.serial login.mech login.nonce login.stage c.in-Some.pin.now _ _
    (sym c.in-Some.ensures) c.requires.holds c.ready_by.ensures.held (rw (c.mech-mech.ensures, c.config.ensures) at c.ready_by.ensures.cost)

pub returns-in_err-server_first-clause-brought : goal.returns-in_err-server_first-clause-brought
returns-in_err-server_first-clause-brought g c = λ brought.
    let login = c.args.context.now in
    brought_to_loading (read_of c.args.planned.now c.args.tables.now) login.serial login.mech login.nonce login.stage c.in-Some.pin.now c.args.done _ _
    (sym c.in-Some.ensures) c.requires.holds c.ready_by.ensures.held (rw (c.mech-mech.ensures, c.config.ensures) at c.ready_by.ensures.brought) brought

pub returns-in_err-server_first-clause-cost : goal.returns-in_err-server_first-clause-cost
returns-in_err-server_first-clause-cost g c =
    let login = c.args.context.now in
    loading_cost (read_of c.args.planned.now c.args.tables.now) login.serial login.mech login.nonce login.stage c.in-Some.pin.now _ _
    (sym c.in-Some.ensures) c.requires.holds c.ready_by.ensures.held (rw (c.mech-mech.ensures, c.config.ensures) at c.ready_by.ensures.cost)

pub returns-in_err-outcome-clause-brought : goal.returns-in_err-outcome-clause-brought
returns-in_err-outcome-clause-brought g c = λ brought.
    let login = c.args.context.now in
    brought_to_loading (read_of c.args.planned.now c.args.tables.now) login.serial login.mech login.nonce login.stage c.in-Some.pin.now c.args.done _ _
    (sym c.in-Some.ensures) c.requires.holds c.ready_by.ensures.held (rw (c.mech-mech.ensures, c.config.ensures) at c.ready_by.ensures.brought) brought

pub returns-in_err-outcome-clause-cost : goal.returns-in_err-outcome-clause-cost
returns-in_err-outcome-clause-cost g c =
    let login = c.args.context.now in
    loading_cost (read_of c.args.planned.now c.args.tables.now) login.serial login.mech login.nonce login.stage c.in-Some.pin.now _ _
    (sym c.in-Some.ensures) c.requires.holds c.ready_by.ensures.held (rw (c.mech-mech.ensures, c.config.ensures) at c.ready_by.ensures.cost)

pub returns-in_err-word-clause-brought : goal.returns-in_err-word-clause-brought
returns-in_err-word-clause-brought g c = λ brought.
    let login = c.args.context.now in
    brought_to_loading (read_of c.args.planned.now c.args.tables.now) login.serial login.mech login.nonce login.stage c.in-Some.pin.now c.args.done _ _
    (sym c.in-Some.ensures) c.requires.holds c.ready_by.ensures.held (rw (c.mech-mech.ensures, c.config.ensures) at c.ready_by.ensures.brought) brought

pub returns-in_err-word-clause-cost : goal.returns-in_err-word-clause-cost
returns-in_err-word-clause-cost g c =
    let login = c.args.context.now in
    loading_cost (read_of c.args.planned.now c.args.tables.now) login.serial login.mech login.nonce login.stage c.in-Some.pin.now _ _
    (sym c.in-Some.ensures) c.requires.holds c.ready_by.ensures.held (rw (c.mech-mech.ensures, c.config.ensures) at c.ready_by.ensures.cost)

pub returns-in-Ok-clause-brought : goal.returns-in-Ok-clause-brought
returns-in-Ok-clause-brought g c = λ brought.
    let login = c.args.context.now in
    brought_to_loading (read_of c.args.planned.now c.args.tables.now) login.serial login.mech login.nonce login.stage c.in-Some.pin.now c.args.done _ _
    (sym c.in-Some.ensures) c.requires.holds c.ready_by.ensures.held (rw (c.mech-mech.ensures, c.config.ensures) at c.ready_by.ensures.brought) brought

pub returns-in-Ok-clause-cost : goal.returns-in-Ok-clause-cost
returns-in-Ok-clause-cost g c =
    let login = c.args.context.now in
    loading_cost (read_of c.args.planned.now c.args.tables.now) login.serial login.mech login.nonce login.stage c.in-Some.pin.now _ _
    (sym c.in-Some.ensures) c.requires.holds c.ready_by.ensures.held (rw (c.mech-mech.ensures, c.config.ensures) at c.ready_by.ensures.cost)

pub returns-in-Err-clause-brought : goal.returns-in-Err-clause-brought
returns-in-Err-clause-brought g c = λ brought.
    let login = c.args.context.now in
    brought_to_loading (read_of c.args.planned.now c.args.tables.now) login.serial login.mech login.nonce login.stage c.in-Some.pin.now c.args.done _ _
    (sym c.in-Some.ensures) c.requires.holds c.ready_by.ensures.held (rw (c.mech-mech.ensures, c.config.ensures) at c.ready_by.ensures.brought) brought

pub returns-in-Err-clause-cost : goal.returns-in-Err-clause-cost
returns-in-Err-clause-cost g c =
    let login = c.args.context.now in
    loading_cost (read_of c.args.planned.now c.args.tables.now) login.serial login.mech login.nonce login.stage c.in-Some.pin.now _ _
    (sym c.in-Some.ensures) c.requires.holds c.ready_by.ensures.held (rw (c.mech-mech.ensures, c.config.ensures) at c.ready_by.ensures.cost)
