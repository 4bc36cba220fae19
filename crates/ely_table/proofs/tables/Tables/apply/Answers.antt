use Rattle.std.proofs.Common.{◌≡◌, ◌+◌, ◌++◌, List, length, take, drop, None, ◌∙◌, subst, arith}
use Rattle.std.proofs.lemmas.List.{take_at}
use Rattle.ely_row.specs.Edits.{realm_of}
use Rattle.ely_table.specs.declared.table.Table.{Table}
use Rattle.ely_table.specs.Entries.{kept_fault}
use Rattle.ely_table.specs.Faults.{fault}
use Rattle.ely_table.specs.Kept.{realms_of, table_of, IsStep}
use Rattle.ely_table.proofs.Records.{fault_full, fault_kept, record_step, refused_err}
use Rattle.ely_table.proofs.tables.Tables.apply.Goals as goal

pub returns-then-len-self-clause-refused : goal.returns-then-len-self-clause-refused
returns-then-len-self-clause-refused c =
    let edits = c.self.inside.journal.items in
    let ts = c.self.inside.tables.items in
    let count : c.len.result ≡ length edits = omega arith in
    rw (← c.self.view_is) (fault_full (realms_of ts) c.self.inside.limit c.len.result edits c.args.edit count (omega arith))

pub returns-in_err-record-clause-refused : goal.returns-in_err-record-clause-refused
returns-in_err-record-clause-refused c =
    let edits = c.self.inside.journal.items in
    let ts = c.self.inside.tables.items in
    let count : c.len.result ≡ length edits = omega arith in
    let found : fault (realms_of ts) c.self.inside.limit edits c.args.edit ≡ kept_fault (table_of c.deref_mut.result.now (realm_of c.args.edit)) c.args.edit = fault_kept c.self.inside.limit c.len.result c.deref_mut.result.now ts edits c.args.edit count (omega arith) c.deref_mut.ensures.value c.self.invariant.kept in
    rw (← c.self.view_is, found) (refused_err c.from_residual.result c.in_err-record.field-0.0 _ c.from_residual.ensures.1 c.in_err-record.ensures.refused)

pub invariant_of-self-2 : goal.invariant_of-self-2
invariant_of-self-2 c =
    let edits = c.self.inside.journal.items in
    let ts = c.self.inside.tables.items in
    let limit = c.self.inside.limit in
    let count : c.len.result ≡ length edits = omega arith in
    let none : fault (realms_of ts) limit edits c.args.edit ≡ None = fault_kept limit c.len.result c.deref_mut.result.now ts edits c.args.edit count (omega arith) c.deref_mut.ensures.value c.self.invariant.kept ∙ c.in_ok-record.ensures.accepted in
    let whole : take c.self.inside.tables.len (c.record.new.tables ++ drop (length c.record.new.tables) ts) ≡ c.record.new.tables = take_at c.record.new.tables _ c.self.inside.tables.len (omega arith) in
    let step = subst (λ (xs : List Table). IsStep xs c.record.new.tables c.args.edit (length edits + 1)) c.deref_mut.ensures.value c.in_ok-record.ensures.tables in
    let next = record_step limit ts c.record.new.tables edits c.args.edit c.self.invariant none step in
    rw (whole, c.in_ok-record.ensures.journal) next

pub returns-clause-accepted : goal.returns-clause-accepted
returns-clause-accepted c =
    let edits = c.self.inside.journal.items in
    let ts = c.self.inside.tables.items in
    let count : c.len.result ≡ length edits = omega arith in
    let found : fault (realms_of ts) c.self.inside.limit edits c.args.edit ≡ kept_fault (table_of c.deref_mut.result.now (realm_of c.args.edit)) c.args.edit = fault_kept c.self.inside.limit c.len.result c.deref_mut.result.now ts edits c.args.edit count (omega arith) c.deref_mut.ensures.value c.self.invariant.kept in
    rw (← c.self.view_is) (found ∙ c.in_ok-record.ensures.accepted)
