use Rattle.std.proofs.Common.{◌≡◌, Option, None, sym, ap, subst}
use Rattle.std.specs.Prelude.{OnOk, IfErr}
use Rattle.std.specs.Str.{bytes_eq}
use Rattle.std.proofs.lemmas.List.Quantifiers.{position-Some}
use Rattle.std.proofs.lemmas.Result.{on_ok_weaker, on_err_weaker}
use Rattle.ely_row.specs.Edits.{realm_of}
use Rattle.ely_table.specs.declared.table.Table.{Table}
use Rattle.ely_table.specs.Entries.{kept_fault}
use Rattle.ely_table.specs.Faults.{IsRefusal}
use Rattle.ely_table.proofs.TableWrites.{index_is, table_at, no_table, has_class}
use Rattle.ely_table.proofs.Steps.{step_of, same_of}
use Rattle.ely_table.proofs.journal.put.Goals as goal

pub returns-in_default-clause-refused : goal.returns-in_default-clause-refused
returns-in_default-clause-refused c =
    let ts = c.args.tables.now in
    let r = realm_of c.args.edit.now in
    let index = index_is ts r c.realm.result.now c.index_of.result _ c.realm.ensures c.index_of.ensures c.in_default.is in
    ap (λ (t : Option Table). kept_fault t c.args.edit.now) (no_table ts r index)

pub take-requires : goal.take-requires
take-requires c =
    let ts = c.args.tables.now in
    let r = realm_of c.args.edit.now in
    let index = index_is ts r c.realm.result.now c.index_of.result _ c.realm.ensures c.index_of.ensures c.in-Some.is in
    let within = position-Some (λ (t : Table). bytes_eq t.name r) ts c.in-Some.at c.index-tables-at.result index in
    has_class ts c.in-Some.at c.index-tables-at.result within.0 c.requires

pub returns-clause-accepted : goal.returns-clause-accepted
returns-clause-accepted c =
    let ts = c.args.tables.now in
    let r = realm_of c.args.edit.now in
    let index = index_is ts r c.realm.result.now c.index_of.result _ c.realm.ensures c.index_of.ensures c.in-Some.is in
    let here = table_at ts r c.in-Some.at c.index-tables-at.result index in
    subst (λ (t : Option Table). OnOk c.take.result (kept_fault t c.args.edit.now ≡ None)) (sym here) c.take.ensures.accepted

pub returns-clause-refused : goal.returns-clause-refused
returns-clause-refused c =
    let ts = c.args.tables.now in
    let r = realm_of c.args.edit.now in
    let index = index_is ts r c.realm.result.now c.index_of.result _ c.realm.ensures c.index_of.ensures c.in-Some.is in
    let here = table_at ts r c.in-Some.at c.index-tables-at.result index in
    subst (λ (t : Option Table). IfErr c.take.result (λ refusal. IsRefusal refusal (kept_fault t c.args.edit.now))) (sym here) c.take.ensures.refused

pub returns-clause-ok : goal.returns-clause-ok
returns-clause-ok c =
    let ts = c.args.tables.now in
    let index = index_is ts (realm_of c.args.edit.now) c.realm.result.now c.index_of.result _ c.realm.ensures c.index_of.ensures c.in-Some.is in
    on_ok_weaker c.take.result (step_of ts c.in-Some.at c.index-tables-at.result c.take.new.table c.args.edit.now index c.args.number) c.take.ensures.ok

pub returns-clause-err : goal.returns-clause-err
returns-clause-err c =
    let ts = c.args.tables.now in
    let index = index_is ts (realm_of c.args.edit.now) c.realm.result.now c.index_of.result _ c.realm.ensures c.index_of.ensures c.in-Some.is in
    on_err_weaker c.take.result (same_of ts c.in-Some.at c.index-tables-at.result c.take.new.table c.args.edit.now index) c.take.ensures.err
