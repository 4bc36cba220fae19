use Rattle.ely_propfile.proofs.RowLemmas.{whole_more, apart_new}
use Rattle.ely_table.proofs.Reloading.{found_more}
use Rattle.ely_table.proofs.table.entries_of.Goals as goal

pub loop-name-preserved-in_ok-insert : goal.loop-name-preserved-in_ok-insert
loop-name-preserved-in_ok-insert c =
    let whole = whole_more c.loop-name.yielded c.loop-name.name-iterator.rest.items c.next.new.self.rest.items c.args.rows.items (c.in-Some.name, c.in-Some.row) c.loop-name.invariant.whole c.in-Some.ensures.steps.0 in
    let apart = apart_new c.loop-name.yielded (c.in-Some.name, c.in-Some.row) c.next.new.self.rest.items c.args.rows.items whole c.requires in
    record {
      whole = whole;
      found = found_more c.args.number c.loop-name.entries c.insert.new.self c.loop-name.yielded (c.in-Some.name, c.in-Some.row) c.in_ok-row.row c.in_ok-row.ensures apart c.in_ok-insert.ensures.updates c.loop-name.invariant.found;
    }

pub loop-name-preserved : goal.loop-name-preserved
loop-name-preserved c =
    let whole = whole_more c.loop-name.yielded c.loop-name.name-iterator.rest.items c.next.new.self.rest.items c.args.rows.items (c.in-Some.name, c.in-Some.row) c.loop-name.invariant.whole c.in-Some.ensures.steps.0 in
    let apart = apart_new c.loop-name.yielded (c.in-Some.name, c.in-Some.row) c.next.new.self.rest.items c.args.rows.items whole c.requires in
    record {
      whole = whole;
      found = found_more c.args.number c.loop-name.entries c.insert.new.self c.loop-name.yielded (c.in-Some.name, c.in-Some.row) c.in_ok-row.row c.in_ok-row.ensures apart c.in_ok-insert.ensures.updates c.loop-name.invariant.found;
    }
