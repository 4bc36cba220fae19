use Rattle.ely_table.proofs.Records.{record_none}
use Rattle.ely_table.proofs.tables.Tables.new.Goals as goal

pub invariant_of-result : goal.invariant_of-result
invariant_of-result c = rw c.new.ensures.items (record_none c.args.journal_limit c.in_ok-empty_tables.field-0.items c.args.realms.items c.requires.most c.requires.apart c.requires.fallbacks c.in_ok-empty_tables.ensures.realms c.in_ok-empty_tables.ensures.empty)
