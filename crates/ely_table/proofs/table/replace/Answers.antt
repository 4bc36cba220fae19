use Rattle.std.proofs.Common.{◌≡◌, length, refl, sym, ap, ◌∙◌, arith}
use Rattle.std.specs.Map.{lookup}
use Rattle.std.specs.Str.{bytes_eq}
use Rattle.ely_table.specs.Entries.{entry_row, entry_last}
use Rattle.ely_table.proofs.NameCounts.{len_apart}
use Rattle.ely_table.proofs.Reloading.{row_found, last_found}
use Rattle.ely_table.proofs.table.replace.Goals as goal

pub returns-clause-ok : goal.returns-clause-ok
returns-clause-ok c =
    let count : c.len-count.result ≡ length c.args.rows.items = omega arith in
    record {
      name = refl;
      class = refl;
      rows = λ n. ap entry_row (c.in_ok-entries.ensures n) ∙ row_found c.args.number (lookup (bytes_eq n) c.args.rows.items);
      lasts = λ n. ap (entry_last c.args.number) (c.in_ok-entries.ensures n) ∙ last_found c.args.number (lookup (bytes_eq n) c.args.rows.items);
      count = count ∙ sym (len_apart c.args.rows.items c.requires);
    }
