use Rattle.std.proofs.Common.{◌≡◌, ◌∙◌, sym, subst}
use Rattle.std.specs.Str.{bytes_eq}
use Rattle.std.proofs.lemmas.List.Filters.{dedup_is}
use Rattle.ely_row.specs.Sets.{as_set, IsSet}
use Rattle.ely_row.proofs.SetLemmas.{as_set-sorted, IsSet-as_set}
use Rattle.ely_row.proofs.roles.Roles.of.Goals as goal

-- what is left of the sorted names is the set of the names
left : (c : goal.After-of) → c.of.result ≡ as_set c.args.names.items
left c =
    c.of.ensures
    ∙ dedup_is bytes_eq c.sort_unstable.new.self.items c.dedup.new.self.items c.dedup.ensures.filtered
    ∙ as_set-sorted c.args.names.items c.sort_unstable.new.self.items c.sort_unstable.ensures.permutation c.sort_unstable.ensures.sorted

pub invariant_of-result : goal.invariant_of-result
invariant_of-result c = subst IsSet (sym (left c)) (IsSet-as_set c.args.names.items)

pub returns : goal.returns
returns c = left c
