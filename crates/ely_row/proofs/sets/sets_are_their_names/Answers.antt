use Rattle.ely_row.proofs.SetLemmas.{IsSet-as_set, is_among-as_set, same_sets}
use Rattle.ely_row.proofs.sets.sets_are_their_names.Goals as goal

pub returns : goal.returns
returns c = record { rise = IsSet-as_set; names = is_among-as_set; same = same_sets }
