-- A text that was tested to be a name is one.
use Rattle.std.proofs.Common.{◌≡◌, true, not, List, ℕ, Option, Some, None, refl}
use Rattle.std.specs.Option.{is_some}
use Rattle.ely_base.specs.Names.{IsName, name_fault}
use Rattle.ely_base.specs.declared.name.NameFault.{NameFault}
use Rattle.ely_base.proofs.NameLemmas.{no_fault}
use Rattle.ely_digest_msg.specs.Headers.{is_name}

without_fault : (o : Option NameFault) → not (is_some o) ≡ true → o ≡ None
without_fault None h = refl
without_fault (Some f) h = absurd cc

pub named : (text : List ℕ) → is_name text ≡ true → IsName text
named text h = no_fault text (without_fault (name_fault text) h)
