use Rattle.ely_perm.specs.Grants.{matching}
use Rattle.ely_perm.proofs.ModeLaws.{each_says, some_says, odd_says, alone_says}
use Rattle.ely_perm.proofs.laws.modes_by_their_rows.Goals as goal

pub returns-clause-each : goal.returns-clause-each
returns-clause-each c rows name roles wanted = each_says wanted (matching name roles rows)

pub returns-clause-some : goal.returns-clause-some
returns-clause-some c rows name roles wanted = some_says wanted (matching name roles rows)

pub returns-clause-odd : goal.returns-clause-odd
returns-clause-odd c rows name roles wanted = odd_says wanted (matching name roles rows)

pub returns-clause-alone : goal.returns-clause-alone
returns-clause-alone c rows name roles wanted = alone_says wanted (matching name roles rows)
