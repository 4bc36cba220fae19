-- Both are read from the same objects.
use Rattle.ely_config_json.proofs.KnownRealms.{members_of-knows}
use Rattle.ely_config_json.proofs.laws.the_pipeline_knows_the_realms.Goals as goal

pub returns : goal.returns
returns c = members_of-knows
