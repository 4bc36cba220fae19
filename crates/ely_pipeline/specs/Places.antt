-- The place of a name, or the first stage on the way that gives nothing.
use Rattle.std.specs.Prelude.{ℕ, List, Option, Some, None, Result, Ok}
use Rattle.std.specs.Option.{ok_or}
use Rattle.ely_base.specs.Refused.{◌>>=◌}
use Rattle.ely_pipeline.specs.declared.place.Place.{Place}
use Rattle.ely_pipeline.specs.declared.place.PipeFault.{PipeFault}
use Rattle.ely_pipeline.specs.declared.place.PipeFault.TheVariants.{Undecoded, PreRealm, PostRealm, RealmStep}
use Rattle.ely_pipeline.specs.Rules.{apply}
use Rattle.ely_pipeline.specs.Realms.{realm_by, rule_of}
use Rattle.ely_pipeline.specs.declared.rule.Rule.{Rule}
use Rattle.ely_pipeline.specs.declared.pipeline.Pipeline.{Pipeline}

-- the name after a stage, or that the stage gives nothing; without a rule the name stays
abbrev pub after_stage : PipeFault → Option Rule → List ℕ → Result (List ℕ) PipeFault
after_stage fault None name = Ok name
after_stage fault (Some rule) name = ok_or (apply rule name) fault

-- the place of a name: the stages in their order, each on the name after the one before
unfoldable pub place_of : Pipeline → List ℕ → Result Place PipeFault
place_of pipe name = do
  decoded ← after_stage Undecoded pipe.decoder name
  known ← after_stage PreRealm pipe.pre decoded
  realm ← realm_by pipe.realms pipe.default_realm pipe.mapper known
  settled ← after_stage PostRealm pipe.post known
  final ← after_stage RealmStep (rule_of pipe.realms realm) settled
  Ok (record { realm = realm; name = final })
