use Rattle.std.proofs.Common.{◌≡◌, take}
use Rattle.ely_domain.specs.Given.{classed, loadings}
use Rattle.ely_domain.proofs.loading.first_tables.Given as goal

-- the reloads of the realms up to here are recorded
abbrev pub invariant-loop-realm : goal.invariant-loop-realm
invariant-loop-realm l = l.tables ≡ record {
  realms = classed l.config.digest_realm l.realms;
  limit = l.journal_limit;
  journal = loadings (take l.realm-index l.realms);
}
