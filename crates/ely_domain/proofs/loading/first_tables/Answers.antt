use Rattle.std.proofs.Common.{refl, sym, ap, ◌∙◌}
use Rattle.ely_table.specs.Faults.{Tables}
use Rattle.ely_domain.specs.Given.{classed, loadings}
use Rattle.ely_domain.proofs.Loadings.{apart, fallbacks, loads_at, loaded_next, same_next}
use Rattle.ely_domain.proofs.loading.first_tables.Goals as goal
use Rattle.ely_domain.proofs.loading.first_tables.Goals.{in-Some+in_ok-record, in_default}

pub new-requires-clause-apart : goal.new-requires-clause-apart
new-requires-clause-apart c =
    let config = c.args.config.now in
    rw (
      c.in_ok-classes.ensures,
      c.digest_realm.ensures.value,
      c.realms-realms.ensures.value,
      apart config.digest_realm config.realms c.realms-realms.ensures.sound,
    ) refl

pub new-requires-clause-fallbacks : goal.new-requires-clause-fallbacks
new-requires-clause-fallbacks c =
    let config = c.args.config.now in
    rw (
      c.in_ok-classes.ensures,
      c.digest_realm.ensures.value,
      c.realms-realms.ensures.value,
      fallbacks config.digest_realm config.realms c.realms-realms.ensures.sound,
    ) refl

pub loop-realm-init : goal.loop-realm-init
unfolding loadings
loop-realm-init c = rw (c.in_ok-tables.ensures, c.in_ok-classes.ensures, c.digest_realm.ensures.value) refl

pub record-requires : goal.record-requires
record-requires c =
    let config = c.args.config.now in
    let load = sym c.in_ok-edit.ensures ∙ c.in-Some.is in
    let realms_are = c.realms-realms.ensures.value in
    rw (c.loop-realm.invariant, realms_are)
    (loads_at config.digest_realm config.realms c.loop-realm.realm-index c.realm-item.result (rw realms_are at c.loop-realm-test.true)
    (rw realms_are at c.realm-item.is) c.args.journal_limit c.in-Some.edit c.realms-realms.ensures.sound c.requires.room load)

pub loop-realm-preserved : goal.loop-realm-preserved
loop-realm-preserved c =
    let config = c.args.config.now in
    let realms = c.realms-realms.result.now in
    elim c.match-branch-4.branch [
      | in-Some+in_ok-record w ↦
          let load = sym c.in_ok-edit.ensures ∙ w.in-Some.is in
          w.tables-is ∙ w.in_ok-record.ensures ∙ rw c.loop-realm.invariant (ap (λ edits. (let t : Tables = record {
            realms = classed config.digest_realm realms;
            limit = c.args.journal_limit;
            journal = edits;
          } in t)) (loaded_next config.digest_realm realms c.loop-realm.realm-index c.realm-item.result c.loop-realm-test.true c.realm-item.is w.in-Some.edit load))
      | in_default w ↦
          let load = sym c.in_ok-edit.ensures ∙ w.in_default.is in
          w.tables-is ∙ c.loop-realm.invariant ∙ ap (λ edits. (let t : Tables = record {
            realms = classed config.digest_realm realms;
            limit = c.args.journal_limit;
            journal = edits;
          } in t)) (same_next config.digest_realm realms c.loop-realm.realm-index c.realm-item.result c.loop-realm-test.true c.realm-item.is load)
    ]
