-- A value without a fault in its tree has members.
use Rattle.std.proofs.Common.{◌≡◌, true, List, [], ◌∷◌, ℕ, Some, None, refl, is_some, codes}
use Rattle.serde_json.specs.Data.{Data, Members as Object}
use Rattle.ely_config.specs.Configs.{main_realm, plain_pipeline}
use Rattle.ely_config_tree.specs.declared.shape.Shape.TheVariants.{Root, DigestRealm, Name, Rule, RealmMapper, RoleMapper, Permissions, Realm, Realms}
use Rattle.ely_config_tree.specs.Tree.{member_shape, members_fault, tree_fault}
use Rattle.ely_config_json.specs.Members.{members_in, members_of}
use Rattle.ely_config_json.specs.Names.{name_of, text_of}
use Rattle.ely_config_json.specs.Parts.{list_of, optional}
use Rattle.ely_config_json.specs.Permissions.{permissions_of}
use Rattle.ely_config_json.specs.Pipelines.{Known, default_realm_in, first_name, known_in, known_of, pipeline_in, targets_in}
use Rattle.ely_config_json.specs.RealmMappers.{realm_mapper_of}
use Rattle.ely_config_json.specs.Realms.{realm_of}
use Rattle.ely_config_json.specs.RoleMappers.{role_mapper_of}
use Rattle.ely_config_json.specs.Rules.{rule_of}
use Rattle.ely_config_text.proofs.WholeNames.{digest_realm_has, name_has}
use Rattle.ely_config_text.proofs.WholeObjects.{plain_object_has}
use Rattle.ely_config_text.proofs.WholeParams.{params_has}
use Rattle.ely_config_text.proofs.WholeParts.{both_has, given_has, map_has, member_holds, optional_has, some_list}
use Rattle.ely_config_text.proofs.WholePermissions.{permissions_has}
use Rattle.ely_config_text.proofs.WholeRealmMappers.{realm_mapper_has}
use Rattle.ely_config_text.proofs.WholeRealms.{known_has, realms_has}
use Rattle.ely_config_text.proofs.WholeRoles.{role_mapper_has}
use Rattle.ely_config_text.proofs.WholeRules.{rule_has}

module _ (ms : Object) (faultless : members_fault Root [] ms ≡ None) where
  -- there is a first realm
  first_known : (known : List Known) × (known_in ms ≡ Some known) × (is_some (first_name known) ≡ true)
  first_known = member_holds Root [] ms faultless (λ o. (known : List Known) × (o ≡ Some known) × (is_some (first_name known) ≡ true)) (list_of known_of)
      (Some plain_pipeline.realms) (codes "realms") Realms refl
      (λ d e.
      let found = some_list Realms Realm 16 known_of refl known_has d e in
      (found.0 ∷ found.1, found.2, refl))
      (plain_pipeline.realms, refl, refl)

  -- the default realm and all realms
  targets : is_some (targets_in ms) ≡ true
  targets = rw first_known.1 (map_has (λ name. (name, first_known.0)) (default_realm_in first_known.0 ms)
      (member_holds Root [] ms faultless (λ o. is_some o ≡ true) name_of (first_name first_known.0) (codes "default-realm") Name refl name_has first_known.2))

  rule : (name : List ℕ) → member_shape Root [] name ≡ Some (Rule 8) → is_some (optional (rule_of 8) name ms) ≡ true
  rule name is = optional_has Root [] ms faultless (rule_of 8) name (Rule 8) is (rule_has 8)

  pipeline : is_some (pipeline_in ms) ≡ true
  pipeline = map_has _ _ (both_has _ _
      (both_has _ _
      (both_has _ _ (rule (codes "decoder") refl) (rule (codes "pre-realm") refl))
      (both_has _ _ (optional_has Root [] ms faultless realm_mapper_of (codes "realm-mapper") RealmMapper refl realm_mapper_has) (rule (codes "post-realm") refl)))
      targets)

  members : is_some (members_in ms) ≡ true
  members = map_has _ _ (both_has _ _
      (both_has _ _ (given_has Root [] ms faultless text_of (codes "ManagementRealm") (codes "digest-realm") DigestRealm refl digest_realm_has) (params_has ms faultless))
      (both_has _ _
      (both_has _ _ pipeline (given_has Root [] ms faultless (list_of realm_of) (main_realm ∷ []) (codes "realms") Realms refl realms_has))
      (both_has _ _
      (optional_has Root [] ms faultless (role_mapper_of 8) (codes "role-mapper") (RoleMapper 8) refl (role_mapper_has 8))
      (given_has Root [] ms faultless permissions_of _ (codes "permissions") Permissions refl permissions_has))))

-- of a value without a fault members are built
pub members_has : (value : Data) → tree_fault value ≡ None → is_some (members_of value) ≡ true
members_has = plain_object_has Root members_in refl refl (λ ms faultless there. members ms faultless)
