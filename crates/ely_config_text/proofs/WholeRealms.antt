-- Realms without a fault are read.
use Rattle.std.proofs.Common.{◌≡◌, true, false, List, [], ℕ, Some, None, refl, is_some, codes, arith}
use Rattle.std.specs.List.{AllByRecursion}
use Rattle.serde_json.specs.Data.{Members as Object}
use Rattle.serde_json.specs.Find.{get_member}
use Rattle.ely_config_tree.specs.declared.shape.Shape.TheVariants.{Realm, Realms, RoleMapper, Rule, Names, Name, AnyText, Number, Flag, KindWord}
use Rattle.ely_config_tree.specs.Table as table
use Rattle.ely_config_tree.specs.Tree.{member_shape, members_fault, object_fault}
use Rattle.ely_config_json.specs.Names.{flag_of, name_of, names_of, number_of, text_of}
use Rattle.ely_config_json.specs.Parts.{by_word, given, list_of, needed, optional}
use Rattle.ely_config_json.specs.Pipelines.{known_of}
use Rattle.ely_config_json.specs.Realms.{kind_in, realm_in, realm_of}
use Rattle.ely_config_json.specs.RoleMappers.{role_mapper_of}
use Rattle.ely_config_json.specs.Rules.{rule_of}
use Rattle.ely_config_text.proofs.WholeParts.{Reads, among, both_has, given_has, list_has, map_has, needed_has, optional_has}
use Rattle.ely_config_text.proofs.WholeNames.{any_text_has, flag_has, name_has, names_has, number_has}
use Rattle.ely_config_text.proofs.WholeObjects.{Present, object_has, worded_object}
use Rattle.ely_config_text.proofs.WholeRoles.{role_mapper_has}
use Rattle.ely_config_text.proofs.WholeRules.{rule_has}

module _ (ms : Object) where
  -- what each realm says, whatever its kind
  abbrev IsCommon : Type 0
  IsCommon = (is_some (needed name_of (codes "name") ms) ≡ true) × (is_some (given name_of (codes "groups") (codes "role-attribute") ms) ≡ true)
      × (is_some (optional (role_mapper_of 8) (codes "role-mapper") ms) ≡ true) × (is_some (optional (rule_of 8) (codes "transformer") ms) ≡ true)

  -- the realm is read under the word
  abbrev IsRead : List ℕ → Type 0
  IsRead word = members_fault Realm word ms ≡ None → Present (table.required_in (table.members_of Realm word)) ms → (is_some (kind_in ms word) ≡ true) × IsCommon

  common : (word : List ℕ) → members_fault Realm word ms ≡ None → is_some (get_member (codes "name") ms) ≡ true → member_shape Realm word (codes "name") ≡ Some Name
      → member_shape Realm word (codes "role-attribute") ≡ Some Name → member_shape Realm word (codes "role-mapper") ≡ Some (RoleMapper 8)
      → member_shape Realm word (codes "transformer") ≡ Some (Rule 8) → IsCommon
  common word e there name attribute mapper transformer = (
    needed_has Realm word ms e name_of (codes "name") Name name name_has there,
    given_has Realm word ms e name_of (codes "groups") (codes "role-attribute") Name attribute name_has,
    optional_has Realm word ms e (role_mapper_of 8) (codes "role-mapper") (RoleMapper 8) mapper (role_mapper_has 8),
    optional_has Realm word ms e (rule_of 8) (codes "transformer") (Rule 8) transformer (rule_has 8),
  )

  modifiable : IsRead (codes "modifiable")
  modifiable e p = (refl, common (codes "modifiable") e p.0 refl refl refl refl)

  properties : IsRead (codes "properties")
  properties e p = (
    map_has _ _ (both_has _ _
        (given_has Realm (codes "properties") ms e flag_of false (codes "plain-text") Flag refl flag_has)
        (both_has _ _
        (given_has Realm (codes "properties") ms e text_of [] (codes "users") AnyText refl any_text_has)
        (given_has Realm (codes "properties") ms e text_of [] (codes "groups") AnyText refl any_text_has))),
    common (codes "properties") e p.0 refl refl refl refl,
  )

  aggregate : IsRead (codes "aggregate")
  aggregate e p = (
    map_has _ _ (both_has _ _
        (needed_has Realm (codes "aggregate") ms e name_of (codes "authentication") Name refl name_has p.0)
        (needed_has Realm (codes "aggregate") ms e names_of (codes "authorization") (Names 1 15) refl (names_has 1 15) p.1.0)),
    common (codes "aggregate") e p.1.1.0 refl refl refl refl,
  )

  caching : IsRead (codes "caching")
  caching e p = (
    map_has _ _ (both_has _ _
        (needed_has Realm (codes "caching") ms e name_of (codes "of") Name refl name_has p.1.0)
        (given_has Realm (codes "caching") ms e number_of 16 (codes "max-entries") (Number 1 65536) refl (number_has 1 65536 (omega arith)))),
    common (codes "caching") e p.0 refl refl refl refl,
  )

  words : AllByRecursion IsRead (table.words_of KindWord)
  words = (modifiable, (properties, (aggregate, (caching, tt))))

  -- the kind of a realm without a fault, and what each realm says
  said : object_fault Realm ms ≡ None → (is_some (by_word kind_in (codes "kind") ms) ≡ true) × IsCommon
  said e =
      let read = worded_object Realm KindWord (codes "kind") refl (λ w. refl) ms e in
      let under_word = among IsRead (table.words_of KindWord) read.0 read.2 words read.3 read.4 in
      (rw read.1 under_word.0, under_word.1)

-- a realm without a fault is read
pub realm_has : Reads Realm realm_of
realm_has = object_has Realm realm_in refl (λ ms e.
    let s = said ms e in
    map_has _ _ (both_has _ _ (both_has _ _ s.1.0 s.1.1) (both_has _ _ s.0 s.1.2)))

-- what a pipeline knows of a realm without a fault is read
pub known_has : Reads Realm known_of
known_has = object_has Realm _ refl (λ ms e.
    let s = said ms e in
    both_has _ _ s.1.0 s.1.3)

pub realms_has : Reads Realms (list_of realm_of)
realms_has = list_has Realms Realm 1 16 realm_of refl realm_has
