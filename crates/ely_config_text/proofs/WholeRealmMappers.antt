-- Realm mappers without a fault are read.
use Rattle.std.proofs.Common.{◌≡◌, true, List, ℕ, None, refl, is_some, codes}
use Rattle.std.specs.List.{AllByRecursion}
use Rattle.serde_json.specs.Data.{Members as Object}
use Rattle.ely_pipeline.specs.declared.mapper.RealmMapper.TheVariants.{Constant, MapAfter, TakeAfter}
use Rattle.ely_config_tree.specs.declared.shape.Shape.TheVariants.{RealmMapper, RealmMapperWord, Name, Pairs}
use Rattle.ely_config_tree.specs.Table as table
use Rattle.ely_config_tree.specs.Tree.{members_fault}
use Rattle.ely_config_json.specs.Names.{name_of, pairs_of}
use Rattle.ely_config_json.specs.RealmMappers.{realm_mapper_in, realm_mapper_of}
use Rattle.ely_config_text.proofs.WholeParts.{Reads, among, both_has, map_has, needed_has}
use Rattle.ely_config_text.proofs.WholeNames.{name_has, pairs_has}
use Rattle.ely_config_text.proofs.WholeObjects.{Present, worded_has}

module _ (ms : Object) where
  -- the mapper is read under the word
  abbrev IsRead : List ℕ → Type 0
  IsRead word = members_fault RealmMapper word ms ≡ None → Present (table.required_in (table.members_of RealmMapper word)) ms → is_some (realm_mapper_in ms word) ≡ true

  constant : IsRead (codes "constant")
  constant e p = map_has Constant _ (needed_has RealmMapper (codes "constant") ms e name_of (codes "realm") Name refl name_has p.0)

  map_after : IsRead (codes "map-after")
  map_after e p = map_has (λ made. MapAfter made.0 made.1) _ (both_has _ _
      (needed_has RealmMapper (codes "map-after") ms e name_of (codes "mark") Name refl name_has p.0)
      (needed_has RealmMapper (codes "map-after") ms e pairs_of (codes "pairs") Pairs refl pairs_has p.1.0))

  take_after : IsRead (codes "take-after")
  take_after e p = map_has TakeAfter _ (needed_has RealmMapper (codes "take-after") ms e name_of (codes "mark") Name refl name_has p.0)

  words : AllByRecursion IsRead (table.words_of RealmMapperWord)
  words = (constant, (map_after, (take_after, tt)))

-- a realm mapper without a fault is read
pub realm_mapper_has : Reads RealmMapper realm_mapper_of
realm_mapper_has = worded_has RealmMapper RealmMapperWord (codes "rule") realm_mapper_in refl refl (λ w. refl)
    (λ ms text met faultless there. among (IsRead ms) (table.words_of RealmMapperWord) text met (words ms) faultless there)
