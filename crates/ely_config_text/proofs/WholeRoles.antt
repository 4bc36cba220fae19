-- Role mappers without a fault are read.
use Rattle.std.proofs.Common.{◌≡◌, ◌∙◌, true, false, List, ℕ, zero, suc, Some, None, refl, sym, ap, is_some, codes}
use Rattle.std.specs.Option.{option_and_then}
use Rattle.std.specs.List.{AllByRecursion}
use Rattle.serde_json.specs.Data.{Members as Object}
use Rattle.serde_json.specs.Find.{as_str}
use Rattle.ely_config_tree.specs.declared.shape.Shape.{Shape}
use Rattle.ely_config_tree.specs.declared.shape.Shape.TheVariants.{RoleMapper as OfMapper, RoleMappers, RoleMapperWord, RolePairs, Names, Name, Flag, OpWord}
use Rattle.ely_config_tree.specs.Leaves.{deep_fault, text_fault}
use Rattle.ely_config_tree.specs.Table as table
use Rattle.ely_config_tree.specs.Tree.{members_fault}
use Rattle.ely_config_tree.proofs.Faultless.{fault_by_form}
use Rattle.ely_config_json.specs.Names.{flag_of, name_of, names_of}
use Rattle.ely_config_json.specs.Parts.{list_of}
use Rattle.ely_config_json.specs.RoleMappers.{op_of, role_mapper_in, role_mapper_of, role_pairs_of}
use Rattle.ely_config_json.proofs.Levels.{role_mapper_of-suc}
use Rattle.ely_config_text.proofs.WholeParts.{Reads, among, both_has, given_has, list_has, map_has, needed_has, optional_has, then_has}
use Rattle.ely_config_text.proofs.WholeNames.{flag_has, here_none, name_has, names_has, role_pairs_has, text_read}
use Rattle.ely_config_text.proofs.WholeObjects.{Present, worded_has}
use Rattle.ely_config_text.proofs.WholeRules.{deep_faulty, one_less, within}

-- how two sets are joined
op_has : Reads OpWord (λ d. option_and_then op_of (as_str d))
op_has d e =
    let read = text_read OpWord d (here_none (text_fault OpWord d) (sym (fault_by_form OpWord d) ∙ e)) in
    rw read.1 (among (λ word. is_some (op_of word) ≡ true) (table.words_of OpWord) read.0 read.2 (refl, (refl, (refl, (refl, tt)))))

module _ (levels : ℕ) (each : Reads (OfMapper levels) (role_mapper_of levels)) (ms : Object) where
  -- the shape of the mapper
  abbrev Here : Shape
  Here = OfMapper (suc levels)

  -- the mapper is read under the word
  abbrev IsRead : List ℕ → Type 0
  IsRead word = members_fault Here word ms ≡ None → Present (table.required_in (table.members_of Here word)) ms → is_some (role_mapper_in (role_mapper_of levels) ms word) ≡ true

  constant : IsRead (codes "constant")
  constant e p = map_has _ _ (needed_has Here (codes "constant") ms e names_of (codes "roles") (Names 0 64) refl (names_has 0 64) p.0)

  add_prefix : IsRead (codes "add-prefix")
  add_prefix e p = map_has _ _ (needed_has Here (codes "add-prefix") ms e name_of (codes "text") Name refl name_has p.0)

  add_suffix : IsRead (codes "add-suffix")
  add_suffix e p = map_has _ _ (needed_has Here (codes "add-suffix") ms e name_of (codes "text") Name refl name_has p.0)

  aggregate : IsRead (codes "aggregate")
  aggregate e p = map_has _ _ (needed_has Here (codes "aggregate") ms e (list_of (role_mapper_of levels)) (codes "of") (RoleMappers levels) (ap (λ n. Some (RoleMappers n)) (one_less levels))
      (list_has (RoleMappers levels) (OfMapper levels) 0 64 (role_mapper_of levels) refl each) p.0)

  logical : IsRead (codes "logical")
  logical e p = map_has _ _ (both_has _ _
      (then_has as_str op_of (codes "op") ms (needed_has Here (codes "logical") ms e (λ d. option_and_then op_of (as_str d)) (codes "op") OpWord refl op_has p.0))
      (both_has _ _
      (optional_has Here (codes "logical") ms e (role_mapper_of levels) (codes "left") (OfMapper levels) (ap (λ n. Some (OfMapper n)) (one_less levels)) each)
      (optional_has Here (codes "logical") ms e (role_mapper_of levels) (codes "right") (OfMapper levels) (ap (λ n. Some (OfMapper n)) (one_less levels)) each)))

  mapped : IsRead (codes "mapped")
  mapped e p = map_has _ _ (both_has _ _
      (needed_has Here (codes "mapped") ms e role_pairs_of (codes "map") RolePairs refl role_pairs_has p.0)
      (both_has _ _
      (given_has Here (codes "mapped") ms e flag_of false (codes "keep-mapped") Flag refl flag_has)
      (given_has Here (codes "mapped") ms e flag_of false (codes "keep-non-mapped") Flag refl flag_has)))

  words : AllByRecursion IsRead (table.words_of RoleMapperWord)
  words = (constant, (add_prefix, (add_suffix, (aggregate, (logical, (mapped, tt))))))

-- a role mapper without a fault is read
pub role_mapper_has : (levels : ℕ) → Reads (OfMapper levels) (role_mapper_of levels)
role_mapper_has zero d e = absurd (deep_faulty d (here_none (deep_fault d) (sym (fault_by_form (OfMapper 0) d) ∙ e)))
role_mapper_has (suc levels) d e =
    let each : Reads (OfMapper levels) (role_mapper_of levels) = role_mapper_has levels in
    let read = worded_has (OfMapper (suc levels)) RoleMapperWord (codes "rule") (role_mapper_in (role_mapper_of levels)) (within levels) refl (λ w. refl)
    (λ ms text met faultless there. among (IsRead levels each ms) (table.words_of RoleMapperWord) text met (words levels each ms) faultless there) in
    rw (role_mapper_of-suc levels d) (read d e)
