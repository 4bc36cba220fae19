-- Permissions without a fault are read.
use Rattle.std.proofs.Common.{◌≡◌, ◌∙◌, true, false, [], ◌∷◌, None, refl, sym, is_some, codes}
use Rattle.std.specs.Option.{option_and_then}
use Rattle.serde_json.specs.Data.{Members as Object}
use Rattle.serde_json.specs.Find.{as_str}
use Rattle.ely_config_tree.specs.declared.shape.Shape.TheVariants.{Permissions, PermRow, PermRows, Grants, Names, Flag, ModeWord}
use Rattle.ely_config_tree.specs.Leaves.{text_fault}
use Rattle.ely_config_tree.specs.Table as table
use Rattle.ely_config_tree.specs.Tree.{members_fault}
use Rattle.ely_config_tree.proofs.Faultless.{fault_by_form}
use Rattle.ely_config_json.specs.Names.{flag_of, names_of, text_of}
use Rattle.ely_config_json.specs.Parts.{list_of}
use Rattle.ely_config_json.specs.Permissions.{mode_of, permissions_in, permissions_of, row_in, row_of}
use Rattle.ely_config_text.proofs.WholeParts.{Reads, among, both_has, given_has, list_has, map_has, needed_has, then_has}
use Rattle.ely_config_text.proofs.WholeNames.{flag_has, grants_has, here_none, names_has, text_read}
use Rattle.ely_config_text.proofs.WholeObjects.{Present, plain_object_has}

mode_has : Reads ModeWord (λ d. option_and_then mode_of (as_str d))
mode_has d e =
    let read = text_read ModeWord d (here_none (text_fault ModeWord d) (sym (fault_by_form ModeWord d) ∙ e)) in
    rw read.1 (among (λ word. is_some (mode_of word) ≡ true) (table.words_of ModeWord) read.0 read.2 (refl, (refl, (refl, (refl, (refl, tt))))))

row_of_members : (ms : Object) → members_fault PermRow [] ms ≡ None → Present (codes "grant" ∷ []) ms → is_some (row_in ms) ≡ true
row_of_members ms e p = map_has _ _ (both_has _ _
    (both_has _ _
    (given_has PermRow [] ms e names_of [] (codes "principals") (Names 0 64) refl (names_has 0 64))
    (given_has PermRow [] ms e names_of [] (codes "roles") (Names 0 64) refl (names_has 0 64)))
    (both_has _ _
    (given_has PermRow [] ms e flag_of false (codes "match-all") Flag refl flag_has)
    (needed_has PermRow [] ms e (list_of text_of) (codes "grant") Grants refl grants_has p.0)))

row_has : Reads PermRow row_of
row_has = plain_object_has PermRow row_in refl refl row_of_members

permissions_of_members : (ms : Object) → members_fault Permissions [] ms ≡ None → Present (codes "mode" ∷ codes "rows" ∷ []) ms → is_some (permissions_in ms) ≡ true
permissions_of_members ms e p = map_has _ _ (both_has _ _
    (then_has as_str mode_of (codes "mode") ms (needed_has Permissions [] ms e (λ d. option_and_then mode_of (as_str d)) (codes "mode") ModeWord refl mode_has p.0))
    (needed_has Permissions [] ms e (list_of row_of) (codes "rows") PermRows refl (list_has PermRows PermRow 0 64 row_of refl row_has) p.1.0))

-- permissions without a fault are read
pub permissions_has : Reads Permissions permissions_of
permissions_has = plain_object_has Permissions permissions_in refl refl permissions_of_members
