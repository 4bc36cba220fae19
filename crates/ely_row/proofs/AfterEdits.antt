-- A row after one more edit.
use Rattle.std.proofs.Common.{◌≡◌, ℕ, Bool, true, false, ◌||◌, List, [], ◌∷◌, ◌++◌, Some, None, refl, ◌∙◌}
use Rattle.std.proofs.lemmas.Bool.{cond-false}
use Rattle.std.proofs.lemmas.List.Sums.{fold_push}
use Rattle.ely_row.specs.declared.edit.Edit.{Edit}
use Rattle.ely_row.specs.declared.edit.Edit.TheVariants.{Add, Remove, SetCred, DropCred, SetAttr, DropAttr, Reload}
use Rattle.ely_row.specs.Edits.{Texts, is_place, is_of, realm_of, name_of, made, row_after, row}
use Rattle.ely_row.specs.Dependence.{UntouchedStays}

-- an edit of one identity is of the realm and the name that it names
pub is_of-names : (r n name : List ℕ) (edit : Edit) → name_of edit ≡ Some name → is_of r n edit ≡ is_place r n (realm_of edit) name
is_of-names r n name (Add realm own) h = cc
is_of-names r n name (Remove realm own) h = cc
is_of-names r n name (SetCred realm own slot cred) h = cc
is_of-names r n name (DropCred realm own slot) h = cc
is_of-names r n name (SetAttr realm own attr values) h = cc
is_of-names r n name (DropAttr realm own attr) h = cc
is_of-names r n name (Reload realm users groups) h = cc

-- the row after one more edit is what that edit makes of the row before it
pub row-push : (texts : Texts) (edits : List Edit) (edit : Edit) (r n : List ℕ) → row texts (edits ++ edit ∷ []) r n ≡ row_after texts r n (row texts edits r n) edit
unfolding row
row-push texts edits edit r n = fold_push (row_after texts r n) None edits edit

-- what touches none of one place is not of it
is_of-one : (b : Bool) → (b || false) ≡ false → b ≡ false
is_of-one true h = cc
is_of-one false h = refl

-- an edit that doesn't touch a place leaves its row
pub untouched_row : (texts : Texts) (edits : List Edit) (edit : Edit) → UntouchedStays texts edits edit
untouched_row texts edits edit r n none =
    row-push texts edits edit r n
    ∙ cond-false (is_of r n edit) (made texts n edit (row texts edits r n)) (row texts edits r n) (is_of-one (is_of r n edit) none)
