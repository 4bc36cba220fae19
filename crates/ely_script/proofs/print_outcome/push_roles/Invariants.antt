use Rattle.std.proofs.Common.{◌≡◌, ◌++◌, drop}
use Rattle.ely_base.specs.Appended.{Extends}
use Rattle.ely_script.specs.OutcomeTexts.{roles_from, roles_text}
use Rattle.ely_script.proofs.print_outcome.push_roles.Given as goal

-- what is written, and the roles that are left, are all
abbrev pub invariant-loop-role : goal.invariant-loop-role
invariant-loop-role l = (l.out.items ++ roles_from l.mark (drop l.role-index l.roles) ≡ l.fn.out.items ++ roles_text l.roles) × Extends l.fn.out.items l.out.items
