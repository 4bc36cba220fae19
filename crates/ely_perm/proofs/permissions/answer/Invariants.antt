use Rattle.std.proofs.Common.{◌≡◌, ◌++◌, drop, map}
use Rattle.std.specs.Option.{option_to_list}
use Rattle.ely_perm.specs.Modes.{decided}
use Rattle.ely_perm.specs.Grants.{matching, grants, granted}
use Rattle.ely_perm.proofs.permissions.answer.Given as goal

-- the answer so far stands for those of the rows that were passed
abbrev pub invariant-loop-row : goal.invariant-loop-row
invariant-loop-row l =
    decided l.perms.mode (option_to_list l.so_far ++ map (grants l.wanted) (matching l.name l.roles (drop l.row-index l.row-items)))
    ≡ granted l.perms l.name l.roles l.wanted
