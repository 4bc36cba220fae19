use Rattle.std.proofs.Common.{◌≡◌, ◌+◌, length}
use Rattle.std.specs.Option.{option_map, unwrap_or}
use Rattle.ely_base.specs.Parts.{parts_left}
use Rattle.ely_script.specs.Arguments.{names_at}
use Rattle.ely_script.proofs.NamesRead.{behind}
use Rattle.ely_script.proofs.args.Args.values.Given as goal

-- the names so far, and those of the words that are left, are all
abbrev pub invariant-loop-left : goal.invariant-loop-left
invariant-loop-left l =
    let left = parts_left 32 (option_map (λ rest. rest.now) l.left) in
    (behind l.names.items (names_at l.number left) ≡ names_at 6 l.fn.self)
    × (l.number ≡ 6 + length l.names.items)
    × (length l.names.items + length left ≡ length l.fn.self)

abbrev pub decreases-loop-left : goal.decreases-loop-left
decreases-loop-left l = unwrap_or (option_map (λ rest. length rest.now + 1) l.left) 0
