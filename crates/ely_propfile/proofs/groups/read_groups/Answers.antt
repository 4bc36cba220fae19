use Rattle.std.proofs.Common.{ltb, Bool, ◌∷◌, None, Ok, length, ◌≡◌, ap, ◌∙◌, sym, subst, arith}
use Rattle.std.specs.Option.{option_map}
use Rattle.std.specs.BTreeSet.{contains}
use Rattle.ely_row.specs.Rows.{name_cmp}
use Rattle.ely_propfile.specs.Faults.{pairs_of, are_apart, name_fault, IsRefusal}
use Rattle.ely_propfile.specs.Groups.{has_groups, is_large}
use Rattle.ely_propfile.proofs.NameLemmas.{apart_filter}
use Rattle.ely_propfile.proofs.ReadLemmas.{read_fails, read_refuses, read_blank, read_pair, read_all, gives_err}
use Rattle.ely_propfile.proofs.KeptLemmas.{entry_pair, entry_none, entry_fault, large_kept, few_kept, shown_more, groups_fail, groups_are}
use Rattle.ely_propfile.proofs.groups.read_groups.Goals as goal

pub returns-in_err-name-clause-exact : goal.returns-in_err-name-clause-exact
returns-in_err-name-clause-exact c =
    let first = c.in-Some.ensures ∙ ap (λ line. line ∷ c.next.new.self) (sym c.bytes.ensures) in
    let fails = read_fails _ _ _ _ _ _ _ _ _ _ _ c.loop-line.invariant first c.next_number-number.ensures c.in_err-name.field-0.0 (entry_fault c.next_number-number.result c.bytes.result.now c.in_err-name.field-0.0 c.in_err-name.ensures) in
    gives_err (λ groups. groups.items) c.from_residual.result c.in_err-name.field-0.0 _ c.from_residual.ensures.1 (groups_fail c.args.text.now c.in_err-name.field-0.0 fails)

pub returns-in_err-add-clause-exact : goal.returns-in_err-add-clause-exact
returns-in_err-add-clause-exact c =
    let first = c.in-Some.ensures ∙ ap (λ line. line ∷ c.next.new.self) (sym c.bytes.ensures) in
    let entry = entry_pair c.next_number-number.result c.bytes.result.now c.in-Some-2.name c.in-Some-2.groups.items (c.in_ok-name.ensures ∙ ap (λ o. Ok (option_map (λ p. (p.0, p.1.items)) o)) c.in-Some-2.is) in
    let len : c.len.result ≡ length c.in-Some-2.groups.items = omega arith in
    let large : ltb 64 c.len.result ≡ is_large entry.groups = ap (ltb 64) len ∙ ap (λ gs. ltb 64 (length gs)) entry.prefix ∙ large_kept entry.groups in
    let refusal = subst (λ (b : Bool). IsRefusal c.in_err-add.field-0.0 (name_fault c.next_number-number.result (contains name_cmp c.loop-line.seen c.in-Some-2.name) b (length c.loop-line.seen.keys))) large c.in_err-add.ensures.fault in
    let fails = read_refuses _ _ _ _ _ _ _ _ _ _ _ c.loop-line.invariant first c.next_number-number.ensures (c.in-Some-2.name, entry.groups) c.in_err-add.field-0.0 entry.reads refusal in
    gives_err (λ groups. groups.items) c.from_residual-in_err-add.result c.in_err-add.field-0.0 _ c.from_residual-in_err-add.ensures.1 (groups_fail c.args.text.now c.in_err-add.field-0.0 fails)

pub loop-line-preserved-in-Continue-branch-4 : goal.loop-line-preserved-in-Continue-branch-4
loop-line-preserved-in-Continue-branch-4 c =
    let first = c.in-Some.ensures ∙ ap (λ line. line ∷ c.next.new.self) (sym c.bytes.ensures) in
    let entry = entry_pair c.next_number-number.result c.bytes.result.now c.in-Some-2.name c.in-Some-2.groups.items (c.in_ok-name.ensures ∙ ap (λ o. Ok (option_map (λ p. (p.0, p.1.items)) o)) c.in-Some-2.is) in
    let len : c.len.result ≡ length c.in-Some-2.groups.items = omega arith in
    let large : ltb 64 c.len.result ≡ is_large entry.groups = ap (ltb 64) len ∙ ap (λ gs. ltb 64 (length gs)) entry.prefix ∙ large_kept entry.groups in
    let fine = subst (λ (b : Bool). name_fault c.next_number-number.result (contains name_cmp c.loop-line.seen c.in-Some-2.name) b (length c.loop-line.seen.keys) ≡ None) large c.in_ok-add.ensures.ok in
    let few = few_kept c.next_number-number.result (contains name_cmp c.loop-line.seen c.in-Some-2.name) (is_large entry.groups) (length c.loop-line.seen.keys) fine in
    read_pair _ _ _ _ _ _ _ _ _ _ _ c.loop-line.invariant first c.next_number-number.ensures (c.in-Some-2.name, entry.groups) c.add.new.seen c.keep.new.pairs.items entry.reads fine c.in_ok-add.ensures.added c.in_ok-add.ensures.count
    (shown_more (pairs_of c.loop-line.invariant.before) c.loop-line.pairs.items c.keep.new.pairs.items c.in-Some-2.name entry.groups c.in-Some-2.groups.items c.loop-line.invariant.shows c.in_ok-keep.ensures entry.prefix few)

pub loop-line-preserved : goal.loop-line-preserved
loop-line-preserved c =
    let first = c.in-Some.ensures ∙ ap (λ line. line ∷ c.next.new.self) (sym c.bytes.ensures) in
    read_blank _ _ _ _ _ _ _ _ _ _ _ c.loop-line.invariant first c.next_number-number.ensures (entry_none c.next_number-number.result c.bytes.result.now (c.in_ok-name.ensures ∙ ap (λ o. Ok (option_map (λ p. (p.0, p.1.items)) o)) c.in_default-2.is))

pub returns-clause-exact : goal.returns-clause-exact
returns-clause-exact c = groups_are c.args.text.now c.loop-line.pairs.items (read_all _ _ _ _ _ _ _ _ c.loop-line.invariant c.in_default.ensures)

pub returns-clause-apart : goal.returns-clause-apart
returns-clause-apart c = ap are_apart c.loop-line.invariant.shows ∙ apart_filter has_groups (pairs_of c.loop-line.invariant.before) c.loop-line.invariant.apart
