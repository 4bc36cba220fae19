use Rattle.std.proofs.Common.{Some, sym, ap, ◌∙◌}
use Rattle.ely_domain.proofs.CacheLists.{found_current, word_found, word_is}
use Rattle.ely_domain.proofs.caching.look_up.Goals as goal

pub returns-in-NoCache-clause-word : goal.returns-in-NoCache-clause-word
returns-in-NoCache-clause-word c = ap word_found c.in-NoCache.ensures ∙ word_is c.args.caches.now c.args.place.now.realm c.args.place.now.name c.args.mech

pub returns-in-Miss-clause-word : goal.returns-in-Miss-clause-word
returns-in-Miss-clause-word c = ap word_found c.in-Miss.ensures ∙ word_is c.args.caches.now c.args.place.now.realm c.args.place.now.name c.args.mech

pub returns-in_ok-copy-in-Hit-clause-word : goal.returns-in_ok-copy-in-Hit-clause-word
returns-in_ok-copy-in-Hit-clause-word c =
    ap word_found c.in-Hit.ensures ∙ word_is c.args.caches.now c.args.place.now.realm c.args.place.now.name c.args.mech

pub returns-in_ok-copy-in-Hit-clause-current : goal.returns-in_ok-copy-in-Hit-clause-current
returns-in_ok-copy-in-Hit-clause-current c = λ known are.
    found_current known c.args.caches.now are c.args.place.now c.args.mech c.in_ok-copy-in-Hit.field-0
    (sym c.in-Hit.ensures ∙ ap (λ ready. Some (Some ready)) (sym c.in_ok-copy-in-Hit.ensures))
