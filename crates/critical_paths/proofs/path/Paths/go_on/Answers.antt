use Rattle.std.proofs.Common.{◌++◌, ◌∷◌, [], List, length, sym, ap, subst, ◌∙◌, arith}
use Rattle.std.specs.Prelude.{is_some}
use Rattle.fixpoint_engine.specs.Waves.{waves_of}
use Rattle.critical_paths.specs.declared.frames.Frame.{Frame}
use Rattle.critical_paths.specs.Reached.{Extends, IsFresh, IsSearch, known_of}
use Rattle.critical_paths.proofs.Exact.{exact_grown, extends_none}
use Rattle.critical_paths.proofs.Fresh.{fresh_begun, fresh_closed, fresh_finished}
use Rattle.critical_paths.proofs.Nodes.{get_end}
use Rattle.critical_paths.proofs.Search.{either, search_begun, search_closed, search_finished}
use Rattle.critical_paths.proofs.Walks.{push_long}
use Rattle.critical_paths.proofs.path.Paths.go_on.Goals as goal

pub returns-clause-exact : goal.returns-clause-exact
returns-clause-exact g c =
    exact_grown c.args.view.now.circuit.now (waves_of c.args.view.now.waves.now)
    c.args.self.now c.begin_at.new.self c.in_ok-begin_at.ensures.grows c.begin_at.ensures.arrivals
    c.in_ok-begin_at.ensures.others

pub returns-in_default-clause-search : goal.returns-in_default-clause-search
returns-in_default-clause-search g c = λ exact s.
    search_finished c.args.view.now.circuit.now (waves_of c.args.view.now.waves.now)
    c.args.self.now.known.entries c.finish.new.self.known.entries c.args.frames.now.items c.args.frame s
    c.in_ok-finish.ensures.others c.in_ok-finish.ensures.keeps
    (λ few. c.in_ok-finish.ensures.done exact few (c.in_default.ensures.none
    (s.passed (length c.args.frames.now.items) c.args.frame
    (get_end c.args.frames.now.items c.args.frame))))

pub returns-in_default-clause-count : goal.returns-in_default-clause-count
returns-in_default-clause-count g c =
    let more = c.in_ok-finish.ensures.count in
    omega (arith, more)

pub returns-clause-search : goal.returns-clause-search
returns-clause-search g c = λ exact s.
    let circuit = c.args.view.now.circuit.now in
    let ws = waves_of c.args.view.now.waves.now in
    let old = c.args.self.now.known.entries in
    let new = c.begin_at.new.self.known.entries in
    let rest = c.args.frames.now.items in
    let frame = c.args.frame in
    let b = c.in-Some.behind in
    let found = c.in-Some.ensures.some in
    either (is_some (known_of old b))
    (λ some.
    let same = c.in_ok-begin_at.ensures.again some in
    subst (λ (l : List Frame). IsSearch circuit ws new l) (sym same.1)
    (subst (λ es. IsSearch circuit ws es []) (sym same.0)
    (search_closed circuit ws old old rest frame s c.requires.circuit b found.1.0 found.1.1 some found.0)))
    (λ none.
    let begun = c.in_ok-begin_at.ensures.begun none in
    subst (λ (l : List Frame). IsSearch circuit ws new l)
    (sym (begun.1 ∙ ap (λ (l : List Frame). l ++ record { place = b; pin = 0 } ∷ [])
    c.in_ok-push.ensures.items))
    (search_begun circuit ws old new rest frame s b found.1.0 c.in-Some.pin found.1.1 none found.2 begun.0))

pub returns-clause-count : goal.returns-clause-count
returns-clause-count g c =
    let old = c.args.self.now.known.entries in
    let rest = c.args.frames.now.items in
    either (is_some (known_of old c.in-Some.behind))
    (λ some.
    let same = c.in_ok-begin_at.ensures.again some in
    let none = ap length same.1 in
    let entries = ap length same.0 in
    omega (arith, none, entries))
    (λ none.
    let begun = c.in_ok-begin_at.ensures.begun none in
    let first = ap length begun.1 in
    let again = ap length c.in_ok-push.ensures.items in
    let one = push_long c.push.new.self.items (record { place = c.in-Some.behind; pin = 0 }) in
    let two = push_long rest (record { place = c.args.frame.place; pin = c.in-Some.pin }) in
    let more = begun.2 in
    let small = begun.3 in
    omega (arith, first, again, one, two, more, small))

pub returns-in_default-clause-fresh : goal.returns-in_default-clause-fresh
returns-in_default-clause-fresh g c = λ before s.
    fresh_finished before c.args.self.now.known.entries c.finish.new.self.known.entries
    c.args.frames.now.items c.args.frame c.in_ok-finish.ensures.others s

pub returns-clause-fresh : goal.returns-clause-fresh
returns-clause-fresh g c = λ before s.
    let old = c.args.self.now.known.entries in
    let new = c.begin_at.new.self.known.entries in
    let rest = c.args.frames.now.items in
    let b = c.in-Some.behind in
    either (is_some (known_of old b))
    (λ some.
    let same = c.in_ok-begin_at.ensures.again some in
    subst (λ (l : List Frame). IsFresh before new l) (sym same.1)
    (subst (λ es. IsFresh before es []) (sym same.0)
    (fresh_closed before old (rest ++ c.args.frame ∷ []) s)))
    (λ none.
    let begun = c.in_ok-begin_at.ensures.begun none in
    subst (λ (l : List Frame). IsFresh before new l)
    (sym (begun.1 ∙ ap (λ (l : List Frame). l ++ record { place = b; pin = 0 } ∷ [])
    c.in_ok-push.ensures.items))
    (fresh_begun before old new b none begun.0 rest c.args.frame c.in-Some.pin s))

pub returns-in_default-clause-more : goal.returns-in_default-clause-more
returns-in_default-clause-more g c = c.in_ok-finish.ensures.more

pub returns-clause-more : goal.returns-clause-more
returns-clause-more g c =
    subst (Extends c.args.self.now.arrivals) (sym c.begin_at.ensures.arrivals)
    (extends_none c.args.self.now.arrivals)
