use Rattle.std.proofs.Common.{◌+◌, ap, subst, sym, ◌∙◌, cond, length, Bool, List, Some}
use Rattle.fixpoint_engine.specs.Waves.{waves_of}
use Rattle.critical_paths.specs.declared.arrival.Known.TheVariants.{Done}
use Rattle.critical_paths.specs.declared.gather.Reached.{Reached}
use Rattle.critical_paths.specs.Reached.{AreArrivals, AreWays, gathered, is_done_known, known_of}
use Rattle.critical_paths.proofs.Exact.{exact_done, extends_none}
use Rattle.critical_paths.proofs.Places.{place_self}
use Rattle.critical_paths.proofs.Search.{done_stays}
use Rattle.critical_paths.proofs.path.Paths.finish.Goals as goal

pub returns-clause-exact : goal.returns-clause-exact
returns-clause-exact g c = λ exact.
    let circuit = c.args.view.now.circuit.now in
    let ws = waves_of c.args.view.now.waves.now in
    let are = c.in_ok-add_all.ensures.are exact c.new-found.ensures c.if-not-branch.false in
    let ways = c.in_ok-add_all.ensures.ways exact c.new-found.ensures in
    exact_done circuit ws c.args.self.now c.append_all.new.self c.args.place c.as_slice.result.now exact
    (subst (λ (l : List Reached). AreArrivals circuit ws c.args.place (gathered l)) (sym c.as_slice.ensures) are)
    (subst (AreWays circuit ws c.args.self.now.nodes c.args.place) (sym c.as_slice.ensures) ways)
    c.in_ok-append_all.ensures.known c.in_ok-append_all.ensures.arrivals c.in_ok-append_all.ensures.grows
    c.in_ok-append_all.ensures.more c.in_ok-append_all.ensures.stand

pub returns-clause-others : goal.returns-clause-others
returns-clause-others g c = λ q other.
    c.in_ok-append_all.ensures.known q
    ∙ ap (λ (b : Bool). cond b (Some (Done (length c.args.self.now.arrivals)
    (length c.args.self.now.arrivals + length c.as_slice.result.now)))
    (known_of c.args.self.now.known.entries q)) other

pub returns-then-not-branch-clause-more : goal.returns-then-not-branch-clause-more
returns-then-not-branch-clause-more g c = extends_none c.args.self.now.arrivals

pub returns-clause-more : goal.returns-clause-more
returns-clause-more g c = c.in_ok-append_all.ensures.more

pub returns-clause-keeps : goal.returns-clause-keeps
returns-clause-keeps g c = done_stays c.args.self.now.known.entries _ c.args.place _ _
    c.in_ok-append_all.ensures.known

pub returns-clause-done : goal.returns-clause-done
returns-clause-done g c = λ exact few done.
    ap is_done_known (c.in_ok-append_all.ensures.known c.args.place
    ∙ ap (λ (b : Bool). cond b (Some (Done (length c.args.self.now.arrivals)
    (length c.args.self.now.arrivals + length c.as_slice.result.now)))
    (known_of c.args.self.now.known.entries c.args.place)) (place_self c.args.place))

pub returns-then-not-branch-clause-done : goal.returns-then-not-branch-clause-done
returns-then-not-branch-clause-done g c = λ exact few done.
    let fits = c.in_ok-add_all.ensures.fits exact few done in
    let not_fits = c.if-not-branch.true in
    absurd (cc)
