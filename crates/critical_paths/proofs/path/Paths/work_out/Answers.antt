use Rattle.std.proofs.Common.{◌≡◌, ◌∙◌, ◌++◌, ◌∷◌, [], List, length, ap, refl, sym, subst, arith, false}
use Rattle.std.specs.Prelude.{is_some}
use Rattle.fixpoint_engine.specs.Waves.{waves_of}
use Rattle.critical_paths.specs.declared.frames.Frame.{Frame}
use Rattle.critical_paths.specs.Reached.{Extends, IsFresh, IsSearch, known_of}
use Rattle.critical_paths.proofs.Arriving.{knows_grown}
use Rattle.critical_paths.proofs.Exact.{exact_grown, extends_none, extends_then}
use Rattle.critical_paths.proofs.Fresh.{fresh_first}
use Rattle.critical_paths.proofs.Places.{stays_then}
use Rattle.critical_paths.proofs.Search.{few_of, none_taken, search_first, search_over}
use Rattle.critical_paths.proofs.Settles.{grows_then}
use Rattle.critical_paths.proofs.Walks.{push_long}
use Rattle.critical_paths.proofs.path.Paths.work_out.Goals as goal

pub places-init : goal.places-init
places-init g c =
    let circuit = c.args.view.now.circuit.now in
    let ws = waves_of c.args.view.now.waves.now in
    let none : is_some (known_of c.args.self.now.known.entries c.args.place) ≡ false =
    sym (c.is_some.ensures ∙ ap (λ o. is_some o) c.known.ensures) ∙ c.if-is_some.false in
    let begun = c.in_ok-begin_at.ensures.begun none in
    record {
      grows = c.in_ok-begin_at.ensures.grows;
      met = c.in_ok-begin_at.ensures.met;
      known = c.in_ok-begin_at.ensures.known;
      stays = c.in_ok-begin_at.ensures.stays;
      exact = exact_grown circuit ws c.args.self.now c.begin_at.new.self c.in_ok-begin_at.ensures.grows
          c.in_ok-begin_at.ensures.arrivals c.in_ok-begin_at.ensures.others;
      search = λ knows. subst (λ (l : List Frame). IsSearch circuit ws c.begin_at.new.self.known.entries l)
          (sym (begun.1 ∙ ap (λ (l : List Frame). l ++ record { place = c.args.place; pin = 0 } ∷ [])
          c.new-frames.ensures.items))
          (search_first circuit ws c.args.self.now.known.entries c.begin_at.new.self.known.entries
          c.args.place knows.ended begun.0);
      fresh = subst (λ (l : List Frame). IsFresh c.args.self.now.known.entries
          c.begin_at.new.self.known.entries l)
          (sym (begun.1 ∙ ap (λ (l : List Frame). l ++ record { place = c.args.place; pin = 0 } ∷ [])
          c.new-frames.ensures.items))
          (fresh_first c.args.self.now.known.entries c.args.self.now.known.entries
          c.begin_at.new.self.known.entries c.args.place none begun.0 (λ q some. refl));
      more = subst (Extends c.args.self.now.arrivals) (sym c.begin_at.ensures.arrivals)
          (extends_none c.args.self.now.arrivals);
    }

pub places-preserved : goal.places-preserved
places-preserved g c =
    let circuit = c.args.view.now.circuit.now in
    let ws = waves_of c.args.view.now.waves.now in
    let so = c.places.invariant in
    record {
      grows = grows_then c.args.self.now.nodes c.places.self.nodes _ so.grows
          c.in_ok-go_on.ensures.grows;
      met = c.in_ok-go_on.ensures.met ∙ so.met;
      known = c.in_ok-go_on.ensures.stays c.args.place so.known;
      stays = stays_then c.args.self.now.known.entries c.places.self.known.entries _
          so.stays c.in_ok-go_on.ensures.stays;
      exact = λ h. c.in_ok-go_on.ensures.exact (so.exact h);
      search = λ knows. c.in_ok-go_on.ensures.search (so.exact knows.exact)
          (subst (λ (l : List Frame). IsSearch circuit ws c.places.self.known.entries l)
          c.in-Some.ensures.items (so.search knows));
      fresh = c.in_ok-go_on.ensures.fresh c.args.self.now.known.entries
          (subst (λ (l : List Frame). IsFresh c.args.self.now.known.entries c.places.self.known.entries l)
          c.in-Some.ensures.items so.fresh);
      more = extends_then c.args.self.now.arrivals c.places.self.arrivals _ so.more
          c.in_ok-go_on.ensures.more;
    }

pub places-smaller : goal.places-smaller
places-smaller g c =
    let fewer = c.in_ok-go_on.ensures.count in
    let taken = ap length c.in-Some.ensures.items in
    let one = push_long c.pop.new.self.items c.in-Some.frame in
    omega (arith, fewer, taken, one)

pub returns-in_default-clause-knows : goal.returns-in_default-clause-knows
returns-in_default-clause-knows g c =
    knows_grown c.args.view.now.circuit.now (waves_of c.args.view.now.waves.now)
    c.args.self.now.nodes _ c.args.self.now.met.entries _ c.places.invariant.grows c.places.invariant.met

pub returns-in_default-clause-exact : goal.returns-in_default-clause-exact
returns-in_default-clause-exact g c = λ knows.
    record {
      exact = c.places.invariant.exact knows.exact;
      ended = subst (λ (l : List Frame). IsSearch c.args.view.now.circuit.now
          (waves_of c.args.view.now.waves.now) c.places.self.known.entries l)
          (none_taken c.places.frames.items c.pop.new.self.items _ c.in_default.ensures.cases.0
          c.in_default.ensures.rest c.in_default.ensures.items) (c.places.invariant.search knows);
    }

pub returns-in_default-clause-done : goal.returns-in_default-clause-done
returns-in_default-clause-done g c = λ knows net some.
    let circuit = c.args.view.now.circuit.now in
    let ws = waves_of c.args.view.now.waves.now in
    search_over circuit ws c.places.self.known.entries c.args.place
    (subst (λ (l : List Frame). IsSearch circuit ws c.places.self.known.entries l)
    (none_taken c.places.frames.items c.pop.new.self.items _ c.in_default.ensures.cases.0
    c.in_default.ensures.rest c.in_default.ensures.items) (c.places.invariant.search knows))
    c.places.invariant.known
    (few_of circuit ws c.args.place c.requires.circuit.few_nets net some)

pub returns-then-is_some-clause-done : goal.returns-then-is_some-clause-done
returns-then-is_some-clause-done g c = λ knows net some.
    let circuit = c.args.view.now.circuit.now in
    let ws = waves_of c.args.view.now.waves.now in
    search_over circuit ws c.args.self.now.known.entries c.args.place knows.ended
    (sym (c.is_some.ensures ∙ ap (λ o. is_some o) c.known.ensures) ∙ c.if-is_some.true)
    (few_of circuit ws c.args.place c.requires.circuit.few_nets net some)

pub returns-in_default-clause-same : goal.returns-in_default-clause-same
returns-in_default-clause-same g c = c.places.invariant.fresh.same

pub returns-in_default-clause-more : goal.returns-in_default-clause-more
returns-in_default-clause-more g c = c.places.invariant.more

pub returns-then-is_some-clause-same : goal.returns-then-is_some-clause-same
returns-then-is_some-clause-same g c = λ q some. refl

pub returns-then-is_some-clause-more : goal.returns-then-is_some-clause-more
returns-then-is_some-clause-more g c = extends_none c.args.self.now.arrivals
