use Rattle.std.proofs.Common.{◌++◌, List, length, refl, sym, subst, ap, ◌∙◌, append-nil, arith, cond, take, Some}
use Rattle.std.proofs.lemmas.List.{length-take-le, take_all}
use Rattle.std.proofs.lemmas.Option.{slice_get_within}
use Rattle.critical_paths.specs.declared.arrival.Known.TheVariants.{Done}
use Rattle.critical_paths.specs.declared.gather.Reached.{Reached}
use Rattle.critical_paths.specs.Reached.{Extends, gathered, known_of, same_place, times}
use Rattle.critical_paths.proofs.Arriving.{grows_none, grows_one}
use Rattle.critical_paths.proofs.Appended.{append_one, long_appended}
use Rattle.critical_paths.proofs.Exact.{extends_none, extends_one, stand_one, stand_same, times_appended}
use Rattle.critical_paths.proofs.Settles.{grows_then}
use Rattle.critical_paths.proofs.path.Paths.append_all.Goals as goal

pub loop-number-init : goal.loop-number-init
loop-number-init c = record {
  grows = grows_none c.args.self.now.nodes;
  met = refl;
  known = refl;
  arrivals = sym (append-nil (times c.args.self.now.arrivals));
  more = extends_none c.args.self.now.arrivals;
  stand = λ k a less at. absurd (omega (arith, less));
}

pub loop-number-preserved : goal.loop-number-preserved
loop-number-preserved c =
    let so = c.loop-number.invariant in
    let new = c.in_ok-append.ensures.arrivals in
    let arrivals = append_one (times c.args.self.now.arrivals) (times c.loop-number.self.arrivals)
    (times c.append.new.self.arrivals) c.args.found.now c.loop-number.number c.reached_at.result
    c.reached_at.ensures
    (times_appended c.loop-number.self.arrivals c.append.new.self.arrivals c.reached_at.result
    (length c.loop-number.self.nodes) new) so.arrivals in
    let within = slice_get_within c.args.found.now c.loop-number.number c.reached_at.result c.reached_at.ensures in
    let taken = length-take-le c.loop-number.number c.args.found.now (omega (arith, within)) in
    let long = long_appended c.args.self.now.arrivals c.loop-number.self.arrivals
    (take c.loop-number.number c.args.found.now) so.arrivals in
    record {
      grows = grows_then c.args.self.now.nodes c.loop-number.self.nodes _
          so.grows (grows_one c.loop-number.self.nodes _ c.reached_at.result.event c.in_ok-append.ensures.nodes);
      met = c.in_ok-append.ensures.met ∙ so.met;
      known = c.in_ok-append.ensures.known ∙ so.known;
      arrivals = arrivals;
      more = extends_one c.args.self.now.arrivals c.loop-number.self.arrivals c.append.new.self.arrivals
          c.reached_at.result (length c.loop-number.self.nodes) so.more new;
      stand = stand_one c.loop-number.self c.append.new.self (length c.args.self.now.arrivals)
          c.loop-number.number c.args.found.now c.reached_at.result c.reached_at.ensures
          (omega (arith, taken, long)) new c.in_ok-append.ensures.nodes so.stand;
    }

pub returns-clause-known : goal.returns-clause-known
returns-clause-known c = λ q.
    let so = c.loop-number.invariant in
    let whole = so.arrivals
    ∙ ap (λ (l : List Reached). times c.args.self.now.arrivals ++ gathered l)
    (take_all c.loop-number.number c.args.found.now c.loop-number-test.false) in
    let past = c.len-past.ensures
    ∙ long_appended c.args.self.now.arrivals c.loop-number.self.arrivals c.args.found.now whole in
    c.in_ok-set_known.ensures.known q
    ∙ (λ i. cond (same_place c.args.place q) (Some (Done (c.len-from.ensures i) (past i))) (known_of (so.known i) q))

pub returns-clause-arrivals : goal.returns-clause-arrivals
returns-clause-arrivals c =
    let so = c.loop-number.invariant in
    ap times c.set_known.ensures.arrivals ∙ so.arrivals
    ∙ ap (λ (l : List Reached). times c.args.self.now.arrivals ++ gathered l)
    (take_all c.loop-number.number c.args.found.now c.loop-number-test.false)

pub returns-clause-stand : goal.returns-clause-stand
returns-clause-stand c =
    let past = c.loop-number-test.false in
    stand_same c.loop-number.self c.set_known.new.self (length c.args.self.now.arrivals) c.args.found.now
    c.set_known.ensures.nodes c.set_known.ensures.arrivals
    (λ k a less at. c.loop-number.invariant.stand k a (omega (arith, less, past)) at)

pub returns-clause-more : goal.returns-clause-more
returns-clause-more c =
    subst (Extends c.args.self.now.arrivals) (sym c.set_known.ensures.arrivals) c.loop-number.invariant.more

pub returns-clause-count : goal.returns-clause-count
returns-clause-count c =
    let same = ap length c.loop-number.invariant.known in
    let count = c.in_ok-set_known.ensures.count in
    omega (arith, same, count)
