use Rattle.std.proofs.Common.{◌≡◌, ℕ, ◌+◌, ◌-◌, ◌<◌, append-nil, ap, refl, sym, ◌∙◌, subst, arith, Some}
use Rattle.scald_base.specs.Time.{period}
use Rattle.fixpoint_engine.specs.Waves.{waves_of}
use Rattle.critical_paths.specs.declared.event.Stop.{Stop}
use Rattle.critical_paths.specs.declared.path.Passage.{Passage}
use Rattle.critical_paths.specs.declared.path.Paths.{Paths}
use Rattle.critical_paths.specs.Known.{Grows, Has, IsBegun, are_met, path_known, stop_after}
use Rattle.critical_paths.specs.Walk.{path_of_stop}
use Rattle.critical_paths.proofs.Memo.{noted_is}
use Rattle.critical_paths.proofs.Settles.{begin_more_at, grows_then, known_within, short_node, small_circuit, small_stops}
use Rattle.critical_paths.proofs.Staying.{stays}
use Rattle.critical_paths.proofs.path.Paths.link.Goals as goal
use Rattle.critical_paths.proofs.path.Paths.link.Goals.{in-Some+in_ok-number, in_default}

pub loop-back-init : goal.loop-back-init
loop-back-init g c =
    let same : c.args.past ≡ c.args.past - 0 = omega arith in
    record {
      begun = subst (λ (k : ℕ). IsBegun c.args.view.now.circuit.now
          (waves_of c.args.view.now.waves.now) c.args.self.now.nodes
          c.args.self.now.met.entries c.args.chain.now.entries c.args.stop (c.args.last, k)) same
          c.requires.begun;
      grows = record { more = _; is = sym (append-nil c.args.self.now.nodes) };
      known = refl;
      arrivals = refl;
    }

pub add-requires-clause-new : goal.add-requires-clause-new
add-requires-clause-new g c =
    let inside = c.loop-back-test.true in
    c.loop-back.invariant.begun.new (c.args.past - 1 - c.loop-back.back) (
      c.in-Some.event.now,
      c.in-Some.passage.now,
    ) (omega (arith, inside))
    (sym c.in-Some.ensures.entry)

pub add-requires-clause-next : goal.add-requires-clause-next
add-requires-clause-next g c =
    let begun = c.loop-back.invariant.begun in
    known_within c.args.view.now.circuit.now (waves_of c.args.view.now.waves.now)
    c.loop-back.self.nodes c.loop-back.self.met.entries
    (stop_after c.args.chain.now.entries c.args.stop (c.args.past - c.loop-back.back))
    c.loop-back.number begun.knows begun.has

pub add-requires-clause-short : goal.add-requires-clause-short
add-requires-clause-short g c =
    let circuit = c.args.view.now.circuit.now in
    let begun = c.loop-back.invariant.begun in
    let p = c.period-period in
    short_node circuit (waves_of c.args.view.now.waves.now) c.loop-back.self.nodes
    c.loop-back.self.met.entries
    (stop_after c.args.chain.now.entries c.args.stop (c.args.past - c.loop-back.back))
    c.loop-back.number begun.knows begun.has
    (small_stops circuit (small_circuit circuit p.result p.ensures.is p.ensures.shortest
    p.ensures.longest c.requires.sees.circuit.few_nets))

pub add-requires-clause-passage : goal.add-requires-clause-passage
add-requires-clause-passage g c =
    (c.requires.stops (c.args.past - 1 - c.loop-back.back) (
      c.in-Some.event.now,
      c.in-Some.passage.now,
    ) (sym c.in-Some.ensures.entry)).short

pub loop-back-preserved : goal.loop-back-preserved
loop-back-preserved g c =
    let circuit = c.args.view.now.circuit.now in
    let ws = waves_of c.args.view.now.waves.now in
    let nodes = c.loop-back.self.nodes in
    let met = c.loop-back.self.met.entries in
    let chain = c.args.chain.now.entries in
    let t = c.args.stop in
    let number = c.loop-back.number in
    let place = c.args.past - 1 - c.loop-back.back in
    let inside = c.loop-back-test.true in
    let p = c.period-period in
    let shortest = p.ensures.shortest in
    let some : 0 < period circuit.header = omega (arith, shortest, p.ensures.is) in
    let begun = subst (λ (k : ℕ). IsBegun circuit ws nodes met chain t (number, k))
    (omega (arith, inside)) c.loop-back.invariant.begun in
    elim c.match-get_index.branch [
      | in-Some+in_ok-number w ↦
          let e : Stop × Passage = (w.in-Some.event.now, w.in-Some.passage.now) in
          let next =
          begin_more_at circuit ws t.corner (stays circuit ws some c.requires.sees.circuit t.corner)
          nodes met chain t number place e
          c.requires.leads c.requires.stops c.requires.apart begun (sym w.in-Some.ensures.entry)
          w.in_ok-number.ensures.near w.add.new.self.nodes
          w.add.new.self.met.entries c.match-get_index.number w.in_ok-number.ensures.nodes
          w.in_ok-number.ensures.met
          (cc w.in_ok-number.ensures.number) in
          let here : place ≡ c.args.past - (c.loop-back.back + 1) = omega (arith, inside) in
          record {
            begun = subst (λ (s : Paths). IsBegun circuit ws s.nodes s.met.entries chain t
                (c.match-get_index.number, c.args.past - (c.loop-back.back + 1)))
                (sym w.self-is)
                (subst (λ (k : ℕ). IsBegun circuit ws w.add.new.self.nodes
                w.add.new.self.met.entries chain t (c.match-get_index.number, k)) here next.0);
            grows = grows_then c.args.self.now.nodes nodes c.match-get_index.self.nodes
                c.loop-back.invariant.grows
                (subst (λ (s : Paths). Grows nodes s.nodes) (sym w.self-is) next.1);
            known = ap (λ (s : Paths). s.known.entries) w.self-is ∙ w.in_ok-number.ensures.known
                ∙ c.loop-back.invariant.known;
            arrivals = ap (λ (s : Paths). s.arrivals) w.self-is ∙ w.in_ok-number.ensures.arrivals
                ∙ c.loop-back.invariant.arrivals;
          }
      | in_default w ↦
          let within = begun.within in
          let f = w.in_default.ensures.found.1 (omega (arith, within, inside)) in absurd (cc)
    ]

pub returns-clause-knows : goal.returns-clause-knows
returns-clause-knows g c = c.loop-back.invariant.begun.knows

pub returns-clause-grows : goal.returns-clause-grows
returns-clause-grows g c = c.loop-back.invariant.grows

pub returns-clause-known : goal.returns-clause-known
returns-clause-known g c = c.loop-back.invariant.known

pub returns-clause-arrivals : goal.returns-clause-arrivals
returns-clause-arrivals g c = c.loop-back.invariant.arrivals

pub returns-clause-path : goal.returns-clause-path
returns-clause-path g c =
    let circuit = c.args.view.now.circuit.now in
    let ws = waves_of c.args.view.now.waves.now in
    let nodes = c.loop-back.self.nodes in
    let met = c.loop-back.self.met.entries in
    let chain = c.args.chain.now.entries in
    let t = c.args.stop in
    let past = c.loop-back-test.false in
    let begun = c.loop-back.invariant.begun in
    let done : c.args.past - c.loop-back.back ≡ 0 = omega (arith, past) in
    subst (λ (k : ℕ). path_known nodes c.loop-back.number
    ≡ Some (path_of_stop circuit ws (stop_after chain t k))) done
    (noted_is circuit ws nodes (are_met met) (stop_after chain t (c.args.past - c.loop-back.back))
    c.loop-back.number
    (begun.knows.each (stop_after chain t (c.args.past - c.loop-back.back)) c.loop-back.number
    begun.has))

pub returns-clause-has : goal.returns-clause-has
returns-clause-has g c =
    let past = c.loop-back-test.false in
    let done : c.args.past - c.loop-back.back ≡ 0 = omega (arith, past) in
    subst (λ (k : ℕ). Has c.loop-back.self.met.entries (stop_after c.args.chain.now.entries
    c.args.stop k) c.loop-back.number) done
    c.loop-back.invariant.begun.has
