use Rattle.std.proofs.Common.{◌+◌, length, ap, sym, subst, ◌∙◌, arith}
use Rattle.critical_paths.specs.declared.event.Stop.{Stop}
use Rattle.critical_paths.specs.declared.path.Passage.{Passage}
use Rattle.critical_paths.specs.declared.path.Paths.{Paths}
use Rattle.critical_paths.specs.Known.{IsRound}
use Rattle.critical_paths.proofs.Turning.{round_more_at}
use Rattle.critical_paths.proofs.path.Paths.push_round.Goals as goal
use Rattle.critical_paths.proofs.path.Paths.push_round.Goals.{in-Some+in_ok-push, in_default}

pub loop-place-preserved : goal.loop-place-preserved
loop-place-preserved c =
    let old = c.args.self.now.nodes in
    let chain = c.args.chain.now.entries in
    let first = c.args.first in
    let place = c.loop-place.place in
    let now = c.loop-place.self.nodes in
    elim c.match-get_index.branch [
      | in-Some+in_ok-push w ↦
          let e : Stop × Passage = (w.in-Some.stop.now, w.in-Some.passage.now) in
          let next =
          round_more_at old chain first place _ now e c.loop-place.invariant.nodes (omega arith)
          (sym w.in-Some.ensures.entry)
          (length c.as_slice-base.result.now) c.len-past.result w.next_in_round.result
          (ap length c.as_slice-base.ensures) c.len-past.ensures.len w.next_in_round.ensures
          w.push.new.self.nodes w.in_ok-push.ensures.nodes in
          record {
            nodes = subst (λ (s : Paths). IsRound old chain first (place + 1) _ s.nodes)
                (sym w.self-is) next;
            met = ap (λ (s : Paths). s.met) w.self-is ∙ w.push.ensures.met
                ∙ c.loop-place.invariant.met;
            known = ap (λ (s : Paths). s.known.entries) w.self-is ∙ w.push.ensures.known
                ∙ c.loop-place.invariant.known;
            arrivals = ap (λ (s : Paths). s.arrivals) w.self-is ∙ w.push.ensures.arrivals
                ∙ c.loop-place.invariant.arrivals;
          }
      | in_default w ↦ let f = w.in_default.ensures.found.1 (omega arith) in absurd (cc)
    ]
