use Rattle.std.proofs.Common.{◌≡◌, ℕ, ◌+◌, ◌-◌, ◌++◌, ◌∷◌, [], List, ap, sym, subst, ◌∙◌, arith}
use Rattle.critical_paths.specs.declared.event.Stop.{Stop}
use Rattle.critical_paths.specs.Known.{IsNumbered}
use Rattle.critical_paths.proofs.Turning.{numbered_all, numbered_more, unnumbered}
use Rattle.critical_paths.specs.declared.path.Paths.{Paths}
use Rattle.critical_paths.specs.declared.path.Passage.{Passage}
use Rattle.critical_paths.proofs.path.Paths.number_round.Goals as goal
use Rattle.critical_paths.proofs.path.Paths.number_round.Goals.{in-Some+in_ok-give_number, in_default}

pub give_number-requires : goal.give_number-requires
give_number-requires c =
    unnumbered c.args.self.now.met.entries c.args.chain.now.entries c.args.first c.args.base
    c.loop-place.place c.loop-place.self.met.entries
    (c.in-Some.stop.now, c.in-Some.field-0-1.now) c.loop-place.invariant.met c.requires.new
    c.requires.apart (sym c.in-Some.ensures.entry)

pub loop-place-preserved : goal.loop-place-preserved
loop-place-preserved c =
    let old = c.args.self.now.met.entries in
    let chain = c.args.chain.now.entries in
    let first = c.args.first in
    let base = c.args.base in
    let place = c.loop-place.place in
    let now = c.loop-place.self.met.entries in
    elim c.match-get_index.branch [
      | in-Some+in_ok-give_number w ↦
          let e : Stop × Passage = (w.in-Some.stop.now, w.in-Some.field-0-1.now) in
          let met : c.match-get_index.self.met.entries ≡ now ++ (e.0, base + (place - first)) ∷ [] =
          ap (λ (s : Paths). s.met.entries) w.self-is ∙ w.in_ok-give_number.ensures.met in
          record {
            nodes = ap (λ (s : Paths). s.nodes) w.self-is ∙ w.give_number.ensures.nodes
                ∙ c.loop-place.invariant.nodes;
            met = subst (λ (l : List (Stop × ℕ)). IsNumbered old chain first base (place + 1) l)
                (sym met)
                (numbered_more old chain first base place now e c.loop-place.invariant.met
                (omega arith) (sym w.in-Some.ensures.entry));
            known = ap (λ (s : Paths). s.known.entries) w.self-is ∙ w.give_number.ensures.known
                ∙ c.loop-place.invariant.known;
            arrivals = ap (λ (s : Paths). s.arrivals) w.self-is ∙ w.give_number.ensures.arrivals
                ∙ c.loop-place.invariant.arrivals;
          }
      | in_default w ↦ let f = w.in_default.ensures.found.1 (omega arith) in absurd (cc)
    ]

pub returns-clause-met : goal.returns-clause-met
returns-clause-met c =
    numbered_all c.args.self.now.met.entries c.args.chain.now.entries c.args.first c.args.base
    c.loop-place.place c.loop-place.self.met.entries
    c.loop-place.invariant.met (omega arith)
