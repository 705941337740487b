use Rattle.std.proofs.Common.{◌≡◌, ◌∙◌, ap, subst, sym, true, Option, ℕ}
use Rattle.std.specs.Prelude.{IfSome, is_some}
use Rattle.std.proofs.lemmas.Result.{on_ok_weaker}
use Rattle.fixpoint_engine.specs.Waves.{waves_of}
use Rattle.critical_paths.specs.declared.arrival.Place.{Place}
use Rattle.critical_paths.specs.declared.path.Passage.{Passage}
use Rattle.critical_paths.specs.Reached.{IsBehind, IsFew, is_done}
use Rattle.critical_paths.proofs.Appended.{range_done}
use Rattle.critical_paths.proofs.Exact.{done_ranged}
use Rattle.critical_paths.proofs.path.Paths.add_through.Goals as goal

pub returns-in_default-range-clause-fits : goal.returns-in_default-range-clause-fits
returns-in_default-range-clause-fits g c = λ exact found.
    let circuit = c.args.view.now.circuit.now in
    let ws = waves_of c.args.view.now.waves.now in
    let so = subst (λ (o : Option (Place × Passage)). IfSome o (λ (f : Place × Passage).
    (is_done c.args.self.now.known.entries f.0 ≡ true) × IsFew circuit ws f.0)) c.in-Some.is found in
    sym (ap (λ (o : Option (ℕ × ℕ)). is_some o) c.in_default-range.is)
    ∙ ap (λ (o : Option (ℕ × ℕ)). is_some o) c.range.ensures.is
    ∙ done_ranged circuit ws c.args.self.now c.in-Some.behind exact so.0

pub returns-clause-ways : goal.returns-clause-ways
returns-clause-ways g c = λ exact.
    on_ok_weaker c.add_some.result
    (λ ways is. ways c.in-Some.behind
    (subst (λ (o : Option (Place × Passage)). IfSome o (IsBehind c.args.view.now.circuit.now c.args.place))
    c.in-Some.is is)
    (exact.ways c.in-Some.behind c.in-Some-range.numbers.0 c.in-Some-range.numbers.1
    (range_done c.args.self.now.known.entries _ c.in-Some.behind c.in-Some-range.numbers
    (sym c.range.ensures.is ∙ c.in-Some-range.is))))
    c.add_some.ensures.ways
