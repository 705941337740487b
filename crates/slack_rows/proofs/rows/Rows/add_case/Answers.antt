use Rattle.std.proofs.Common.{◌≡◌, ℕ, ◌<◌, ◌++◌, ◌∷◌, [], List, Option, length, ap, sym, subst, ◌∙◌, arith, rules}
use Rattle.std.specs.Prelude.{slice_get}
use Rattle.std.proofs.lemmas.List.{length-map, length-set}
use Rattle.fixpoint_engine.specs.Waves.{waves_of}
use Rattle.slack_rows.specs.declared.parameter.Parameter.{Parameter}
use Rattle.slack_rows.specs.declared.rows.Least.{Least}
use Rattle.slack_rows.specs.Known.{AreKnown}
use Rattle.slack_rows.specs.Limit.{Case}
use Rattle.critical_paths.proofs.Exact.{knows_nothing}
use Rattle.slack_rows.proofs.Exactly.{exact_begin, exact_end, exact_more, lowered_is}
use Rattle.slack_rows.proofs.Keeping.{tells_now}
use Rattle.slack_rows.proofs.Levels.{read_at}
use Rattle.slack_rows.proofs.Sided.{alike_begin, alike_end, alike_more, lowered_breaks, lowered_free}
use Rattle.slack_rows.proofs.Stepwise.{passed_all, passed_more, passed_none}
use Rattle.slack_rows.proofs.rows.Rows.add_case.Goals as goal

pub loop-place-init : goal.loop-place-init
loop-place-init g c =
    let circuit = c.args.view.now.circuit.now in
    record {
      parameters = search rules;
      cases = search rules;
      period = search rules;
      knows = search rules;
      arrives = knows_nothing circuit (waves_of c.args.view.now.waves.now) _ c.next_case.ensures.known;
      slacks = tt;
      own = tt;
      exact = λ cases one waves known. exact_begin circuit cases one c.args.self.now.parameters c.args.self.now.least c.args.self.now.cases
          c.args.self.now.sets.keys known;
      passed = λ cases one waves known. passed_none circuit cases one c.args.self.now.parameters c.args.self.now.least c.args.self.now.cases
          c.args.self.now.sets.keys known;
      alike = λ cases one waves known are. alike_begin circuit cases one c.args.self.now.parameters are c.args.self.now.least c.args.self.now.cases
          c.args.self.now.sets.keys _ known;
    }

pub loop-place-preserved : goal.loop-place-preserved
loop-place-preserved g c =
    let circuit = c.args.view.now.circuit.now in
    let ws = waves_of c.args.view.now.waves.now in
    let limits = c.args.self.now.parameters in
    let least = c.loop-place.self.least in
    let place = c.loop-place.place in
    let kept = c.loop-place.invariant in
    let each = c.loop-place.self.each in
    let long = c.len-place-end.ensures in
    let less = c.loop-place-test.true in
    let same_limits : length c.loop-place.self.parameters ≡ length c.args.self.now.parameters =
    ap (λ (xs : List Parameter). length xs) c.loop-place.invariant.parameters in
    let inside : c.loop-place.place < length c.args.self.now.parameters = omega (arith, long, less) in
    let within : c.loop-place.place < length c.loop-place.self.least = omega (arith, long, less, each, same_limits) in
    let now : slice_get c.loop-place.self.least c.loop-place.place ≡ _ =
    ap (λ (xs : List (Option Least)). slice_get xs place) (sym c.as_slice-in-loop-place.ensures)
    ∙ read_at c.as_slice-in-loop-place.result.now place _
    (subst (λ (xs : List (Option Least)). place < length xs) (sym c.as_slice-in-loop-place.ensures) within) in
    let here : slice_get c.args.self.now.parameters c.loop-place.place ≡ _ =
    ap (λ (xs : List Parameter). slice_get xs place) (sym (c.as_slice.ensures ∙ kept.parameters))
    ∙ read_at c.as_slice.result.now place _
    (subst (λ (xs : List Parameter). place < length xs) (sym (c.as_slice.ensures ∙ kept.parameters)) inside) in
    record {
      parameters = kept.parameters;
      cases = kept.cases;
      period = kept.period;
      knows = c.in_ok-least.ensures.paths.knows;
      arrives = c.in_ok-least.ensures.paths.keeps (c.in_ok-slacks.ensures.paths.keeps kept.arrives);
      slacks = c.in_ok-slacks.ensures.finding;
      own = c.in_ok-slacks.ensures.are kept.arrives kept.own;
      exact = λ cases one waves known.
          exact_more circuit cases one ws limits least c.set.new.self place _ _ c.in_ok-least.least c.of.result c.in_ok-slacks.slacks waves here now
          c.set.ensures c.in_ok-slacks.ensures.finding (c.in_ok-slacks.ensures.are kept.arrives kept.own) c.of.ensures
          (lowered_is c.loop-place.self.sets.keys c.lowered.new.sets.keys _ c.in_ok-least.least c.of.result c.len-case.result c.in_ok-least.ensures.least)
          (kept.exact cases one waves known);
      passed = λ cases one waves known.
          (let numbers = length-map cases (λ (case : Case). case.number) in
          let count = ap (λ (xs : List ℕ). length xs) known.are_numbers in
          let case = c.len-case.ensures in
          passed_more circuit cases one limits least c.set.new.self c.loop-place.self.sets.keys c.lowered.new.sets.keys place _ _
          c.in_ok-least.least c.of.result c.len-case.result here now c.set.ensures (omega (arith, case, count, numbers))
          (tells_now circuit ws one c.in_ok-slacks.slacks limits place _ c.of.result c.of.ensures known.are_limits here waves
          c.in_ok-slacks.ensures.finding)
          c.in_ok-least.ensures.least (kept.passed cases one waves known));
      alike = λ cases one waves known are.
          alike_more circuit cases one limits are least c.set.new.self place _ _ c.in_ok-least.least c.loop-place.subject c.loop-place.slacks
          c.in_ok-slacks.slacks ws here now c.set.ensures (ap (λ (xs : List (Option Least)). length xs) c.set.ensures ∙ length-set least place c.in_ok-least.least)
          (kept.alike cases one waves known are) c.in_ok-slacks.ensures.same waves c.in_ok-slacks.ensures.finding
          c.of.result c.of.ensures
          (lowered_breaks c.loop-place.self.sets.keys c.lowered.new.sets.keys _ c.in_ok-least.least c.of.result c.len-case.result c.in_ok-least.ensures.least)
          (lowered_free c.loop-place.self.sets.keys c.lowered.new.sets.keys _ c.in_ok-least.least c.of.result c.len-case.result c.in_ok-least.ensures.least);
    }

pub returns-clause-known : goal.returns-clause-known
returns-clause-known g c = λ cases one number waves known.
    let circuit = c.args.view.now.circuit.now in
    let limits = c.args.self.now.parameters in
    let long = c.len-place-end.ensures in
    let past = c.loop-place-test.false in
    subst (λ (xs : List Parameter). AreKnown circuit (cases ++ one ∷ []) xs c.loop-place.self.least c.push.new.self c.loop-place.self.sets.keys)
    (sym c.loop-place.invariant.parameters)
    (passed_all circuit cases one limits c.loop-place.self.least c.loop-place.self.sets.keys c.loop-place.place c.args.self.now.cases
    c.push.new.self (omega (arith, long, past)) known.are_numbers
    (c.in_ok-push.ensures.ok ∙ ap (λ (xs : List ℕ). xs ++ c.args.number ∷ []) c.loop-place.invariant.cases
    ∙ ap (λ (n : ℕ). c.args.self.now.cases ++ n ∷ []) (sym number))
    (c.loop-place.invariant.passed cases one waves known)
    (exact_end circuit cases one limits c.loop-place.self.least c.loop-place.place (omega (arith, long, past))
    (c.loop-place.invariant.exact cases one waves known))
    (alike_end circuit cases one limits known.are_limits c.loop-place.self.least c.loop-place.place c.loop-place.subject c.loop-place.slacks
    (omega (arith, long, past)) (c.loop-place.invariant.alike cases one waves known known.are_limits)))
