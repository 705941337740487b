use Rattle.std.proofs.Common.{◌≡◌, [], ◌∷◌, ◌-◌, true, false, not, true≢false, sym, ◌∙◌}
use Rattle.std.proofs.lemmas.Result.{on_ok_weaker}
use Rattle.step_values.specs.Steps.{has}
use Rattle.run_clauses.specs.declared.fact.Fact.TheVariants.{First, Net}
use Rattle.run_clauses.specs.Forms.{said}
use Rattle.run_clauses.proofs.Holding.{not_both}
use Rattle.run_clauses.proofs.Pushing.{added}
use Rattle.run_clauses.proofs.breaks.add_lacking_step.Goals as goal

pub returns-then-permits : goal.returns-then-permits
returns-then-permits c =
    let t = c.args.tick in
    let was = Net c.args.net (t - 1) in
    let here = Net c.args.net t in
    on_ok_weaker c.push.result
    (λ e bits is hold.
    added bits c.args.formula.now c.push.new.self
    (said (First t) false ∷ said was (not c.args.before) ∷ said here (not c.args.after) ∷ []) (cc)
    (not_both bits (First t) was here c.args.before c.args.after
    (λ first before after.
    let permitted : has c.args.value c.args.before c.args.after ≡ true = cc in
    let same : has c.args.value (bits was) (bits here) ≡ true = cc in
    true≢false (sym same ∙ is first))) hold)
    c.push.ensures
