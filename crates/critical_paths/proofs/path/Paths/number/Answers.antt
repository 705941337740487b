use Rattle.std.proofs.Common.{◌≡◌, ℕ, Option, MatchOption, false, sym, subst, ◌∙◌}
use Rattle.critical_paths.specs.Known.{Has, are_met}
use Rattle.critical_paths.proofs.Keys.{got}
use Rattle.critical_paths.proofs.path.Paths.number.Goals as goal

pub returns : goal.returns
returns c =
    let es = c.args.self.now.met.entries in
    subst (λ (o : Option ℕ). MatchOption o (are_met es c.args.stop ≡ false) (Has es c.args.stop))
    (sym (c.copied.ensures ∙ c.get.ensures.value))
    (got es c.args.stop)
