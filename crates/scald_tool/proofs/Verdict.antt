-- The outcome of a report.
use Rattle.std.proofs.Common.{◌≡◌, ℕ, Bool, true, false, cond, refl, sym, ap, ◌∙◌}
use Rattle.std.specs.Prelude.{◌==◌, Option}
use Rattle.std.proofs.lemmas.Bool.{eqb-true}
use Rattle.listing.specs.declared.case.Mode.{Mode}
use Rattle.scald_base.specs.declared.outcome.Outcome.{Outcome}
use Rattle.scald_base.specs.declared.outcome.Outcome.TheVariants.{Clean, Faulty}
use Rattle.scald_tool.specs.declared.words.Command.TheVariants.{Verify}
use Rattle.program_call.specs.Answer.{verdict_of}
use Rattle.scald_tool.specs.Promise.{may_give}

-- `verify` may give it
pub verdict_given : (mode : Mode) (rounds : Option ℕ) (n : ℕ) (o : Outcome) → o ≡ verdict_of n →
    may_give (Verify mode rounds) o ≡ true
verdict_given mode rounds n o e = ap (may_give (Verify mode rounds)) e ∙ either (n == 0) n
  where
    either : (none : Bool) (n : ℕ) → may_give (Verify mode rounds) (cond none Clean (Faulty n)) ≡ true
    either true n = refl
    either false n = refl

-- it is clean only if there is no fault
pub verdict_clean : (n : ℕ) (o : Outcome) → o ≡ verdict_of n → o ≡ Clean → n ≡ 0
verdict_clean n o e is = either (n == 0) refl (sym e ∙ is)
  where
    either : (none : Bool) → none ≡ (n == 0) → cond none Clean (Faulty n) ≡ Clean → n ≡ 0
    either true same e = eqb-true n 0 (sym same)
    either false same e = absurd cc
