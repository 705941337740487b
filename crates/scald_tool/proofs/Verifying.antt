-- The answer of `verify` after what was there.
use Rattle.std.proofs.Common.{◌≡◌, ℕ, true, List, ◌++◌, ap, subst, ◌∙◌, Option}
use Rattle.listing.specs.declared.case.Mode.{Mode}
use Rattle.scald_base.specs.declared.outcome.Outcome.{Outcome}
use Rattle.scald_base.specs.declared.outcome.Outcome.TheVariants.{NoMemory}
use Rattle.scald_tool.specs.declared.words.Command.TheVariants.{Verify}
use Rattle.scald_tool.specs.Answer.{Verified}
use Rattle.scald_tool.specs.Promise.{IsVerified, may_give}
use Rattle.scald_tool.proofs.Judgement.{one_reply}

pub put_behind : (mode : Mode) (rounds : Option ℕ) (text : List ℕ) (o : Outcome) (bytes piece before after : List ℕ) → Verified mode rounds text o bytes → piece ≡ bytes → after ≡ before ++ piece →
    IsVerified mode rounds text o before after
put_behind mode rounds text o bytes piece before after is same put = record {
  bytes = bytes;
  is = is;
  only = λ p others other. one_reply (Verify mode rounds) text p o others bytes other is;
  put = put ∙ ap (λ (b : List ℕ). before ++ b) same;
}

-- an answer that `verify` gives is no want of memory
pub given_remembers : (mode : Mode) (rounds : Option ℕ) (o : Outcome) (X : Type 0) → may_give (Verify mode rounds) o ≡ true → o ≡ NoMemory → X
given_remembers mode rounds o X given none = absurd (let silent : may_give (Verify mode rounds) NoMemory ≡ true = subst (λ (p : Outcome). may_give (Verify mode rounds) p ≡ true) none given in cc)
