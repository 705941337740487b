use Rattle.std.proofs.Common.{◌∙◌, sym, subst, refl}
use Rattle.macro_expander.specs.Cases.{entry_name}
use Rattle.case_analysis.specs.Listed.{IsJudged}
use Rattle.case_analysis.proofs.Entries.{judged, unnamed}
use Rattle.case_analysis.proofs.case_list.value_of.Goals as goal

pub returns-in-None-clause-judged : goal.returns-in-None-clause-judged
returns-in-None-clause-judged c = unnamed c.args.c.now c.args.named.now c.args.entry.now (rw c.in-None.is at c.in_ok-net_named.ensures)

pub returns-then-may_set-clause-judged : goal.returns-then-may_set-clause-judged
returns-then-may_set-clause-judged c =
    subst (IsJudged c.args.c.now c.args.named.now c.args.entry.now) (sym c.may_set.ensures ∙ c.if-may_set.true)
    (judged c.args.c.now c.known.ensures (entry_name c.args.entry.now) c.in-Some.net (rw c.in-Some.is at c.in_ok-net_named.ensures) c.args.named.now c.args.entry.now refl)

pub returns-else-may_set-clause-judged : goal.returns-else-may_set-clause-judged
returns-else-may_set-clause-judged c =
    subst (IsJudged c.args.c.now c.args.named.now c.args.entry.now) (sym c.may_set.ensures ∙ c.if-may_set.false)
    (judged c.args.c.now c.known.ensures (entry_name c.args.entry.now) c.in-Some.net (rw c.in-Some.is at c.in_ok-net_named.ensures) c.args.named.now c.args.entry.now refl)
