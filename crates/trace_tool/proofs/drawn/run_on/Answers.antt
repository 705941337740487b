use Rattle.std.proofs.Common.{ℕ, ap, sym, subst, ◌∙◌}
use Rattle.std.specs.Option.{option_copied}
use Rattle.case_analysis.specs.Listed.{IsListed}
use Rattle.trace_tool.specs.declared.outcome.TraceOutcome.TheVariants.{NoCase}
use Rattle.trace_tool.proofs.Replying.{listed_at, no_case_reply, none_reply, nothing_listed, past_last, some_reply}
use Rattle.trace_tool.proofs.drawn.run_on.Goals as goal

pub run_in-requires : goal.run_in-requires
run_in-requires c = subst (IsListed c.args.c.now) (sym c.new.ensures) (nothing_listed c.args.c.now)

pub run_in-requires-in-Some-get : goal.run_in-requires-in-Some-get
run_in-requires-in-Some-get c =
    listed_at c.args.c.now c.args.cases.now _ c.in-Some-get.values.now c.requires.listed (sym c.get.ensures ∙ ap option_copied c.in-Some-get.is)

pub returns-in-None : goal.returns-in-None
returns-in-None c =
    none_reply c.args.asked c.args.name.now c.args.c.now c.args.cases.now c.run_in-in-None.result c.new.result c.in-None.is c.new.ensures
    c.run_in-in-None.ensures

pub returns-in-None-get : goal.returns-in-None-get
returns-in-None-get c =
    no_case_reply c.args.asked c.args.name.now c.args.c.now c.args.cases.now c.in-Some.k c.silent.result.outcome c.silent.result.bytes
    c.in-Some.is
    (past_last c.args.cases.now c.args.asked.case c.in-Some.k c.in-Some.is c.requires.from_one (sym c.get.ensures ∙ ap option_copied c.in-None-get.is))
    (c.silent.ensures.outcome ∙ ap (λ (n : ℕ). NoCase n) c.len.ensures)
    c.silent.ensures.bytes

pub returns-in-Some-get : goal.returns-in-Some-get
returns-in-Some-get c =
    some_reply c.args.asked c.args.name.now c.args.c.now c.args.cases.now c.run_in-in-Some-get.result c.in-Some.k c.in-Some-get.values.now
    c.in-Some.is (sym c.get.ensures ∙ ap option_copied c.in-Some-get.is) c.run_in-in-Some-get.ensures
