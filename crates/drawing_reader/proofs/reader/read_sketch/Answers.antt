use Rattle.std.proofs.Common.{Ok, Err}
use Rattle.std.proofs.lemmas.Result.{err_from_is_err_and}
use Rattle.drawing_grammar.specs.Lexeme.{lexemes}
use Rattle.drawing_grammar.proofs.Whole.{ending}
use Rattle.drawing_reader.proofs.Answered.{stops_so, only_sketch, only_refusal, found_so}
use Rattle.drawing_reader.proofs.reader.read_sketch.Goals as goal

pub returns-in_err-sketch-clause-refused : goal.returns-in_err-sketch-clause-refused
returns-in_err-sketch-clause-refused c = let h = rw c.of.ensures at c.in_err-sketch.ensures.reads in let p =
    err_from_is_err_and c.from_residual.result c.from_residual.ensures.1 in rw (p.1, p.2)
    (stops_so (lexemes c.args.text.now c.args.tokens) (Err c.in_err-sketch.field-0.0) (ending c.args.text.now c.args.tokens c.requires) h)

pub returns-in_err-sketch-clause-only_sketch : goal.returns-in_err-sketch-clause-only_sketch
returns-in_err-sketch-clause-only_sketch c = let h = rw c.of.ensures at c.in_err-sketch.ensures.reads in let p =
    err_from_is_err_and c.from_residual.result c.from_residual.ensures.1 in
    rw (p.1, p.2) (λ s r. only_sketch (lexemes c.args.text.now c.args.tokens) (Err c.in_err-sketch.field-0.0) h s r)

pub returns-in_err-sketch-clause-only_refusal : goal.returns-in_err-sketch-clause-only_refusal
returns-in_err-sketch-clause-only_refusal c = let h = rw c.of.ensures at c.in_err-sketch.ensures.reads in let p =
    err_from_is_err_and c.from_residual.result c.from_residual.ensures.1 in
    rw (p.1, p.2) (λ r i. only_refusal (lexemes c.args.text.now c.args.tokens) (Err c.in_err-sketch.field-0.0) h r i)

pub returns-clause-found : goal.returns-clause-found
returns-clause-found c = let h = rw c.of.ensures at c.in_ok-sketch.ensures.reads in found_so (lexemes c.args.text.now c.args.tokens) (Ok c.in_ok-sketch.sketch) h

pub returns-clause-only_sketch : goal.returns-clause-only_sketch
returns-clause-only_sketch c = let h = rw c.of.ensures at c.in_ok-sketch.ensures.reads in λ s r. only_sketch (lexemes c.args.text.now c.args.tokens) (Ok c.in_ok-sketch.sketch) h s r

pub returns-clause-only_refusal : goal.returns-clause-only_refusal
returns-clause-only_refusal c = let h = rw c.of.ensures at c.in_ok-sketch.ensures.reads in λ r i. only_refusal (lexemes c.args.text.now c.args.tokens) (Ok c.in_ok-sketch.sketch) h r i
