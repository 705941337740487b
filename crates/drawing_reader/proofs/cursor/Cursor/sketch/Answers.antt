use Rattle.std.proofs.Common.{sym, ◌∙◌, map}
use Rattle.std.proofs.lemmas.Result.{err_from_is_err_and}
use Rattle.drawing_tree.specs.Tree.{macro_of, statements_of}
use Rattle.drawing_grammar.specs.Edition.{edition_of}
use Rattle.drawing_grammar.specs.Grammar.{from_macros}
use Rattle.drawing_grammar.proofs.Moves.{moves, stops, reshaped}
use Rattle.drawing_reader.specs.Reader.{tokens_at}
use Rattle.drawing_reader.specs.Sketched.{constants_of}
use Rattle.drawing_reader.proofs.Sketches.{headed_so}
use Rattle.drawing_reader.proofs.cursor.Cursor.sketch.Goals as goal

pub returns-in_err-header : goal.returns-in_err-header
returns-in_err-header c = record {
  reads = let p = err_from_is_err_and c.from_residual.result c.from_residual.ensures.1 in
      rw (p.1, p.2) (λ rest. c.in_err-header.ensures.reads (edition_of (tokens_at c.args.self.now)) _);
}

pub returns-in_err-constants : goal.returns-in_err-constants
returns-in_err-constants c =
    let e = c.edition_by-edition.result in
    let k = sym (c.edition_by-edition.ensures ∙ c.in_ok-header.ensures.version) in
    record {
      reads = let p = err_from_is_err_and c.from_residual-in_err-constants.result c.from_residual-in_err-constants.ensures.1 in
          rw (p.1, p.2, k) (λ rest. stops (c.in_ok-header.ensures.reads e _) (c.in_err-constants.ensures.reads (from_macros e) _));
    }

pub returns-in_err-macros : goal.returns-in_err-macros
returns-in_err-macros c =
    let e = c.edition_by-edition.result in
    let k = sym (c.edition_by-edition.ensures ∙ c.in_ok-header.ensures.version) in
    record {
      reads = let p = err_from_is_err_and c.from_residual-in_err-macros.result c.from_residual-in_err-macros.ensures.1 in
          rw (p.1, p.2, k) (λ rest. stops (moves (c.in_ok-header.ensures.reads e _) (c.in_ok-constants.ensures.reads (from_macros e) _))
          (c.in_err-macros.ensures.reads _));
    }

pub returns-in_err-name : goal.returns-in_err-name
returns-in_err-name c =
    let e = c.edition_by-edition.result in
    let k = sym (c.edition_by-edition.ensures ∙ c.in_ok-header.ensures.version) in
    record {
      reads = let p = err_from_is_err_and c.from_residual-in_err-name.result c.from_residual-in_err-name.ensures.1 in
          rw (p.1, p.2, k) (λ rest. stops (moves (moves (c.in_ok-header.ensures.reads e _) (c.in_ok-constants.ensures.reads (from_macros e) _))
          (c.in_ok-macros.ensures.reads _)) (c.in_err-name.ensures.reads _));
    }

pub returns-in_err-cases : goal.returns-in_err-cases
returns-in_err-cases c =
    let e = c.edition_by-edition.result in
    let k = sym (c.edition_by-edition.ensures ∙ c.in_ok-header.ensures.version) in
    record {
      reads = let p = err_from_is_err_and c.from_residual-in_err-cases.result c.from_residual-in_err-cases.ensures.1 in
          rw (p.1, p.2, k) (λ rest. stops (moves (moves (moves (c.in_ok-header.ensures.reads e _)
          (c.in_ok-constants.ensures.reads (from_macros e) _)) (c.in_ok-macros.ensures.reads _)) (c.in_ok-name.ensures.reads.leads _))
          (c.in_err-cases.ensures.reads _));
    }

pub returns : goal.returns
returns c =
    let e = c.edition_by-edition.result in
    let k = sym (c.edition_by-edition.ensures ∙ c.in_ok-header.ensures.version) in
    record {
      reads =
          rw (k, c.in_ok-name.ensures.reads.is)
          (λ rest. reshaped _ (moves (moves (moves (moves (c.in_ok-header.ensures.reads e _)
          (c.in_ok-constants.ensures.reads (from_macros e) _)) (c.in_ok-macros.ensures.reads _)) (c.in_ok-name.ensures.reads.leads _))
          (c.in_ok-cases.ensures.reads _))
          (λ v. headed_so e rest c.in_ok-header.header (constants_of c.in_ok-constants.constants) (
            record { macros = map macro_of c.in_ok-macros.macros; heads = c.in_ok-macros.heads },
            (c.in_ok-name.ensures.reads.word, (statements_of c.in_ok-name.body.items, (c.in_ok-cases.cases, v))),
          ) c.in_ok-constants.ensures.none));
    }
