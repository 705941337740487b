use Rattle.std.proofs.Common.{ℕ, List, [], sym, ap, ◌∙◌}
use Rattle.drawing_grammar.specs.declared.terminal.Terminal.TheVariants as is
use Rattle.drawing_reader.specs.Reader.{tokens_at}
use Rattle.drawing_grammar.proofs.Moves.{refuses}
use Rattle.drawing_grammar.specs.Lexeme.{lexemes}
use Rattle.drawing_grammar.proofs.Moves.{mark_stops}
use Rattle.drawing_reader.proofs.Answered.{end_missing, end_there, more_there}
use Rattle.drawing_reader.proofs.cursor.Cursor.finish.Goals as goal

pub returns-then-is_done : goal.returns-then-is_done
returns-then-is_done c = record { reads = rw c.refused.ensures (refuses (end_missing (tokens_at c.args.self.now) c.args.self.now.operators (c.is_done.ensures.yes (cc)))) }

pub returns-then-not-starts : goal.returns-then-not-starts
returns-then-not-starts c =
    record {
      reads = rw c.refused-then-not-starts.ensures
          (refuses (mark_stops is.EndOfText c.args.self.now.operators (tokens_at c.args.self.now) (c.starts.ensures.no (cc)) []));
    }

pub returns-then-not-done : goal.returns-then-not-done
returns-then-not-done c = let x = ap (λ (y : List ℕ). lexemes y c.advance.new.self.rest) c.advance.ensures.text in
    record {
      reads = rw (c.refused-then-not-done.ensures, x)
          (refuses (more_there c.args.self.now.text.now c.args.self.now.rest c.advance.new.self.rest c.args.self.now.operators
          c.advance.ensures.rest (c.is_done.ensures.no (cc)) (c.starts.ensures.yes (cc)) (λ z. c.is_done-done.ensures.no (cc) (x ∙ z))));
    }

pub returns : goal.returns
returns c = let x = ap (λ (y : List ℕ). lexemes y c.advance.new.self.rest) c.advance.ensures.text in
    record {
      reads = end_there c.args.self.now.text.now c.args.self.now.rest c.advance.new.self.rest c.args.self.now.operators
          c.advance.ensures.rest (c.is_done.ensures.no (cc)) (c.starts.ensures.yes (cc)) (sym x ∙ c.is_done-done.ensures.yes (cc));
    }
