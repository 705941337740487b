use Rattle.std.proofs.Common.{refl, sym, subst, arith}
use Rattle.std.proofs.lemmas.List.{append-nil}
use Rattle.scald_lex.specs.declared.piece.Piece.TheVariants.{Space, LineEnd, Comment, Lexeme}
use Rattle.scald_lex.specs.Scan.{IsStop}
use Rattle.scald_lex.proofs.Pieces.{advances}
use Rattle.scald_lex.proofs.Spelt.{spelt}
use Rattle.scald_lex.proofs.Coded.{has_code}
use Rattle.scald_lex.proofs.Cuts.{on_line_fits, line_fits, takes_on_line, takes_line_end, stands_here, none_here, refused_here, listed}
use Rattle.scald_lex.proofs.scan.Scan.step.Goals as goal

pub returns-in_default-clause-refused : goal.returns-in_default-clause-refused
returns-in_default-clause-refused c =
    let s = c.args.self.now in
    subst (IsStop c.args.text.now) (sym c.refused.ensures)
    (refused_here c.args.text.now s c.requires.read c.requires.allowed c.requires.more (none_here c.args.text.now s.at c.front.result c.front.ensures c.in_default.is))

pub move_on-requires-clause-col : goal.move_on-requires-clause-col
move_on-requires-clause-col c =
    let s = c.args.self.now in
    let stands = stands_here c.args.text.now s.at c.front.result c.in-Some.piece Space c.front.ensures c.in-Some.is c.in-Space.is in
    (on_line_fits c.args.text.now s 1 c.requires.read c.requires.short (advances _ Space stands)).1

pub end_line-requires-clause-line : goal.end_line-requires-clause-line
end_line-requires-clause-line c = line_fits c.args.text.now c.args.self.now c.requires.read c.requires.more c.requires.short

pub move_on-requires-in-Comment-clause-at : goal.move_on-requires-in-Comment-clause-at
move_on-requires-in-Comment-clause-at c =
    let s = c.args.self.now in
    let stands = stands_here c.args.text.now s.at c.front.result c.in-Some.piece (Comment c.in-Comment.count) c.front.ensures c.in-Some.is c.in-Comment.is in
    (on_line_fits c.args.text.now s c.in-Comment.count c.requires.read c.requires.short (advances _ (Comment c.in-Comment.count) stands)).0

pub move_on-requires-in-Comment-clause-col : goal.move_on-requires-in-Comment-clause-col
move_on-requires-in-Comment-clause-col c =
    let s = c.args.self.now in
    let stands = stands_here c.args.text.now s.at c.front.result c.in-Some.piece (Comment c.in-Comment.count) c.front.ensures c.in-Some.is c.in-Comment.is in
    (on_line_fits c.args.text.now s c.in-Comment.count c.requires.read c.requires.short (advances _ (Comment c.in-Comment.count) stands)).1

pub push-requires-clause-coded : goal.push-requires-clause-coded
push-requires-clause-coded c =
    let s = c.args.self.now in
    let piece = Lexeme c.in-Lexeme.kind c.in-Lexeme.count in
    has_code c.in-Lexeme.kind _ (spelt _ piece
    (stands_here c.args.text.now s.at c.front.result c.in-Some.piece piece c.front.ensures c.in-Some.is c.in-Lexeme.is))

pub push-requires-clause-fits : goal.push-requires-clause-fits
push-requires-clause-fits c =
    let s = c.args.self.now in
    let piece = Lexeme c.in-Lexeme.kind c.in-Lexeme.count in
    let stands = stands_here c.args.text.now s.at c.front.result c.in-Some.piece piece c.front.ensures c.in-Some.is c.in-Lexeme.is in
    (on_line_fits c.args.text.now s c.in-Lexeme.count c.requires.read c.requires.short (advances _ piece stands)).0

pub move_on-requires-in-Lexeme-clause-at : goal.move_on-requires-in-Lexeme-clause-at
move_on-requires-in-Lexeme-clause-at c =
    let s = c.args.self.now in
    let piece = Lexeme c.in-Lexeme.kind c.in-Lexeme.count in
    let stands = stands_here c.args.text.now s.at c.front.result c.in-Some.piece piece c.front.ensures c.in-Some.is c.in-Lexeme.is in
    rw c.in_ok-push-in-Lexeme.ensures (on_line_fits c.args.text.now s c.in-Lexeme.count c.requires.read c.requires.short (advances _ piece stands)).0

pub move_on-requires-in-Lexeme-clause-col : goal.move_on-requires-in-Lexeme-clause-col
move_on-requires-in-Lexeme-clause-col c =
    let s = c.args.self.now in
    let piece = Lexeme c.in-Lexeme.kind c.in-Lexeme.count in
    let stands = stands_here c.args.text.now s.at c.front.result c.in-Some.piece piece c.front.ensures c.in-Some.is c.in-Lexeme.is in
    rw c.in_ok-push-in-Lexeme.ensures (on_line_fits c.args.text.now s c.in-Lexeme.count c.requires.read c.requires.short (advances _ piece stands)).1

pub returns-in-Space-clause-read : goal.returns-in-Space-clause-read
returns-in-Space-clause-read c =
    let s = c.args.self.now in
    let stands = stands_here c.args.text.now s.at c.front.result c.in-Some.piece Space c.front.ensures c.in-Some.is c.in-Space.is in
    rw c.move_on.ensures (takes_on_line c.args.text.now s _ Space c.requires.read stands (advances _ Space stands) refl (sym (append-nil s.list)) refl)

pub returns-in-LineEnd-clause-read : goal.returns-in-LineEnd-clause-read
returns-in-LineEnd-clause-read c =
    let s = c.args.self.now in
    let stands = stands_here c.args.text.now s.at c.front.result c.in-Some.piece LineEnd c.front.ensures c.in-Some.is c.in-LineEnd.is in
    rw c.end_line.ensures (takes_line_end c.args.text.now s _ c.requires.read c.requires.more stands refl refl refl)

pub returns-in-Comment-clause-read : goal.returns-in-Comment-clause-read
returns-in-Comment-clause-read c =
    let s = c.args.self.now in
    let piece = Comment c.in-Comment.count in
    let stands = stands_here c.args.text.now s.at c.front.result c.in-Some.piece piece c.front.ensures c.in-Some.is c.in-Comment.is in
    rw c.move_on-in-Comment.ensures (takes_on_line c.args.text.now s _ piece c.requires.read stands (advances _ piece stands) refl (sym (append-nil s.list)) refl)

pub returns-in-Comment-clause-further : goal.returns-in-Comment-clause-further
returns-in-Comment-clause-further c =
    let s = c.args.self.now in
    let piece = Comment c.in-Comment.count in
    let stands = stands_here c.args.text.now s.at c.front.result c.in-Some.piece piece c.front.ensures c.in-Some.is c.in-Comment.is in
    let some = (advances _ piece stands).some in
    rw c.move_on-in-Comment.ensures (omega arith)

pub returns-in_ok-push-in-Lexeme-clause-read : goal.returns-in_ok-push-in-Lexeme-clause-read
returns-in_ok-push-in-Lexeme-clause-read c =
    let s = c.args.self.now in
    let piece = Lexeme c.in-Lexeme.kind c.in-Lexeme.count in
    let stands = stands_here c.args.text.now s.at c.front.result c.in-Some.piece piece c.front.ensures c.in-Some.is c.in-Lexeme.is in
    rw (c.move_on-in-Lexeme.ensures, c.in_ok-push-in-Lexeme.ensures) (takes_on_line c.args.text.now s _ piece
    c.requires.read stands (advances _ piece stands) refl (listed c.args.text.now s c.in-Lexeme.kind c.in-Lexeme.count c.requires.read) refl)

pub returns-in_ok-push-in-Lexeme-clause-further : goal.returns-in_ok-push-in-Lexeme-clause-further
returns-in_ok-push-in-Lexeme-clause-further c =
    let s = c.args.self.now in
    let piece = Lexeme c.in-Lexeme.kind c.in-Lexeme.count in
    let stands = stands_here c.args.text.now s.at c.front.result c.in-Some.piece piece c.front.ensures c.in-Some.is c.in-Lexeme.is in
    let some = (advances _ piece stands).some in
    rw (c.move_on-in-Lexeme.ensures, c.in_ok-push-in-Lexeme.ensures) (omega arith)
