-- What is known of a text when one more piece of it is read.
use Rattle.std.proofs.Common.{◌≡◌, ℕ, zero, suc, ◌+◌, ◌-◌, ◌<◌, ◌≤◌, true, List, [], ◌∷◌, ◌++◌, length, get_or, take, drop, Option, Some, None, refl, ap, sym, subst, ◌∙◌, arith, append_assoc, length-drop, eqb-true}
use Rattle.std.proofs.lemmas.List.{append-nil, take_rest}
use Rattle.std.proofs.lemmas.List.Sums.{prefix_len-le-length}
use Rattle.scald_base.specs.declared.refusal.Place.{Place}
use Rattle.scald_base.specs.declared.refusal.RefusalKind.TheVariants.{BadToken}
use Rattle.scald_lex.specs.declared.piece.Piece.{Piece}
use Rattle.scald_lex.specs.declared.piece.Piece.TheVariants.{LineEnd, Lexeme}
use Rattle.scald_lex.specs.declared.scan.Scan.{Scan}
use Rattle.scald_lex.specs.declared.token.Token.{Token}
use Rattle.scald_lex.specs.declared.token.TokenKind.{TokenKind}
use Rattle.scald_lex.specs.Bytes.{line_end, is_comment_byte}
use Rattle.scald_lex.specs.Piece.{begins_with, piece_at}
use Rattle.scald_lex.specs.Place.{next_place, place_at}
use Rattle.scald_lex.specs.Tokens.{size, IsCut, token_of, tokens_of, IsAllowed, IsRefused, bad_token}
use Rattle.scald_lex.specs.Scan.{IsRead}
use Rattle.scald_lex.proofs.Places.{place_along, place_near, place_next}
use Rattle.scald_lex.proofs.Pieces.{IsOnLine, advances}

pub cut_more : (text : List ℕ) (from : ℕ) (ps : List Piece) (to : ℕ) (p : Piece) → IsCut text from ps to → piece_at (drop to text) ≡ Some p → IsCut text from (ps ++ p ∷ []) (to + size p)
cut_more text from [] to p e h = subst (λ (i : ℕ). (piece_at (drop i text) ≡ Some p) × (i + size p ≡ to + size p)) (sym e) (h, refl)
cut_more text from (q ∷ ps) to p cut h = (cut.0, cut_more text (from + size q) ps to p cut.1 h)

pub tokens_more : (text : List ℕ) (from : ℕ) (ps : List Piece) (to : ℕ) (p : Piece) → IsCut text from ps to → tokens_of text from (ps ++ p ∷ []) ≡ tokens_of text from ps ++ token_of text to p
tokens_more text from [] to p e = append-nil (token_of text from p) ∙ ap (λ (i : ℕ). token_of text i p) e
tokens_more text from (q ∷ ps) to p cut =
    ap (λ (ts : List Token). token_of text from q ++ ts) (tokens_more text (from + size q) ps to p cut.1)
    ∙ sym (append_assoc (token_of text from q) (tokens_of text (from + size q) ps) (token_of text to p))

-- The piece that stands here is read.
pub record Takes (text : List ℕ) (s s' : Scan) (p : Piece) : Type 0 where
  pub stands : piece_at (drop s.at text) ≡ Some p
  pub at : s'.at ≡ s.at + size p
  pub list : s'.list ≡ s.list ++ token_of text s.at p
  pub place : s'.place ≡ place_at text (s.at + size p)
  pub within : s.at + size p ≤ length text

pub read_more : (text : List ℕ) (s s' : Scan) (p : Piece) → IsRead text s → Takes text s s' p → IsRead text s'
read_more text s s' p read takes = record {
  pieces = read.pieces ++ p ∷ [];
  cut = subst (λ (i : ℕ). IsCut text 0 (read.pieces ++ p ∷ []) i) (sym takes.at) (cut_more text 0 read.pieces s.at p read.cut takes.stands);
  list = takes.list ∙ ap (λ (ts : List Token). ts ++ token_of text s.at p) read.list ∙ sym (tokens_more text 0 read.pieces s.at p read.cut);
  place = takes.place ∙ ap (place_at text) (sym takes.at);
  within = let h = takes.within in let e = takes.at in omega arith;
}

-- A piece on the line ends in the text.
pub ends_within : (text : List ℕ) (at count : ℕ) → IsOnLine count (drop at text) → at + count ≤ length text
ends_within text at count is =
    let on = is.on_line in
    let some = is.some in
    omega (arith, prefix_len-le-length is_comment_byte (drop at text), length-drop at text)

-- The numbers of a place here and after a piece on the line fit.
pub on_line_fits : (text : List ℕ) (s : Scan) (count : ℕ) → IsRead text s → length text < 4294967295 →
    IsOnLine count (drop s.at text) → (s.at + count < 4294967296) × (s.place.col + count < 4294967296)
on_line_fits text s count read short is =
    let ends = ends_within text s.at count is in
    let near = (place_near text s.at read.within).col in
    let here : s.place.col ≡ (place_at text s.at).col = ap (λ (p : Place). p.col) read.place in
    (omega arith, omega arith)

pub line_fits : (text : List ℕ) (s : Scan) → IsRead text s → s.at < length text → length text < 4294967295 → s.place.line + 1 < 4294967296
line_fits text s read more short =
    let near = (place_near text s.at read.within).line in
    let here : s.place.line ≡ (place_at text s.at).line = ap (λ (p : Place). p.line) read.place in
    omega arith

-- What reading a piece on the line does.
pub takes_on_line : (text : List ℕ) (s s' : Scan) (p : Piece) → IsRead text s → piece_at (drop s.at text) ≡ Some p → IsOnLine (size p) (drop s.at text) →
    s'.at ≡ s.at + size p → s'.list ≡ s.list ++ token_of text s.at p → s'.place ≡ record { line = s.place.line; col = s.place.col + size p } → IsRead text s'
takes_on_line text s s' p read stands is at list place = read_more text s s' p read (record {
  stands = stands;
  at = at;
  list = list;
  place = place ∙ ap (λ (q : Place). record { line = q.line; col = q.col + size p }) read.place ∙ sym (place_along text s.at (size p) is.on_line);
  within = ends_within text s.at (size p) is;
})

pub begins_at : (b : ℕ) (xs : List ℕ) (i : ℕ) → begins_with b (drop i xs) ≡ true → get_or xs i 0 ≡ b
begins_at b [] zero h = absurd cc
begins_at b [] (suc i) h = absurd cc
begins_at b (x ∷ xs) zero h = eqb-true x b h
begins_at b (x ∷ xs) (suc i) h = begins_at b xs i h

line_ends : (text : List ℕ) (at : ℕ) → at < length text → begins_with line_end (drop at text) ≡ true → place_at text (at + 1) ≡ record { line = (place_at text at).line + 1; col = 1 }
line_ends text at h ends = place_next text at h ∙ ap (next_place (place_at text at)) (begins_at line_end text at ends)

pub takes_line_end : (text : List ℕ) (s s' : Scan) → IsRead text s → s.at < length text → piece_at (drop s.at text) ≡ Some LineEnd →
    s'.at ≡ s.at + 1 → s'.list ≡ s.list → s'.place ≡ record { line = s.place.line + 1; col = 1 } → IsRead text s'
takes_line_end text s s' read more stands at list place = read_more text s s' LineEnd read (record {
  stands = stands;
  at = at;
  list = list ∙ sym (append-nil s.list);
  place = place ∙ ap (λ (q : Place). record { line = q.line + 1; col = 1 }) read.place ∙ sym (line_ends text s.at more (advances (drop s.at text) LineEnd stands));
  within = omega arith;
})

-- What stands in front of the rest of a text from here on.
pub stands_here : (text : List ℕ) (at : ℕ) (o : Option Piece) (p q : Piece) → o ≡ piece_at (take (length text - at) (drop at text)) → o ≡ Some p → p ≡ q → piece_at (drop at text) ≡ Some q
stands_here text at o p q e is same = sym (ap piece_at (take_rest text at)) ∙ sym e ∙ is ∙ ap (λ (x : Piece). Some x) same

pub none_here : (text : List ℕ) (at : ℕ) (o : Option Piece) → o ≡ piece_at (take (length text - at) (drop at text)) → o ≡ None → piece_at (drop at text) ≡ None
none_here text at o e is = sym (ap piece_at (take_rest text at)) ∙ sym e ∙ is

-- If no piece begins the text is refused.
pub refused_here : (text : List ℕ) (s : Scan) → IsRead text s → IsAllowed text → s.at < length text → piece_at (drop s.at text) ≡ None → IsRefused text (record { kind = BadToken; place = s.place })
refused_here text s read allowed more none = bad_token s.at
    (record { allowed = allowed; within = more; pieces = read.pieces; before = read.cut; bad = none })
    (ap (λ (p : Place). record { kind = BadToken; place = p }) read.place)

-- The token that is listed here is the piece's.
pub listed : (text : List ℕ) (s : Scan) (kind : TokenKind) (count : ℕ) → IsRead text s →
    s.list ++ record { kind = kind; place = s.place; start = s.at; end = s.at + count } ∷ [] ≡ s.list ++ token_of text s.at (Lexeme kind count)
listed text s kind count read = ap (λ (p : Place). s.list ++ record { kind = kind; place = p; start = s.at; end = s.at + count } ∷ []) read.place
