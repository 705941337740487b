-- The tokens of a text are those that stand apart in it, and it is refused at its first cause.
use Rattle.std.proofs.Common.{◌≡◌, ℕ, suc, ◌+◌, ◌-◌, ◌<◌, true, List, [], ◌∷◌, ◌++◌, length, get_or, take, drop, Option, Some, None, refl, ap, sym, subst, ◌∙◌, arith, length-drop}
use Rattle.std.specs.Prelude.{slice_range}
use Rattle.std.proofs.lemmas.List.{drop_more}
use Rattle.scald_base.specs.declared.refusal.Place.{Place}
use Rattle.scald_lex.specs.declared.piece.Piece.{Piece}
use Rattle.scald_lex.specs.declared.piece.Piece.TheVariants.{Space, LineEnd, Comment, Lexeme}
use Rattle.scald_lex.specs.declared.token.Token.{Token}
use Rattle.scald_lex.specs.declared.token.TokenKind.{TokenKind}
use Rattle.scald_lex.specs.Piece.{piece_at}
use Rattle.scald_lex.specs.Place.{place_at}
use Rattle.scald_lex.specs.Tokens.{size, IsCut, token_of, tokens_of, end_token, IsAllowed, AreTokens, IsBadToken}
use Rattle.scald_lex.specs.Laws.{Spells}
use Rattle.scald_lex.specs.Between.{is_blank, DashesAt, IsGap, nothing, blank, comment}
use Rattle.scald_lex.specs.Causes.{HasCause}
use Rattle.scald_lex.specs.Apart.{IsTaken, Lead, AreApart, IsFirstCause, TokensAreApart, BadTokenAtFirstCause}
use Rattle.scald_lex.proofs.Caused.{caused_none, caused_some, none_caused}
use Rattle.scald_lex.proofs.OneKind.{one_kind, blank_begins_none}
use Rattle.scald_lex.proofs.Longest.{longest as longest_front}
use Rattle.scald_lex.proofs.OneOf.{one_of}
use Rattle.scald_lex.proofs.Spelt.{spelt}
use Rattle.scald_lex.proofs.Stands.{before_end, token_is}
use Rattle.scald_lex.proofs.Whole.{advance}
use Rattle.scald_lex.proofs.Comments.{means_here, dashes_piece, comment_length, comment_here}

-- ---- the token that is taken is the piece that stands there

no_dashes : (text : List ℕ) (at : ℕ) (kind : TokenKind) (count : ℕ) →
    piece_at (drop at text) ≡ Some (Lexeme kind count) → ¬ DashesAt text at
no_dashes text at kind count e d = let f = dashes_piece text at d in cc

no_cause : (text : List ℕ) (at : ℕ) (kind : TokenKind) (count : ℕ) →
    piece_at (drop at text) ≡ Some (Lexeme kind count) → ¬ HasCause (drop at text)
no_cause text at kind count e c = let f = caused_none (drop at text) c in cc

taken_here : (text : List ℕ) (at : ℕ) (kind : TokenKind) (count : ℕ) →
    piece_at (drop at text) ≡ Some (Lexeme kind count) →
    IsTaken text (record { kind = kind; place = place_at text at; start = at; end = at + count })
taken_here text at kind count e = record {
  is = token_is text at kind count e;
  longest = λ other end further within. longest_front (drop at text) kind count e other (end - at)
      (omega arith) (omega (arith, length-drop at text));
  no_comment = no_dashes text at kind count e;
  no_cause = no_cause text at kind count e;
}

no_blank : (text : List ℕ) (t : Token) → IsTaken text t → is_blank (get_or text t.start 0) ≡ true →
    ⊥
no_blank text t taken b =
    let is = taken.is in
    let some = is.some in
    let within = is.within in
    let front : slice_range text t.start t.end ≡ get_or text t.start 0 ∷ take (t.end - t.start - 1)
    (drop (t.start + 1) text) =
    ap (take (t.end - t.start)) (drop_more text t.start 0 (omega arith))
    ∙ ap (λ (n : ℕ). take n (get_or text t.start 0 ∷ drop (t.start + 1) text))
    (let e : t.end - t.start ≡ suc (t.end - t.start - 1) = omega arith in e) in
    blank_begins_none t.kind (get_or text t.start 0) (take (t.end - t.start - 1)
    (drop (t.start + 1) text)) b (subst (Spells t.kind) front is.spelled)

same_lexeme : (text : List ℕ) (t : Token) (kind : TokenKind) (count : ℕ) → IsTaken text t →
    piece_at (drop t.start text) ≡ Some (Lexeme kind count) →
    ◌≡◌ {A = Option Piece} (Some (Lexeme kind count)) (Some (Lexeme t.kind (t.end - t.start)))
same_lexeme text t kind count taken e =
    let rest = drop t.start text in
    let is = taken.is in
    let some = is.some in
    let within = is.within in
    let here = advance text t.start (Lexeme kind count) (before_end text t.start (Lexeme kind count)
    e) e in
    let ends = here.within in
    let spells : Spells kind (take count rest) = spelt rest (Lexeme kind count) e in
    let not_longer : count < t.end - t.start → ⊥ = λ h. longest_front rest kind count e t.kind
    (t.end - t.start) h (omega (arith, length-drop t.start text)) is.spelled in
    let not_shorter : t.end - t.start < count → ⊥ = λ h. taken.longest kind (t.start + count)
    (omega arith) ends
    (subst (λ (n : ℕ). Spells kind (take n rest)) (let f : count ≡ t.start + count - t.start =
    omega arith in f) spells) in
    let same : count ≡ t.end - t.start = omega (arith, not_longer, not_shorter) in
    let spells_here : Spells kind (slice_range text t.start t.end) =
    subst (λ (n : ℕ). Spells kind (take n rest)) same spells in
    let kinds : kind ≡ t.kind = one_kind (slice_range text t.start t.end) kind t.kind spells_here
    is.spelled in
    ap (λ (k : TokenKind). Some (Lexeme k count)) kinds ∙ ap (λ (n : ℕ). Some (Lexeme t.kind n))
    same

taken_by : (text : List ℕ) (t : Token) → IsAllowed text → IsTaken text t → (o : Option Piece) →
    piece_at (drop t.start text) ≡ o → o ≡ Some (Lexeme t.kind (t.end - t.start))
taken_by text t allowed taken None e =
    let some = taken.is.some in
    let within = taken.is.within in
    absurd (taken.no_cause (none_caused text t.start allowed (omega arith) e))
taken_by text t allowed taken (Some Space) e = absurd (no_blank text t taken
    (means_here text t.start Space (before_end text t.start Space e) e))
taken_by text t allowed taken (Some LineEnd) e = absurd (no_blank text t taken
    (means_here text t.start LineEnd (before_end text t.start LineEnd e) e))
taken_by text t allowed taken (Some (Comment count)) e =
    absurd (taken.no_comment (comment_here text t.start count e).dashes)
taken_by text t allowed taken (Some (Lexeme kind count)) e = same_lexeme text t kind count taken e

taken_piece : (text : List ℕ) (t : Token) → IsAllowed text → IsTaken text t →
    piece_at (drop t.start text) ≡ Some (Lexeme t.kind (t.end - t.start))
taken_piece text t allowed taken = let o = piece_at (drop t.start text) in
    taken_by text t allowed taken o refl

-- ---- from pieces to what stands apart

lead_on : (text : List ℕ) (from mid : ℕ) (ts : List Token) (to : ℕ) →
    ((x : ℕ) → IsGap text mid x → IsGap text from x) → Lead text mid ts to → Lead text from ts to
lead_on text from mid [] to f g = f to g
lead_on text from mid (t ∷ ts) to f l = (f t.start l.0, l.1, l.2)

lead_of : (text : List ℕ) (from : ℕ) (ps : List Piece) (to : ℕ) → IsCut text from ps to →
    Lead text from (tokens_of text from ps) to
lead_of text from [] to e = subst (IsGap text from) e (nothing from)
lead_of text from (Space ∷ ps) to cut =
    let h = before_end text from Space cut.0 in
    lead_on text from (from + 1) (tokens_of text (from + 1) ps) to
    (λ x g. blank from x h (means_here text from Space h cut.0) g)
    (lead_of text (from + 1) ps to cut.1)
lead_of text from (LineEnd ∷ ps) to cut =
    let h = before_end text from LineEnd cut.0 in
    lead_on text from (from + 1) (tokens_of text (from + 1) ps) to
    (λ x g. blank from x h (means_here text from LineEnd h cut.0) g)
    (lead_of text (from + 1) ps to cut.1)
lead_of text from (Comment count ∷ ps) to cut =
    lead_on text from (from + count) (tokens_of text (from + count) ps) to
    (λ x g. comment from (from + count) x (comment_here text from count cut.0) g)
    (lead_of text (from + count) ps to cut.1)
lead_of text from (Lexeme kind count ∷ ps) to cut = (
  nothing from,
  taken_here text from kind count cut.0,
  lead_of text (from + count) ps to cut.1,
)

-- ---- and back

-- pieces whose tokens these are
record HasCut (text : List ℕ) (from : ℕ) (ts : List Token) (to : ℕ) : Type 0 where
  pieces : List Piece
  cut : IsCut text from pieces to
  are : tokens_of text from pieces ≡ ts

-- the piece of a blank
record IsBlankPiece (text : List ℕ) (at : ℕ) (bs : List ℕ) (b : ℕ) : Type 0 where
  piece : Piece
  stands : piece_at (b ∷ bs) ≡ Some piece
  one : size piece ≡ 1
  silent : token_of text at piece ≡ []

blank_piece : (text : List ℕ) (at : ℕ) (bs : List ℕ) (b : ℕ) → is_blank b ≡ true →
    IsBlankPiece text at bs b
unfolding piece_at
blank_piece text at bs b h =
    one_of (IsBlankPiece text at bs) b (9 ∷ 10 ∷ 13 ∷ 32 ∷ []) (
      record { piece = Space; stands = refl; one = refl; silent = refl },
      (
        record { piece = LineEnd; stands = refl; one = refl; silent = refl },
        (
          record { piece = Space; stands = refl; one = refl; silent = refl },
          (record { piece = Space; stands = refl; one = refl; silent = refl }, tt),
        ),
      ),
    ) h

-- One more piece that is no token.
silent_first : (text : List ℕ) (from mid : ℕ) (ts : List Token) (to : ℕ) (p : Piece) →
    piece_at (drop from text) ≡ Some p → from + size p ≡ mid → token_of text from p ≡ [] →
    HasCut text mid ts to → HasCut text from ts to
silent_first text from mid ts to p e f none h = record {
  pieces = p ∷ h.pieces;
  cut = (e, subst (λ (i : ℕ). IsCut text i h.pieces to) (sym f) h.cut);
  are = ap (λ (xs : List Token). xs ++ tokens_of text (from + size p) h.pieces) none
      ∙ (ap (λ (i : ℕ). tokens_of text i h.pieces) f ∙ h.are);
}

gap_first : (text : List ℕ) {from mid : ℕ} → IsGap text from mid → (ts : List Token) (to : ℕ) →
    HasCut text mid ts to → HasCut text from ts to
gap_first text (nothing at) ts to h = h
gap_first text (blank at end l b g) ts to h =
    let is = blank_piece text at (drop (at + 1) text) (get_or text at 0) b in
    silent_first text at (at + 1) ts to is.piece (ap piece_at (drop_more text at 0 l) ∙ is.stands)
    (ap (λ (n : ℕ). at + n) is.one) is.silent (gap_first text g ts to h)
gap_first text (comment at over end c g) ts to h =
    let longer = c.longer in
    let stands : piece_at (drop at text) ≡ Some (Comment (over - at)) =
    dashes_piece text at c.dashes ∙ ap (λ (n : ℕ). Some (Comment n))
    (comment_length text at over c) in
    silent_first text at over ts to (Comment (over - at)) stands (omega arith) refl
    (gap_first text g ts to h)

token_first : (text : List ℕ) (t : Token) (ts : List Token) (to : ℕ) → IsAllowed text →
    IsTaken text t → HasCut text t.end ts to → HasCut text t.start (t ∷ ts) to
token_first text t ts to allowed taken h =
    let some = taken.is.some in
    let count = t.end - t.start in
    let there : t.start + count ≡ t.end = omega arith in
    let placed : ◌≡◌ {A = Token} (record {
      kind = t.kind;
      place = place_at text t.start;
      start =
          t.start;
      end = t.start + count;
    }) t =
    ap (λ (p : Place). let x : Token = record {
      kind = t.kind;
      place = p;
      start = t.start;
      end =
          t.start + count;
    } in x) (sym taken.is.place)
    ∙ ap (λ (n : ℕ). let x : Token = record {
      kind = t.kind;
      place = t.place;
      start = t.start;
      end =
          n;
    } in x) there in
    record {
      pieces = Lexeme t.kind count ∷ h.pieces;
      cut = (
        taken_piece text t allowed taken,
        subst (λ (i : ℕ). IsCut text i h.pieces to)
            (sym there) h.cut,
      );
      are = ap (λ (x : Token). x ∷ tokens_of text (t.start + count) h.pieces) placed
          ∙ ap (λ (xs : List Token). t ∷ xs) (ap (λ (i : ℕ). tokens_of text i h.pieces) there
          ∙ h.are);
    }

cut_of : (text : List ℕ) → IsAllowed text → (from : ℕ) (ts : List Token) (to : ℕ) →
    Lead text from ts to → HasCut text from ts to
cut_of text allowed from [] to g = gap_first text g [] to
    (record { pieces = []; cut = refl; are = refl })
cut_of text allowed from (t ∷ ts) to l = gap_first text l.0 (t ∷ ts) to
    (token_first text t ts to allowed l.1 (cut_of text allowed t.end ts to l.2))

-- ---- so both say the same

apart_of : (text : List ℕ) (tokens : List Token) → AreTokens text tokens → AreApart text tokens
apart_of text tokens are = record {
  allowed = are.allowed;
  before = tokens_of text 0 are.pieces;
  lead = lead_of text 0 are.pieces (length text) are.whole;
  are = are.are;
}

tokens_of_apart : (text : List ℕ) (tokens : List Token) → AreApart text tokens →
    AreTokens text tokens
tokens_of_apart text tokens apart =
    let h = cut_of text apart.allowed 0 apart.before (length text) apart.lead in
    record {
      allowed = apart.allowed;
      pieces = h.pieces;
      whole = h.cut;
      are = apart.are ∙ ap (λ (ts : List Token). ts ++ end_token text ∷ []) (sym h.are);
    }

pub tokens_are_apart : TokensAreApart
tokens_are_apart text tokens = (
  λ are. apart_of text tokens are,
  λ apart. tokens_of_apart text tokens apart,
)

first_cause : (text : List ℕ) (at : ℕ) → IsBadToken text at → IsFirstCause text at
first_cause text at bad = record {
  allowed = bad.allowed;
  before = tokens_of text 0 bad.pieces;
  lead = lead_of text 0 bad.pieces at bad.before;
  cause = none_caused text at bad.allowed bad.within bad.bad;
}

bad_token : (text : List ℕ) (at : ℕ) → IsFirstCause text at → IsBadToken text at
bad_token text at is =
    let h = cut_of text is.allowed 0 is.before at is.lead in
    let some = caused_some (drop at text) is.cause in
    record {
      allowed = is.allowed;
      within = omega (arith, length-drop at text);
      pieces = h.pieces;
      before = h.cut;
      bad = caused_none (drop at text) is.cause;
    }

pub bad_token_at_first_cause : BadTokenAtFirstCause
bad_token_at_first_cause text at = (λ bad. first_cause text at bad, λ is. bad_token text at is)
