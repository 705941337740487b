-- What the reader answers is what the definitions say.
use Rattle.std.proofs.Common.{◌≡◌, ◌≢◌, ℕ, List, [], ◌∷◌, Result, Ok, Err, refl, sym, ap, ◌∙◌, inl, inr, subst}
use Rattle.std.specs.Prelude.{IfOk, IfErr, Some, None}
use Rattle.scald_base.specs.declared.refusal.Refusal.{Refusal}
use Rattle.scald_base.specs.declared.refusal.RefusalKind.TheVariants.{Syntax}
use Rattle.scald_base.specs.declared.refusal.Stop.{Stop}
use Rattle.scald_base.specs.declared.refusal.Stop.TheVariants as stop
use Rattle.scald_lex.specs.declared.token.Token as lex
use Rattle.drawing_grammar.specs.declared.terminal.Terminal.TheVariants as is
use Rattle.drawing_reader.specs.declared.reader.Sketch as code
use Rattle.drawing_grammar.specs.declared.edition.Edition.{Edition}
use Rattle.drawing_grammar.specs.Edition.{edition_of}
use Rattle.drawing_grammar.specs.Lexeme.{Lexeme, lexeme_of, lexemes}
use Rattle.drawing_reader.specs.declared.cursor.Cursor.{Cursor}
use Rattle.drawing_reader.specs.Reader.{tokens_at, ahead, first_token, other_tokens}
use Rattle.drawing_grammar.specs.Front.{first_terminal, first_place}
use Rattle.drawing_grammar.proofs.Moves.{mark_moves}
use Rattle.drawing_grammar.specs.Grammar.{mark}
use Rattle.drawing_grammar.specs.Sketch.{Sketch, Values}
use Rattle.drawing_grammar.specs.Written.{values}
use Rattle.drawing_grammar.specs.Draws.{whole, Reads, IsRefused}
use Rattle.drawing_grammar.specs.Machine.{Verdict, Complete, Refused, given, verdict, refusal, Moves, Fails, Says}
use Rattle.drawing_reader.specs.Sketched.{sketch_of, GivesSketch, GivesRefusal, Answers}
use Rattle.drawing_grammar.specs.Draws.{IsStop}
use Rattle.drawing_grammar.proofs.Places.{complete}
use Rattle.drawing_grammar.proofs.Whole.{refused_so, Ending, is_refused, is_read, chained_whole}
use Rattle.drawing_grammar.proofs.Unique.{not_refused, one_refused}

one_sketch : (i : Edition) (s u : Sketch) (v : Values (whole i)) → ◌≡◌ {A = Verdict (whole i)} (Complete (s, tt)) (Complete v) → v.0 ≡ u → s ≡ u
one_sketch i s u v e h = let k : (let p : Values (whole i) = (s, tt) in p) ≡ v = cc in ap (λ (w : Values (whole i)). w.0) k ∙ h

pub found_so : (ts : List Lexeme) (x : Result code.Sketch Stop) → Answers x ts → IfOk x (λ s. Reads ts (sketch_of s))
found_so ts (Ok s) h = is_read ts (sketch_of s) h
found_so ts (Err e) h = tt

pub stops_so : (ts : List Lexeme) (x : Result code.Sketch Stop) → Ending ts → Answers x ts → IfErr x (λ e. IsStop ts e)
stops_so ts (Ok s) n h = tt
stops_so ts (Err (stop.Refused r)) n h = is_refused ts r n h
stops_so ts (Err stop.NoMemory) n h = tt

pub only_sketch : (ts : List Lexeme) (x : Result code.Sketch Stop) → Answers x ts → (s : Sketch) → Reads ts s → GivesSketch s x
only_sketch ts x h s r = one x h (complete ts (whole (edition_of ts)) 0 r.written (chained_whole (edition_of ts)) r.spelled r.within)
  where
    one : (x : Result code.Sketch Stop) → Answers x ts → verdict ts (whole (edition_of ts)) 0 ≡ Complete (values r.written) → GivesSketch s x
    one (Ok f) h e = one_sketch (edition_of ts) (sketch_of f) s (values r.written) (sym h ∙ e) r.stands
    one (Err stop.NoMemory) h e = refl
    one (Err (stop.Refused q)) h e = absurd (not_refused (edition_of ts) (values r.written) q (sym e ∙ h))

pub only_refusal : (ts : List Lexeme) (x : Result code.Sketch Stop) → Answers x ts → (r : Refusal) → IsRefused ts r → GivesRefusal r x
only_refusal ts x h r i = one x h (refused_so ts r i)
  where
    one : (x : Result code.Sketch Stop) → Answers x ts → verdict ts (whole (edition_of ts)) 0 ≡ Refused r → GivesRefusal r x
    one (Ok f) h e = not_refused (edition_of ts) (sketch_of f, tt) r (sym h ∙ e)
    one (Err stop.NoMemory) h e = inr refl
    one (Err (stop.Refused q)) h e = inl (ap (λ (p : Refusal). stop.Refused p) (one_refused (edition_of ts) q r (sym h ∙ e)))

-- ---- at the end of the reader

pub answers_stop : (i : Edition) (old : Cursor) (e : Stop) → old.operators ≡ 0 → Fails (ahead old (whole i)) e → Says (verdict (tokens_at old) (whole i) 0) e
answers_stop i old e z f = subst (λ (a : ℕ). Says (verdict (tokens_at old) (whole i) a) e) z f.is

pub answers_end : (i : Edition) (old end : Cursor) {f : Values (mark is.EndOfText ∷ []) → Values (whole i)} → old.operators ≡ 0 → Moves (ahead old (whole i))
    (ahead end (mark is.EndOfText ∷ [])) f → ahead end (mark is.EndOfText ∷ []) ≡ Complete tt → verdict (tokens_at old) (whole i) 0 ≡ Complete (f tt)
answers_end i old end {f} z m e = ap (λ (a : ℕ). verdict (tokens_at old) (whole i) a) (sym z) ∙ (m.is ∙ ap (λ (v : Verdict (mark is.EndOfText ∷ [])). given {needs = whole i} f v) e)

pub none_left : (text : List ℕ) (ts : List lex.Token) → first_token ts ≡ None → lexemes text ts ≡ []
none_left text [] e = refl
none_left text (t ∷ ts) e = absurd cc

pub some_left : (text : List ℕ) (ts : List lex.Token) (x : lex.Token) → first_token ts ≡ Some x → lexemes text ts ≢ []
some_left text [] x e k = absurd cc
some_left text (t ∷ ts) x e k = cc

pub end_missing : (ts : List Lexeme) (a : ℕ) → ts ≡ [] → verdict ts (mark is.EndOfText ∷ []) a ≡ Refused (refusal Syntax (first_place ts))
unfolding verdict
end_missing [] a e = refl
end_missing (t ∷ ts) a e = absurd cc

behind_end : (text : List ℕ) (ts us : List lex.Token) (a : ℕ) → us ≡ other_tokens ts → lexemes text ts ≢ [] →
    first_terminal (lexemes text ts) ≡ is.EndOfText →
    verdict (lexemes text ts) (mark is.EndOfText ∷ []) a ≡ given {needs = mark is.EndOfText ∷ []} (λ v. v) (verdict (lexemes text us) [] a)
behind_end text [] us a e h i = absurd (h refl)
behind_end text (t ∷ ts) us a e h i = mark_moves is.EndOfText a (lexemes text (t ∷ ts))
    (lexemes text us) (lexeme_of text t) (ap (λ (xs : List lex.Token). lexeme_of text t ∷ lexemes text xs) (sym e)) i []

pub end_there : (text : List ℕ) (ts us : List lex.Token) (a : ℕ) → us ≡ other_tokens ts → lexemes text ts ≢ [] →
    first_terminal (lexemes text ts) ≡ is.EndOfText → lexemes text us ≡ [] → verdict (lexemes text ts) (mark is.EndOfText ∷ []) a ≡ Complete tt
unfolding verdict
end_there text ts us a e h i k = behind_end text ts us a e h i ∙ ap (λ (xs : List Lexeme). given {needs = mark is.EndOfText ∷ []} (λ v. v) (verdict xs [] a)) k

pub more_there : (text : List ℕ) (ts us : List lex.Token) (a : ℕ) → us ≡ other_tokens ts → lexemes text ts ≢ [] →
    first_terminal (lexemes text ts) ≡ is.EndOfText → lexemes text us ≢ [] →
    verdict (lexemes text ts) (mark is.EndOfText ∷ []) a ≡ Refused (refusal Syntax (first_place (lexemes text us)))
unfolding verdict
more_there text ts [] a e h i k = absurd (k refl)
more_there text ts (u ∷ us) a e h i k = behind_end text ts (u ∷ us) a e h i
