-- The whole text: what the tokens say is what the definitions say.
use Rattle.std.proofs.Common.{◌≡◌, ℕ, ◌≤◌, ◌<◌, Bool, true, false, List, [], ◌∷◌, ◌++◌, if◌then◌else◌, refl, sym, ap, subst, ◌∙◌, append_assoc}
use Rattle.std.specs.Prelude.{nat_le}
use Rattle.std.proofs.lemmas.Bool.{le-leb, lt-leb, leb-true, leb-false}
use Rattle.scald_base.specs.declared.refusal.Refusal.{Refusal}
use Rattle.scald_base.specs.declared.refusal.RefusalKind.TheVariants.{Syntax, TooDeep}
use Rattle.scald_lex.specs.declared.token.Token as lex
use Rattle.scald_lex.specs.Tokens.{AreTokens, tokens_of, end_token}
use Rattle.drawing_grammar.specs.declared.terminal.Terminal.TheVariants as is
use Rattle.drawing_grammar.specs.Lexeme.{Lexeme, lexeme_of, lexemes, terminal}
use Rattle.drawing_grammar.specs.Grammar.{Need}
use Rattle.drawing_grammar.specs.Sketch.{Sketch, Values}
use Rattle.drawing_grammar.specs.Written.{Written, spelling, weights, limit}
use Rattle.drawing_grammar.specs.Draws.{whole, Reads, MayBeLabel, NoneDeep, IsRefused, syntax, too_deep}
use Rattle.drawing_grammar.specs.declared.edition.Edition.{Edition}
use Rattle.drawing_grammar.specs.Edition.{edition_of}
use Rattle.drawing_grammar.specs.Machine.{no_colon, Step, Next, Stuck, step, Verdict, Complete, Refused, given, go_on, verdict, refusal}
use Rattle.drawing_grammar.proofs.Undo.{Before, Undone, undo}
use Rattle.drawing_grammar.proofs.Forced.{Chained, Forces, forced, later_chained}
use Rattle.drawing_grammar.proofs.Ahead.{label_is_light, is_stuck, not_stuck, IsHeavy, light_not_heavy, no_colon_there, is_that_word, heavy, same_head}
use Rattle.drawing_grammar.proofs.Least.{least}
use Rattle.drawing_grammar.proofs.Places.{found, Front, Far, NoneFar, Placed, at_syntax, at_limit, at_end, placed, beyond_from, beyond_rest, heavy_beyond}
use Rattle.drawing_grammar.proofs.Ends.{text_end_last}

-- ---- a refusal of the definitions is one of the tokens

passes : (needs later : List Need) (m : ℕ) (build : Values later → Values needs) (x : Verdict later) (place : _) (r : Refusal) →
    m ≤ limit → x ≡ Refused r → (if nat_le m limit then given {needs = needs} build x else Refused (refusal TooDeep place)) ≡ Refused r
passes needs later m build x place r h e = ap (λ (b : Bool). if b then given {needs = needs} build x else Refused (refusal TooDeep place))
    (le-leb m limit h) ∙ ap (λ (y : Verdict later). given {needs = needs} build y) e

-- what is asked of the tokens after the first one, if that is within the limits
pub record FirstGoes (x : Lexeme) (before : List Lexeme) (t : Lexeme) (after : List Lexeme) (needs : List Need) (a : ℕ)
    (later : List Need) (b m : ℕ) : Type 0 where
  pub room : m ≤ limit
  pub front : Front before later
  pub none : NoneFar before (t ∷ after) later b
  pub chained : Chained later

-- The first of the tokens before the one that is refused.
module _ (x : Lexeme) (before : List Lexeme) (t : Lexeme) (after : List Lexeme) (needs : List Need) (a : ℕ) (c : Chained needs)
    (f : Front (x ∷ before) needs) (none : NoneFar (x ∷ before) (t ∷ after) needs a)
  where
    abbrev pub ahead : List Lexeme
    ahead = before ++ t ∷ after

    goes_on : is_stuck (step needs a x ahead) ≡ false
    goes_on = not_stuck f.written a x ahead (before ++ f.rest) c f.spelled

    -- a step beyond the limits would be one of the tokens that are not
    not_heavy : (later : List Need) (b m : ℕ) (build : Values later → Values needs) → step needs a x ahead ≡ Next later b m build →
        limit < m → ⊥
    not_heavy later b m build s h =
        let z = subst (λ (y : Step needs). Undone needs a x y) s (undo needs a x ahead) (least later) in
        none [] x before refl (record {
          written = z.written;
          rest = spelling (least later);
          spelled = z.spelled;
          beyond = heavy_beyond m (weights (least later) b) (weights z.written a) z.weighed h;
        }) (λ l. light_not_heavy (step needs a x ahead) (label_is_light needs a x ahead (is_that_word x ahead l) (no_colon_there x ahead l))
        (subst (λ (y : Step needs). IsHeavy y) (sym s) h))

    room : (later : List Need) (b m : ℕ) (build : Values later → Values needs) → step needs a x ahead ≡ Next later b m build → m ≤ limit
    room later b m build s = one (nat_le m limit) refl
      where
        one : (q : Bool) → nat_le m limit ≡ q → m ≤ limit
        one true g = leb-true m limit g
        one false g = absurd (not_heavy later b m build s (leb-false m limit g))

    back : (later : List Need) (b m : ℕ) (build : Values later → Values needs) → step needs a x ahead ≡ Next later b m build →
        (ws : Written later) → Before needs a x later b m build ws
    back later b m build s = subst (λ (y : Step needs). Undone needs a x y) s (undo needs a x ahead)

    -- the tokens after the first one begin what is written there
    front_on : (rest : List Lexeme) (later : List Need) (b m : ℕ) (build : Values later → Values needs) →
        step needs a x ahead ≡ Next later b m build → (fore : List Lexeme) → before ≡ fore → Front before later
    front_on rest later b m build s [] e = record {
      written = least later;
      rest = spelling (least later);
      spelled = sym (ap (λ (ys : List Lexeme). ys ++ spelling (least later)) e);
    }
    front_on rest later b m build s (y ∷ fore) e =
        let alike : no_colon (before ++ f.rest) ≡ no_colon ahead =
        ap (λ (ys : List Lexeme). no_colon (ys ++ f.rest)) e ∙ sym (ap (λ (ys : List Lexeme). no_colon (ys ++ t ∷ after)) e) in
        let k = subst (λ (z : Step needs). Forces f.written a (before ++ f.rest) z) s
        (forced f.written a x ahead (before ++ f.rest) alike c f.spelled) in
        record { written = k.rest; rest = f.rest; spelled = k.spelled }

    none_on : (later : List Need) (b m : ℕ) (build : Values later → Values needs) → step needs a x ahead ≡ Next later b m build →
        NoneFar before (t ∷ after) later b
    none_on later b m build s front y between e far unlabelled =
        let z = back later b m build s far.written in
        none (x ∷ front) y between (ap (λ (ys : List Lexeme). x ∷ ys) e) (record {
          written = z.written;
          rest = far.rest;
          spelled = z.spelled ∙ ap (λ (ys : List Lexeme). x ∷ ys) far.spelled;
          beyond = beyond_from front x m (weights far.written b) (weights z.written a) z.weighed far.beyond;
        }) unlabelled

    pub first_goes : (later : List Need) (b m : ℕ) (build : Values later → Values needs) → step needs a x ahead ≡ Next later b m build →
        FirstGoes x before t after needs a later b m
    first_goes later b m build s = record {
      room = room later b m build s;
      front = front_on f.rest later b m build s before refl;
      none = none_on later b m build s;
      chained = later_chained needs a x ahead later b m build c s;
    }

pub refused_syntax : (before : List Lexeme) (t : Lexeme) (after : List Lexeme) (needs : List Need) (a : ℕ) → Chained needs →
    Front before needs → NoneFar before (t ∷ after) needs a →
    ((w : Written needs) (z : List Lexeme) → spelling w ≡ before ++ t ∷ z → ⊥) →
    verdict (before ++ t ∷ after) needs a ≡ Refused (refusal Syntax t.place)
unfolding verdict
refused_syntax [] t after needs a c f far none = one (step needs a t after) (undo needs a t after)
  where
    one : (x : Step needs) → Undone needs a t x → go_on x (verdict after) t.place ≡ Refused (refusal Syntax t.place)
    one (Next later b m build) u = absurd (let z = u (least later) in none z.written (spelling (least later)) z.spelled)
    one Stuck u = refl
refused_syntax (x ∷ before) t after needs a c f far none = one (λ later b d g e n. refused_syntax before t after later b d g e n)
    (step needs a x (before ++ t ∷ after)) refl
  where
    one : ((later : List Need) (b : ℕ) → Chained later → Front before later → NoneFar before (t ∷ after) later b →
        ((w : Written later) (z : List Lexeme) → spelling w ≡ before ++ t ∷ z → ⊥) →
        verdict (before ++ t ∷ after) later b ≡ Refused (refusal Syntax t.place)) → (y : Step needs) →
        step needs a x (before ++ t ∷ after) ≡ y → go_on y (verdict (before ++ t ∷ after)) x.place ≡ Refused (refusal Syntax t.place)
    one again (Next later b m build) s =
        let k = first_goes x before t after needs a c f far later b m build s in
        passes needs later m build (verdict (before ++ t ∷ after) later b) x.place (refusal Syntax t.place)
        k.room (again later b k.chained k.front k.none (λ v z i. let p = back x before t after needs a c f far later b m build s v in
        none p.written z (p.spelled ∙ ap (λ (y : List Lexeme). x ∷ y) i)))
    one again Stuck s = let j = goes_on x before t after needs a c f far in let l = ap is_stuck s in absurd cc

pub refused_deep : (before : List Lexeme) (t : Lexeme) (after : List Lexeme) (needs : List Need) (a : ℕ) → Chained needs →
    NoneFar before (t ∷ after) needs a → Far before t needs a → (MayBeLabel t after → ⊥) →
    verdict (before ++ t ∷ after) needs a ≡ Refused (refusal TooDeep t.place)
unfolding verdict
refused_deep [] t after needs a c none far unlabelled = one (step needs a t after)
    (heavy far.written a t after far.rest c far.spelled far.beyond unlabelled)
  where
    one : (x : Step needs) → IsHeavy x → go_on x (verdict after) t.place ≡ Refused (refusal TooDeep t.place)
    one (Next later b m build) k =
        ap (λ (q : Bool). if q then given {needs = needs} build (verdict after later b) else Refused (refusal TooDeep t.place))
        (lt-leb m limit k)
    one Stuck k = absurd k
refused_deep (x ∷ before) t after needs a c none far unlabelled = one (λ later b d n g. refused_deep before t after later b d n g unlabelled)
    (step needs a x (before ++ t ∷ after)) refl
  where
    begun : Front (x ∷ before) needs
    begun = record { written = far.written; rest = t ∷ far.rest; spelled = far.spelled }

    one : ((later : List Need) (b : ℕ) → Chained later → NoneFar before (t ∷ after) later b → Far before t later b →
        verdict (before ++ t ∷ after) later b ≡ Refused (refusal TooDeep t.place)) → (y : Step needs) →
        step needs a x (before ++ t ∷ after) ≡ y → go_on y (verdict (before ++ t ∷ after)) x.place ≡ Refused (refusal TooDeep t.place)
    one again (Next later b m build) s =
        let k = first_goes x before t after needs a c begun none later b m build s in
        let j = subst (λ (z : Step needs). Forces far.written a (before ++ t ∷ far.rest) z) s
        (forced far.written a x (before ++ t ∷ after) (before ++ t ∷ far.rest) (same_head before t far.rest after) c far.spelled) in
        passes needs later m build (verdict (before ++ t ∷ after) later b) x.place (refusal TooDeep t.place)
        k.room (again later b k.chained k.none (record {
          written = j.rest;
          rest = far.rest;
          spelled = j.spelled;
          beyond = beyond_rest before x m (weights j.rest b) (weights far.written a) j.weighed far.beyond;
        }))
    one again Stuck s = let j = goes_on x before t after needs a c begun none in let l = ap is_stuck s in absurd cc

-- ---- the whole text

pub chained_whole : (v : Edition) → Chained (whole v)
chained_whole v = (λ l e. absurd cc, tt)

-- none of the first tokens of a text is beyond a limit
far_of : (v : Edition) (first after : List Lexeme) → NoneDeep v first after → NoneFar first after (whole v) 0
far_of v first after none before t between e far unlabelled = none before t between e (record {
  beyond = record { written = far.written; rest = far.rest; spelled = far.spelled; beyond = far.beyond };
  no_label = unlabelled;
})

deep_of : (v : Edition) (first after : List Lexeme) → NoneFar first after (whole v) 0 → NoneDeep v first after
deep_of v first after none before t between e deep = none before t between e (record {
  written = deep.beyond.written;
  rest = deep.beyond.rest;
  spelled = deep.beyond.spelled;
  beyond = deep.beyond.beyond;
}) deep.no_label

pub refused_so : (ts : List Lexeme) (r : Refusal) → IsRefused ts r → verdict ts (whole (edition_of ts)) 0 ≡ Refused r
refused_so ts r (syntax before t after e b d n q) =
    let v = edition_of ts in
    ap (λ (ys : List Lexeme). verdict ys (whole v) 0) e
    ∙ (refused_syntax before t after (whole v) 0 (chained_whole v) (record { written = b.written; rest = b.rest; spelled = b.spelled })
    (far_of v before (t ∷ after) d)
    (λ w z s. n (record { written = w; rest = z; spelled = s ∙ sym (append_assoc before (t ∷ []) z) })) ∙ ap (λ (p : Refusal). Refused p) (sym q))
refused_so ts r (too_deep before t after e n d q) =
    let v = edition_of ts in
    let far = d.beyond in
    ap (λ (ys : List Lexeme). verdict ys (whole v) 0) e
    ∙ (refused_deep before t after (whole v) 0 (chained_whole v) (far_of v before (t ∷ after) n)
    (record { written = far.written; rest = far.rest; spelled = far.spelled; beyond = far.beyond }) d.no_label
    ∙ ap (λ (p : Refusal). Refused p) (sym q))

pub record Ending (ts : List Lexeme) : Type 0 where
  pub before : List Lexeme
  pub last : Lexeme
  pub are : ts ≡ before ++ last ∷ []
  pub end : terminal last ≡ is.EndOfText

map_last : (text : List ℕ) (xs : List lex.Token) (x : lex.Token) → lexemes text (xs ++ x ∷ []) ≡ lexemes text xs ++ lexeme_of text x ∷ []
map_last text [] x = refl
map_last text (y ∷ xs) x = ap (λ (zs : List Lexeme). lexeme_of text y ∷ zs) (map_last text xs x)

pub ending : (text : List ℕ) (tokens : List lex.Token) → AreTokens text tokens → Ending (lexemes text tokens)
ending text tokens are = record {
  before = lexemes text (tokens_of text 0 are.pieces);
  last = lexeme_of text (end_token text);
  are =
      ap (λ (ts : List lex.Token). lexemes text ts) are.are ∙ map_last text (tokens_of text 0 are.pieces) (end_token text);
  end = refl;
}

pub is_refused : (ts : List Lexeme) (r : Refusal) → Ending ts → verdict ts (whole (edition_of ts)) 0 ≡ Refused r → IsRefused ts r
is_refused ts r n e = one (placed ts (whole v) 0 r (chained_whole v) e)
  where
    v : Edition
    v = edition_of ts

    one : Placed ts (whole v) 0 r → IsRefused ts r
    one (at_syntax before t after e f d k q) =
        syntax before t after e (record { written = f.written; rest = f.rest; spelled = f.spelled }) (deep_of v before (t ∷ after) d)
        (λ b. k b.written b.rest (b.spelled ∙ append_assoc before (t ∷ []) b.rest)) q
    one (at_limit before t after e d k unlabelled q) =
        too_deep before t after e (deep_of v before (t ∷ after) d) (record {
          beyond = record { written = k.written; rest = k.rest; spelled = k.spelled; beyond = k.beyond };
          no_label = unlabelled;
        }) q
    one (at_end s) = absurd (text_end_last v s.written n.before n.last s.next
        s.rest n.end (s.spelled ∙ (ap (λ (ys : List Lexeme). ys ++ s.next ∷ s.rest) n.are ∙ append_assoc n.before (n.last ∷ []) (s.next ∷ s.rest))))

pub is_read : (ts : List Lexeme) (s : Sketch) → verdict ts (whole (edition_of ts)) 0 ≡ Complete (s, tt) → Reads ts s
is_read ts s e =
    let k = found ts (whole (edition_of ts)) 0 (s, tt) e in record {
      written = k.written;
      spelled = k.spelled;
      within = k.within;
      stands = ap (λ (v : Values (whole (edition_of ts))). v.0) k.valued;
    }
