-- What a cursor has before it, from one step of a reader to the next.
use Rattle.std.proofs.Common.{◌≡◌, ◌≢◌, true, false, ℕ, suc, ◌≤◌, ◌<◌, List, [], ◌∷◌, ◌++◌, Option, Some, None, refl, sym, ap, subst, ◌∙◌, arith}
use Rattle.std.specs.Prelude.{is_some}
use Rattle.scald_base.specs.declared.refusal.RefusalKind.TheVariants.{Syntax, TooDeep}
use Rattle.scald_base.specs.declared.refusal.Stop.TheVariants as stop
use Rattle.scald_lex.specs.declared.token.Token as lex
use Rattle.drawing_grammar.specs.declared.terminal.Keyword.{Keyword}
use Rattle.drawing_grammar.specs.declared.terminal.Terminal.{Terminal}
use Rattle.drawing_grammar.specs.declared.terminal.Terminal.TheVariants.{EndOfText, Word}
use Rattle.drawing_reader.specs.declared.cursor.Cursor.{Cursor}
use Rattle.drawing_grammar.specs.Lexeme.{Lexeme}
use Rattle.drawing_grammar.specs.Grammar.{Part, Group, Terms, Comparison, Term, Formal, MoreConns, Product, Sum, Expr, Conn, SomeConns, Conns, SomeFormals, Formals, Need, mark, item, keyword, fresh, part, group, Choice, opening, following, lead, others, Cost, plain, opens, operator, cost}
use Rattle.drawing_grammar.specs.Sketch.{Meaning, GroupMeaning, front, behind, choice_value, group_value}
use Rattle.drawing_grammar.specs.Absent.{absent_value, absent_group}
use Rattle.drawing_grammar.specs.Written.{weight, counted, limit}
use Rattle.drawing_grammar.specs.Machine.{choice, Refused, given, verdict, refusal, Moves, Fails}
use Rattle.drawing_reader.specs.Reader.{tokens_at, ahead, at}
use Rattle.drawing_grammar.specs.Front.{first_terminal, first_choice, first_place, first_text, AtKeyword, At}
use Rattle.drawing_grammar.proofs.Ends.{opens_no_end}
use Rattle.drawing_grammar.proofs.Terminals.{is_same}
use Rattle.drawing_grammar.proofs.Choices.{is_constant, at_opening, at_choice}
use Rattle.drawing_grammar.proofs.Moves as m

no_end : {p : Part} (c : Choice p) (l : Terminal) → l ≡ opening c → l ≢ EndOfText
no_end c l e h = let k = opens_no_end c in let i = is_same (opening c) EndOfText (sym e ∙ h) in absurd cc

pub marks : (l : Terminal) (old new : Cursor) (t : lex.Token) → l ≢ EndOfText → first_terminal (tokens_at old) ≡ l →
    (first_terminal (tokens_at old) ≢ EndOfText → tokens_at old ≡ at old t ∷ tokens_at new) →
    new.operators ≡ old.operators → (rest : List Need) → Moves (ahead old (mark l ∷ rest)) (ahead new rest) (λ v. v)
marks l old new t n e f o rest =
    record {
      is = let k : tokens_at old ≡ at old t ∷ tokens_at new =
          f (λ h. n (sym e ∙ h)) in m.mark_moves l old.operators (tokens_at old) (tokens_at new) (at old t) k (ap first_terminal (sym k) ∙ e) rest
          ∙ ap (λ (a : ℕ). given {needs = mark l ∷ rest} (λ v. v) (verdict (tokens_at new) rest a)) (sym o);
    }

pub items : (l : Terminal) (old new : Cursor) (t : lex.Token) → l ≢ EndOfText → first_terminal (tokens_at old) ≡ l →
    (first_terminal (tokens_at old) ≢ EndOfText → tokens_at old ≡ at old t ∷ tokens_at new) →
    new.operators ≡ old.operators → (rest : List Need) → Moves (ahead old (item l ∷ rest)) (ahead new rest) (λ v. (at old t, v))
items l old new t n e f o rest =
    record {
      is = let k : tokens_at old ≡ at old t ∷ tokens_at new =
          f (λ h. n (sym e ∙ h)) in m.item_moves l old.operators (tokens_at old) (tokens_at new) (at old t) k (ap first_terminal (sym k) ∙ e) rest
          ∙ ap (λ (a : ℕ). given {needs = item l ∷ rest} (λ v. (at old t, v)) (verdict (tokens_at new) rest a)) (sym o);
    }

-- its token is not the end
pub is_token : {p : Part} (c : Choice p) (old : Cursor) → At c (tokens_at old) → first_terminal (tokens_at old) ≢ EndOfText
is_token c old e = no_end c (first_terminal (tokens_at old)) (at_opening c (tokens_at old) e)

-- a part whose choice stands first
known : {p : Part} (c : Choice p) (n : ℕ) (old new : Cursor) (t : Lexeme) → At c (tokens_at old) →
    tokens_at old ≡ t ∷ tokens_at new → new.operators ≡ counted (cost c) old.operators → weight (cost c) n old.operators ≤ limit →
    (rest : List Need) → ahead old (part p n ∷ rest) ≡ given (λ v. (choice_value c n t (front (following c n) rest v), behind (following c n) rest v))
    (ahead new (following c n ++ rest))
known {p} c n old new t e k o w rest =
    m.enters c n old.operators (tokens_at old) (tokens_at new) t k (subst (λ (ts : List Lexeme). At c ts) k e) w rest
    ∙ ap (λ (a : ℕ). given {needs = part p n ∷ rest} (λ v. (choice_value c n t (front (following c n) rest v), behind (following c n) rest v))
    (verdict (tokens_at new) (following c n ++ rest) a)) (sym o)

none_weighs : (x : Cost) (n a : ℕ) → x ≡ plain → weight x n a ≤ limit
none_weighs plain n a e = omega arith
none_weighs opens n a e = absurd cc
none_weighs operator n a e = absurd cc

none_counts : (x : Cost) (a b : ℕ) → x ≡ plain → a ≡ b → a ≡ counted x b
none_counts plain a b e h = h
none_counts opens a b e h = absurd cc
none_counts operator a b e h = absurd cc

pub plainly : {p : Part} (c : Choice p) (n : ℕ) (old new : Cursor) (t : lex.Token) → cost c ≡ plain → At c (tokens_at old) →
    (first_terminal (tokens_at old) ≢ EndOfText → tokens_at old ≡ at old t ∷ tokens_at new) → new.operators ≡ old.operators → (rest : List Need) →
    Moves (ahead old (part p n ∷ rest))
    (ahead new (following c n ++ rest)) (λ v. (choice_value c n (at old t) (front (following c n) rest v), behind (following c n) rest v))
plainly c n old new t q e f o rest =
    record {
      is = known c n old new (at old t) e (f (is_token c old e))
          (none_counts (cost c) new.operators old.operators q o) (none_weighs (cost c) n old.operators q) rest;
    }

opens_weighs : (x : Cost) (n a : ℕ) → x ≡ opens → n < limit → weight x n a ≤ limit
opens_weighs opens n a e h = omega arith
opens_weighs plain n a e h = absurd cc
opens_weighs operator n a e h = absurd cc

opens_counts : (x : Cost) (a b : ℕ) → x ≡ opens → a ≡ b → a ≡ counted x b
opens_counts opens a b e h = h
opens_counts plain a b e h = absurd cc
opens_counts operator a b e h = absurd cc

pub deeper : {p : Part} (c : Choice p) (n : ℕ) (old new : Cursor) (t : lex.Token) → cost c ≡ opens →
    n < limit → At c (tokens_at old) → (first_terminal (tokens_at old) ≢ EndOfText → tokens_at old ≡ at old t ∷ tokens_at new) →
    new.operators ≡ old.operators → (rest : List Need) → Moves (ahead old (part p n ∷ rest))
    (ahead new (following c n ++ rest)) (λ v. (choice_value c n (at old t) (front (following c n) rest v), behind (following c n) rest v))
deeper c n old new t q h e f o rest =
    record {
      is = known c n old new (at old t) e (f (is_token c old e))
          (opens_counts (cost c) new.operators old.operators q o) (opens_weighs (cost c) n old.operators q h) rest;
    }

operator_weighs : (x : Cost) (n a : ℕ) → x ≡ operator → a < limit → weight x n a ≤ limit
operator_weighs operator n a e h = omega arith
operator_weighs opens n a e h = absurd cc
operator_weighs plain n a e h = absurd cc

operator_counts : (x : Cost) (a b : ℕ) → x ≡ operator → a ≡ suc b → a ≡ counted x b
operator_counts operator a b e h = h
operator_counts opens a b e h = absurd cc
operator_counts plain a b e h = absurd cc

pub operates : {p : Part} (c : Choice p) (n : ℕ) (old new : Cursor) (t : Lexeme) → cost c ≡ operator → old.operators < limit →
    At c (tokens_at old) → tokens_at old ≡ t ∷ tokens_at new → new.operators ≡ suc old.operators → (rest : List Need) →
    Moves (ahead old (part p n ∷ rest))
    (ahead new (following c n ++ rest)) (λ v. (choice_value c n t (front (following c n) rest v), behind (following c n) rest v))
operates c n old new t q h e k o rest = record { is = known c n old new t e k (operator_counts (cost c) new.operators old.operators q o) (operator_weighs (cost c) n old.operators q h) rest }

-- ---- beyond the limits

first_of : (ts : List Lexeme) → first_terminal ts ≢ EndOfText → (t : Lexeme) × (us : List Lexeme) × (ts ≡ t ∷ us)
first_of [] h = absurd (h refl)
first_of (t ∷ us) h = (t, us, refl)

beyond : {p : Part} (c : Choice p) (n : ℕ) (old : Cursor) → limit < weight (cost c) n old.operators → At c (tokens_at old) →
    (rest : List Need) → ahead old (part p n ∷ rest) ≡ Refused (refusal TooDeep (first_place (tokens_at old)))
beyond c n old w e rest =
    let k = first_of (tokens_at old) (is_token c old e) in m.too_deep c n old.operators (tokens_at old)
    k.1 k.0 k.2 (subst (λ (ts : List Lexeme). At c ts) k.2 e) w rest ∙ ap (λ (ts : List Lexeme). Refused (refusal TooDeep (first_place ts))) (sym k.2)

deep_weighs : (x : Cost) (n a : ℕ) → x ≡ opens → limit ≤ n → limit < weight x n a
deep_weighs opens n a e h = omega arith
deep_weighs plain n a e h = absurd cc
deep_weighs operator n a e h = absurd cc

pub too_deep : {p : Part} (c : Choice p) (n : ℕ) (old : Cursor) → cost c ≡ opens → limit ≤ n → At c (tokens_at old) →
    (rest : List Need) → Fails (ahead old (part p n ∷ rest)) (stop.Refused (refusal TooDeep (first_place (tokens_at old))))
too_deep c n old q h e rest = record { is = beyond c n old (deep_weighs (cost c) n old.operators q h) e rest }

many_weighs : (x : Cost) (n a : ℕ) → x ≡ operator → limit ≤ a → limit < weight x n a
many_weighs operator n a e h = omega arith
many_weighs plain n a e h = absurd cc
many_weighs opens n a e h = absurd cc

pub too_many : {p : Part} (c : Choice p) (n : ℕ) (old : Cursor) → cost c ≡ operator → limit ≤ old.operators → At c (tokens_at old) →
    (rest : List Need) → Fails (ahead old (part p n ∷ rest)) (stop.Refused (refusal TooDeep (first_place (tokens_at old))))
too_many c n old q h e rest = record { is = beyond c n old (many_weighs (cost c) n old.operators q h) e rest }

-- ---- parts and groups that are left out, or that no token begins

pub left_out : (p : Part) (n : ℕ) (old : Cursor) (v : Meaning p) → choice p (first_terminal (tokens_at old)) ≡ None →
    absent_value p ≡ Some v → (rest : List Need) → Moves (ahead old (part p n ∷ rest)) (ahead old rest) (λ w. (v, w))
left_out p n old v e h rest = record { is = m.skips p n old.operators (tokens_at old) v e h rest }

pub stuck : (p : Part) (n : ℕ) (old : Cursor) → choice p (first_terminal (tokens_at old)) ≡ None → absent_value p ≡ None →
    (rest : List Need) → Fails (ahead old (part p n ∷ rest)) (stop.Refused (refusal Syntax (first_place (tokens_at old))))
stuck p n old e h rest = record { is = m.stuck p n old.operators (tokens_at old) e h rest }

-- an expression of its own
pub begins : (old new : Cursor) → tokens_at new ≡ tokens_at old → new.operators ≡ 0 → (rest : List Need) → Moves (ahead old (fresh ∷ rest)) (ahead new rest) (λ v. v)
begins old new e h rest =
    record {
      is = m.begins old.operators (tokens_at old) rest
          ∙ (ap (λ (a : ℕ). given {needs = fresh ∷ rest} (λ v. v) (verdict (tokens_at old) rest a)) (sym h)
          ∙ ap (λ (ts : List Lexeme). given {needs = fresh ∷ rest} (λ v. v) (verdict ts rest new.operators)) (sym e));
    }

at_leads : (h : Group) (c : Choice (lead h)) (ts : List Lexeme) → At c ts → m.Leads h ts
at_leads h c [] e = absurd (no_end c EndOfText (at_opening c [] e) refl)
at_leads h c (t ∷ us) e = ap is_some (at_choice c t us e)

pub leads_on : (h : Group) (n : ℕ) (old : Cursor) (c : Choice (lead h)) → At c (tokens_at old) → (rest : List Need) →
    Moves (ahead old (group h n ∷ rest))
    (ahead old (part (lead h) n ∷ (others h n ++ rest))) (λ v. (group_value h n v.0 (front (others h n) rest v.1), behind (others h n) rest v.1))
leads_on h n old c e rest = record { is = m.leads_on h n old.operators (tokens_at old) (at_leads h c (tokens_at old) e) rest }

pub always : (h : Group) (n : ℕ) (old : Cursor) → absent_group h ≡ None → (rest : List Need) → Moves (ahead old (group h n ∷ rest))
    (ahead old (part (lead h) n ∷ (others h n ++ rest))) (λ v. (group_value h n v.0 (front (others h n) rest v.1), behind (others h n) rest v.1))
always h n old e rest = record { is = m.always h n old.operators (tokens_at old) e rest }

pub lacking_at : (h : Group) (n : ℕ) (old : Cursor) (v : GroupMeaning h) → first_choice (lead h) (tokens_at old) ≡ None →
    absent_group h ≡ Some v → (rest : List Need) → Moves (ahead old (group h n ∷ rest)) (ahead old rest) (λ w. (v, w))
lacking_at h n old v e i rest = record { is = m.skips_group_at h n old.operators (tokens_at old) v e i rest }

pub lacking : (h : Group) (n : ℕ) (old : Cursor) (v : GroupMeaning h) → choice (lead h) (first_terminal (tokens_at old)) ≡ None →
    absent_group h ≡ Some v → (rest : List Need) → Moves (ahead old (group h n ∷ rest)) (ahead old rest) (λ w. (v, w))
lacking h n old v e i rest = record { is = m.skips_group h n old.operators (tokens_at old) v e i rest }

pub leads_some : (h : Group) (n : ℕ) (old : Cursor) → is_constant (lead h) ≡ false → is_some (choice (lead h) (first_terminal (tokens_at old))) ≡ true → (rest : List Need) →
    Moves (ahead old (group h n ∷ rest))
    (ahead old (part (lead h) n ∷ (others h n ++ rest))) (λ v. (group_value h n v.0 (front (others h n) rest v.1), behind (others h n) rest v.1))
leads_some h n old i e rest = record { is = m.leads_on h n old.operators (tokens_at old) (m.leads_by h (tokens_at old) i e) rest }

-- ---- groups that begin with a smaller one

pub sum_product : (n : ℕ) (old : Cursor) (rest : List Need) → Moves (ahead old (group Sum n ∷ rest)) (ahead old (group Product n ∷ part Terms n ∷ rest)) (λ v. (v.1.0 v.0, v.1.1))
sum_product n old rest = m.through (λ v. (v.1.0 v.0, v.1.1)) (always Sum n old refl rest) (always Product n old refl (part Terms n ∷ rest)) (λ v. refl)

pub expr_sum : (n : ℕ) (old : Cursor) (rest : List Need) → Moves (ahead old (group Expr n ∷ rest)) (ahead old (group Sum n ∷ part Comparison n ∷ rest)) (λ v. (v.1.0 v.0, v.1.1))
expr_sum n old rest = m.through (λ v. (v.1.0 v.0, v.1.1)) (always Expr n old refl rest) (always Sum n old refl (part Comparison n ∷ rest)) (λ v. refl)

pub some_conn : (old : Cursor) (rest : List Need) → Moves (ahead old (group SomeConns 0 ∷ rest)) (ahead old (group Conn 0 ∷ part MoreConns 0 ∷ rest)) (λ v. (v.0 ∷ v.1.0, v.1.1))
some_conn old rest = m.through (λ v. (v.0 ∷ v.1.0, v.1.1)) (always SomeConns 0 old refl rest) (always Conn 0 old refl (part MoreConns 0 ∷ rest)) (λ v. refl)

pub conns_some : (old : Cursor) → is_some (choice Term (first_terminal (tokens_at old))) ≡ true →
    (rest : List Need) → Moves (ahead old (group Conns 0 ∷ rest)) (ahead old (group SomeConns 0 ∷ rest)) (λ v. v)
conns_some old e rest = m.through (λ v. v) (leads_some Conns 0 old refl e rest) (always SomeConns 0 old refl rest) (λ v. refl)

pub formals_some : (old : Cursor) → is_some (choice Formal (first_terminal (tokens_at old))) ≡ true →
    (rest : List Need) → Moves (ahead old (group Formals 0 ∷ rest)) (ahead old (group SomeFormals 0 ∷ rest)) (λ v. v)
formals_some old e rest = m.through (λ v. v) (leads_some Formals 0 old refl e rest) (always SomeFormals 0 old refl rest) (λ v. refl)

pub letters : (x : Keyword) (old new : Cursor) (t : lex.Token) → AtKeyword x (tokens_at old) →
    (first_terminal (tokens_at old) ≢ EndOfText → tokens_at old ≡ at old t ∷ tokens_at new) →
    new.operators ≡ old.operators → (rest : List Need) → Moves (ahead old (keyword x ∷ rest)) (ahead new rest) (λ v. v)
letters x old new t e f o rest = let k : tokens_at old ≡ at old t ∷ tokens_at new =
    f (λ h. let z : Word ≡ EndOfText = sym e.0 ∙ h in cc) in
    record {
      is = m.keyword_moves x old.operators (tokens_at old) (tokens_at new) (at old t) k (ap first_terminal (sym k)
          ∙ e.0) (ap first_text (sym k) ∙ e.1) rest ∙ ap (λ (a : ℕ). given {needs = keyword x ∷ rest} (λ v. v) (verdict (tokens_at new) rest a)) (sym o);
    }

pub none_some : {A : Type 0} (o : Option A) → is_some o ≡ false → o ≡ None
none_some None e = refl
none_some (Some x) e = absurd cc
