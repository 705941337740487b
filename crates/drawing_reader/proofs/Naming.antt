-- Names one after another.
use Rattle.std.proofs.Common.{◌≡◌, ℕ, ◌+◌, ◌<◌, ◌≤◌, Bool, List, [], ◌∷◌, ◌++◌, length, get_or, drop, refl, sym, ap, ◌∙◌, subst, append_assoc}
use Rattle.std.proofs.lemmas.List.{append-nil, drop_all, get_or_default}
use Rattle.scald_base.specs.Time.{Header}
use Rattle.scald_base.specs.declared.refusal.RefusalKind.{RefusalKind}
use Rattle.scald_base.specs.declared.refusal.Stop.{Stop}
use Rattle.scald_base.specs.declared.refusal.Stop.TheVariants.{Refused, NoMemory}
use Rattle.scald_lex.specs.declared.token.Token as lex
use Rattle.scald_lex.specs.declared.token.TokenKind.TheVariants.{Word}
use Rattle.drawing_grammar.specs.Lexeme.{lexeme_of, lexemes, terminal}
use Rattle.drawing_grammar.specs.Names.{Naming, names_at, head_behind, names_from, IsFault, AreGood, IsNameStop, Judged}
use Rattle.drawing_grammar.proofs.GoodNames.{good_both}
use Rattle.drawing_reader.proofs.Labels.{dropped}

-- the refusal of one name
pub fault_stop : (h : Header) (n : Naming) (kind : RefusalKind) (s : Stop) → s ≡ Refused (record { kind = kind; place = n.place }) → IsFault h n kind → IsNameStop h (n ∷ []) s
fault_stop h n kind s e fault =
    let F : Stop → Type 0 = λ x. IsNameStop h (n ∷ []) x in
    subst F (sym e) (record { before = []; bad = n; after = []; parts = refl; good = tt; fault = fault; place = refl })

pub judged_start : (h : Header) (all : List Naming) → Judged h all all
judged_start h all = record { done = []; parts = refl; good = tt }

pub judged_end : (h : Header) (all rest : List Naming) → Judged h all rest → rest ≡ [] → AreGood h all
judged_end h all rest so none =
    let e : all ≡ so.done = so.parts ∙ (ap (λ (ns : List Naming). so.done ++ ns) none ∙ append-nil so.done) in
    let F : List Naming → Type 0 = λ ns. AreGood h ns in subst F (sym e) so.good

pub judged_on : (h : Header) (all rest some others : List Naming) → Judged h all rest → rest ≡ some ++ others → AreGood h some → Judged h all others
judged_on h all rest some others so e good = record {
  done = so.done ++ some;
  parts = so.parts ∙ (ap (λ (ns : List Naming). so.done ++ ns) e ∙ sym (append_assoc so.done some others));
  good = good_both h so.done some so.good good;
}

pub judged_stop : (h : Header) (all rest some others : List Naming) (s : Stop) → Judged h all rest → rest ≡ some ++ others → IsNameStop h some s → IsNameStop h all s
judged_stop h all rest some others NoMemory so e found = tt
judged_stop h all rest some others (Refused r) so e found = record {
  before = so.done ++ found.before;
  bad = found.bad;
  after = found.after ++ others;
  parts =
      so.parts ∙ (ap (λ (ns : List Naming). so.done ++ ns) (e ∙ (ap (λ (ns : List Naming). ns ++ others) found.parts ∙ append_assoc found.before (found.bad ∷ found.after) others))
      ∙ sym (append_assoc so.done found.before (found.bad ∷ (found.after ++ others))));
  good = good_both h so.done found.before so.good found.good;
  fault = found.fault;
  place = found.place;
}

-- the token that stands in where there is none
abbrev pub blank_token : lex.Token
blank_token = record { kind = Word; place = record { line = 0; col = 0 }; start = 0; end = 0 }

-- the names of the token at a place, and of those after it
pub next_names : (text : List ℕ) (tokens : List lex.Token) (i : ℕ) (in_head next : Bool) → i < length tokens →
    next ≡ head_behind in_head (terminal (lexeme_of text (get_or tokens i blank_token))) →
    names_from in_head (lexemes text (drop i tokens)) ≡ names_at in_head (terminal (lexeme_of text (get_or tokens i blank_token)))
    (lexeme_of text (get_or tokens i blank_token)) ++ names_from next (lexemes text (drop (i + 1) tokens))
unfolding names_from
next_names text tokens i in_head next below e =
    let t = get_or tokens i blank_token in
    ap (λ (ts : List lex.Token). names_from in_head (lexemes text ts)) (dropped tokens i t below (get_or_default tokens i blank_token t below))
    ∙ ap (λ (b : Bool). names_at in_head (terminal (lexeme_of text t)) (lexeme_of text t) ++ names_from b (lexemes text (drop (i + 1) tokens))) (sym e)

pub no_names : (text : List ℕ) (tokens : List lex.Token) (i : ℕ) (in_head : Bool) → length tokens ≤ i → names_from in_head (lexemes text (drop i tokens)) ≡ []
unfolding names_from
no_names text tokens i in_head past = ap (λ (ts : List lex.Token). names_from in_head (lexemes text ts)) (drop_all i tokens past)
