-- Each step can be undone: what is written where the later needs are is written after the token where the needs before are.
use Rattle.std.proofs.Common.{◌≡◌, ℕ, Bool, true, false, ◌&&◌, List, [], ◌∷◌, Option, Some, None, if◌then◌else◌, refl, ap}
use Rattle.std.specs.Prelude.{⊤}
use Rattle.std.specs.Str.{bytes_eq}
use Rattle.std.proofs.lemmas.Slice.Eq.{bytes_eq-Decides}
use Rattle.drawing_grammar.specs.declared.terminal.Keyword.{Keyword}
use Rattle.drawing_grammar.specs.declared.terminal.Terminal.{Terminal}
use Rattle.drawing_grammar.specs.declared.terminal.Terminal.TheVariants as is
use Rattle.drawing_grammar.specs.Lexeme.{Lexeme, terminal}
use Rattle.drawing_grammar.specs.Grammar.{Part, Group, keyword_text, Need, mark, item, keyword, fresh, part, group, Choice, lead}
use Rattle.drawing_grammar.specs.Sketch.{Meaning, GroupMeaning, Values}
use Rattle.drawing_grammar.specs.Absent.{absent_value, absent_group}
use Rattle.drawing_grammar.specs.Written.{MayOpen, Written, marked, token, worded, begun, chosen, left_out, grouped, lacking, spelling, weights, values}
use Rattle.drawing_grammar.specs.Machine.{same, choice_at, Step, Next, Stuck, passed, entered, group_entered, step}
use Rattle.drawing_grammar.proofs.Terminals.{same_is}
use Rattle.drawing_grammar.proofs.Choices.{opens_with}

pub record Before (needs : List Need) (a : ℕ) (t : Lexeme) (later : List Need) (b m : ℕ) (build : Values later → Values needs) (ws : Written later) : Type 0 where
  pub written : Written needs
  pub spelled : spelling written ≡ t ∷ spelling ws
  pub weighed : weights written a ≡ m ∷ weights ws b
  pub valued : values written ≡ build (values ws)

abbrev pub Undone : (needs : List Need) → ℕ → Lexeme → Step needs → Type 0
Undone needs a t (Next later b m build) = (ws : Written later) → Before needs a t later b m build ws
Undone needs a t Stuck = Unit {0}

mark_undone : (l : Terminal) (rest : List Need) (a : ℕ) (t : Lexeme) (b : Bool) → same (terminal t) l ≡ b → Undone (mark l ∷ rest) a t (if b then Next rest a 0 (λ v. v) else Stuck)
mark_undone l rest a t true e = λ ws. record { written = marked t (same_is (terminal t) l e) ws; spelled = refl; weighed = refl; valued = refl }
mark_undone l rest a t false e = tt

item_undone : (l : Terminal) (rest : List Need) (a : ℕ) (t : Lexeme) (b : Bool) → same (terminal t) l ≡ b → Undone (item l ∷ rest) a t (if b then Next rest a 0 (λ v. (t, v)) else Stuck)
item_undone l rest a t true e = λ ws. record { written = token t (same_is (terminal t) l e) ws; spelled = refl; weighed = refl; valued = refl }
item_undone l rest a t false e = tt

keyword_undone : (x : Keyword) (rest : List Need) (a : ℕ) (t : Lexeme) (b c : Bool) → same (terminal t) is.Word ≡ b →
    bytes_eq t.text (keyword_text x) ≡ c → Undone (keyword x ∷ rest) a t (if b && c then Next rest a 0 (λ v. v) else Stuck)
keyword_undone x rest a t true true e f = λ ws. record {
  written =
      worded t (same_is (terminal t) is.Word e) ((bytes_eq-Decides t.text (keyword_text x)).0 f) ws;
  spelled = refl;
  weighed = refl;
  valued = refl;
}
keyword_undone x rest a t true false e f = tt
keyword_undone x rest a t false c e f = tt

fresh_undone : (rest : List Need) (a : ℕ) (t : Lexeme) (s : Step rest) → Undone rest 0 t s → Undone (fresh ∷ rest) a t (passed s (λ v. v))
fresh_undone rest a t (Next later b m build) u = λ ws. let x = u ws in record { written = begun x.written; spelled = x.spelled; weighed = x.weighed; valued = x.valued }
fresh_undone rest a t Stuck u = tt

-- a choice that is taken may begin with the token
abbrev MayBe : (p : Part) → Lexeme → Option (Choice p) → Type 0
MayBe p t None = ⊤
MayBe p t (Some c) = MayOpen c t

may_be : (p : Part) (t : Lexeme) (ts : List Lexeme) (o : Option (Choice p)) → choice_at p t ts ≡ o → MayBe p t o
may_be p t ts None e = tt
may_be p t ts (Some c) e = opens_with p t ts c e

part_undone : (p : Part) (n : ℕ) (rest : List Need) (a : ℕ) (t : Lexeme) (o : Option (Choice p)) (absent : Option (Meaning p)) (s : Step rest) →
    MayBe p t o → absent_value p ≡ absent → Undone rest a t s → Undone (part p n ∷ rest) a t (entered p n rest a t o absent s)
part_undone p n rest a t (Some c) absent s e f u = λ ws. record { written = chosen c t e ws; spelled = refl; weighed = refl; valued = refl }
part_undone p n rest a t None (Some v) (Next later b m build) e f u = λ ws. let x =
    u ws in record { written = left_out v f x.written; spelled = x.spelled; weighed = x.weighed; valued = ap (λ (w : Values rest). (v, w)) x.valued }
part_undone p n rest a t None (Some v) Stuck e f u = tt
part_undone p n rest a t None None s e f u = tt

group_undone : (h : Group) (n : ℕ) (rest : List Need) (a : ℕ) (t : Lexeme) (o : Option (Choice (lead h))) (absent : Option (GroupMeaning h))
    (s : Step rest) → MayBe (lead h) t o → absent_group h ≡ absent →
    Undone rest a t s → Undone (group h n ∷ rest) a t (group_entered h n rest a t o absent s)
group_undone h n rest a t (Some c) absent s e f u = λ ws. record { written = grouped (chosen c t e ws); spelled = refl; weighed = refl; valued = refl }
group_undone h n rest a t None (Some v) (Next later b m build) e f u = λ ws. let x =
    u ws in record { written = lacking v f x.written; spelled = x.spelled; weighed = x.weighed; valued = ap (λ (w : Values rest). (v, w)) x.valued }
group_undone h n rest a t None (Some v) Stuck e f u = tt
group_undone h n rest a t None None s e f u = tt

pub undo : (needs : List Need) (a : ℕ) (t : Lexeme) (ts : List Lexeme) → Undone needs a t (step needs a t ts)
undo [] a t ts = tt
undo (mark l ∷ rest) a t ts = mark_undone l rest a t (same (terminal t) l) refl
undo (item l ∷ rest) a t ts = item_undone l rest a t (same (terminal t) l) refl
undo (keyword x ∷ rest) a t ts = keyword_undone x rest a t (same (terminal t) is.Word) (bytes_eq t.text (keyword_text x)) refl refl
undo (fresh ∷ rest) a t ts = fresh_undone rest a t (step rest 0 t ts) (undo rest 0 t ts)
undo (part p n ∷ rest) a t ts = part_undone p n rest a t (choice_at p t ts) (absent_value p) (step rest a t ts)
    (may_be p t ts (choice_at p t ts) refl) refl (undo rest a t ts)
undo (group h n ∷ rest) a t ts = group_undone h n rest a t (choice_at (lead h) t ts) (absent_group h) (step rest a t ts)
    (may_be (lead h) t ts (choice_at (lead h) t ts) refl) refl (undo rest a t ts)
