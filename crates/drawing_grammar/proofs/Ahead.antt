-- How much a step depends on the token after the first one: on whether it is a colon, and only if the first is FOR.
use Rattle.std.proofs.Common.{◌≡◌, ℕ, ◌<◌, Bool, true, false, not, ◌&&◌, if◌then◌else◌, List, [], ◌∷◌, ◌++◌, Option, Some, None, refl, sym, ap, subst, ◌∙◌, arith}
use Rattle.std.specs.Prelude.{is_some, ⊤}
use Rattle.drawing_grammar.specs.declared.edition.Edition.TheVariants.{First, Second}
use Rattle.drawing_grammar.specs.declared.terminal.Keyword.TheVariants.{Const, For}
use Rattle.drawing_grammar.specs.declared.terminal.Terminal.{Terminal}
use Rattle.drawing_grammar.specs.declared.terminal.Terminal.TheVariants as is
use Rattle.drawing_grammar.specs.Lexeme.{Lexeme, terminal}
use Rattle.drawing_grammar.specs.Grammar.{Part, Group, Need, mark, item, keyword, fresh, part, group, Choice, lead, cost}
use Rattle.drawing_grammar.specs.Grammar as g
use Rattle.drawing_grammar.specs.Sketch.{Meaning, GroupMeaning, Values}
use Rattle.drawing_grammar.specs.Absent.{absent_value, absent_group}
use Rattle.drawing_grammar.specs.Written.{Written, spelling, weight, weights, limit, Beyond}
use Rattle.drawing_grammar.specs.Draws.{MayBeLabel}
use Rattle.drawing_grammar.specs.Machine.{same, is_keyword, no_colon, choice, choice_at, Step, Next, Stuck, passed, entered, group_entered, step}
use Rattle.drawing_grammar.proofs.Terminals.{same_is, keyword_is}
use Rattle.drawing_grammar.proofs.Choices.{no_loop, same_choice}
use Rattle.drawing_grammar.proofs.Forced.{Chained, Forces, forced}

-- ---- where it does not matter

same_without : (p : Part) (t : Lexeme) (ts zs : List Lexeme) → is_keyword For t ≡ false → choice_at p t ts ≡ choice_at p t zs
same_without (g.Statement Second) t ts zs e =
    ap (λ (k : Bool). if k && no_colon ts then Some g.for_ else choice (g.Statement Second) (terminal t)) e
    ∙ sym (ap (λ (k : Bool). if k && no_colon zs then Some g.for_ else choice (g.Statement Second) (terminal t)) e)
same_without (g.Statement First) t ts zs e = refl
same_without _ t ts zs e = refl

-- where each part makes the same of both
steps_alike : (needs : List Need) (a : ℕ) (t : Lexeme) (ts zs : List Lexeme) →
    ((p : Part) → choice_at p t ts ≡ choice_at p t zs) → step needs a t ts ≡ step needs a t zs
steps_alike [] a t ts zs h = refl
steps_alike (mark l ∷ rest) a t ts zs h = refl
steps_alike (item l ∷ rest) a t ts zs h = refl
steps_alike (keyword x ∷ rest) a t ts zs h = refl
steps_alike (fresh ∷ rest) a t ts zs h =
    ap (λ (s : Step rest). passed {needs = fresh ∷ rest} s (λ v. v)) (steps_alike rest 0 t ts zs h)
steps_alike (part p n ∷ rest) a t ts zs h =
    ap (λ (o : Option (Choice p)). entered p n rest a t o (absent_value p) (step rest a t ts)) (h p)
    ∙ ap (λ (s : Step rest). entered p n rest a t (choice_at p t zs) (absent_value p) s) (steps_alike rest a t ts zs h)
steps_alike (group i n ∷ rest) a t ts zs h =
    ap (λ (o : Option (Choice (lead i))). group_entered i n rest a t o (absent_group i) (step rest a t ts)) (h (lead i))
    ∙ ap (λ (s : Step rest). group_entered i n rest a t (choice_at (lead i) t zs) (absent_group i) s)
    (steps_alike rest a t ts zs h)

-- ---- labels

-- The step costs nothing.
abbrev pub IsLight : {needs : List Need} → Step needs → Type 0
IsLight (Next later a m build) = m ≡ 0
IsLight Stuck = ⊤

word_cost : (p : Part) (l : Terminal) (c : Choice p) → l ≡ is.Word → choice p l ≡ Some c → (n a : ℕ) → weight (cost c) n a ≡ 0
word_cost g.Unary is.Word c e h n a = let k : g.parameter ≡ c = cc in ap (λ (d : Choice g.Unary). weight (cost d) n a) (sym k)
word_cost g.Assign is.Word c e h n a = let k : g.assign ≡ c = cc in ap (λ (d : Choice g.Assign). weight (cost d) n a) (sym k)
word_cost g.Constant is.Word c e h n a = let k : g.constant ≡ c = cc in ap (λ (d : Choice g.Constant). weight (cost d) n a) (sym k)
word_cost (g.Statement v) is.Word c e h n a = let k : g.use_ ≡ c = cc in ap (λ (d : Choice (g.Statement v)). weight (cost d) n a) (sym k)
word_cost _ _ c e h n a = absurd cc

label_cost : (p : Part) (t : Lexeme) (ts : List Lexeme) (c : Choice p) → terminal t ≡ is.Word → no_colon ts ≡ false →
    choice_at p t ts ≡ Some c → (n a : ℕ) → weight (cost c) n a ≡ 0
label_cost g.Constant t ts c e f h n a = one (is_keyword Const t) h
  where
    one : (k : Bool) → (if k then Some g.constant else None) ≡ Some c → weight (cost c) n a ≡ 0
    one true i = let k : g.constant ≡ c = cc in ap (λ (d : Choice g.Constant). weight (cost d) n a) (sym k)
    one false i = absurd cc
label_cost (g.Statement First) t ts c e f h n a = word_cost (g.Statement First) (terminal t) c e h n a
label_cost (g.Statement Second) t ts c e f h n a = word_cost (g.Statement Second) (terminal t) c e
    (sym (ap (λ (k : Bool). if k then Some g.for_ else choice (g.Statement Second) (terminal t))
    (no_loop (is_keyword For t) (no_colon ts) f)) ∙ h) n a
label_cost g.Unary t ts c e f h n a = word_cost g.Unary (terminal t) c e h n a
label_cost g.Factors t ts c e f h n a = word_cost g.Factors (terminal t) c e h n a
label_cost g.Terms t ts c e f h n a = word_cost g.Terms (terminal t) c e h n a
label_cost g.Comparison t ts c e f h n a = word_cost g.Comparison (terminal t) c e h n a
label_cost g.OrEqual t ts c e f h n a = word_cost g.OrEqual (terminal t) c e h n a
label_cost g.Range t ts c e f h n a = word_cost g.Range (terminal t) c e h n a
label_cost g.RangeEnd t ts c e f h n a = word_cost g.RangeEnd (terminal t) c e h n a
label_cost g.Parameters t ts c e f h n a = word_cost g.Parameters (terminal t) c e h n a
label_cost g.Assign t ts c e f h n a = word_cost g.Assign (terminal t) c e h n a
label_cost g.MoreAssigns t ts c e f h n a = word_cost g.MoreAssigns (terminal t) c e h n a
label_cost g.Formal t ts c e f h n a = word_cost g.Formal (terminal t) c e h n a
label_cost g.MoreFormals t ts c e f h n a = word_cost g.MoreFormals (terminal t) c e h n a
label_cost g.FormalOutputs t ts c e f h n a = word_cost g.FormalOutputs (terminal t) c e h n a
label_cost g.Delay t ts c e f h n a = word_cost g.Delay (terminal t) c e h n a
label_cost g.Fall t ts c e f h n a = word_cost g.Fall (terminal t) c e h n a
label_cost g.Term t ts c e f h n a = word_cost g.Term (terminal t) c e h n a
label_cost g.Atom t ts c e f h n a = word_cost g.Atom (terminal t) c e h n a
label_cost g.MoreTerms t ts c e f h n a = word_cost g.MoreTerms (terminal t) c e h n a
label_cost g.Hold t ts c e f h n a = word_cost g.Hold (terminal t) c e h n a
label_cost g.MoreConns t ts c e f h n a = word_cost g.MoreConns (terminal t) c e h n a
label_cost g.Outputs t ts c e f h n a = word_cost g.Outputs (terminal t) c e h n a
label_cost (g.Otherwise v) t ts c e f h n a = word_cost (g.Otherwise v) (terminal t) c e h n a
label_cost (g.Macro v) t ts c e f h n a = word_cost (g.Macro v) (terminal t) c e h n a
label_cost g.Index t ts c e f h n a = word_cost g.Index (terminal t) c e h n a
label_cost g.Entry t ts c e f h n a = word_cost g.Entry (terminal t) c e h n a
label_cost g.MoreEntries t ts c e f h n a = word_cost g.MoreEntries (terminal t) c e h n a
label_cost g.CaseStatement t ts c e f h n a = word_cost g.CaseStatement (terminal t) c e h n a
label_cost g.WireBounds t ts c e f h n a = word_cost g.WireBounds (terminal t) c e h n a
label_cost g.PrecisionSkew t ts c e f h n a = word_cost g.PrecisionSkew (terminal t) c e h n a
label_cost g.ClockSkew t ts c e f h n a = word_cost g.ClockSkew (terminal t) c e h n a
label_cost (g.Text v) t ts c e f h n a = word_cost (g.Text v) (terminal t) c e h n a

light_if : (needs later : List Need) (a : ℕ) (f : Values later → Values needs) (b : Bool) →
    IsLight {needs = needs} (if b then Next later a 0 f else Stuck)
light_if needs later a f true = refl
light_if needs later a f false = tt

passed_light : (needs : List Need) {later : List Need} (s : Step later) (f : Values later → Values needs) → IsLight s →
    IsLight {needs = needs} (passed s f)
passed_light needs (Next later a m build) f h = h
passed_light needs Stuck f h = tt

entered_light : (p : Part) (n : ℕ) (rest : List Need) (a : ℕ) (t : Lexeme) (o : Option (Choice p)) (absent : Option (Meaning p))
    (s : Step rest) → ((c : Choice p) → o ≡ Some c → weight (cost c) n a ≡ 0) → IsLight s → IsLight (entered p n rest a t o absent s)
entered_light p n rest a t (Some c) absent s h l = h c refl
entered_light p n rest a t None (Some v) s h l = passed_light (part p n ∷ rest) s (λ w. (v, w)) l
entered_light p n rest a t None None s h l = tt

group_light : (i : Group) (n : ℕ) (rest : List Need) (a : ℕ) (t : Lexeme) (o : Option (Choice (lead i)))
    (absent : Option (GroupMeaning i)) (s : Step rest) → ((c : Choice (lead i)) → o ≡ Some c → weight (cost c) n a ≡ 0) →
    IsLight s → IsLight (group_entered i n rest a t o absent s)
group_light i n rest a t (Some c) absent s h l = h c refl
group_light i n rest a t None (Some v) s h l = passed_light (group i n ∷ rest) s (λ w. (v, w)) l
group_light i n rest a t None None s h l = tt

-- A word before a colon costs nothing.
pub label_is_light : (needs : List Need) (a : ℕ) (t : Lexeme) (ts : List Lexeme) → terminal t ≡ is.Word →
    no_colon ts ≡ false → IsLight (step needs a t ts)
label_is_light [] a t ts e f = tt
label_is_light (mark l ∷ rest) a t ts e f = light_if (mark l ∷ rest) rest a (λ v. v) (same (terminal t) l)
label_is_light (item l ∷ rest) a t ts e f = light_if (item l ∷ rest) rest a (λ v. (t, v)) (same (terminal t) l)
label_is_light (keyword x ∷ rest) a t ts e f = light_if (keyword x ∷ rest) rest a (λ v. v) (is_keyword x t)
label_is_light (fresh ∷ rest) a t ts e f = passed_light (fresh ∷ rest) (step rest 0 t ts) (λ v. v) (label_is_light rest 0 t ts e f)
label_is_light (part p n ∷ rest) a t ts e f = entered_light p n rest a t (choice_at p t ts) (absent_value p) (step rest a t ts)
    (λ c h. label_cost p t ts c e f h n a) (label_is_light rest a t ts e f)
label_is_light (group i n ∷ rest) a t ts e f = group_light i n rest a t (choice_at (lead i) t ts) (absent_group i)
    (step rest a t ts) (λ c h. label_cost (lead i) t ts c e f h n a) (label_is_light rest a t ts e f)

-- ---- what begins nothing

abbrev pub is_stuck : {needs : List Need} → Step needs → Bool
is_stuck (Next later a m build) = false
is_stuck Stuck = true

abbrev stuck_by : Bool → Bool → Bool → Bool
stuck_by true absent rest = false
stuck_by false true rest = rest
stuck_by false false rest = true

passed_stuck : (needs : List Need) {later : List Need} (s : Step later) (f : Values later → Values needs) →
    is_stuck {needs = needs} (passed s f) ≡ is_stuck s
passed_stuck needs (Next later a m build) f = refl
passed_stuck needs Stuck f = refl

entered_stuck : (p : Part) (n : ℕ) (rest : List Need) (a : ℕ) (t : Lexeme) (o : Option (Choice p)) (absent : Option (Meaning p))
    (s : Step rest) → is_stuck (entered p n rest a t o absent s) ≡ stuck_by (is_some o) (is_some absent) (is_stuck s)
entered_stuck p n rest a t (Some c) absent s = refl
entered_stuck p n rest a t None (Some v) s = passed_stuck (part p n ∷ rest) s (λ w. (v, w))
entered_stuck p n rest a t None None s = refl

group_stuck : (i : Group) (n : ℕ) (rest : List Need) (a : ℕ) (t : Lexeme) (o : Option (Choice (lead i)))
    (absent : Option (GroupMeaning i)) (s : Step rest) →
    is_stuck (group_entered i n rest a t o absent s) ≡ stuck_by (is_some o) (is_some absent) (is_stuck s)
group_stuck i n rest a t (Some c) absent s = refl
group_stuck i n rest a t None (Some v) s = passed_stuck (group i n ∷ rest) s (λ w. (v, w))
group_stuck i n rest a t None None s = refl

loop_or_use : (t : Lexeme) (b : Bool) →
    is_some (if is_keyword For t && b then Some g.for_ else choice (g.Statement Second) (terminal t))
    ≡ is_some (choice (g.Statement Second) (terminal t))
loop_or_use t b = one (is_keyword For t) refl b
  where
    one : (k : Bool) → is_keyword For t ≡ k → (b : Bool) →
        is_some (if k && b then Some g.for_ else choice (g.Statement Second) (terminal t))
        ≡ is_some (choice (g.Statement Second) (terminal t))
    one true e true = sym (ap (λ (l : Terminal). is_some (choice (g.Statement Second) l)) (keyword_is For t e).0)
    one true e false = refl
    one false e b = refl

some_alike : (p : Part) (t : Lexeme) (ts zs : List Lexeme) → is_some (choice_at p t ts) ≡ is_some (choice_at p t zs)
some_alike (g.Statement Second) t ts zs = loop_or_use t (no_colon ts) ∙ sym (loop_or_use t (no_colon zs))
some_alike (g.Statement First) t ts zs = refl
some_alike _ t ts zs = refl

-- Whether a token begins what is needed does not depend on what stands after it.
pub stuck_alike : (needs : List Need) (a : ℕ) (t : Lexeme) (ts zs : List Lexeme) →
    is_stuck (step needs a t ts) ≡ is_stuck (step needs a t zs)
stuck_alike [] a t ts zs = refl
stuck_alike (mark l ∷ rest) a t ts zs = refl
stuck_alike (item l ∷ rest) a t ts zs = refl
stuck_alike (keyword x ∷ rest) a t ts zs = refl
stuck_alike (fresh ∷ rest) a t ts zs =
    passed_stuck (fresh ∷ rest) (step rest 0 t ts) (λ v. v)
    ∙ (stuck_alike rest 0 t ts zs ∙ sym (passed_stuck (fresh ∷ rest) (step rest 0 t zs) (λ v. v)))
stuck_alike (part p n ∷ rest) a t ts zs =
    entered_stuck p n rest a t (choice_at p t ts) (absent_value p) (step rest a t ts)
    ∙ (ap (λ (b : Bool). stuck_by b (is_some (absent_value p)) (is_stuck (step rest a t ts))) (some_alike p t ts zs)
    ∙ (ap (λ (b : Bool). stuck_by (is_some (choice_at p t zs)) (is_some (absent_value p)) b) (stuck_alike rest a t ts zs)
    ∙ sym (entered_stuck p n rest a t (choice_at p t zs) (absent_value p) (step rest a t zs))))
stuck_alike (group i n ∷ rest) a t ts zs =
    group_stuck i n rest a t (choice_at (lead i) t ts) (absent_group i) (step rest a t ts)
    ∙ (ap (λ (b : Bool). stuck_by b (is_some (absent_group i)) (is_stuck (step rest a t ts))) (some_alike (lead i) t ts zs)
    ∙ (ap (λ (b : Bool). stuck_by (is_some (choice_at (lead i) t zs)) (is_some (absent_group i)) b) (stuck_alike rest a t ts zs)
    ∙ sym (group_stuck i n rest a t (choice_at (lead i) t zs) (absent_group i) (step rest a t zs))))

forces_not_stuck : {needs : List Need} (w : Written needs) (a : ℕ) (zs : List Lexeme) (x : Step needs) → Forces w a zs x →
    is_stuck x ≡ false
forces_not_stuck w a zs (Next later b m build) f = refl
forces_not_stuck w a zs Stuck f = absurd f

-- A token that something written begins with is not stuck, whatever stands after it.
pub not_stuck : {needs : List Need} (w : Written needs) (a : ℕ) (t : Lexeme) (ts zs : List Lexeme) → Chained needs →
    spelling w ≡ t ∷ zs → is_stuck (step needs a t ts) ≡ false
not_stuck {needs} w a t ts zs c e =
    stuck_alike needs a t ts zs ∙ forces_not_stuck w a zs (step needs a t zs) (forced w a t zs zs refl c e)

-- ---- what is beyond a limit

-- The step goes beyond a limit.
abbrev pub IsHeavy : {needs : List Need} → Step needs → Type 0
IsHeavy (Next later a m build) = limit < m
IsHeavy Stuck = ⊥

pub beyond_first : (m : ℕ) (xs ys : List ℕ) → ys ≡ m ∷ xs → Beyond [] ys → limit < m
beyond_first m xs [] e h = absurd h
beyond_first m xs (y ∷ ys) e h = let i : m ≡ y = cc in rw i h

forces_heavy : {needs : List Need} (w : Written needs) (a : ℕ) (zs : List Lexeme) (x : Step needs) → Forces w a zs x →
    Beyond [] (weights w a) → IsHeavy x
forces_heavy w a zs (Next later b m build) f far = beyond_first m (weights f.rest b) (weights w a) f.weighed far
forces_heavy w a zs Stuck f far = absurd f

pub light_not_heavy : {needs : List Need} (x : Step needs) → IsLight x → IsHeavy x → ⊥
light_not_heavy (Next later a m build) l h = absurd (omega arith)
light_not_heavy Stuck l h = h

label_behind : (t : Lexeme) (ts : List Lexeme) → terminal t ≡ is.Word → no_colon ts ≡ false → MayBeLabel t ts
label_behind t [] e f = e
label_behind t (u ∷ us) e f = (e, one (same (terminal u) is.Colon) refl f)
  where
    one : (b : Bool) → same (terminal u) is.Colon ≡ b → not b ≡ false → terminal u ≡ is.Colon
    one true h i = same_is (terminal u) is.Colon h
    one false h i = absurd cc

pub no_colon_there : (t : Lexeme) (ts : List Lexeme) → MayBeLabel t ts → no_colon ts ≡ false
no_colon_there t [] e = refl
no_colon_there t (u ∷ us) e = ap (λ (l : Terminal). not (same l is.Colon)) e.1

pub is_that_word : (t : Lexeme) (ts : List Lexeme) → MayBeLabel t ts → terminal t ≡ is.Word
is_that_word t [] e = e
is_that_word t (u ∷ us) e = e.0

-- A token that is beyond a limit in something written, and no label here, is beyond it here.
pub heavy : {needs : List Need} (w : Written needs) (a : ℕ) (t : Lexeme) (ts zs : List Lexeme) → Chained needs →
    spelling w ≡ t ∷ zs → Beyond [] (weights w a) → (MayBeLabel t ts → ⊥) → IsHeavy (step needs a t ts)
heavy {needs} w a t ts zs c e far unlabelled = one (is_keyword For t) refl (no_colon ts) refl (no_colon zs) refl
  where
    own : IsHeavy (step needs a t zs)
    own = forces_heavy w a zs (step needs a t zs) (forced w a t zs zs refl c e) far

    from : ((p : Part) → choice_at p t zs ≡ choice_at p t ts) → IsHeavy (step needs a t ts)
    from h = subst (λ (x : Step needs). IsHeavy x) (steps_alike needs a t zs ts h) own

    one : (k : Bool) → is_keyword For t ≡ k → (b : Bool) → no_colon ts ≡ b → (d : Bool) → no_colon zs ≡ d →
        IsHeavy (step needs a t ts)
    one false h b f d i = from (λ p. same_without p t zs ts h)
    one true h true f true i = from (λ p. same_choice p t zs ts (i ∙ sym f))
    one true h true f false i = absurd (light_not_heavy (step needs a t zs)
        (label_is_light needs a t zs (keyword_is For t h).0 i) own)
    one true h false f d i = absurd (unlabelled (label_behind t ts (keyword_is For t h).0 f))

-- the head of what stands after a token is the same, whatever follows the token at which both go on
pub same_head : (before : List Lexeme) (t : Lexeme) (xs ys : List Lexeme) →
    no_colon (before ++ t ∷ xs) ≡ no_colon (before ++ t ∷ ys)
same_head [] t xs ys = refl
same_head (b ∷ before) t xs ys = refl
