-- A token leaves one way to go on: what is written where the needs are, and begins with it, is what the step says.
use Rattle.std.proofs.Common.{◌≡◌, ℕ, Bool, true, false, not, ◌&&◌, ◌||◌, List, [], ◌∷◌, ◌++◌, Option, Some, None, if◌then◌else◌, refl, sym, ap, subst, ◌∙◌}
use Rattle.std.specs.Prelude.{is_some}
use Rattle.std.specs.Str.{bytes_eq}
use Rattle.std.proofs.lemmas.Slice.Eq.{bytes_eq-Decides}
use Rattle.std.proofs.lemmas.Bool.{and_parts, or_left, or_right, and_from, not_from_false}
use Rattle.drawing_grammar.specs.declared.terminal.Keyword.{Keyword}
use Rattle.drawing_grammar.specs.declared.terminal.Terminal.{Terminal}
use Rattle.drawing_grammar.specs.declared.terminal.Terminal.TheVariants as is
use Rattle.drawing_grammar.specs.Lexeme.{Lexeme, terminal}
use Rattle.drawing_grammar.specs.Grammar.{Part, Group, keyword_text, Need, mark, item, keyword, fresh, part, group, Choice, following, lead, others}
use Rattle.drawing_grammar.specs.Sketch.{Meaning, GroupMeaning, Values}
use Rattle.drawing_grammar.specs.Absent.{absent_value, absent_group}
use Rattle.drawing_grammar.specs.Written.{MayOpen, Written, nothing, marked, token, worded, begun, chosen, left_out, grouped, lacking, spelling, weights, values}
use Rattle.drawing_grammar.specs.Machine.{same, is_keyword, no_colon, choice, choice_at, Step, Next, Stuck, passed, entered, group_entered, step}
use Rattle.drawing_grammar.proofs.Terminals.{is_same, tested_at}
use Rattle.drawing_grammar.proofs.Choices.{begins_part, behind_says, takes, takes_none, same_choice}
use Rattle.drawing_grammar.proofs.Follow.{extends, extends_group, among, starts, apart, well_chained, choice_chained, group_chained, goes_on, part_goes_on, group_goes, group_goes_on, leads}

abbrev pub never : Terminal → Bool
never l = false

-- No part is followed by what it would go on with.
abbrev pub Chained : List Need → Type 0
Chained [] = Unit {0}
Chained (mark k ∷ rest) = Chained rest
Chained (item k ∷ rest) = Chained rest
Chained (keyword word ∷ rest) = Chained rest
Chained (fresh ∷ rest) = Chained rest
Chained (part p n ∷ rest) = ((l : Terminal) → starts rest never l ≡ true → among (extends p) l ≡ false) × Chained rest
Chained (group h n ∷ rest) = ((l : Terminal) → starts rest never l ≡ true → among (extends_group h) l ≡ false) × Chained rest

-- ---- what begins a list of needs

starts_append : (xs ys : List Need) (f : Terminal → Bool) (l : Terminal) → starts (xs ++ ys) f l ≡ starts xs (starts ys f) l
starts_append [] ys f l = refl
starts_append (mark k ∷ xs) ys f l = refl
starts_append (item k ∷ xs) ys f l = refl
starts_append (keyword word ∷ xs) ys f l = refl
starts_append (fresh ∷ xs) ys f l = starts_append xs ys f l
starts_append (part p n ∷ xs) ys f l = ap (λ (b : Bool). is_some (choice p l) || (is_some (absent_value p) && b)) (starts_append xs ys f l)
starts_append (group h n ∷ xs) ys f l = ap (λ (b : Bool). is_some (choice (lead h) l) || (is_some (absent_group h) && b)) (starts_append xs ys f l)

more_or : (a b c d : Bool) → (c ≡ true → d ≡ true) → (a || (b && c)) ≡ true → (a || (b && d)) ≡ true
more_or true b c d h e = refl
more_or false true c d h e = h e
more_or false false c d h e = absurd cc

starts_more : (xs : List Need) (f h : Terminal → Bool) (l : Terminal) → (f l ≡ true → h l ≡ true) → starts xs f l ≡ true → starts xs h l ≡ true
starts_more [] f h l m e = m e
starts_more (mark k ∷ xs) f h l m e = e
starts_more (item k ∷ xs) f h l m e = e
starts_more (keyword word ∷ xs) f h l m e = e
starts_more (fresh ∷ xs) f h l m e = starts_more xs f h l m e
starts_more (part p n ∷ xs) f h l m e = more_or (is_some (choice p l)) (is_some (absent_value p)) (starts xs f l) (starts xs h l) (starts_more xs f h l m) e
starts_more (group g n ∷ xs) f h l m e = more_or (is_some (choice (lead g) l)) (is_some (absent_group g)) (starts xs f l) (starts xs h l) (starts_more xs f h l m) e

is_some_at : {A : Type 0} (o : Option A) (x : A) → o ≡ Some x → is_some o ≡ true
is_some_at o x e = ap is_some e

-- what is written begins with what can begin it
pub starts_written : {needs : List Need} (w : Written needs) (f : Terminal → Bool) (t : Lexeme) (zs : List Lexeme) → spelling w ≡ t ∷ zs → starts needs f (terminal t) ≡ true
starts_written nothing f t zs e = absurd cc
starts_written (marked {l = l} u h w) f t zs e = let k : u ≡ t = cc in is_same (terminal t) l (ap terminal (sym k) ∙ h)
starts_written (token {l = l} u h w) f t zs e = let k : u ≡ t = cc in is_same (terminal t) l (ap terminal (sym k) ∙ h)
starts_written (worded u h i w) f t zs e = let k : u ≡ t = cc in is_same (terminal t) is.Word (ap terminal (sym k) ∙ h)
starts_written (begun w) f t zs e = starts_written w f t zs e
starts_written (chosen {p = p} {rest = rest} c u h w) f t zs e = let k : u ≡ t = cc in or_left (is_some (choice p (terminal t)))
    (is_some (absent_value p) && starts rest f (terminal t)) (ap (λ (x : Lexeme). is_some (choice p (terminal x))) (sym k) ∙ begins_part c u h)
starts_written (left_out {p = p} {rest = rest} v h w) f t zs e =
    or_right (is_some (choice p (terminal t))) (is_some (absent_value p) && starts rest f (terminal t))
    (and_from (is_some (absent_value p)) (starts rest f (terminal t)) (is_some_at (absent_value p) v h) (starts_written w f t zs e))
starts_written (grouped {g = g} {n = n} {rest = rest} w) f t zs e =
    or_left (is_some (choice (lead g) (terminal t))) (is_some (absent_group g) && starts rest f (terminal t))
    (led (is_some (choice (lead g) (terminal t))) (is_some (absent_value (lead g)))
    (starts (others g n ++ rest) f (terminal t)) (ap is_some (leads g)) (starts_written w f t zs e))
  where
    led : (a b c : Bool) → b ≡ false → (a || (b && c)) ≡ true → a ≡ true
    led true b c h e = refl
    led false true c h e = absurd cc
    led false false c h e = absurd cc
starts_written (lacking {g = g} {rest = rest} v h w) f t zs e =
    or_right (is_some (choice (lead g) (terminal t))) (is_some (absent_group g) && starts rest f (terminal t))
    (and_from (is_some (absent_group g)) (starts rest f (terminal t)) (is_some_at (absent_group g) v h) (starts_written w f t zs e))

-- ---- chains of needs

apart_at : (ls : List Terminal) (rest : List Need) (behind : List Terminal) → apart ls rest behind ≡ true → (l : Terminal) → starts rest (λ k. not (among behind k)) l ≡ true → among ls l ≡ false
apart_at ls rest behind e l s = one (starts rest (λ k. not (among behind k)) l) (among ls l) (tested_at (λ k. if starts rest (λ j. not (among behind j)) k then not (among ls k) else true) e l) s
  where
    one : (a b : Bool) → (if a then not b else true) ≡ true → a ≡ true → b ≡ false
    one true true e s = absurd cc
    one true false e s = refl
    one false b e s = absurd cc

-- a need's part is apart from what comes after it, also where the list goes on
apart_on : (ls : List Terminal) (xs rest : List Need) (behind : List Terminal) → apart ls xs behind ≡ true →
    ((l : Terminal) → starts rest never l ≡ true → among behind l ≡ false) → (l : Terminal) → starts (xs ++ rest) never l ≡ true → among ls l ≡ false
apart_on ls xs rest behind e h l s =
    apart_at ls xs behind e l (starts_more xs (starts rest never) (λ k. not (among behind k))
    l (λ k. not_from_false (among behind l) (h l k)) (sym (starts_append xs rest never l) ∙ s))

pub chained_on : (xs rest : List Need) (behind : List Terminal) → well_chained xs behind ≡ true →
    ((l : Terminal) → starts rest never l ≡ true → among behind l ≡ false) → Chained rest → Chained (xs ++ rest)
chained_on [] rest behind e h c = c
chained_on (mark k ∷ xs) rest behind e h c = chained_on xs rest behind e h c
chained_on (item k ∷ xs) rest behind e h c = chained_on xs rest behind e h c
chained_on (keyword word ∷ xs) rest behind e h c = chained_on xs rest behind e h c
chained_on (fresh ∷ xs) rest behind e h c = chained_on xs rest behind e h c
chained_on (part p n ∷ xs) rest behind e h c = let k = and_parts (apart (extends p) xs behind) (well_chained xs behind) e in
    (apart_on (extends p) xs rest behind k.0 h, chained_on xs rest behind k.1 h c)
chained_on (group g n ∷ xs) rest behind e h c = let k = and_parts (apart (extends_group g) xs behind) (well_chained xs behind) e in
    (apart_on (extends_group g) xs rest behind k.0 h, chained_on xs rest behind k.1 h c)

pub choice_on : {p : Part} (c : Choice p) (n : ℕ) (rest : List Need) → Chained (part p n ∷ rest) → Chained (following c n ++ rest)
choice_on {p} c n rest h = chained_on (following c n) rest (extends p) (choice_chained c n) h.0 h.1

pub group_on : (g : Group) (n : ℕ) (rest : List Need) → Chained (group g n ∷ rest) → Chained (part (lead g) n ∷ (others g n ++ rest))
group_on g n rest h = chained_on (part (lead g) n ∷ others g n) rest (extends_group g) (group_chained g n) h.0 h.1

-- ---- the step

pub record After {needs : List Need} (w : Written needs) (a : ℕ) (zs : List Lexeme) (later : List Need) (b m : ℕ) (build : Values later → Values needs) : Type 0 where
  pub rest : Written later
  pub spelled : spelling rest ≡ zs
  pub weighed : weights w a ≡ m ∷ weights rest b
  pub valued : values w ≡ build (values rest)
  pub chained : Chained later

abbrev pub Forces : {needs : List Need} → Written needs → ℕ → List Lexeme → Step needs → Type 0
Forces w a zs (Next later b m build) = After w a zs later b m build
Forces w a zs Stuck = ⊥

mark_forced : {l : Terminal} {rest : List Need} (u : Lexeme) (h : terminal u ≡ l) (w : Written rest) (a : ℕ) (t : Lexeme) (zs : List Lexeme)
    (b : Bool) → b ≡ true → spelling w ≡ zs → Chained rest → Forces (marked u h w) a zs (if b then Next rest a 0 (λ v. v) else Stuck)
mark_forced u h w a t zs true e s c = record { rest = w; spelled = s; weighed = refl; valued = refl; chained = c }
mark_forced u h w a t zs false e s c = absurd cc

item_forced : {l : Terminal} {rest : List Need} (u : Lexeme) (h : terminal u ≡ l) (w : Written rest) (a : ℕ) (t : Lexeme) (zs : List Lexeme)
    (b : Bool) → b ≡ true → u ≡ t → spelling w ≡ zs → Chained rest → Forces (token u h w) a zs (if b then Next rest a 0 (λ v. (t, v)) else Stuck)
item_forced u h w a t zs true e k s c = record { rest = w; spelled = s; weighed = refl; valued = ap (λ (x : Lexeme). (x, values w)) k; chained = c }
item_forced u h w a t zs false e k s c = absurd cc

keyword_forced : (x : Keyword) (rest : List Need) (u : Lexeme) (h : terminal u ≡ is.Word) (i : u.text ≡ keyword_text x) (w : Written rest)
    (a : ℕ) (t : Lexeme) (zs : List Lexeme) (b d : Bool) → b ≡ true → d ≡ true →
    spelling w ≡ zs → Chained rest → Forces (worded u h i w) a zs (if b && d then Next rest a 0 (λ v. v) else Stuck)
keyword_forced x rest u h i w a t zs true true e f s c = record { rest = w; spelled = s; weighed = refl; valued = refl; chained = c }
keyword_forced x rest u h i w a t zs true false e f s c = absurd cc
keyword_forced x rest u h i w a t zs false d e f s c = absurd cc

fresh_forced : {rest : List Need} (w : Written rest) (a : ℕ) (zs : List Lexeme) (s : Step rest) → Forces w 0 zs s → Forces (begun w) a zs (passed s (λ v. v))
fresh_forced w a zs (Next later b m build) f = record { rest = f.rest; spelled = f.spelled; weighed = f.weighed; valued = f.valued; chained = f.chained }
fresh_forced w a zs Stuck f = f

abbrev pair : {A B : Type 0} → A → B → A × B
pair v x = (v, x)

both : {A B : Type 0} (v u : A) (x y : B) → u ≡ v → x ≡ y → pair v x ≡ pair u y
both v u x y e f = rw (e, f) refl

-- a part that is left out, before what it would not go on with
out_forced : (p : Part) (n : ℕ) (rest : List Need) (v : Meaning p) (h : absent_value p ≡ Some v) (w : Written rest) (a : ℕ)
    (t : Lexeme) (zs : List Lexeme) (o : Option (Choice p)) (absent : Option (Meaning p)) (s : Step rest) →
    is_some o ≡ false → absent ≡ Some v → Forces w a zs s → Forces (left_out {n = n} v h w) a zs (entered p n rest a t o absent s)
out_forced p n rest v h w a t zs (Some c) absent s e f g = absurd cc
out_forced p n rest v h w a t zs None (Some u) (Next later b m build) e f g = let k : u ≡ v = cc in record {
  rest =
      g.rest;
  spelled = g.spelled;
  weighed = g.weighed;
  valued = both v u (values w) (build (values g.rest)) k g.valued;
  chained = g.chained;
}
out_forced p n rest v h w a t zs None (Some u) Stuck e f g = g
out_forced p n rest v h w a t zs None None s e f g = absurd cc

lacking_forced : (h : Group) (n : ℕ) (rest : List Need) (v : GroupMeaning h) (i : absent_group h ≡ Some v) (w : Written rest) (a : ℕ)
    (t : Lexeme) (zs : List Lexeme) (o : Option (Choice (lead h))) (absent : Option (GroupMeaning h)) (s : Step rest) →
    is_some o ≡ false → absent ≡ Some v → Forces w a zs s → Forces (lacking {n = n} v i w) a zs (group_entered h n rest a t o absent s)
lacking_forced h n rest v i w a t zs (Some c) absent s e f g = absurd cc
lacking_forced h n rest v i w a t zs None (Some u) (Next later b m build) e f g = let k : u ≡ v = cc in record {
  rest =
      g.rest;
  spelled = g.spelled;
  weighed = g.weighed;
  valued = both v u (values w) (build (values g.rest)) k g.valued;
  chained = g.chained;
}
lacking_forced h n rest v i w a t zs None (Some u) Stuck e f g = g
lacking_forced h n rest v i w a t zs None None s e f g = absurd cc

chosen_forced : (p : Part) (n : ℕ) (rest : List Need) (c : Choice p) (u : Lexeme) (h : MayOpen c u)
    (w : Written (following c n ++ rest)) (a : ℕ) (t : Lexeme) (zs : List Lexeme) (o : Option (Choice p)) (absent : Option (Meaning p))
    (s : Step rest) → Some c ≡ o → u ≡ t → spelling w ≡ zs → Chained (following c n ++ rest) →
    Forces (chosen {n = n} c u h w) a zs (entered p n rest a t o absent s)
chosen_forced p n rest c u h w a t zs o absent s e k i j =
    subst (λ (x : Option (Choice p)). Forces (chosen {n = n} {rest = rest} c u h w) a zs (entered p n rest a t x absent s)) e
    (subst (λ (x : Lexeme). Forces (chosen {n = n} {rest = rest} c u h w) a zs (entered p n rest a x (Some c) absent s))
    k (record { rest = w; spelled = i; weighed = refl; valued = refl; chained = j }))

grouped_forced : (g : Group) (n : ℕ) (rest : List Need) (c : Choice (lead g)) (u : Lexeme) (h : MayOpen c u)
    (w : Written (following c n ++ (others g n ++ rest))) (a : ℕ) (t : Lexeme) (zs : List Lexeme) (o : Option (Choice (lead g)))
    (absent : Option (GroupMeaning g)) (s : Step rest) → Some c ≡ o → u ≡ t → spelling w ≡ zs → Chained (following c n ++ (others g n ++ rest)) →
    Forces (grouped {g = g} {n = n} {rest = rest} (chosen c u h w)) a zs (group_entered g n rest a t o absent s)
grouped_forced g n rest c u h w a t zs o absent s e k i j =
    subst (λ (x : Option (Choice (lead g))). Forces (grouped {g = g} {n = n} {rest = rest} (chosen c u h w)) a zs
    (group_entered g n rest a t x absent s))
    e (subst (λ (x : Lexeme). Forces (grouped {g = g} {n = n} {rest = rest} (chosen c u h w)) a zs (group_entered g n rest a x (Some c) absent s))
    k (record { rest = w; spelled = i; weighed = refl; valued = refl; chained = j }))

none_there : (p : Part) (l : Terminal) (v : Meaning p) → absent_value p ≡ Some v → among (extends p) l ≡ false → is_some (choice p l) ≡ false
none_there p l v e f = one (is_some (absent_value p)) (is_some (choice p l)) (among (extends p) l) (tested_at (goes_on p) (part_goes_on p) l) (ap is_some e) f
  where
    one : (a b c : Bool) → (if a && b then c else true) ≡ true → a ≡ true → c ≡ false → b ≡ false
    one true true c e f g = absurd cc
    one true false c e f g = refl
    one false b c e f g = absurd cc

none_leads : (h : Group) (l : Terminal) (v : GroupMeaning h) → absent_group h ≡ Some v → among (extends_group h) l ≡ false → is_some (choice (lead h) l) ≡ false
none_leads h l v e f = one (is_some (absent_group h)) (is_some (choice (lead h) l)) (among (extends_group h) l) (tested_at (group_goes h) (group_goes_on h) l) (ap is_some e) f
  where
    one : (a b c : Bool) → (if a && b then c else true) ≡ true → a ≡ true → c ≡ false → b ≡ false
    one true true c e f g = absurd cc
    one true false c e f g = refl
    one false b c e f g = absurd cc

-- ---- what a step leaves is a chain

abbrev Chains : {needs : List Need} → Step needs → Type 0
Chains (Next later b m build) = Chained later
Chains Stuck = Unit {0}

if_chains : (needs rest : List Need) (a : ℕ) (f : Values rest → Values needs) (b : Bool) → Chained rest →
    Chains {needs = needs} (if b then Next rest a 0 f else Stuck)
if_chains needs rest a f true c = c
if_chains needs rest a f false c = tt

passed_chains : (needs : List Need) {later : List Need} (s : Step later) (f : Values later → Values needs) → Chains s →
    Chains {needs = needs} (passed s f)
passed_chains needs (Next later b m build) f c = c
passed_chains needs Stuck f c = tt

entered_chains : (p : Part) (n : ℕ) (rest : List Need) (a : ℕ) (t : Lexeme) (o : Option (Choice p)) (absent : Option (Meaning p))
    (s : Step rest) → Chained (part p n ∷ rest) → Chains s → Chains (entered p n rest a t o absent s)
entered_chains p n rest a t (Some c) absent s h k = choice_on c n rest h
entered_chains p n rest a t None (Some v) s h k = passed_chains (part p n ∷ rest) s (λ w. (v, w)) k
entered_chains p n rest a t None None s h k = tt

group_chains : (g : Group) (n : ℕ) (rest : List Need) (a : ℕ) (t : Lexeme) (o : Option (Choice (lead g)))
    (absent : Option (GroupMeaning g)) (s : Step rest) → Chained (group g n ∷ rest) → Chains s →
    Chains (group_entered g n rest a t o absent s)
group_chains g n rest a t (Some c) absent s h k = choice_on c n (others g n ++ rest) (group_on g n rest h)
group_chains g n rest a t None (Some v) s h k = passed_chains (group g n ∷ rest) s (λ w. (v, w)) k
group_chains g n rest a t None None s h k = tt

step_chains : (needs : List Need) (a : ℕ) (t : Lexeme) (ts : List Lexeme) → Chained needs → Chains (step needs a t ts)
step_chains [] a t ts c = tt
step_chains (mark l ∷ rest) a t ts c = if_chains (mark l ∷ rest) rest a (λ v. v) (same (terminal t) l) c
step_chains (item l ∷ rest) a t ts c = if_chains (item l ∷ rest) rest a (λ v. (t, v)) (same (terminal t) l) c
step_chains (keyword x ∷ rest) a t ts c = if_chains (keyword x ∷ rest) rest a (λ v. v) (is_keyword x t) c
step_chains (fresh ∷ rest) a t ts c = passed_chains (fresh ∷ rest) (step rest 0 t ts) (λ v. v) (step_chains rest 0 t ts c)
step_chains (part p n ∷ rest) a t ts c =
    entered_chains p n rest a t (choice_at p t ts) (absent_value p) (step rest a t ts) c (step_chains rest a t ts c.1)
step_chains (group g n ∷ rest) a t ts c =
    group_chains g n rest a t (choice_at (lead g) t ts) (absent_group g) (step rest a t ts) c (step_chains rest a t ts c.1)

pub later_chained : (needs : List Need) (a : ℕ) (t : Lexeme) (ts : List Lexeme) (later : List Need) (b m : ℕ)
    (build : Values later → Values needs) → Chained needs → step needs a t ts ≡ Next later b m build → Chained later
later_chained needs a t ts later b m build c e = subst (λ (x : Step needs). Chains x) e (step_chains needs a t ts c)

-- the choice that is taken of a first token t, before ts, if what is written begins with t and goes on with zs
taken_first : {p : Part} (c : Choice p) (n : ℕ) (rest : List Need) (u : Lexeme) (h : MayOpen c u)
    (w : Written (following c n ++ rest)) (t : Lexeme) (ts zs : List Lexeme) → u ≡ t → spelling w ≡ zs →
    no_colon zs ≡ no_colon ts → choice_at p t ts ≡ Some c
taken_first {p} c n rest u h w t ts zs k i alike =
    ap (λ (x : Lexeme). choice_at p x ts) (sym k)
    ∙ (same_choice p u ts (spelling w) (sym alike ∙ sym (ap no_colon i))
    ∙ takes c u (spelling w) h (behind_says c n rest w))

-- What is written and begins with a token is what the step of that token says, if the tokens after it are alike
-- in so far as the step looks at them.
pub forced : {needs : List Need} (w : Written needs) (a : ℕ) (t : Lexeme) (ts zs : List Lexeme) →
    no_colon zs ≡ no_colon ts → Chained needs → spelling w ≡ t ∷ zs → Forces w a zs (step needs a t ts)
forced nothing a t ts zs alike c e = absurd cc
forced (marked {l = l} u h w) a t ts zs alike c e = let k : u ≡ t = cc in mark_forced u h w a t zs (same (terminal t) l) (is_same (terminal t) l (ap terminal (sym k) ∙ h)) (cc) c
forced (token {l = l} u h w) a t ts zs alike c e = let k : u ≡ t = cc in item_forced u h w a t zs (same (terminal t) l) (is_same (terminal t) l (ap terminal (sym k) ∙ h)) k (cc) c
forced (worded {x = x} {rest = rest} u h i w) a t ts zs alike c e = let k : u ≡ t =
    cc in keyword_forced x rest u h i w a t zs (same (terminal t) is.Word) (bytes_eq t.text (keyword_text x)) (is_same (terminal t)
    is.Word (ap terminal (sym k) ∙ h)) ((bytes_eq-Decides t.text (keyword_text x)).1 (ap (λ (y : Lexeme). y.text) (sym k) ∙ i)) (cc) c
forced (begun {rest = rest} w) a t ts zs alike c e = fresh_forced w a zs (step rest 0 t ts) (forced w 0 t ts zs alike c e)
forced (chosen {p = p} {n = n} {rest = rest} d u h w) a t ts zs alike c e =
    let k : u ≡ t = cc in
    let s : spelling w ≡ zs = cc in
    chosen_forced p n rest d u h w a t zs (choice_at p t ts) (absent_value p) (step rest a t ts)
    (sym (taken_first d n rest u h w t ts zs k s alike)) k s (choice_on d n rest c)
forced (left_out {p = p} {n = n} {rest = rest} v h w) a t ts zs alike c e = out_forced p n rest v h w a t zs (choice_at p t ts)
    (absent_value p) (step rest a t ts)
    (takes_none p t ts (none_there p (terminal t) v h (c.0 (terminal t) (starts_written w never t zs e)))) h (forced w a t ts zs alike c.1 e)
forced (grouped {g = g} {n = n} {rest = rest} (chosen d u h w)) a t ts zs alike c e =
    let k : u ≡ t = cc in
    let s : spelling w ≡ zs = cc in
    grouped_forced g n rest d u h w a t zs (choice_at (lead g) t ts) (absent_group g) (step rest a t ts)
    (sym (taken_first d n (others g n ++ rest) u h w t ts zs k s alike)) k s (choice_on d n (others g n ++ rest) (group_on g n rest c))
forced (grouped {g = g} (left_out v h w)) a t ts zs alike c e = let k = leads g in absurd cc
forced (lacking {g = g} {n = n} {rest = rest} v h w) a t ts zs alike c e = lacking_forced g n rest v h w a t zs (choice_at (lead g) t ts)
    (absent_group g) (step rest a t ts)
    (takes_none (lead g) t ts (none_leads g (terminal t) v h (c.0 (terminal t) (starts_written w never t zs e)))) h (forced w a t ts zs alike c.1 e)
