-- The steps of a reader, over plain lists: what the tokens give of the needs before a step and of those after it.
use Rattle.std.proofs.Common.{◌≡◌, ◌≢◌, ℕ, ◌≤◌, ◌<◌, Bool, true, false, ◌&&◌, List, [], ◌∷◌, ◌++◌, Option, Some, None, if◌then◌else◌, refl, sym, ap, ◌∙◌}
use Rattle.std.specs.Prelude.{nat_le, is_some}
use Rattle.std.specs.Str.{bytes_eq}
use Rattle.std.proofs.lemmas.Slice.Eq.{bytes_eq-Decides}
use Rattle.std.proofs.lemmas.Bool.{le-leb, lt-leb}
use Rattle.scald_base.specs.declared.refusal.Place.{Place}
use Rattle.scald_base.specs.declared.refusal.Refusal.{Refusal}
use Rattle.scald_base.specs.declared.refusal.RefusalKind.TheVariants.{Syntax, TooDeep}
use Rattle.scald_base.specs.declared.refusal.Stop.{Stop}
use Rattle.scald_base.specs.declared.refusal.Stop.TheVariants as stop
use Rattle.drawing_grammar.specs.declared.terminal.Keyword.{Keyword}
use Rattle.drawing_grammar.specs.declared.terminal.Terminal.{Terminal}
use Rattle.drawing_grammar.specs.declared.terminal.Terminal.TheVariants as is
use Rattle.drawing_grammar.specs.Lexeme.{Lexeme, terminal}
use Rattle.drawing_grammar.specs.Grammar.{Part, Unary, Group, keyword_text, Need, mark, item, keyword, fresh, part, group, Choice, following, lead, others, cost}
use Rattle.drawing_grammar.specs.Sketch.{Meaning, GroupMeaning, Values, front, behind, choice_value, group_value}
use Rattle.drawing_grammar.specs.Absent.{absent_value, absent_group}
use Rattle.drawing_grammar.specs.Written.{weight, counted, limit}
use Rattle.drawing_grammar.specs.Machine.{same, choice, choice_at, Step, Next, Stuck, passed, entered, group_entered, step, Verdict, Complete, Refused, given, refusal, finish, finish_part, finish_group, go_on, verdict, Moves, Says, Fails}
use Rattle.drawing_grammar.specs.Front.{first_terminal, first_choice, first_place, AtKeyword, At}
use Rattle.drawing_grammar.proofs.Terminals.{same_is, is_same}
use Rattle.drawing_grammar.proofs.Choices.{is_constant, no_choice_at, at_choice, still_some}
use Rattle.drawing_grammar.proofs.Follow.{leads}

-- ---- one step after another

joined : (xs ys zs : List Need) (f : Values ys → Values xs) (h : Values zs → Values ys) (w : Verdict zs) → given {needs = xs} f (given {needs = ys} h w) ≡ given {needs = xs} (λ v. f (h v)) w
joined xs ys zs f h (Complete v) = refl
joined xs ys zs f h (Refused r) = refl

pub moves : {xs ys zs : List Need} {x : Verdict xs} {y : Verdict ys} {z : Verdict zs} {f : Values ys → Values xs} {h : Values zs → Values ys} → Moves x y f → Moves y z h → Moves x z (λ v. f (h v))
moves {xs} {ys} {zs} {x} {y} {z} {f} {h} d e = record { is = d.is ∙ (ap (λ (w : Verdict ys). given {needs = xs} f w) e.is ∙ joined xs ys zs f h z) }

-- what refuses later refuses
pub stops : {xs ys : List Need} {x : Verdict xs} {y : Verdict ys} {f : Values ys → Values xs} {s : Stop} → Moves x y f → Fails y s → Fails x s
stops {xs} {ys} {x} {y} {f} {s} d e = record { is = one s e.is }
  where
    one : (s : Stop) → Says y s → Says x s
    one stop.NoMemory e = tt
    one (stop.Refused r) e = d.is ∙ ap (λ (w : Verdict ys). given {needs = xs} f w) e

pub refuses : {xs : List Need} {x : Verdict xs} {r : Refusal} → x ≡ Refused r → Fails x (stop.Refused r)
refuses e = record { is = e }

-- ---- tokens

other : (k l : Terminal) → k ≢ l → same k l ≡ false
other k l h = one (same k l) refl
  where
    one : (b : Bool) → same k l ≡ b → b ≡ false
    one true e = absurd (h (same_is k l e))
    one false e = refl

pub mark_moves : (l : Terminal) (a : ℕ) (ts us : List Lexeme) (t : Lexeme) → ts ≡ t ∷ us → terminal t ≡ l → (rest : List Need) → verdict ts (mark l ∷ rest) a ≡ given (λ v. v) (verdict us rest a)
unfolding verdict
mark_moves l a ts us t e h rest = ap (λ (ys : List Lexeme). verdict ys (mark l ∷ rest) a) e
    ∙ ap (λ (b : Bool). go_on {needs = mark l ∷ rest} (if b then Next rest a 0 (λ v. v) else Stuck) (verdict us) t.place) (is_same (terminal t) l h)

pub mark_stops : (l : Terminal) (a : ℕ) (ts : List Lexeme) → first_terminal ts ≢ l → (rest : List Need) → verdict ts (mark l ∷ rest) a ≡ Refused (refusal Syntax (first_place ts))
unfolding verdict
mark_stops l a [] h rest = refl
mark_stops l a (t ∷ ts) h rest = ap (λ (b : Bool). go_on {needs = mark l ∷ rest} (if b then Next rest a 0 (λ v. v) else Stuck) (verdict ts) t.place) (other (terminal t) l h)

pub item_moves : (l : Terminal) (a : ℕ) (ts us : List Lexeme) (t : Lexeme) → ts ≡ t ∷ us → terminal t ≡ l → (rest : List Need) → verdict ts (item l ∷ rest) a ≡ given (λ v. (t, v)) (verdict us rest a)
unfolding verdict
item_moves l a ts us t e h rest =
    ap (λ (ys : List Lexeme). verdict ys (item l ∷ rest) a) e ∙ ap (λ (b : Bool). go_on {needs =
    item l ∷ rest} (if b then Next rest a 0 (λ v. (t, v)) else Stuck) (verdict us) t.place) (is_same (terminal t) l h)

pub item_stops : (l : Terminal) (a : ℕ) (ts : List Lexeme) → first_terminal ts ≢ l → (rest : List Need) → verdict ts (item l ∷ rest) a ≡ Refused (refusal Syntax (first_place ts))
unfolding verdict
item_stops l a [] h rest = refl
item_stops l a (t ∷ ts) h rest = ap (λ (b : Bool). go_on {needs = item l ∷ rest} (if b then Next rest a 0 (λ v. (t, v)) else Stuck) (verdict ts) t.place) (other (terminal t) l h)

pub keyword_moves : (x : Keyword) (a : ℕ) (ts us : List Lexeme) (t : Lexeme) → ts ≡ t ∷ us → terminal t ≡ is.Word →
    t.text ≡ keyword_text x → (rest : List Need) → verdict ts (keyword x ∷ rest) a ≡ given (λ v. v) (verdict us rest a)
unfolding verdict
keyword_moves x a ts us t e h i rest =
    ap (λ (ys : List Lexeme). verdict ys (keyword x ∷ rest) a) e
    ∙ (ap (λ (b : Bool). go_on {needs = keyword x ∷ rest} (if b && bytes_eq t.text (keyword_text x) then Next rest a 0 (λ v. v) else Stuck) (verdict us)
    t.place) (is_same (terminal t) is.Word h) ∙ ap (λ (b : Bool). go_on {needs =
    keyword x ∷ rest} (if b then Next rest a 0 (λ v. v) else Stuck) (verdict us) t.place) ((bytes_eq-Decides t.text (keyword_text x)).1 i))

pub keyword_stops : (x : Keyword) (a : ℕ) (ts : List Lexeme) → ¬ AtKeyword x ts → (rest : List Need) → verdict ts (keyword x ∷ rest) a ≡ Refused (refusal Syntax (first_place ts))
unfolding verdict
keyword_stops x a [] h rest = refl
keyword_stops x a (t ∷ ts) h rest = one (same (terminal t) is.Word) (bytes_eq t.text (keyword_text x)) refl refl
  where
    one : (b c : Bool) → same (terminal t) is.Word ≡ b → bytes_eq t.text (keyword_text x) ≡ c →
        go_on {needs = keyword x ∷ rest} (if b && c then Next rest a 0 (λ v. v) else Stuck) (verdict ts) t.place ≡ Refused (refusal Syntax t.place)
    one true true e f = absurd (h (same_is (terminal t) is.Word e, (bytes_eq-Decides t.text (keyword_text x)).0 f))
    one true false e f = refl
    one false c e f = refl

-- ---- parts

pub enters : {p : Part} (c : Choice p) (n a : ℕ) (ts us : List Lexeme) (t : Lexeme) → ts ≡ t ∷ us → At c (t ∷ us) →
    weight (cost c) n a ≤ limit → (rest : List Need) →
    verdict ts (part p n ∷ rest) a ≡ given (λ v. (choice_value c n t (front (following c n) rest v), behind (following c n) rest v))
    (verdict us (following c n ++ rest) (counted (cost c) a))
unfolding verdict
enters {p} c n a ts us t e h w rest =
    ap (λ (ys : List Lexeme). verdict ys (part p n ∷ rest) a) e
    ∙ (ap (λ (o : Option (Choice p)). go_on (entered p n rest a t o (absent_value p) (step rest a t us)) (verdict us) t.place) (at_choice c t us h)
    ∙ ap (λ (b : Bool). if b then given {needs =
    part p n ∷ rest} (λ v. (choice_value c n t (front (following c n) rest v), behind (following c n) rest v))
    (verdict us (following c n ++ rest) (counted (cost c) a)) else Refused (refusal TooDeep t.place)) (le-leb (weight (cost c) n a) limit w))

pub too_deep : {p : Part} (c : Choice p) (n a : ℕ) (ts us : List Lexeme) (t : Lexeme) → ts ≡ t ∷ us → At c (t ∷ us) →
    limit < weight (cost c) n a → (rest : List Need) → verdict ts (part p n ∷ rest) a ≡ Refused (refusal TooDeep t.place)
unfolding verdict
too_deep {p} c n a ts us t e h w rest =
    ap (λ (ys : List Lexeme). verdict ys (part p n ∷ rest) a) e
    ∙ (ap (λ (o : Option (Choice p)). go_on (entered p n rest a t o (absent_value p) (step rest a t us)) (verdict us) t.place) (at_choice c t us h)
    ∙ ap (λ (b : Bool). if b then given {needs =
    part p n ∷ rest} (λ v. (choice_value c n t (front (following c n) rest v), behind (following c n) rest v))
    (verdict us (following c n ++ rest) (counted (cost c) a)) else Refused (refusal TooDeep t.place)) (lt-leb (weight (cost c) n a) limit w))

pass : (needs later : List Need) (f : Values later → Values needs) (s : Step later) (us : List Lexeme) (place : Place) →
    go_on {needs = needs} (passed s f) (verdict us) place ≡ given {needs = needs} f (go_on s (verdict us) place)
pass needs later f (Next more a m build) us place = one (nat_le m limit) (verdict us more a)
  where
    one : (b : Bool) (x : Verdict more) → (if b then given {needs = needs} (λ v. f (build v)) x else Refused (refusal TooDeep place)) ≡ given {needs =
        needs} f (if b then given {needs = later} build x else Refused (refusal TooDeep place))
    one true (Complete v) = refl
    one true (Refused r) = refl
    one false x = refl
pass needs later f Stuck us place = refl

pub skips_at : (p : Part) (n a : ℕ) (ts : List Lexeme) (v : Meaning p) → first_choice p ts ≡ None →
    absent_value p ≡ Some v → (rest : List Need) → verdict ts (part p n ∷ rest) a ≡ given (λ w. (v, w)) (verdict ts rest a)
unfolding verdict
skips_at p n a [] v e h rest = ap (λ (o : Option (Meaning p)). finish_part {p = p} {n = n} o (finish rest)) h
skips_at p n a (t ∷ us) v e h rest =
    ap (λ (o : Option (Choice p)). go_on (entered p n rest a t o (absent_value p) (step rest a t us)) (verdict us) t.place) e
    ∙ (ap (λ (o : Option (Meaning p)). go_on (entered p n rest a t None o (step rest a t us)) (verdict us) t.place) h
    ∙ pass (part p n ∷ rest) rest (λ w. (v, w)) (step rest a t us) us t.place)

pub skips : (p : Part) (n a : ℕ) (ts : List Lexeme) (v : Meaning p) → choice p (first_terminal ts) ≡ None →
    absent_value p ≡ Some v → (rest : List Need) → verdict ts (part p n ∷ rest) a ≡ given (λ w. (v, w)) (verdict ts rest a)
skips p n a ts v e h rest = skips_at p n a ts v (no_choice_at p ts e) h rest

pub stuck_at : (p : Part) (n a : ℕ) (ts : List Lexeme) → first_choice p ts ≡ None →
    absent_value p ≡ None → (rest : List Need) → verdict ts (part p n ∷ rest) a ≡ Refused (refusal Syntax (first_place ts))
unfolding verdict
stuck_at p n a [] e h rest = ap (λ (o : Option (Meaning p)). finish_part {p = p} {n = n} o (finish rest)) h
stuck_at p n a (t ∷ us) e h rest = ap (λ (o : Option (Choice p)). go_on (entered p n rest a t o (absent_value p) (step rest a t us)) (verdict us) t.place) e
    ∙ ap (λ (o : Option (Meaning p)). go_on (entered p n rest a t None o (step rest a t us)) (verdict us) t.place) h

pub stuck : (p : Part) (n a : ℕ) (ts : List Lexeme) → choice p (first_terminal ts) ≡ None →
    absent_value p ≡ None → (rest : List Need) → verdict ts (part p n ∷ rest) a ≡ Refused (refusal Syntax (first_place ts))
stuck p n a ts e h rest = stuck_at p n a ts (no_choice_at p ts e) h rest

-- an expression of its own
pub begins : (a : ℕ) (ts : List Lexeme) (rest : List Need) → verdict ts (fresh ∷ rest) a ≡ given (λ v. v) (verdict ts rest 0)
unfolding verdict
begins a [] rest = refl
begins a (t ∷ us) rest = pass (fresh ∷ rest) rest (λ v. v) (step rest 0 t us) us t.place

-- ---- groups

group_next : (h : Group) (n a : ℕ) (us : List Lexeme) (t : Lexeme) (rest : List Need) (c : Choice (lead h)) (b : Bool)
    (x : Verdict (following c n ++ (others h n ++ rest))) →
    (if b then given {needs =
    group h n ∷ rest} (λ v. (
      group_value h n (choice_value c n t (front (following c n) (others h n ++ rest) v))
          (front (others h n) rest (behind (following c n) (others h n ++ rest) v)),
      behind
          (others h n) rest (behind (following c n) (others h n ++ rest) v),
    )) x else Refused (refusal TooDeep t.place))
    ≡ given (λ v. (group_value h n v.0 (front (others h n) rest v.1), behind (others h n) rest v.1))
    (if b then given {needs =
    part (lead h) n ∷ (others h n
    ++ rest)} (λ v. (choice_value c n t (front (following c n) (others h n ++ rest) v), behind (following c n) (others h n ++ rest) v))
    x else Refused (refusal TooDeep t.place))
group_next h n a us t rest c true (Complete v) = refl
group_next h n a us t rest c true (Refused r) = refl
group_next h n a us t rest c false x = refl

-- whether a group begins here
abbrev pub Leads : Group → List Lexeme → Type 0
Leads h ts = is_some (first_choice (lead h) ts) ≡ true

group_one : (h : Group) (n a : ℕ) (us : List Lexeme) (t : Lexeme) (rest : List Need) (o : Option (Choice (lead h))) → is_some o ≡ true →
    go_on (group_entered h n rest a t o (absent_group h) (step rest a t us)) (verdict us) t.place
    ≡ given (λ v. (group_value h n v.0 (front (others h n) rest v.1), behind (others h n) rest v.1))
    (go_on (entered (lead h) n (others h n ++ rest) a t o (absent_value (lead h)) (step (others h n ++ rest) a t us)) (verdict us) t.place)
group_one h n a us t rest None e = absurd cc
group_one h n a us t rest (Some c) e = group_next h n a us t rest c (nat_le (weight (cost c) n a) limit) (verdict us (following c n ++ (others h n ++ rest)) (counted (cost c) a))

no_end : (p : Part) → is_some (choice p is.EndOfText) ≡ false
no_end Unary = refl
no_end _ = refl

-- It does if its first part may begin so, unless that is a constant.
pub leads_by : (h : Group) (ts : List Lexeme) → is_constant (lead h) ≡ false →
    is_some (choice (lead h) (first_terminal ts)) ≡ true → Leads h ts
leads_by h [] k e = let z = no_end (lead h) in absurd cc
leads_by h (t ∷ us) k e = still_some (lead h) t us k e

pub leads_on : (h : Group) (n a : ℕ) (ts : List Lexeme) → Leads h ts → (rest : List Need) →
    verdict ts (group h n ∷ rest) a ≡ given (λ v. (group_value h n v.0 (front (others h n) rest v.1), behind (others h n) rest v.1))
    (verdict ts (part (lead h) n ∷ (others h n ++ rest)) a)
unfolding verdict
leads_on h n a [] e rest = absurd cc
leads_on h n a (t ∷ us) e rest = group_one h n a us t rest (choice_at (lead h) t us) e

-- a group that is never left out
pub always : (h : Group) (n a : ℕ) (ts : List Lexeme) → absent_group h ≡ None → (rest : List Need) →
    verdict ts (group h n ∷ rest) a ≡ given (λ v. (group_value h n v.0 (front (others h n) rest v.1), behind (others h n) rest v.1))
    (verdict ts (part (lead h) n ∷ (others h n ++ rest)) a)
unfolding verdict
always h n a [] e rest = ap (λ (o : Option (GroupMeaning h)). finish_group {h = h} {n = n} o (finish rest)) e
    ∙ ap (λ (o : Option (Meaning (lead h))). given {needs =
    group h n ∷ rest} (λ v. (group_value h n v.0 (front (others h n) rest v.1), behind (others h n) rest v.1))
    (finish_part {p = lead h} {n = n} o (finish (others h n ++ rest)))) (sym (leads h))
always h n a (t ∷ us) e rest = one (choice_at (lead h) t us)
  where
    one : (o : Option (Choice (lead h))) →
        go_on (group_entered h n rest a t o (absent_group h) (step rest a t us)) (verdict us) t.place
        ≡ given (λ v. (group_value h n v.0 (front (others h n) rest v.1), behind (others h n) rest v.1))
        (go_on (entered (lead h) n (others h n ++ rest) a t o (absent_value (lead h)) (step (others h n ++ rest) a t us)) (verdict us) t.place)
    one (Some c) = group_one h n a us t rest (Some c) refl
    one None = ap (λ (o : Option (GroupMeaning h)). go_on (group_entered h n rest a t None o (step rest a t us)) (verdict us) t.place) e
        ∙ ap (λ (o : Option (Meaning (lead h))). given {needs =
        group h n ∷ rest} (λ v. (group_value h n v.0 (front (others h n) rest v.1), behind (others h n) rest v.1))
        (go_on (entered (lead h) n (others h n ++ rest) a t None o (step (others h n ++ rest) a t us)) (verdict us) t.place)) (sym (leads h))

pub skips_group_at : (h : Group) (n a : ℕ) (ts : List Lexeme) (v : GroupMeaning h) → first_choice (lead h) ts ≡ None →
    absent_group h ≡ Some v → (rest : List Need) → verdict ts (group h n ∷ rest) a ≡ given (λ w. (v, w)) (verdict ts rest a)
unfolding verdict
skips_group_at h n a [] v e i rest = ap (λ (o : Option (GroupMeaning h)). finish_group {h = h} {n = n} o (finish rest)) i
skips_group_at h n a (t ∷ us) v e i rest =
    ap (λ (o : Option (Choice (lead h))). go_on (group_entered h n rest a t o (absent_group h) (step rest a t us)) (verdict us) t.place) e
    ∙ (ap (λ (o : Option (GroupMeaning h)). go_on (group_entered h n rest a t None o (step rest a t us)) (verdict us) t.place) i
    ∙ pass (group h n ∷ rest) rest (λ w. (v, w)) (step rest a t us) us t.place)

pub skips_group : (h : Group) (n a : ℕ) (ts : List Lexeme) (v : GroupMeaning h) → choice (lead h) (first_terminal ts) ≡ None →
    absent_group h ≡ Some v → (rest : List Need) → verdict ts (group h n ∷ rest) a ≡ given (λ w. (v, w)) (verdict ts rest a)
skips_group h n a ts v e i rest = skips_group_at h n a ts v (no_choice_at (lead h) ts e) i rest

-- ---- two ways to the same tokens

pub through : {xs ys zs : List Need} {x : Verdict xs} {y : Verdict ys} {z : Verdict zs} {f : Values zs → Values xs}
    {h : Values zs → Values ys} (k : Values ys → Values xs) → Moves x z f → Moves y z h → ((v : Values zs) → f v ≡ k (h v)) → Moves x y k
through {xs} {ys} {zs} {x} {y} {z} {f} {h} k d e equal = record { is = d.is ∙ (one z ∙ ap (λ (w : Verdict ys). given {needs = xs} k w) (sym e.is)) }
  where
    one : (z : Verdict zs) → given {needs = xs} f z ≡ given {needs = xs} k (given {needs = ys} h z)
    one (Complete v) = ap (λ (w : Values xs). let q : Verdict xs = Complete w in q) (equal v)
    one (Refused r) = refl

-- the same, said in another way
pub reshaped : {xs ys : List Need} {x : Verdict xs} {y : Verdict ys} {f : Values ys → Values xs} (k : Values ys → Values xs) → Moves x y f → ((v : Values ys) → f v ≡ k v) → Moves x y k
reshaped {xs} {ys} {x} {y} {f} k d equal = record { is = d.is ∙ one y }
  where
    one : (y : Verdict ys) → given {needs = xs} f y ≡ given {needs = xs} k y
    one (Complete v) = ap (λ (w : Values xs). let q : Verdict xs = Complete w in q) (equal v)
    one (Refused r) = refl

-- nothing was taken
pub stays : {xs : List Need} (x : Verdict xs) → Moves x x (λ v. v)
stays {xs} x = record { is = one x }
  where
    one : (x : Verdict xs) → x ≡ given {needs = xs} (λ v. v) x
    one (Complete v) = refl
    one (Refused r) = refl
