-- What the verdict on tokens says of them.
use Rattle.std.proofs.Common.{◌≡◌, ℕ, ◌≤◌, ◌<◌, Bool, true, false, List, [], ◌∷◌, ◌++◌, if◌then◌else◌, refl, sym, ap, subst, ◌∙◌, append_assoc, arith}
use Rattle.std.specs.Prelude.{nat_le}
use Rattle.std.proofs.lemmas.Bool.{leb-true, leb-false, le-leb}
use Rattle.scald_base.specs.declared.refusal.Refusal.{Refusal}
use Rattle.scald_base.specs.declared.refusal.RefusalKind.TheVariants.{Syntax, TooDeep}
use Rattle.drawing_grammar.specs.Lexeme.{Lexeme}
use Rattle.drawing_grammar.specs.Grammar.{Need}
use Rattle.drawing_grammar.specs.Sketch.{Values}
use Rattle.drawing_grammar.specs.Written.{Written, spelling, weights, values, limit, Within, Beyond}
use Rattle.drawing_grammar.specs.Machine.{no_colon, Step, Next, Stuck, step, Verdict, Complete, Refused, given, finish, go_on, verdict, refusal}
use Rattle.drawing_grammar.specs.Draws.{MayBeLabel}
use Rattle.drawing_grammar.proofs.Undo.{Before, Undone, undo}
use Rattle.drawing_grammar.proofs.Forced.{Chained, After, Forces, forced, later_chained}
use Rattle.drawing_grammar.proofs.Ahead.{label_is_light, is_stuck, not_stuck, IsHeavy, light_not_heavy, no_colon_there, is_that_word, heavy, same_head}
use Rattle.drawing_grammar.proofs.Least.{least, IsRefused, unfinished, DoneAt, finished, empty}

-- ---- what is complete is written

pub record Found (ts : List Lexeme) (needs : List Need) (a : ℕ) (v : Values needs) : Type 0 where
  pub written : Written needs
  pub spelled : spelling written ≡ ts
  pub within : Within ts (weights written a)
  pub valued : values written ≡ v

within_from : (ts : List Lexeme) (t : Lexeme) (m : ℕ) (xs ys : List ℕ) → ys ≡ m ∷ xs → m ≤ limit → Within ts xs → Within (t ∷ ts) ys
within_from ts t m xs [] e h w = absurd cc
within_from ts t m xs (y ∷ ys) e h w = let i : y ≡ m = cc in let j : ys ≡ xs = cc in rw (i, j) (h, w)

pub found : (ts : List Lexeme) (needs : List Need) (a : ℕ) (v : Values needs) → verdict ts needs a ≡ Complete v → Found ts needs a v
unfolding verdict
found [] needs a v e = done (finish needs) (finished needs) e
  where
    done : (x : Verdict needs) → DoneAt needs x → x ≡ Complete v → Found [] needs a v
    done (Complete u) d e = let k : u ≡ v = cc in record { written = d.written; spelled = d.spelled; within = tt; valued = d.valued ∙ k }
    done (Refused r) d e = absurd cc
found (t ∷ ts) needs a v e = one (λ later b y f. found ts later b y f) (step needs a t ts) (undo needs a t ts) e
  where
    go : ((later : List Need) (b : ℕ) (y : Values later) → verdict ts later b ≡ Complete y → Found ts later b y) →
        (later : List Need) (b m : ℕ) (build : Values later → Values needs) → ((ws : Written later) → Before needs a t later b m build ws) →
        (q : Bool) → nat_le m limit ≡ q →
        (if q then given {needs = needs} build (verdict ts later b) else Refused (refusal TooDeep t.place)) ≡ Complete v → Found (t ∷ ts) needs a v
    go again later b m build u true f e = inside (verdict ts later b) refl e
      where
        inside : (x : Verdict later) → verdict ts later b ≡ x → given {needs = needs} build x ≡ Complete v → Found (t ∷ ts) needs a v
        inside (Complete y) g e = let k = again later b y g in let z = u k.written in let s : build y ≡ v = cc in record {
          written = z.written;
          spelled = z.spelled ∙ ap (λ (zs : List Lexeme). t ∷ zs) k.spelled;
          within = within_from ts t m (weights k.written b) (weights z.written a) z.weighed (leb-true m limit f) k.within;
          valued = z.valued ∙ (ap build k.valued ∙ s);
        }
        inside (Refused r) g e = absurd cc
    go again later b m build u false f e = absurd cc

    one : ((later : List Need) (b : ℕ) (y : Values later) → verdict ts later b ≡ Complete y → Found ts later b y) →
        (x : Step needs) → Undone needs a t x → go_on x (verdict ts) t.place ≡ Complete v → Found (t ∷ ts) needs a v
    one again (Next later b m build) u e = go again later b m build u (nat_le m limit) refl e
    one again Stuck u e = absurd cc

-- ---- what is written is complete

pub within_parts : (ts : List Lexeme) (t : Lexeme) (m : ℕ) (xs ys : List ℕ) → ys ≡ m ∷ xs → Within (t ∷ ts) ys → (m ≤ limit) × Within ts xs
within_parts ts t m xs [] e w = absurd cc
within_parts ts t m xs (y ∷ ys) e w = let i : m ≡ y = cc in let j : xs ≡ ys = cc in rw (i, j) w

pub complete : (ts : List Lexeme) (needs : List Need) (a : ℕ) (w : Written needs) → Chained needs → spelling w ≡ ts → Within ts (weights w a) → verdict ts needs a ≡ Complete (values w)
unfolding verdict
complete [] needs a w c e h = empty w e
complete (t ∷ ts) needs a w c e h = one (λ later b x d f i. complete ts later b x d f i) (step needs a t ts) (forced w a t ts ts refl c e)
  where
    go : ((later : List Need) (b : ℕ) (w : Written later) → Chained later → spelling w ≡ ts → Within ts (weights w b) →
        verdict ts later b ≡ Complete (values w)) → (later : List Need) (b m : ℕ) (build : Values later → Values needs) →
        After w a ts later b m build → (q : Bool) → q ≡ true →
        (if q then given {needs = needs} build (verdict ts later b) else Refused (refusal TooDeep t.place)) ≡ Complete (values w)
    go again later b m build f true g =
        let k = within_parts ts t m (weights f.rest b) (weights w a) f.weighed h in ap (λ (x : Verdict later). given build x)
        (again later b f.rest f.chained f.spelled k.1) ∙ ap (λ (v : Values needs). Complete v) (sym f.valued)
    go again later b m build f false g = absurd cc

    one : ((later : List Need) (b : ℕ) (w : Written later) → Chained later → spelling w ≡ ts → Within ts (weights w b) →
        verdict ts later b ≡ Complete (values w)) → (x : Step needs) → Forces w a ts x → go_on x (verdict ts) t.place ≡ Complete (values w)
    one again (Next later b m build) f = go again later b m build f (nat_le m limit) (le-leb m limit (within_parts ts t m (weights f.rest b) (weights w a) f.weighed h).0)
    one again Stuck f = absurd f

-- ---- what is refused, and where

-- the tokens before the one that is refused begin what is written
pub record Front (before : List Lexeme) (needs : List Need) : Type 0 where
  pub written : Written needs
  pub rest : List Lexeme
  pub spelled : spelling written ≡ before ++ rest

pub record Far (before : List Lexeme) (t : Lexeme) (needs : List Need) (a : ℕ) : Type 0 where
  pub written : Written needs
  pub rest : List Lexeme
  pub spelled : spelling written ≡ before ++ t ∷ rest
  pub beyond : Beyond before (weights written a)

-- none of the first tokens is beyond a limit
abbrev pub NoneFar : List Lexeme → List Lexeme → List Need → ℕ → Type 0
NoneFar first after needs a = (before : List Lexeme) (t : Lexeme) (between : List Lexeme) → first ≡ before ++ t ∷ between →
    Far before t needs a → (MayBeLabel t (between ++ after) → ⊥) → ⊥

-- all tokens are written, and more is needed
pub record Short (ts : List Lexeme) (needs : List Need) : Type 0 where
  pub written : Written needs
  pub next : Lexeme
  pub rest : List Lexeme
  pub spelled : spelling written ≡ ts ++ next ∷ rest

pub data Placed (ts : List Lexeme) (needs : List Need) (a : ℕ) (r : Refusal) : Type 0 where
  at_syntax : (before : List Lexeme) (t : Lexeme) (after : List Lexeme) → ts ≡ before ++ t ∷ after → Front before needs →
      NoneFar before (t ∷ after) needs a → ((w : Written needs) (z : List Lexeme) → spelling w ≡ before ++ t ∷ z → ⊥) →
      r ≡ refusal Syntax t.place → Placed ts needs a r
  at_limit : (before : List Lexeme) (t : Lexeme) (after : List Lexeme) → ts ≡ before ++ t ∷ after →
      NoneFar before (t ∷ after) needs a → Far before t needs a → (MayBeLabel t after → ⊥) →
      r ≡ refusal TooDeep t.place → Placed ts needs a r
  at_end : Short ts needs → Placed ts needs a r

pub beyond_from : (ts : List Lexeme) (t : Lexeme) (m : ℕ) (xs ys : List ℕ) → ys ≡ m ∷ xs → Beyond ts xs → Beyond (t ∷ ts) ys
beyond_from ts t m xs [] e h = absurd cc
beyond_from ts t m xs (y ∷ ys) e h = let j : ys ≡ xs = cc in rw j h

pub beyond_rest : (ts : List Lexeme) (t : Lexeme) (m : ℕ) (xs ys : List ℕ) → ys ≡ m ∷ xs → Beyond (t ∷ ts) ys → Beyond ts xs
beyond_rest ts t m xs [] e h = absurd h
beyond_rest ts t m xs (y ∷ ys) e h = let i : xs ≡ ys = cc in rw i h

pub heavy_beyond : (m : ℕ) (xs ys : List ℕ) → ys ≡ m ∷ xs → limit < m → Beyond [] ys
heavy_beyond m xs [] e h = absurd cc
heavy_beyond m xs (y ∷ ys) e h = let j : y ≡ m = cc in rw j h

none_far_at_first : (after : List Lexeme) (needs : List Need) (a : ℕ) → NoneFar [] after needs a
none_far_at_first after needs a [] t between e far unlabelled = absurd cc
none_far_at_first after needs a (b ∷ before) t between e far unlabelled = absurd cc

-- a step further
module _ (ts : List Lexeme) (needs : List Need) (a : ℕ) (t : Lexeme) (c : Chained needs) (later : List Need) (b m : ℕ)
    (build : Values later → Values needs) (s : step needs a t ts ≡ Next later b m build) (h : m ≤ limit)
  where
    back : (ws : Written later) → Before needs a t later b m build ws
    back = subst (λ (x : Step needs). Undone needs a t x) s (undo needs a t ts)

    on : (w : Written needs) (zs : List Lexeme) → no_colon zs ≡ no_colon ts → spelling w ≡ t ∷ zs → After w a zs later b m build
    on w zs alike e = subst (λ (x : Step needs). Forces w a zs x) s (forced w a t ts zs alike c e)

    front_back : (before : List Lexeme) → Front before later → Front (t ∷ before) needs
    front_back before f = let z = back f.written in record {
      written = z.written;
      rest = f.rest;
      spelled = z.spelled ∙ ap (λ (y : List Lexeme). t ∷ y) f.spelled;
    }

    far_back : (before : List Lexeme) (x : Lexeme) → Far before x later b → Far (t ∷ before) x needs a
    far_back before x f = let z = back f.written in record {
      written = z.written;
      rest = f.rest;
      spelled = z.spelled ∙ ap (λ (y : List Lexeme). t ∷ y) f.spelled;
      beyond = beyond_from before t m (weights f.written b) (weights z.written a) z.weighed f.beyond;
    }

    far_on : (before : List Lexeme) (x : Lexeme) → (zs : List Lexeme) → ts ≡ before ++ x ∷ zs → Far (t ∷ before) x needs a → Far before x later b
    far_on before x zs e f =
        let k = on f.written (before ++ x ∷ f.rest) (same_head before x f.rest zs ∙ ap no_colon (sym e)) f.spelled in record {
          written = k.rest;
          rest = f.rest;
          spelled = k.spelled;
          beyond = beyond_rest before t m (weights k.rest b) (weights f.written a) k.weighed f.beyond;
        }

    not_heavy : IsHeavy (step needs a t ts) → ⊥
    not_heavy k = let j : limit < m = subst (λ (x : Step needs). IsHeavy x) s k in absurd (omega arith)

    none_far_back : (before : List Lexeme) (x : Lexeme) (after : List Lexeme) → ts ≡ before ++ x ∷ after →
        NoneFar before (x ∷ after) later b → NoneFar (t ∷ before) (x ∷ after) needs a
    none_far_back before x after e none [] y between i far unlabelled =
        let j : t ≡ y = cc in
        let k : before ≡ between = cc in
        let spelled : spelling far.written ≡ t ∷ far.rest = far.spelled ∙ ap (λ (z : Lexeme). z ∷ far.rest) (sym j) in
        let label : MayBeLabel t ts → ⊥ = λ l. unlabelled (subst (λ (z : Lexeme). MayBeLabel z (between ++ x ∷ after)) j
        (subst (λ (zs : List Lexeme). MayBeLabel t zs) (e ∙ ap (λ (z : List Lexeme). z ++ x ∷ after) k) l)) in
        not_heavy (heavy far.written a t ts far.rest c spelled far.beyond label)
    none_far_back before x after e none (b0 ∷ front) y between i far unlabelled =
        let j : t ≡ b0 = cc in
        let k : before ≡ front ++ y ∷ between = cc in
        let whole : ts ≡ front ++ y ∷ (between ++ x ∷ after) =
        e ∙ (ap (λ (z : List Lexeme). z ++ x ∷ after) k ∙ append_assoc front (y ∷ between) (x ∷ after)) in
        let here : Far (t ∷ front) y needs a = subst (λ (z : Lexeme). Far (z ∷ front) y needs a) (sym j) far in
        none front y between k (far_on front y (between ++ x ∷ after) whole here) unlabelled

    one_more : (r : Refusal) → Placed ts later b r → Placed (t ∷ ts) needs a r
    one_more r (at_syntax before x after e front none stop q) = at_syntax (t ∷ before) x after (ap (λ (y : List Lexeme). t ∷ y) e)
        (front_back before front) (none_far_back before x after e none)
        (λ w zs i. let k = on w (before ++ x ∷ zs) (same_head before x zs after ∙ ap no_colon (sym e)) i in stop k.rest zs k.spelled) q
    one_more r (at_limit before x after e none far unlabelled q) = at_limit (t ∷ before) x after (ap (λ (y : List Lexeme). t ∷ y) e)
        (none_far_back before x after e none) (far_back before x far) unlabelled q
    one_more r (at_end f) = at_end (let z =
        back f.written in record { written = z.written; next = f.next; rest = f.rest; spelled = z.spelled ∙ ap (λ (y : List Lexeme). t ∷ y) f.spelled })

pub placed : (ts : List Lexeme) (needs : List Need) (a : ℕ) (r : Refusal) → Chained needs → verdict ts needs a ≡ Refused r → Placed ts needs a r
unfolding verdict
placed [] needs a r c e = at_end (let k = unfinished needs (refused (finish needs) e) in record { written = k.written; next = k.first; rest = k.others; spelled = k.spelled })
  where
    refused : (x : Verdict needs) → x ≡ Refused r → IsRefused x
    refused (Complete v) e = absurd cc
    refused (Refused q) e = tt
placed (t ∷ ts) needs a r c e = one (λ later b d f. placed ts later b r d f) (step needs a t ts) refl e
  where
    here : Front [] needs
    here = record { written = least needs; rest = spelling (least needs); spelled = refl }

    go : ((later : List Need) (b : ℕ) → Chained later → verdict ts later b ≡ Refused r → Placed ts later b r) →
        (later : List Need) (b m : ℕ) (build : Values later → Values needs) → step needs a t ts ≡ Next later b m build →
        (q : Bool) → nat_le m limit ≡ q →
        (if q then given {needs = needs} build (verdict ts later b) else Refused (refusal TooDeep t.place)) ≡ Refused r → Placed (t ∷ ts) needs a r
    go again later b m build s true g e =
        let room = leb-true m limit g in
        one_more ts needs a t c later b m build s room r
        (again later b (later_chained needs a t ts later b m build c s) (inside (verdict ts later b) e))
      where
        inside : (x : Verdict later) → given {needs = needs} build x ≡ Refused r → x ≡ Refused r
        inside (Complete v) e = absurd cc
        inside (Refused s) e = let k : s ≡ r = cc in ap (λ (y : Refusal). Refused y) k
    go again later b m build s false g e =
        let k : refusal TooDeep t.place ≡ r = cc in
        let far = leb-false m limit g in
        let u = subst (λ (x : Step needs). Undone needs a t x) s (undo needs a t ts) in
        let z = u (least later) in
        at_limit [] t ts refl (none_far_at_first (t ∷ ts) needs a) (record {
          written = z.written;
          rest = spelling (least later);
          spelled = z.spelled;
          beyond = heavy_beyond m (weights (least later) b) (weights z.written a) z.weighed far;
        }) (λ l. light_not_heavy (step needs a t ts) (label_is_light needs a t ts (is_that_word t ts l) (no_colon_there t ts l))
        (subst (λ (x : Step needs). IsHeavy x) (sym s) far)) (sym k)

    one : ((later : List Need) (b : ℕ) → Chained later → verdict ts later b ≡ Refused r → Placed ts later b r) → (x : Step needs) →
        step needs a t ts ≡ x → go_on x (verdict ts) t.place ≡ Refused r → Placed (t ∷ ts) needs a r
    one again (Next later b m build) s e = go again later b m build s (nat_le m limit) refl e
    one again Stuck s e = let k : refusal Syntax t.place ≡ r = cc in at_syntax [] t ts refl here (none_far_at_first (t ∷ ts) needs a)
        (λ w z i. let j = not_stuck w a t ts z c i in let l = ap is_stuck s in absurd cc) (sym k)
