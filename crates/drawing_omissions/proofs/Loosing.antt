-- The nets that cases set, marked one after the other, and the nets that nothing determines.
use Rattle.std.proofs.Common.{◌≡◌, ℕ, ◌+◌, ◌<◌, ◌==◌, ◌&&◌, ◌||◌, not, Bool, true, false, cond, List, [], ◌∷◌, ◌++◌, filter, length, take, get_or, refl, sym, ap, ◌∙◌, slice_get}
use Rattle.std.specs.List.{list_any}
use Rattle.std.proofs.Math.ListN.{set}
use Rattle.std.proofs.Math.Bool.{or-false, or_assoc}
use Rattle.std.proofs.lemmas.List.{get_or_default, take_more}
use Rattle.std.proofs.lemmas.List.Folds.{list_any_more}
use Rattle.flat_circuit.specs.declared.case.CaseValue.{CaseValue}
use Rattle.flat_circuit.specs.Circuit.{Circuit}
use Rattle.fixpoint_engine.specs.Settled.{marked_in}
use Rattle.fixpoint_engine.proofs.Waiting.{marked_set}
use Rattle.drawing_omissions.specs.Loose.{AreSet, is_free, is_given, is_loose, is_set, sets}
use Rattle.drawing_omissions.specs.Read.{AreRead, is_read}

or_same : (a b : Bool) → cond a true b ≡ (b || a)
or_same true true = refl
or_same true false = refl
or_same false true = refl
or_same false false = refl

-- one net more
pub set_more : (values : List CaseValue) (k net : ℕ) (v : CaseValue) (old between new : List Bool) → k < length values → get_or values k v ≡ v → v.net ≡ net →
    net < length between → new ≡ set between net true → (i : ℕ) → marked_in between i ≡ (marked_in old i || sets i (take k values)) →
    marked_in new i ≡ (marked_in old i || sets i (take (k + 1) values))
set_more values k net v old between new below at named inside put i before =
    ap (λ (ms : List Bool). marked_in ms i) put ∙ marked_set between net i true inside ∙ or_same (net == i) (marked_in between i)
    ∙ ap (λ b. b || (net == i)) before ∙ or_assoc (marked_in old i) (sets i (take k values)) (net == i)
    ∙ ap (λ b. marked_in old i || b)
    (ap (λ n. sets i (take k values) || (n == i)) (sym named) ∙ ap (λ (w : CaseValue). sets i (take k values) || (w.net == i)) (sym at)
    ∙ sym (list_any_more (λ (w : CaseValue). w.net == i) values k v below))

-- the same, at any default
pub marks_more : (values : List CaseValue) (k : ℕ) (d : CaseValue) (old between new : List Bool) → k < length values → (get_or values k d).net < length between →
    new ≡ set between (get_or values k d).net true → (i : ℕ) → marked_in between i ≡ (marked_in old i || sets i (take k values)) →
    marked_in new i ≡ (marked_in old i || sets i (take (k + 1) values))
marks_more values k d old between new below inside put i before =
    let v = get_or values k d in
    set_more values k v.net v old between new below (get_or_default values k v d below) refl inside put i before

-- one case more
pub cases_more : (cases : List (List CaseValue)) (k : ℕ) (values : List CaseValue) (between new : List Bool) → k < length cases → get_or cases k [] ≡ values → (i : ℕ) →
    marked_in between i ≡ is_set (take k cases) i → marked_in new i ≡ (marked_in between i || sets i values) → marked_in new i ≡ is_set (take (k + 1) cases) i
cases_more cases k values between new below at i before one =
    one ∙ ap (λ b. b || sets i values) before ∙ ap (λ vs. is_set (take k cases) i || sets i vs) (sym at) ∙ sym (list_any_more (sets i) cases k [] below)

-- ---- nets that nothing determines

filtered_more : (p : ℕ → Bool) (xs : List ℕ) (k : ℕ) → k < length xs → filter p (take (k + 1) xs) ≡ filter p (take k xs) ++ cond (p (get_or xs k 0)) (get_or xs k 0 ∷ []) []
filtered_more p xs k below = ap (filter p) (take_more xs k 0 below) ∙ filter_last p (take k xs) (get_or xs k 0)
  where
    filter_last : (p : ℕ → Bool) (l : List ℕ) (x : ℕ) → filter p (l ++ x ∷ []) ≡ filter p l ++ cond (p x) (x ∷ []) []
    filter_last p [] x = refl
    filter_last p (y ∷ l) x = by (p y) (filter_last p l x)
      where
        by : (b : Bool) → filter p (l ++ x ∷ []) ≡ filter p l ++ cond (p x) (x ∷ []) [] →
            cond b (y ∷ filter p (l ++ x ∷ [])) (filter p (l ++ x ∷ [])) ≡ cond b (y ∷ filter p l) (filter p l) ++ cond (p x) (x ∷ []) []
        by true e = ap (λ r. y ∷ r) e
        by false e = e

pub loose_more : (p : ℕ → Bool) (xs : List ℕ) (k net : ℕ) (counts : Bool) (old new : List ℕ) → k < length xs → net ≡ get_or xs k 0 → old ≡ filter p (take k xs) →
    counts ≡ p net → new ≡ old ++ cond counts (net ∷ []) [] → new ≡ filter p (take (k + 1) xs)
loose_more p xs k net counts old new below at before is more =
    more ∙ ap (λ l. l ++ cond counts (net ∷ []) []) before ∙ ap (λ b. filter p (take k xs) ++ cond b (net ∷ []) []) is
    ∙ ap (λ n. filter p (take k xs) ++ cond (p n) (n ∷ []) []) at ∙ sym (filtered_more p xs k below)

-- by the sets of what cases set and of what is read
pub given_is : (c : Circuit) (cases : List (List CaseValue)) (set : List Bool) (i : ℕ) → AreSet cases set →
    (not (is_free (slice_get c.nets i)) || marked_in set i) ≡ is_given c cases i
given_is c cases set i are = ap (λ b. not (is_free (slice_get c.nets i)) || b) (are i)

pub loose_is : (c : Circuit) (cases : List (List CaseValue)) (set read : List Bool) (i : ℕ) → AreSet cases set → AreRead c.instances read →
    (not (not (is_free (slice_get c.nets i)) || marked_in set i) && marked_in read i) ≡ is_loose c cases i
loose_is c cases set read i are reads = ap (λ b. not b && marked_in read i) (given_is c cases set i are) ∙ ap (λ b. not (is_given c cases i) && b) (reads i)
