-- What evaluating one net after another changes.
use Rattle.std.proofs.Common.{◌≡◌, ◌≢◌, ℕ, ◌+◌, ◌<◌, ◌==◌, Bool, true, false, not, ◌&&◌, ◌||◌, cond, All, List, [], ◌∷◌, ◌++◌, length, append-nil, map, filter, take, get_or, refl, sym, ap, subst, ◌∙◌, arith}
use Rattle.std.proofs.lemmas.List.Sums.{fold_push}
use Rattle.std.proofs.lemmas.List.{map-append, length-map, length-set}
use Rattle.std.proofs.lemmas.List.Elements.{All-nil, All-cons, All-filter, All-map, All-head, All-tail, filter-append}
use Rattle.std.proofs.lemmas.Bool.{eqb-true, eqb-false}
use Rattle.std.proofs.Math.Bool.{and-false}
use Rattle.std.proofs.Math.ListN.{set}
use Rattle.step_values.specs.declared.value.Value.{Value}
use Rattle.skew_algebra.specs.Wave.{Wave}
use Rattle.flat_circuit.specs.Circuit.{Circuit}
use Rattle.fixpoint_engine.specs.Same.{same_wave}
use Rattle.fixpoint_engine.proofs.TableByNumber.{next_item}
use Rattle.fixpoint_engine.specs.Waves.{Waves, waves_of}
use Rattle.fixpoint_engine.specs.Rounds.{evaluated}
use Rattle.fixpoint_engine.specs.Worklist.{Change, changes_of, changed, among}
use Rattle.fixpoint_engine.proofs.Same.{same_wave_is, same_wave_self}

pub unchanged : (c : Circuit) (ws : Waves) (i : ℕ) → evaluated c ws i ≡ ws i → changes_of c ws (i ∷ []) ≡ []
unchanged c ws i same =
    let e : same_wave (evaluated c ws i) (ws i) ≡ true = ap (λ (w : Wave Value). same_wave w (ws i)) same ∙ same_wave_self (ws i) in
    ap (λ b. cond (not b) ((i, evaluated c ws i) ∷ []) []) e

pub one_change : (c : Circuit) (ws : Waves) (i : ℕ) → evaluated c ws i ≢ ws i → changes_of c ws (i ∷ []) ≡ (i, evaluated c ws i) ∷ []
one_change c ws i differs = ap (λ b. cond (not b) ((i, evaluated c ws i) ∷ []) []) (by (same_wave (evaluated c ws i) (ws i)) refl)
  where
    by : (b : Bool) → same_wave (evaluated c ws i) (ws i) ≡ b → same_wave (evaluated c ws i) (ws i) ≡ false
    by true e = absurd (differs (same_wave_is (evaluated c ws i) (ws i) e))
    by false e = e

-- the list of changes with one more
pub change_added : {A : Type 0} (pair : A → Change) (old new : List A) (one : A) (c : Circuit) (ws : Waves) (i : ℕ) (w : Wave Value) → new ≡ old ++ one ∷ [] → pair one ≡ (i, w) →
    w ≡ evaluated c ws i → w ≢ ws i → map pair new ≡ map pair old ++ changes_of c ws (i ∷ [])
change_added pair old new one c ws i w pushed is made differs =
    let single : changes_of c ws (i ∷ []) ≡ (i, evaluated c ws i) ∷ [] = one_change c ws i (λ e. differs (made ∙ e)) in
    let here : pair one ≡ (i, evaluated c ws i) = is ∙ (λ k. (i, made k)) in
    ap (map pair) pushed ∙ map-append pair old (one ∷ []) ∙ (λ k. map pair old ++ here k ∷ []) ∙ ap (λ rest. map pair old ++ rest) (sym single)

pub nothing_added : {A : Type 0} (pair : A → Change) (old : List A) (c : Circuit) (ws : Waves) (i : ℕ) (w : Wave Value) → w ≡ evaluated c ws i → w ≡ ws i →
    map pair old ≡ map pair old ++ changes_of c ws (i ∷ [])
nothing_added pair old c ws i w made same =
    sym (append-nil (map pair old)) ∙ ap (λ rest. map pair old ++ rest) (sym (unchanged c ws i (sym made ∙ same)))

-- one net more of a list that is gone through, from waves that are still the same
pub changes_more : (c : Circuit) (first now : List (Wave Value)) (nets : List ℕ) (i : ℕ) (made more : List Change) → i < length nets → now ≡ first →
    made ≡ changes_of c (waves_of first) (take i nets) → more ≡ made ++ changes_of c (waves_of now) (get_or nets i 0 ∷ []) →
    more ≡ changes_of c (waves_of first) (take (i + 1) nets)
changes_more c first now nets i made more below same before grows =
    grows ∙ (λ k. before k ++ changes_of c (waves_of (same k)) (get_or nets i 0 ∷ []))
    ∙ sym (ap (changes_of c (waves_of first)) (next_item nets i 0 below) ∙ joined (take i nets) (get_or nets i 0 ∷ []))
  where
    joined : (xs ys : List ℕ) → changes_of c (waves_of first) (xs ++ ys) ≡ changes_of c (waves_of first) xs ++ changes_of c (waves_of first) ys
    joined xs ys =
        ap (filter (λ (ch : Change). not (same_wave ch.1 (waves_of first ch.0)))) (map-append (λ i. (i, evaluated c (waves_of first) i)) xs ys)
        ∙ filter-append (λ (ch : Change). not (same_wave ch.1 (waves_of first ch.0))) (map (λ i. (i, evaluated c (waves_of first) i)) xs)
        (map (λ i. (i, evaluated c (waves_of first) i)) ys)

-- ---- which nets change, and to what

-- the test for a net whose value differs from its wave
abbrev pub moves : Circuit → Waves → ℕ → Bool
moves c ws i = not (same_wave (evaluated c ws i) (ws i))

-- the nets that change
pub changed_nets : (c : Circuit) (ws : Waves) (nets : List ℕ) (i : ℕ) → among (map (λ (ch : Change). ch.0) (changes_of c ws nets)) i ≡ (among nets i && moves c ws i)
changed_nets c ws [] i = refl
changed_nets c ws (net ∷ nets) i = by (net == i) refl (moves c ws net) refl (changed_nets c ws nets i)
  where
    by : (here : Bool) → (net == i) ≡ here → (moved : Bool) → moves c ws net ≡ moved → among (map (λ (ch : Change). ch.0) (changes_of c ws nets)) i ≡ (among nets i && moves c ws i) →
        among (map (λ (ch : Change). ch.0) (cond moved ((net, evaluated c ws net) ∷ changes_of c ws nets) (changes_of c ws nets))) i ≡ ((here || among nets i) && moves c ws i)
    by true e true m rest = (λ k. e k || among (map (λ (ch : Change). ch.0) (changes_of c ws nets)) i) ∙ sym m ∙ ap (moves c ws) (eqb-true net i e)
    by false e true m rest = (λ k. e k || among (map (λ (ch : Change). ch.0) (changes_of c ws nets)) i) ∙ rest
    by false e false m rest = rest
    by true e false m rest =
        let still : moves c ws i ≡ false = ap (moves c ws) (sym (eqb-true net i e)) ∙ m in
        rest ∙ (λ k. among nets i && still k) ∙ and-false (among nets i) ∙ sym still

pub changes_exist : (c : Circuit) (ws : Waves) (nets : List ℕ) (n : ℕ) → All (λ net. net < n) nets → All (λ (ch : Change). ch.0 < n) (changes_of c ws nets)
changes_exist c ws nets n exist =
    All-filter (λ (ch : Change). not (same_wave ch.1 (ws ch.0))) (λ (ch : Change). ch.0 < n)
    (map (λ i. (i, evaluated c ws i)) nets) (All-map (λ (ch : Change). ch.0 < n) (λ i. (i, evaluated c ws i)) nets exist)

pub length_changed : (changes : List Change) (waves : List (Wave Value)) → length (changed waves changes) ≡ length waves
length_changed [] waves = refl
length_changed (ch ∷ changes) waves = length_changed changes (set waves ch.0 ch.1) ∙ length-set waves ch.0 ch.1

-- ---- the changes as code makes them, one after another

pub same_long : (waves first : List (Wave Value)) (changes : List Change) → waves ≡ changed first changes → length waves ≡ length first
same_long waves first changes is = ap length is ∙ length_changed changes first

pub applied_more : {B : Type 0} (pair : B → Change) (waves after first : List (Wave Value)) (done : List B) (one : B) (w : Wave Value) → waves ≡ changed first (map pair done) →
    after ≡ set waves (pair one).0 w → w ≡ (pair one).1 → after ≡ changed first (map pair (done ++ one ∷ []))
applied_more pair waves after first done one w before sets is =
    sets ∙ (λ k. set (before k) (pair one).0 (is k))
    ∙ sym (ap (changed first) (map-append pair done (one ∷ [])) ∙ fold_push (λ (ws : List (Wave Value)) (ch : Change). set ws ch.0 ch.1) first (map pair done) (pair one))

nets_read : {A : Type 0} (pair : A → Change) (net : A → ℕ) (xs : List A) → ((x : A) → net x ≡ (pair x).0) → map net xs ≡ map (λ (ch : Change). ch.0) (map pair xs)
nets_read pair net [] is = refl
nets_read pair net (x ∷ xs) is = λ k. is x k ∷ nets_read pair net xs is k

pub nets_made : {A : Type 0} (pair : A → Change) (net : A → ℕ) (xs ys : List A) → ((x : A) → net x ≡ (pair x).0) → ys ≡ xs → map net ys ≡ map (λ (ch : Change). ch.0) (map pair xs)
nets_made pair net xs ys is same = ap (map net) same ∙ nets_read pair net xs is

pub all_read : {A : Type 0} (pair : A → Change) (P : Change → Type 0) (xs : List A) → All P (map pair xs) → All (λ x. P (pair x)) xs
all_read pair P [] all = All-nil (λ x. P (pair x))
all_read pair P (x ∷ xs) all = All-cons (λ x. P (pair x)) x xs (All-head P (pair x) (map pair xs) all) (all_read pair P xs (All-tail P (pair x) (map pair xs) all))

pub nets_below : {A : Type 0} (net : A → ℕ) (xs : List A) (m n : ℕ) → m ≡ n → All (λ x. net x < n) xs → All (λ x. net x < m) xs
nets_below net xs m n same all = subst (λ (long : ℕ). All (λ x. net x < long) xs) (sym same) all

pub none_made : {A : Type 0} (pair : A → Change) (xs : List A) (n : ℕ) → n ≡ length xs → true ≡ (n == 0) → length (map pair xs) ≡ 0
none_made pair xs n counts empty = length-map xs pair ∙ sym counts ∙ eqb-true n 0 (sym empty)

pub some_made : {A : Type 0} (pair : A → Change) (xs : List A) (n : ℕ) → n ≡ length xs → false ≡ (n == 0) → 0 < length (map pair xs)
some_made pair xs n counts empty =
    let long = length-map xs pair in
    let some : n ≡ 0 → ⊥ = eqb-false n 0 (sym empty) in
    omega (arith, long, counts, some)
