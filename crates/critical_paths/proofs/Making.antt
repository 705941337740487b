-- What an element makes of chosen steps of its pins.
use Rattle.std.proofs.Common.{inl, inr, ◌≡◌, ℕ, zero, suc, ◌+◌, ◌<◌, ◌≤◌, Bool, true, false, not, ◌&&◌, ◌||◌, cond, List, [], ◌∷◌, ◌++◌, length, get_or, set, take, map, fold, refl, sym, ap, subst, ◌∙◌, arith, eq-eqb}
use Rattle.std.proofs.Math.ListN.{length-set}
use Rattle.std.proofs.lemmas.Bool.{cases_eq, ne_eqb}
use Rattle.std.proofs.lemmas.List.{get_or-map, get_or-set_same, get_or-set_other, length-map}
use Rattle.step_values.specs.declared.value.Value.{Value}
use Rattle.step_values.specs.declared.value.Value.TheVariants.{U}
use Rattle.step_values.specs.Steps.{Steps, has}
use Rattle.step_values.specs.StepSet.{followed_by}
use Rattle.step_values.specs.Each.{agree}
use Rattle.step_values.specs.Image.{any_clock, one_step, reg_step, reg_rs_step, reg_rs_rule, latch_step, latch_rs_step, set_reset}
use Rattle.wave_core.specs.Slots.{slots}
use Rattle.wave_core.proofs.Slots.{get_or_slots, length_slots}
use Rattle.skew_algebra.proofs.Cells.{same_list}
use Rattle.element_kinds.specs.declared.kind.Kind.{Kind}
use Rattle.element_kinds.specs.declared.kind.Kind.TheVariants.{And, Or, Xor, Mux2, Reg, RegRs, Latch, LatchRs}
use Rattle.element_kinds.specs.Kinds.{listens}
use Rattle.storage_eval.specs.Storage.{listening, listening_from}
use Rattle.flat_circuit.specs.Kind.{pin_counts}
use Rattle.gate_eval.specs.Hold.{value_of_pin}
use Rattle.critical_paths.specs.declared.direction.Direction.{Direction}
use Rattle.critical_paths.specs.declared.direction.Direction.TheVariants.{Rise, Fall, Change}
use Rattle.critical_paths.specs.Event.{moves}
use Rattle.critical_paths.specs.Cause.{made1, made2, made3, made4, made_from_left, mux, no_steps, output_steps, some_in}
use Rattle.critical_paths.specs.Image.{rule_of}
use Rattle.critical_paths.specs.Views.{IsCount, choosing, chosen}

-- ---- sets that are one

-- the two have the same steps
abbrev pub Same : Steps → Steps → Type 0
Same s t = (before after : Bool) → s before after ≡ t before after

pub moves_same : (d : Direction) (s t : Steps) → Same s t → moves d s ≡ moves d t
moves_same Rise s t e = e false true
moves_same Fall s t e = e true false
moves_same Change s t e =
    let rise : s false true ≡ t false true = e false true in
    let fall : s true false ≡ t true false = e true false in
    λ i. rise i || fall i

pub makes_by : (change result : Bool) (d : Direction) (s t : Steps) → change ≡ false →
    result ≡ moves d s → Same s t →
    result ≡ (change || moves d t)
makes_by true result d s t is e same = absurd (cc)
makes_by false result d s t is e same = e ∙ moves_same d s t same

-- ---- a pin that stays at 0

only_low : (f : Bool → Bool → Bool) → some_in (one_step false false) f ≡ f false false
only_low f = by (f false false)
  where
    by : (b : Bool) → ((b || false) || (false || false)) ≡ b
    by true = refl
    by false = refl

some_same : (s t : Steps) (f g : Bool → Bool → Bool) → Same s t →
    ((b b' : Bool) → f b b' ≡ g b b') → some_in s f ≡ some_in t g
some_same s t f g e h = λ i. some_in (λ b b'. e b b' i) (λ b b'. h b b' i)

-- ---- two, and three, and all four

module _ (rule : Bool → Bool → Bool → Bool → Bool → Bool → Bool → Bool → Steps) where
  abbrev low : Steps
  low = one_step false false

  -- of the first alone
  pub first_only : (s t u v : Steps) → Same t low → Same u low → Same v low →
      Same (made4 rule s t u v) (made1 (λ a a'. rule a a' false false false false false false) s)
  unfolding made1 made2 made3 made4
  first_only s t u v t_low u_low v_low before after =
      some_same s s
      (λ a a'. some_in t (λ b b'. some_in u (λ c c'. some_in v
      (λ d d'. rule a a' b b' c c' d d' before after))))
      (λ a a'. rule a a' false false false false false false before after)
      (λ a a'. refl)
      (λ a a'.
      some_same t low (λ b b'. some_in u (λ c c'. some_in v
      (λ d d'. rule a a' b b' c c' d d' before after)))
      (λ b b'. some_in u (λ c c'. some_in v (λ d d'. rule a a' b b' c c' d d' before after))) t_low
      (λ b b'. refl)
      ∙ only_low (λ b b'. some_in u (λ c c'. some_in v
      (λ d d'. rule a a' b b' c c' d d' before after)))
      ∙ some_same u low (λ c c'. some_in v (λ d d'. rule a a' false false c c' d d' before after))
      (λ c c'. some_in v (λ d d'. rule a a' false false c c' d d' before after)) u_low
      (λ c c'. refl)
      ∙ only_low (λ c c'. some_in v (λ d d'. rule a a' false false c c' d d' before after))
      ∙ some_same v low (λ d d'. rule a a' false false false false d d' before after)
      (λ d d'. rule a a' false false false false d d' before after) v_low (λ d d'. refl)
      ∙ only_low (λ d d'. rule a a' false false false false d d' before after))

  -- of the first two
  pub first_two : (s t u v : Steps) → Same u low → Same v low →
      Same (made4 rule s t u v) (made2 (λ a a' b b'. rule a a' b b' false false false false) s t)
  unfolding made1 made2 made3 made4
  first_two s t u v u_low v_low before after =
      some_same s s
      (λ a a'. some_in t (λ b b'. some_in u (λ c c'. some_in v
      (λ d d'. rule a a' b b' c c' d d' before after))))
      (λ a a'. some_in t (λ b b'. rule a a' b b' false false false false before after))
      (λ a a'. refl)
      (λ a a'. some_same t t (λ b b'. some_in u
      (λ c c'. some_in v (λ d d'. rule a a' b b' c c' d d' before after)))
      (λ b b'. rule a a' b b' false false false false before after) (λ b b'. refl)
      (λ b b'.
      some_same u low (λ c c'. some_in v (λ d d'. rule a a' b b' c c' d d' before after))
      (λ c c'. some_in v (λ d d'. rule a a' b b' c c' d d' before after)) u_low (λ c c'. refl)
      ∙ only_low (λ c c'. some_in v (λ d d'. rule a a' b b' c c' d d' before after))
      ∙ some_same v low (λ d d'. rule a a' b b' false false d d' before after)
      (λ d d'. rule a a' b b' false false d d' before after) v_low (λ d d'. refl)
      ∙ only_low (λ d d'. rule a a' b b' false false d d' before after)))

  -- of the first three
  pub first_three : (s t u v : Steps) → Same v low →
      Same (made4 rule s t u v) (made3 (λ a a' b b' c c'. rule a a' b b' c c' false false) s t u)
  unfolding made1 made2 made3 made4
  first_three s t u v v_low before after =
      some_same s s
      (λ a a'. some_in t (λ b b'. some_in u (λ c c'. some_in v
      (λ d d'. rule a a' b b' c c' d d' before after))))
      (λ a a'. some_in t (λ b b'. some_in u (λ c c'. rule a a' b b' c c' false false before after)))
      (λ a a'. refl)
      (λ a a'. some_same t t (λ b b'. some_in u
      (λ c c'. some_in v (λ d d'. rule a a' b b' c c' d d' before after)))
      (λ b b'. some_in u (λ c c'. rule a a' b b' c c' false false before after)) (λ b b'. refl)
      (λ b b'. some_same u u (λ c c'. some_in v (λ d d'. rule a a' b b' c c' d d' before after))
      (λ c c'. rule a a' b b' c c' false false before after) (λ c c'. refl)
      (λ c c'.
      some_same v low (λ d d'. rule a a' b b' c c' d d' before after)
      (λ d d'. rule a a' b b' c c' d d' before after) v_low (λ d d'. refl)
      ∙ only_low (λ d d'. rule a a' b b' c c' d d' before after))))

  -- of all but the second
  pub but_second : (s t u v : Steps) → Same t low →
      Same (made4 rule s t u v) (made3 (λ a a' c c' d d'. rule a a' false false c c' d d') s u v)
  unfolding made1 made2 made3 made4
  but_second s t u v t_low before after =
      some_same s s
      (λ a a'. some_in t (λ b b'. some_in u (λ c c'. some_in v
      (λ d d'. rule a a' b b' c c' d d' before after))))
      (λ a a'. some_in u (λ c c'. some_in v (λ d d'. rule a a' false false c c' d d' before after)))
      (λ a a'. refl)
      (λ a a'.
      some_same t low (λ b b'. some_in u (λ c c'. some_in v
      (λ d d'. rule a a' b b' c c' d d' before after)))
      (λ b b'. some_in u (λ c c'. some_in v (λ d d'. rule a a' b b' c c' d d' before after))) t_low
      (λ b b'. refl)
      ∙ only_low (λ b b'. some_in u (λ c c'. some_in v
      (λ d d'. rule a a' b b' c c' d d' before after))))

-- ---- the lists of steps

at_slots : (found : List Value) (pin i : ℕ) (before after : Bool) → i < length found →
    get_or (choosing found pin before after) i no_steps ≡ chosen found pin before after i
at_slots found pin i before after below = elim (cases_eq i pin) [
  | inl same ↦
      let long : length (map has found) ≡ length found = length-map found has in
      let here : pin < length (map has found) = omega (arith, long, below, same) in
      ap (λ (z : ℕ). get_or (set (map has found) pin (one_step before after)) z no_steps) same
      ∙ get_or-set_same (map has found) pin (one_step before after) no_steps here
      ∙ sym (ap (λ (b : Bool). cond b (one_step before after) (has (value_of_pin found i)))
      (eq-eqb i pin same))
  | inr other ↦
      get_or-set_other (map has found) pin i (one_step before after) no_steps other
      ∙ get_or-map has found i U no_steps below
      ∙ sym (ap (λ (b : Bool). cond b (one_step before after) (has (value_of_pin found i)))
      (ne_eqb i pin other))
]

long_choosing : (found : List Value) (pin : ℕ) (before after : Bool) →
    length (choosing found pin before after) ≡ length found
long_choosing found pin before after = length-set (map has found) pin (one_step before after)
    ∙ length-map found has

pub choosing_is : (found : List Value) (pin : ℕ) (before after : Bool) →
    choosing found pin before after ≡ slots (length found) (chosen found pin before after)
choosing_is found pin before after =
    let long = long_choosing found pin before after in
    same_list (choosing found pin before after)
    (slots (length found) (chosen found pin before after)) no_steps
    (long ∙ sym (length_slots (length found) (chosen found pin before after)))
    (λ i below.
    let inside : i < length found = omega (arith, long, below) in
    at_slots found pin i before after inside
    ∙ sym (get_or_slots (length found) i (chosen found pin before after) no_steps inside))

listening_all : (kind : Kind) → ((i : ℕ) → listens kind i ≡ true) →
    (place : ℕ) (sets : List Steps) → listening_from kind place sets ≡ sets
listening_all kind all place [] = refl
listening_all kind all place (s ∷ sets) =
    let rest : listening_from kind (place + 1) sets ≡ sets =
    listening_all kind all (place + 1) sets in
    ap (λ (b : Bool). cond b (s ∷ listening_from kind (place + 1) sets)
    (listening_from kind (place + 1) sets)) (all place)
    ∙ ap (λ more. s ∷ more) rest

-- what an element makes of as many pins
pub made_at : (kind : Kind) (found : List Value) (pin : ℕ) (before after : Bool) (n : ℕ) →
    length found ≡ n →
    output_steps kind (listening kind (choosing found pin before after)) ≡ output_steps kind
    (listening kind (slots n (chosen found pin before after)))
made_at kind found pin before after n long =
    ap (λ sets. output_steps kind (listening kind sets))
    (choosing_is found pin before after ∙ ap (λ (z : ℕ). slots z (chosen found pin before after))
    long)

-- ---- gates of any number of pins

module _ (rule : Bool → Bool → Bool → Bool → Steps) where
  more_left : (sets : List Steps) (s : Steps) → 0 < length sets →
      made_from_left rule (sets ++ s ∷ []) ≡ made2 rule (made_from_left rule sets) s
  more_left [] s some = absurd (omega arith)
  more_left (first ∷ sets) s some = by sets first
    where
      by : (sets : List Steps) (first : Steps) →
          fold (made2 rule) first (sets ++ s ∷ []) ≡ made2 rule (fold (made2 rule) first sets) s
      by [] first = refl
      by (next ∷ sets) first = by sets (made2 rule first next)

same_pair : (rule : Bool → Bool → Bool → Bool → Steps) (s s' t t' : Steps) → Same s s' → Same t t' →
    Same (made2 rule s t) (made2 rule s' t')
same_pair rule s s' t t' e f before after =
    λ i. made2 rule (λ b b'. e b b' i) (λ b b'. f b b' i) before after

pub taken : {A : Type 0} (xs : List A) (n : ℕ) (d : A) → n < length xs →
    take (n + 1) xs ≡ take n xs ++ get_or xs n d ∷ []
taken [] n d below = absurd (omega arith)
taken (x ∷ xs) zero d below = refl
taken (x ∷ xs) (suc n) d below =
    let next : suc n + 1 ≡ suc (n + 1) = omega arith in
    ap (λ (z : ℕ). take z (x ∷ xs)) next ∙ ap (λ more. x ∷ more)
    (taken xs n d (omega (arith, below)))

long_taken : (xs : List Steps) (n : ℕ) → n ≤ length xs → length (take n xs) ≡ n
long_taken [] n l = let none : n ≡ 0 = omega arith in
    ap (λ (z : ℕ). length (take {A = Steps} z [])) none ∙ sym none
long_taken (x ∷ xs) zero l = refl
long_taken (x ∷ xs) (suc n) l = ap suc (long_taken xs n (omega (arith, l)))

-- the pins so far
abbrev pub met_of : Kind → List Value → ℕ → Bool → Bool → ℕ → Steps
met_of kind found pin before after n =
    made_from_left (λ a a' b b'. rule_of kind a a' b b' false false false false)
    (take n (choosing found pin before after))

pub met_next : (kind : Kind) (found : List Value) (pin : ℕ) (before after : Bool) (n : ℕ)
    (s t u v r : Steps) → 1 ≤ n → n < length found →
    Same s (met_of kind found pin before after n) → Same t (chosen found pin before after n) →
    Same u (one_step false false) → Same v (one_step false false) →
    Same r (made4 (rule_of kind) s t u v) → Same r (met_of kind found pin before after (n + 1))
met_next kind found pin before after n s t u v r begun below e f u_low v_low is b b' =
    let long = long_choosing found pin before after in
    let pair = λ (a a' c c' : Bool). rule_of kind a a' c c' false false false false in
    let sets = choosing found pin before after in
    let short : length (take n sets) ≡ n = long_taken sets n (omega (arith, long, below)) in
    is b b'
    ∙ first_two (rule_of kind) s t u v u_low v_low b b'
    ∙ same_pair pair s (met_of kind found pin before after n) t (chosen found pin before after n) e
    f b b'
    ∙ sym (ap (λ all. made_from_left pair all b b')
    (taken sets n no_steps (omega (arith, long, below)))
    ∙ ap (λ all. all b b') (more_left pair (take n sets) (get_or sets n no_steps)
    (omega (arith, short, begun)))
    ∙ ap (λ last. made2 pair (made_from_left pair (take n sets)) last b b')
    (at_slots found pin n before after below))

pub taken_all : {A : Type 0} (xs : List A) (n : ℕ) → length xs ≤ n → take n xs ≡ xs
taken_all [] zero l = refl
taken_all [] (suc n) l = refl
taken_all (x ∷ xs) zero l = absurd (omega arith)
taken_all (x ∷ xs) (suc n) l = ap (λ more. x ∷ more) (taken_all xs n (omega (arith, l)))

-- ---- each kind

-- a gate of two inputs at a time
abbrev Met : Kind → List Steps → Steps
Met kind sets = made_from_left (λ a a' b b'. rule_of kind a a' b b' false false false false) sets

pub met_and : (sets : List Steps) → Same (Met And sets) (output_steps And (listening And sets))
unfolding rule_of
met_and sets b b' = sym (ap (λ all. output_steps And all b b')
    (listening_all And (λ i. refl) 0 sets))

pub met_or : (sets : List Steps) → Same (Met Or sets) (output_steps Or (listening Or sets))
unfolding rule_of
met_or sets b b' = sym (ap (λ all. output_steps Or all b b') (listening_all Or (λ i. refl) 0 sets))

pub met_xor : (sets : List Steps) → Same (Met Xor sets) (output_steps Xor (listening Xor sets))
unfolding rule_of
met_xor sets b b' = sym (ap (λ all. output_steps Xor all b b')
    (listening_all Xor (λ i. refl) 0 sets))

-- a select and two inputs
same_mux : (s s' t t' u u' : Steps) → Same s s' → Same t t' → Same u u' →
    Same (mux s t u) (mux s' t' u')
same_mux s s' t t' u u' e f g before after =
    λ i. mux (λ b b'. e b b' i) (λ b b'. f b b' i) (λ b b'. g b b' i) before after

pub muxed : (r s t u v s' t' u' : Steps) → Same r (made4 (rule_of Mux2) s t u v) → Same s s' →
    Same t t' → Same u u' →
    Same v (one_step false false) → Same r (mux s' t' u')
unfolding rule_of
muxed r s t u v s' t' u' is e f g v_low before after =
    is before after ∙ first_three (rule_of Mux2) s t u v v_low before after
    ∙ same_mux s s' t t' u u' e f g before after

-- storage by its enable, input, set and reset
pub reg_made : (r s t u v s' : Steps) → Same r (made4 (rule_of Reg) s t u v) → Same s s' →
    Same t (one_step false false) →
    Same u (one_step false false) → Same v (one_step false false) → Same r (made1 reg_step s')
unfolding rule_of
reg_made r s t u v s' is e t_low u_low v_low before after =
    is before after
    ∙ first_only (rule_of Reg) s t u v t_low u_low v_low before after
    ∙ (λ i. made1 (λ a a'. reg_rs_step a a' false false false false) (λ b b'. e b b' i) before
    after)

pub reg_rs_made : (r s t u v s' u' v' : Steps) → Same r (made4 (rule_of RegRs) s t u v) →
    Same s s' → Same t (one_step false false) →
    Same u u' → Same v v' → Same r (made3 reg_rs_step s' u' v')
unfolding rule_of
reg_rs_made r s t u v s' u' v' is e t_low f g before after =
    is before after
    ∙ but_second (rule_of RegRs) s t u v t_low before after
    ∙ (λ i. made3 reg_rs_step (λ b b'. e b b' i) (λ b b'. f b b' i) (λ b b'. g b b' i) before after)

pub latch_made : (r s t u v s' t' : Steps) → Same r (made4 (rule_of Latch) s t u v) → Same s s' →
    Same t t' →
    Same u (one_step false false) → Same v (one_step false false) → Same r (made2 latch_step s' t')
unfolding rule_of
latch_made r s t u v s' t' is e f u_low v_low before after =
    is before after
    ∙ first_two (rule_of Latch) s t u v u_low v_low before after
    ∙ (λ i. made2 (λ a a' b b'. latch_rs_step a a' b b' false false false false) (λ b b'. e b b' i)
    (λ b b'. f b b' i) before after)

pub latch_rs_made : (r s t u v s' t' u' v' : Steps) → Same r (made4 (rule_of LatchRs) s t u v) →
    Same s s' → Same t t' →
    Same u u' → Same v v' → Same r (made4 latch_rs_step s' t' u' v')
unfolding rule_of
latch_rs_made r s t u v s' t' u' v' is e f g h before after =
    is before after
    ∙ (λ i. made4 latch_rs_step (λ b b'. e b b' i) (λ b b'. f b b' i) (λ b b'. g b b' i)
    (λ b b'. h b b' i) before after)

-- ---- a clock that was either bit before

pub either_clock : (clock set reset before after : Bool) →
    set_reset set reset (clock || agree before after) after ≡ any_clock
    (λ earlier. reg_rs_rule earlier clock set reset) before after
either_clock true true true before after = refl
either_clock true true false before true = refl
either_clock true true false before false = refl
either_clock true false true before true = refl
either_clock true false true before false = refl
either_clock true false false before after = refl
either_clock false true true before after = refl
either_clock false true false before true = refl
either_clock false true false before false = refl
either_clock false false true before true = refl
either_clock false false true before false = refl
either_clock false false false true true = refl
either_clock false false false true false = refl
either_clock false false false false true = refl
either_clock false false false false false = refl

-- ---- a pin that alone counts

-- ---- the steps of a register

abbrev allows_reg : Bool → Bool → Bool → Steps
allows_reg takes set reset before after = set_reset set reset (takes || agree before after) after

pub reg_steps : (clock clock' set set' reset reset' takes : Bool) (earlier now : Steps) →
    takes ≡ (not clock && clock') →
    Same earlier (allows_reg clock set reset) → Same now (allows_reg takes set' reset') →
    (before after : Bool) → followed_by earlier now before after ≡ reg_rs_step clock clock' set set'
    reset reset' before after
reg_steps clock clock' set set' reset reset' takes earlier now rises e f before after =
    let was : (older : Bool) → earlier older before ≡ any_clock (λ b. reg_rs_rule b clock set reset)
    older before =
    λ older. e older before ∙ either_clock clock set reset older before in
    let low = was false in
    let high = was true in
    let is : now before after ≡ reg_rs_rule clock clock' set' reset' before after =
    f before after ∙ ap (λ (x : Bool). set_reset set' reset' (x || agree before after) after)
    rises in
    λ i. (low i || high i) && is i

-- ---- by the kind that is asked for

pub at_kind : (kind k : Kind) (sets : List Steps) (r : Steps) → kind ≡ k →
    Same r (output_steps k (listening k sets)) →
    Same r (output_steps kind (listening kind sets))
at_kind kind k sets r is e b b' = e b b' ∙ sym (ap (λ z. output_steps z (listening z sets) b b') is)

at_count : (kind k : Kind) (found : List Value) (pin : ℕ) (before after : Bool) (n : ℕ)
    (r : Steps) → kind ≡ k → length found ≡ n →
    Same r (output_steps k (listening k (slots n (chosen found pin before after)))) →
    Same r (output_steps kind (listening kind (choosing found pin before after)))
at_count kind k found pin before after n r is long e =
    at_kind kind k (choosing found pin before after) r is
    (λ b b'. e b b' ∙ sym (ap (λ (s : Steps). s b b') (made_at k found pin before after n long)))

-- of a kind that has so many pins, and no more or fewer
pub at_size : (kind k : Kind) (found : List Value) (pin : ℕ) (before after : Bool) (n : ℕ)
    (r : Steps) → kind ≡ k → IsCount kind (length found) → pin_counts k ≡ (n, n) →
    Same r (output_steps k (listening k (slots n (chosen found pin before after)))) →
    Same r (output_steps kind (listening kind (choosing found pin before after)))
at_size kind k found pin before after n r is fits size e =
    let count = subst (λ z. IsCount z (length found)) is fits in
    let least : n ≤ length found = subst (λ (z : ℕ × ℕ). z.0 ≤ length found) size count.0 in
    let most : length found ≤ n = subst (λ (z : ℕ × ℕ). length found ≤ z.1) size count.1 in
    at_count kind k found pin before after n r is (omega (arith, least, most)) e
