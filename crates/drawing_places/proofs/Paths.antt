-- The parts of paths, byte by byte.
use Rattle.std.proofs.Common.{inl, inr, ◌≡◌, ℕ, zero, suc, ◌+◌, ◌-◌, ◌<◌, ◌≤◌, ◌⊎◌, Bool, true, false, ◌||◌, List, [], ◌∷◌, ◌++◌, length, take, drop, get_or, drop-cons, refl, sym, ap, subst, ◌∙◌, arith}
use Rattle.std.proofs.Math.Seq.{take-suc}
use Rattle.std.specs.Prelude.{◌==◌}
use Rattle.std.proofs.lemmas.List.{append-nil, append_assoc, drop_all}
use Rattle.drawing_places.specs.Path.{after_turn, has_slash, in_front, labels, last_part, scope_part, unturned}

-- ---- the scope and what follows it

pub no_scope : (text : List ℕ) → has_slash text ≡ false → scope_part text ≡ []
no_scope [] none = refl
no_scope (b ∷ bs) none = rw none refl

pub all_last : (text : List ℕ) → has_slash text ≡ false → last_part text ≡ text
all_last [] none = refl
all_last (b ∷ bs) none = rw none refl

has_at : (text : List ℕ) (n : ℕ) → n < length text → get_or text n 0 ≡ 47 → has_slash text ≡ true
has_at [] n below is = absurd (omega (arith, below))
has_at (b ∷ bs) zero below is = rw is refl
has_at (b ∷ bs) (suc n) below is = by (b == 47) (has_at bs n (omega (arith, below)) is)
  where
    by : (here : Bool) → has_slash bs ≡ true → (here || has_slash bs) ≡ true
    by true rest = refl
    by false rest = rest

pub scope_at : (text : List ℕ) (n : ℕ) → n < length text → get_or text n 0 ≡ 47 → has_slash (drop (suc n) text) ≡ false →
    scope_part text ≡ take (suc n) text
scope_at [] n below is none = absurd (omega (arith, below))
scope_at (b ∷ bs) zero below is none = rw (has_at (b ∷ bs) 0 below is) (ap (λ (z : List ℕ). b ∷ z) (no_scope bs none))
scope_at (b ∷ bs) (suc n) below is none =
    rw (has_at (b ∷ bs) (suc n) below is) (ap (λ (z : List ℕ). b ∷ z) (scope_at bs n (omega (arith, below)) is none))

pub last_at : (text : List ℕ) (n : ℕ) → n < length text → get_or text n 0 ≡ 47 → has_slash (drop (suc n) text) ≡ false →
    last_part text ≡ drop (suc n) text
last_at [] n below is none = absurd (omega (arith, below))
last_at (b ∷ bs) zero below is none = rw (has_at (b ∷ bs) 0 below is) (all_last bs none)
last_at (b ∷ bs) (suc n) below is none = rw (has_at (b ∷ bs) (suc n) below is) (last_at bs n (omega (arith, below)) is none)

-- one byte more that is no slash
pub none_before : (text : List ℕ) (n : ℕ) → n < length text → (get_or text n 0 == 47) ≡ false → has_slash (drop (suc n) text) ≡ false →
    has_slash (drop n text) ≡ false
none_before [] n below is none = absurd (omega (arith, below))
none_before (b ∷ bs) zero below is none = rw is none
none_before (b ∷ bs) (suc n) below is none = none_before bs n (omega (arith, below)) is none

-- ---- the first label of a scope

in_front_twice : (xs ys : List ℕ) (ls : List (List ℕ)) → in_front xs (in_front ys ls) ≡ in_front (xs ++ ys) ls
in_front_twice xs ys [] = refl
in_front_twice xs ys (l ∷ ls) = ap (λ (z : List ℕ). z ∷ ls) (sym (append_assoc xs ys l))

in_front_none : (ls : List (List ℕ)) → in_front [] ls ≡ ls
in_front_none [] = refl
in_front_none (l ∷ ls) = refl

-- What is known while the end of the first label is looked for: the bytes so far are in front of the labels of
-- those that follow.
pub record IsLabelled (scope : List ℕ) (end : ℕ) : Type 0 where
  pub are : labels (unturned scope) ≡ in_front (take end scope) (labels (unturned (drop end scope)))

pub labelled_start : (scope : List ℕ) → IsLabelled scope 0
labelled_start scope = record { are = sym (in_front_none (labels (unturned scope))) }

-- a byte more that is neither a # nor a slash
at_byte : (b : ℕ) (bs : List ℕ) → (b == 35) ≡ false → (b == 47) ≡ false → labels (unturned (b ∷ bs)) ≡ in_front (b ∷ []) (labels (unturned bs))
at_byte b bs turn slash = rw (turn, slash) refl

pub labelled_more : (scope : List ℕ) (end : ℕ) → end < length scope → (get_or scope end 0 == 35) ≡ false → (get_or scope end 0 == 47) ≡ false →
    IsLabelled scope end → IsLabelled scope (end + 1)
labelled_more scope end below turn slash is =
    let next : end + 1 ≡ suc end = omega arith in
    record {
      are =
          is.are
          ∙ ap (λ (z : List ℕ). in_front (take end scope) (labels (unturned z))) (drop-cons scope end 0 below)
          ∙ ap (in_front (take end scope)) (at_byte (get_or scope end 0) (drop (suc end) scope) turn slash)
          ∙ in_front_twice (take end scope) (get_or scope end 0 ∷ []) (labels (unturned (drop (suc end) scope)))
          ∙ ap (λ (z : List ℕ). in_front z (labels (unturned (drop (suc end) scope)))) (sym (take-suc scope end 0 below))
          ∙ ap (λ (n : ℕ). in_front (take n scope) (labels (unturned (drop n scope)))) (sym next);
    }

-- The label has ended, and what a FOR puts after it is passed up to a slash.
pub record IsPassed (scope : List ℕ) (end slash : ℕ) : Type 0 where
  pub are : labels (unturned scope) ≡ in_front (take end scope) (labels (after_turn (drop slash scope)))

ended : (bs : List ℕ) → (length bs ≡ 0) ⊎ ((get_or bs 0 0 ≡ 35) ⊎ (get_or bs 0 0 ≡ 47)) → unturned bs ≡ after_turn bs
ended [] how = refl
ended (b ∷ bs) (inl none) = absurd (omega (arith, none))
ended (b ∷ bs) (inr (inl turn)) = rw turn refl
ended (b ∷ bs) (inr (inr slash)) = rw slash refl

pub passed_start : (scope : List ℕ) (end : ℕ) → (length (drop end scope) ≡ 0) ⊎ ((get_or (drop end scope) 0 0 ≡ 35) ⊎ (get_or (drop end scope) 0 0 ≡ 47)) →
    IsLabelled scope end → IsPassed scope end end
passed_start scope end how is = record {
  are = is.are ∙ ap (λ (z : List ℕ). in_front (take end scope) (labels z)) (ended (drop end scope) how);
}

pub passed_more : (scope : List ℕ) (end slash : ℕ) → slash < length scope → (get_or scope slash 0 == 47) ≡ false → IsPassed scope end slash →
    IsPassed scope end (slash + 1)
passed_more scope end slash below not is =
    let next : slash + 1 ≡ suc slash = omega arith in
    record {
      are =
          is.are
          ∙ ap (λ (z : List ℕ). in_front (take end scope) (labels (after_turn z))) (drop-cons scope slash 0 below)
          ∙ ap (λ (z : List ℕ). in_front (take end scope) (labels z)) (at_turn (get_or scope slash 0) (drop (suc slash) scope) not)
          ∙ ap (λ (n : ℕ). in_front (take end scope) (labels (after_turn (drop n scope)))) (sym next);
    }
  where
    at_turn : (b : ℕ) (bs : List ℕ) → (b == 47) ≡ false → after_turn (b ∷ bs) ≡ after_turn bs
    at_turn b bs none = rw none refl

pub no_label : (scope : List ℕ) (end slash : ℕ) → length scope ≤ slash → IsPassed scope end slash → labels (unturned scope) ≡ []
no_label scope end slash past is = is.are ∙ ap (λ (z : List ℕ). in_front (take end scope) (labels (after_turn z))) (drop_all slash scope past)

pub first_label : (scope : List ℕ) (end slash : ℕ) → slash < length scope → get_or scope slash 0 ≡ 47 → IsPassed scope end slash →
    labels (unturned scope) ≡ take end scope ∷ labels (unturned (drop (slash + 1) scope))
first_label scope end slash below here is =
    let next : slash + 1 ≡ suc slash = omega arith in
    is.are
    ∙ ap (λ (z : List ℕ). in_front (take end scope) (labels (after_turn z))) (drop-cons scope slash 0 below)
    ∙ at_slash (get_or scope slash 0) here
    ∙ ap (λ (n : ℕ). take end scope ∷ labels (unturned (drop n scope))) (sym next)
  where
    at_slash : (b : ℕ) → b ≡ 47 → in_front (take end scope) (labels (after_turn (b ∷ drop (suc slash) scope))) ≡ take end scope ∷ labels (unturned (drop (suc slash) scope))
    at_slash b is = rw is (ap (λ (z : List ℕ). z ∷ labels (unturned (drop (suc slash) scope))) (append-nil (take end scope)))

-- ---- from the end of a text on

pub scope_to : (text : List ℕ) (end : ℕ) → 0 < end → end ≤ length text → get_or text (end - 1) 0 ≡ 47 → has_slash (drop end text) ≡ false →
    take end text ≡ scope_part text
scope_to text end some within is none =
    let same : suc (end - 1) ≡ end = omega (arith, some) in
    subst (λ (n : ℕ). take n text ≡ scope_part text) same
    (sym (scope_at text (end - 1) (omega (arith, some, within)) is (subst (λ (n : ℕ). has_slash (drop n text) ≡ false) (sym same) none)))

pub last_from : (text : List ℕ) (end : ℕ) → 0 < end → end ≤ length text → get_or text (end - 1) 0 ≡ 47 → has_slash (drop end text) ≡ false →
    drop end text ≡ last_part text
last_from text end some within is none =
    let same : suc (end - 1) ≡ end = omega (arith, some) in
    subst (λ (n : ℕ). drop n text ≡ last_part text) same
    (sym (last_at text (end - 1) (omega (arith, some, within)) is (subst (λ (n : ℕ). has_slash (drop n text) ≡ false) (sym same) none)))
