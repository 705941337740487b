-- Two numbers behind a name make different names.
use Rattle.std.proofs.Common.{◌≡◌, ℕ, ◌+◌, ◌-◌, ◌%◌, ◌<◌, ◌≤◌, ◌^◌, List, [], ◌∷◌, ◌++◌, length, take, sym, ap, subst, ◌∙◌, arith, append_assoc}
use Rattle.std.specs.Prelude.{codes, decimal}
use Rattle.std.proofs.lemmas.Fmt.{decimal_by_steps, decimal_injective, decimal_nonempty}
use Rattle.std.proofs.lemmas.List.{take-take}
use Rattle.netlist_import.specs.Fresh.{numbered, stem_length}

-- no byte of it is `_`, or one behind it
abbrev AreLow : List ℕ → Type 0
AreLow [] = Unit {0}
AreLow (b ∷ bs) = (b < 95) × AreLow bs

low_more : (bs : List ℕ) (b : ℕ) → AreLow bs → b < 95 → AreLow (bs ++ b ∷ [])
low_more [] b low h = (h, tt)
low_more (c ∷ bs) b low h = (low.0, low_more bs b low.1 h)

pub decimal_low : (n : ℕ) → n < 2 ^ 64 → AreLow (decimal n)
decimal_low n h = decimal_by_steps (λ n ds. AreLow ds) (λ n h. (omega arith, tt))
    (λ n ds h low. low_more ds (48 + n % 10) low (omega arith)) n h

not_inside : (bs cs : List ℕ) → AreLow (bs ++ 95 ∷ cs) → ⊥
not_inside [] cs low = let h = low.0 in omega arith
not_inside (b ∷ bs) cs low = not_inside bs cs low.1

-- What stands behind the last `_` of two equal names is the same.
behind_mark : (u v ds es : List ℕ) → AreLow ds → AreLow es → u ++ 95 ∷ ds ≡ v ++ 95 ∷ es → ds ≡ es
behind_mark [] [] ds es low_d low_e e = cc
behind_mark [] (y ∷ v) ds es low_d low_e e =
    let same : ds ≡ v ++ 95 ∷ es = cc in absurd (not_inside v es (subst AreLow same low_d))
behind_mark (x ∷ u) [] ds es low_d low_e e =
    let same : es ≡ u ++ 95 ∷ ds = cc in absurd (not_inside u ds (subst AreLow same low_e))
behind_mark (x ∷ u) (y ∷ v) ds es low_d low_e e =
    let same : u ++ 95 ∷ ds ≡ v ++ 95 ∷ es = cc in behind_mark u v ds es low_d low_e same

pub numbered_apart : (name : List ℕ) (m n : ℕ) → m < 2 ^ 64 → n < 2 ^ 64 → numbered name m
    ≡ numbered name n → m ≡ n
numbered_apart name m n hm hn e =
    decimal_injective m n hm hn
    (behind_mark (take (64 - length (95 ∷ decimal m)) name)
    (take (64 - length (95 ∷ decimal n)) name)
    (decimal m) (decimal n) (decimal_low m hm) (decimal_low n hn)
    (sym (append_assoc (take (64 - length (95 ∷ decimal m)) name) (codes "_") (decimal m))
    ∙ e ∙ append_assoc (take (64 - length (95 ∷ decimal n)) name) (codes "_") (decimal n)))

-- A number behind a name leaves at most the stem of it.
pub stem_stays : (name other : List ℕ) (n : ℕ) → n < 2 ^ 64 → take stem_length name
    ≡ take stem_length other → numbered name n ≡ numbered other n
stem_stays name other n h e =
    let some = decimal_nonempty n h in
    let room = 64 - length (95 ∷ decimal n) in
    let within : room ≤ 62 = omega arith in
    ap (λ (front : List ℕ). (front ++ codes "_") ++ decimal n)
    (sym (take-take room 62 name within) ∙ ap (λ (l : List ℕ). take room l) e
    ∙ take-take room 62 other within)
