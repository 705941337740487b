-- Tokens in the order of the text, of which the next one lies last.
use Rattle.std.proofs.Common.{◌≡◌, ℕ, ◌-◌, ◌<◌, ◌≤◌, List, [], ◌∷◌, ◌++◌, reverse, length, get_or, Option, Some, None, refl, sym, ap, ◌∙◌, arith}
use Rattle.std.specs.Prelude.{slice_get, option_to_list}
use Rattle.std.proofs.lemmas.List.{append-nil, reverse-append, length-reverse, get_or-reverse}
use Rattle.std.proofs.lemmas.Option.{slice_get-get_or, slice_get_past}
use Rattle.scald_lex.specs.declared.token.Token.{Token}
use Rattle.drawing_reader.specs.Reader.{other_tokens}

-- the token at a place of the text
pub from_behind : (xs : List Token) (k : ℕ) (d : Token) → k < length xs →
    Some (get_or xs (length xs - 1 - k) d) ≡ slice_get (reverse xs) k
from_behind xs k d below =
    let within : k < length (reverse xs) = rw (length-reverse xs) below in
    ap (λ (x : Token). Some x) (sym (get_or-reverse xs k d below))
    ∙ sym (slice_get-get_or (reverse xs) k d within)

pub none_behind : (xs : List Token) (k : ℕ) → length xs ≤ k → None ≡ slice_get (reverse xs) k
none_behind xs k past =
    let none : length (reverse xs) ≤ k = rw (length-reverse xs) past in
    sym (slice_get_past (reverse xs) k none)

-- the next token is the last of them
pub last_is : (xs : List Token) → slice_get xs (length xs - 1) ≡ slice_get (reverse xs) 0
last_is [] = refl
last_is (x ∷ xs) =
    let place : length (x ∷ xs) - 1 ≡ length (x ∷ xs) - 1 - 0 = omega arith in
    let within : length (x ∷ xs) - 1 < length (x ∷ xs) = omega arith in
    slice_get-get_or (x ∷ xs) (length (x ∷ xs) - 1) x within
    ∙ (ap (λ (i : ℕ). Some (get_or (x ∷ xs) i x)) place ∙ from_behind (x ∷ xs) 0 x (omega arith))

-- the token after it
pub second_is : (xs : List Token) (n : ℕ) (x : Token) → n ≡ length xs → 2 ≤ n →
    x ≡ get_or xs (n - 2) x → Some x ≡ slice_get (reverse xs) 1
second_is xs n x e few is =
    let below : 1 < length xs = omega (arith, e, few) in
    let place : n - 2 ≡ length xs - 1 - 1 = omega (arith, e) in
    ap (λ (y : Token). Some y) is
    ∙ (ap (λ (i : ℕ). Some (get_or xs i x)) place ∙ from_behind xs 1 x below)

-- the others after the first is taken from the end
pub taken : (old new : List Token) (x : Option Token) → old ≡ new ++ option_to_list x →
    (x ≡ None → new ≡ []) → reverse new ≡ other_tokens (reverse old)
taken old new None e none = ap reverse (none refl)
    ∙ sym (ap (λ (ts : List Token). other_tokens (reverse ts))
    (e ∙ (append-nil new ∙ none refl)))
taken old new (Some x) e none =
    sym (ap (λ (ts : List Token). other_tokens (reverse ts)) e
    ∙ ap other_tokens (reverse-append new (x ∷ [])))

pub no_longer : (ts : List Token) → length (other_tokens ts) ≤ length ts
no_longer [] = omega arith
no_longer (t ∷ ts) = omega arith
