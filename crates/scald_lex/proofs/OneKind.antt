-- A text is one of a token of one kind alone.
use Rattle.std.proofs.Common.{◌≡◌, ℕ, true, false, cond, ℤ, List, [], ◌∷◌, ◌++◌, pos, refl, ap, sym, ◌∙◌, arith}
use Rattle.std.specs.Prelude.{◌==◌, codes}
use Rattle.std.specs.List.{list_all}
use Rattle.scald_base.specs.Word.{is_letter, is_digit, is_word_byte}
use Rattle.scald_lex.specs.declared.token.TokenKind.{TokenKind}
use Rattle.scald_lex.specs.declared.token.TokenKind.TheVariants.{Word, Number, Name, Arrow, Symbol, End}
use Rattle.scald_lex.specs.Bytes.{quote, is_symbol, value_of}
use Rattle.scald_lex.specs.Between.{is_blank}
use Rattle.scald_lex.specs.Laws.{Spells}
use Rattle.scald_lex.proofs.Longest.{both, begins, not_byte}
use Rattle.scald_lex.proofs.OneOf.{one_of, digit_alone}

-- the kind that a text may be of, by its first byte and whether it has another
abbrev kind_by : List ℕ → TokenKind
kind_by [] = End
kind_by (b ∷ []) = cond (is_letter b) Word (cond (is_digit b) (Number (pos (value_of (b ∷ []))))
    (Symbol b))
kind_by (b ∷ c ∷ cs) = cond (is_letter b) Word (cond (is_digit b)
    (Number (pos (value_of (b ∷ c ∷ cs)))) (cond (b == quote) Name Arrow))

lone_quote : (b : ℕ) (inside : List ℕ) → b ∷ [] ≡ quote ∷ (inside ++ quote ∷ []) → ⊥
lone_quote b [] e = cc
lone_quote b (i ∷ is) e = cc

symbol_kind : (b : ℕ) (h : Spells (Symbol b) (b ∷ [])) → Symbol b ≡ kind_by (b ∷ [])
symbol_kind b h =
    one_of (λ (c : ℕ). Symbol c ≡ kind_by (c ∷ [])) b (codes ";:,()<>[]{}=+-*/&!") (
      refl,
      (
        refl,
        (
          refl,
          (
            refl,
            (
              refl,
              (
                refl,
                (
                  refl,
                  (
                    refl,
                    (refl, (refl, (refl, (refl, (refl, (refl, (refl, (refl, (refl, (refl, tt)))))))))),
                  ),
                ),
              ),
            ),
          ),
        ),
      ),
    )
    h.1

kind_is : (kind : TokenKind) (text : List ℕ) → Spells kind text → kind ≡ kind_by text
kind_is Word [] is = absurd (let form = is.form in cc)
kind_is Word (b ∷ []) is = let l = (both (is_letter b) (list_all is_word_byte []) is.form).0 in
    rw l refl
kind_is Word (b ∷ c ∷ cs) is = let l = begins Word b c cs is in rw l refl
kind_is (Number n) [] is = let some = is.0.some in absurd (omega arith)
kind_is (Number n) (b ∷ []) is =
    let d = (both (is_digit b) (list_all is_digit []) is.0.digits).0 in
    let l = (digit_alone b d).letter in
    rw l (rw d (ap (λ (k : ℤ). Number k) is.1))
kind_is (Number n) (b ∷ c ∷ cs) is =
    let d = begins (Number n) b c cs is in
    let l = (digit_alone b d).letter in
    rw l (rw d (ap (λ (k : ℤ). Number k) is.1))
kind_is Name [] is = absurd (let e = is.marked in cc)
kind_is Name (b ∷ []) is = absurd (lone_quote b is.inside is.marked)
kind_is Name (b ∷ c ∷ cs) is = ap (λ (x : ℕ). kind_by (x ∷ c ∷ cs)) (sym (begins Name b c cs is))
kind_is Arrow [] is = absurd cc
kind_is Arrow (b ∷ []) is = absurd cc
kind_is Arrow (b ∷ c ∷ cs) is = ap (λ (x : ℕ). kind_by (x ∷ c ∷ cs)) (sym (begins Arrow b c cs is))
kind_is (Symbol s) [] is = absurd (let e = is.0 in cc)
kind_is (Symbol s) (b ∷ []) is =
    let e = is.0 in
    let same : b ≡ s = cc in
    symbol_kind s (refl, is.1) ∙ ap (λ (x : ℕ). kind_by (x ∷ [])) (sym same)
kind_is (Symbol s) (b ∷ c ∷ cs) is = absurd (begins (Symbol s) b c cs is)
kind_is End [] is = refl
kind_is End (b ∷ bs) is = absurd cc

pub one_kind : (text : List ℕ) (a b : TokenKind) → Spells a text → Spells b text → a ≡ b
one_kind text a b is is' = kind_is a text is ∙ sym (kind_is b text is')

abbrev Unfit : ℕ → Type 0
Unfit b = (kind : TokenKind) (bs : List ℕ) → Spells kind (b ∷ bs) → ⊥

unfit : (b : ℕ) → is_letter b ≡ false → is_digit b ≡ false → (b == quote) ≡ false →
    (b == 45) ≡ false → is_symbol b ≡ false → Unfit b
unfit b l d q h s Word bs is = let t = (both (is_letter b) (list_all is_word_byte bs) is.form).0 in
    absurd cc
unfit b l d q h s (Number n) bs is = let t = (both (is_digit b) (list_all is_digit bs)
    is.0.digits).0 in absurd cc
unfit b l d q h s Name bs is = let e = is.marked in let same : b ≡ quote = cc in
    not_byte b quote q same
unfit b l d q h s Arrow bs is = let same : b ≡ 45 = cc in not_byte b 45 h same
unfit b l d q h s (Symbol x) bs is = let e = is.0 in let same : b ≡ x = cc in
    let t : is_symbol b ≡ true = ap is_symbol same ∙ is.1 in absurd cc
unfit b l d q h s End bs is = absurd cc

-- A blank begins no token.
pub blank_begins_none : (kind : TokenKind) (b : ℕ) (bs : List ℕ) → is_blank b ≡ true →
    Spells kind (b ∷ bs) → ⊥
blank_begins_none kind b bs h is =
    one_of Unfit b (9 ∷ 10 ∷ 13 ∷ 32 ∷ []) (
      unfit 9 refl refl refl refl refl,
      (
        unfit 10 refl refl refl refl refl,
        (unfit 13 refl refl refl refl refl, (unfit 32 refl refl refl refl refl, tt)),
      ),
    )
    h kind bs is
