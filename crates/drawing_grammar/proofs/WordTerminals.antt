-- Which words and symbols are a terminal with a text of its own: free words alone, and no symbol.
use Rattle.std.proofs.Common.{◌≡◌, ℕ, Bool, true, false, ◌||◌, List, refl}
use Rattle.std.specs.Prelude.{codes, ◌==◌, if◌then◌else◌}
use Rattle.std.specs.Str.{bytes_eq}
use Rattle.scald_base.specs.Word.{is_reserved}
use Rattle.drawing_grammar.specs.declared.terminal.Terminal.{Terminal}
use Rattle.drawing_grammar.specs.declared.terminal.Terminal.TheVariants as is
use Rattle.drawing_grammar.specs.Lexeme.{word_terminal, symbol_terminal}

neither : (b : Bool) (k r l : Terminal) → (k ≡ l → ⊥) → (r ≡ l → ⊥) → (if b then k else r) ≡ l → ⊥
neither true k r l f h e = f e
neither false k r l f h e = h e

free_step : (b : Bool) (k r : Terminal) (x : Bool) → (k ≡ is.Word → ⊥) → (r ≡ is.Word → x ≡ false) → (if b then k else r) ≡ is.Word → (b || x) ≡ false
free_step true k r x f h e = absurd (f e)
free_step false k r x f h e = h e

abbrev w14 : List ℕ → Terminal
w14 w = if bytes_eq w (codes "ONE") then is.One else is.Word

abbrev w13 : List ℕ → Terminal
w13 w = if bytes_eq w (codes "ZERO") then is.Zero else w14 w

abbrev w12 : List ℕ → Terminal
w12 w = if bytes_eq w (codes "END") then is.End else w13 w

abbrev w11 : List ℕ → Terminal
w11 w = if bytes_eq w (codes "ELSE") then is.Else else w12 w

abbrev w10 : List ℕ → Terminal
w10 w = if bytes_eq w (codes "THEN") then is.Then else w11 w

abbrev w9 : List ℕ → Terminal
w9 w = if bytes_eq w (codes "IF") then is.If else w10 w

abbrev w8 : List ℕ → Terminal
w8 w = if bytes_eq w (codes "CASE") then is.Case else w9 w

abbrev w7 : List ℕ → Terminal
w7 w = if bytes_eq w (codes "DRAWING") then is.Drawing else w8 w

abbrev w6 : List ℕ → Terminal
w6 w = if bytes_eq w (codes "MACRO") then is.Macro else w7 w

abbrev w5 : List ℕ → Terminal
w5 w = if bytes_eq w (codes "CSKEW") then is.Cskew else w6 w

abbrev w4 : List ℕ → Terminal
w4 w = if bytes_eq w (codes "PSKEW") then is.Pskew else w5 w

abbrev w3 : List ℕ → Terminal
w3 w = if bytes_eq w (codes "WIRE") then is.Wire else w4 w

abbrev w2 : List ℕ → Terminal
w2 w = if bytes_eq w (codes "CLOCK") then is.Clock else w3 w

abbrev w1 : List ℕ → Terminal
w1 w = if bytes_eq w (codes "SCALD") then is.Scald else w2 w

nn14 : (w : List ℕ) → w14 w ≡ is.Number → ⊥
nn14 w = neither (bytes_eq w (codes "ONE")) is.One is.Word is.Number (λ z. absurd cc) (λ z. absurd cc)

nn13 : (w : List ℕ) → w13 w ≡ is.Number → ⊥
nn13 w = neither (bytes_eq w (codes "ZERO")) is.Zero (w14 w) is.Number (λ z. absurd cc) (nn14 w)

nn12 : (w : List ℕ) → w12 w ≡ is.Number → ⊥
nn12 w = neither (bytes_eq w (codes "END")) is.End (w13 w) is.Number (λ z. absurd cc) (nn13 w)

nn11 : (w : List ℕ) → w11 w ≡ is.Number → ⊥
nn11 w = neither (bytes_eq w (codes "ELSE")) is.Else (w12 w) is.Number (λ z. absurd cc) (nn12 w)

nn10 : (w : List ℕ) → w10 w ≡ is.Number → ⊥
nn10 w = neither (bytes_eq w (codes "THEN")) is.Then (w11 w) is.Number (λ z. absurd cc) (nn11 w)

nn9 : (w : List ℕ) → w9 w ≡ is.Number → ⊥
nn9 w = neither (bytes_eq w (codes "IF")) is.If (w10 w) is.Number (λ z. absurd cc) (nn10 w)

nn8 : (w : List ℕ) → w8 w ≡ is.Number → ⊥
nn8 w = neither (bytes_eq w (codes "CASE")) is.Case (w9 w) is.Number (λ z. absurd cc) (nn9 w)

nn7 : (w : List ℕ) → w7 w ≡ is.Number → ⊥
nn7 w = neither (bytes_eq w (codes "DRAWING")) is.Drawing (w8 w) is.Number (λ z. absurd cc) (nn8 w)

nn6 : (w : List ℕ) → w6 w ≡ is.Number → ⊥
nn6 w = neither (bytes_eq w (codes "MACRO")) is.Macro (w7 w) is.Number (λ z. absurd cc) (nn7 w)

nn5 : (w : List ℕ) → w5 w ≡ is.Number → ⊥
nn5 w = neither (bytes_eq w (codes "CSKEW")) is.Cskew (w6 w) is.Number (λ z. absurd cc) (nn6 w)

nn4 : (w : List ℕ) → w4 w ≡ is.Number → ⊥
nn4 w = neither (bytes_eq w (codes "PSKEW")) is.Pskew (w5 w) is.Number (λ z. absurd cc) (nn5 w)

nn3 : (w : List ℕ) → w3 w ≡ is.Number → ⊥
nn3 w = neither (bytes_eq w (codes "WIRE")) is.Wire (w4 w) is.Number (λ z. absurd cc) (nn4 w)

nn2 : (w : List ℕ) → w2 w ≡ is.Number → ⊥
nn2 w = neither (bytes_eq w (codes "CLOCK")) is.Clock (w3 w) is.Number (λ z. absurd cc) (nn3 w)

nn1 : (w : List ℕ) → w1 w ≡ is.Number → ⊥
nn1 w = neither (bytes_eq w (codes "SCALD")) is.Scald (w2 w) is.Number (λ z. absurd cc) (nn2 w)

abbrev r14 : List ℕ → Bool
r14 w = bytes_eq w (codes "ONE") || false

ff14 : (w : List ℕ) → w14 w ≡ is.Word → r14 w ≡ false
ff14 w = free_step (bytes_eq w (codes "ONE")) is.One is.Word false (λ z. absurd cc) (λ z. refl)

abbrev r13 : List ℕ → Bool
r13 w = bytes_eq w (codes "ZERO") || (r14 w)

ff13 : (w : List ℕ) → w13 w ≡ is.Word → r13 w ≡ false
ff13 w = free_step (bytes_eq w (codes "ZERO")) is.Zero (w14 w) (r14 w) (λ z. absurd cc) (ff14 w)

abbrev r12 : List ℕ → Bool
r12 w = bytes_eq w (codes "END") || (r13 w)

ff12 : (w : List ℕ) → w12 w ≡ is.Word → r12 w ≡ false
ff12 w = free_step (bytes_eq w (codes "END")) is.End (w13 w) (r13 w) (λ z. absurd cc) (ff13 w)

abbrev r11 : List ℕ → Bool
r11 w = bytes_eq w (codes "ELSE") || (r12 w)

ff11 : (w : List ℕ) → w11 w ≡ is.Word → r11 w ≡ false
ff11 w = free_step (bytes_eq w (codes "ELSE")) is.Else (w12 w) (r12 w) (λ z. absurd cc) (ff12 w)

abbrev r10 : List ℕ → Bool
r10 w = bytes_eq w (codes "THEN") || (r11 w)

ff10 : (w : List ℕ) → w10 w ≡ is.Word → r10 w ≡ false
ff10 w = free_step (bytes_eq w (codes "THEN")) is.Then (w11 w) (r11 w) (λ z. absurd cc) (ff11 w)

abbrev r9 : List ℕ → Bool
r9 w = bytes_eq w (codes "IF") || (r10 w)

ff9 : (w : List ℕ) → w9 w ≡ is.Word → r9 w ≡ false
ff9 w = free_step (bytes_eq w (codes "IF")) is.If (w10 w) (r10 w) (λ z. absurd cc) (ff10 w)

abbrev r8 : List ℕ → Bool
r8 w = bytes_eq w (codes "CASE") || (r9 w)

ff8 : (w : List ℕ) → w8 w ≡ is.Word → r8 w ≡ false
ff8 w = free_step (bytes_eq w (codes "CASE")) is.Case (w9 w) (r9 w) (λ z. absurd cc) (ff9 w)

abbrev r7 : List ℕ → Bool
r7 w = bytes_eq w (codes "DRAWING") || (r8 w)

ff7 : (w : List ℕ) → w7 w ≡ is.Word → r7 w ≡ false
ff7 w = free_step (bytes_eq w (codes "DRAWING")) is.Drawing (w8 w) (r8 w) (λ z. absurd cc) (ff8 w)

abbrev r6 : List ℕ → Bool
r6 w = bytes_eq w (codes "MACRO") || (r7 w)

ff6 : (w : List ℕ) → w6 w ≡ is.Word → r6 w ≡ false
ff6 w = free_step (bytes_eq w (codes "MACRO")) is.Macro (w7 w) (r7 w) (λ z. absurd cc) (ff7 w)

abbrev r5 : List ℕ → Bool
r5 w = bytes_eq w (codes "CSKEW") || (r6 w)

ff5 : (w : List ℕ) → w5 w ≡ is.Word → r5 w ≡ false
ff5 w = free_step (bytes_eq w (codes "CSKEW")) is.Cskew (w6 w) (r6 w) (λ z. absurd cc) (ff6 w)

abbrev r4 : List ℕ → Bool
r4 w = bytes_eq w (codes "PSKEW") || (r5 w)

ff4 : (w : List ℕ) → w4 w ≡ is.Word → r4 w ≡ false
ff4 w = free_step (bytes_eq w (codes "PSKEW")) is.Pskew (w5 w) (r5 w) (λ z. absurd cc) (ff5 w)

abbrev r3 : List ℕ → Bool
r3 w = bytes_eq w (codes "WIRE") || (r4 w)

ff3 : (w : List ℕ) → w3 w ≡ is.Word → r3 w ≡ false
ff3 w = free_step (bytes_eq w (codes "WIRE")) is.Wire (w4 w) (r4 w) (λ z. absurd cc) (ff4 w)

abbrev r2 : List ℕ → Bool
r2 w = bytes_eq w (codes "CLOCK") || (r3 w)

ff2 : (w : List ℕ) → w2 w ≡ is.Word → r2 w ≡ false
ff2 w = free_step (bytes_eq w (codes "CLOCK")) is.Clock (w3 w) (r3 w) (λ z. absurd cc) (ff3 w)

abbrev r1 : List ℕ → Bool
r1 w = bytes_eq w (codes "SCALD") || (r2 w)

ff1 : (w : List ℕ) → w1 w ≡ is.Word → r1 w ≡ false
ff1 w = free_step (bytes_eq w (codes "SCALD")) is.Scald (w2 w) (r2 w) (λ z. absurd cc) (ff2 w)

pub word_no_number : (w : List ℕ) → word_terminal w ≡ is.Number → ⊥
unfolding word_terminal
word_no_number w = nn1 w

pub word_free : (w : List ℕ) → word_terminal w ≡ is.Word → is_reserved w ≡ false
unfolding word_terminal
word_free w = ff1 w

abbrev s17 : ℕ → Terminal
s17 b = if b == 38 then is.Ampersand else is.Exclamation

abbrev s16 : ℕ → Terminal
s16 b = if b == 47 then is.Slash else s17 b

abbrev s15 : ℕ → Terminal
s15 b = if b == 42 then is.Star else s16 b

abbrev s14 : ℕ → Terminal
s14 b = if b == 45 then is.Minus else s15 b

abbrev s13 : ℕ → Terminal
s13 b = if b == 43 then is.Plus else s14 b

abbrev s12 : ℕ → Terminal
s12 b = if b == 61 then is.Equals else s13 b

abbrev s11 : ℕ → Terminal
s11 b = if b == 125 then is.CloseBrace else s12 b

abbrev s10 : ℕ → Terminal
s10 b = if b == 123 then is.OpenBrace else s11 b

abbrev s9 : ℕ → Terminal
s9 b = if b == 93 then is.CloseBracket else s10 b

abbrev s8 : ℕ → Terminal
s8 b = if b == 91 then is.OpenBracket else s9 b

abbrev s7 : ℕ → Terminal
s7 b = if b == 62 then is.Greater else s8 b

abbrev s6 : ℕ → Terminal
s6 b = if b == 60 then is.Less else s7 b

abbrev s5 : ℕ → Terminal
s5 b = if b == 41 then is.CloseParenthesis else s6 b

abbrev s4 : ℕ → Terminal
s4 b = if b == 40 then is.OpenParenthesis else s5 b

abbrev s3 : ℕ → Terminal
s3 b = if b == 44 then is.Comma else s4 b

abbrev s2 : ℕ → Terminal
s2 b = if b == 58 then is.Colon else s3 b

abbrev s1 : ℕ → Terminal
s1 b = if b == 59 then is.Semicolon else s2 b

sw17 : (b : ℕ) → s17 b ≡ is.Word → ⊥
sw17 b = neither (b == 38) is.Ampersand is.Exclamation is.Word (λ z. absurd cc) (λ z. absurd cc)

sw16 : (b : ℕ) → s16 b ≡ is.Word → ⊥
sw16 b = neither (b == 47) is.Slash (s17 b) is.Word (λ z. absurd cc) (sw17 b)

sw15 : (b : ℕ) → s15 b ≡ is.Word → ⊥
sw15 b = neither (b == 42) is.Star (s16 b) is.Word (λ z. absurd cc) (sw16 b)

sw14 : (b : ℕ) → s14 b ≡ is.Word → ⊥
sw14 b = neither (b == 45) is.Minus (s15 b) is.Word (λ z. absurd cc) (sw15 b)

sw13 : (b : ℕ) → s13 b ≡ is.Word → ⊥
sw13 b = neither (b == 43) is.Plus (s14 b) is.Word (λ z. absurd cc) (sw14 b)

sw12 : (b : ℕ) → s12 b ≡ is.Word → ⊥
sw12 b = neither (b == 61) is.Equals (s13 b) is.Word (λ z. absurd cc) (sw13 b)

sw11 : (b : ℕ) → s11 b ≡ is.Word → ⊥
sw11 b = neither (b == 125) is.CloseBrace (s12 b) is.Word (λ z. absurd cc) (sw12 b)

sw10 : (b : ℕ) → s10 b ≡ is.Word → ⊥
sw10 b = neither (b == 123) is.OpenBrace (s11 b) is.Word (λ z. absurd cc) (sw11 b)

sw9 : (b : ℕ) → s9 b ≡ is.Word → ⊥
sw9 b = neither (b == 93) is.CloseBracket (s10 b) is.Word (λ z. absurd cc) (sw10 b)

sw8 : (b : ℕ) → s8 b ≡ is.Word → ⊥
sw8 b = neither (b == 91) is.OpenBracket (s9 b) is.Word (λ z. absurd cc) (sw9 b)

sw7 : (b : ℕ) → s7 b ≡ is.Word → ⊥
sw7 b = neither (b == 62) is.Greater (s8 b) is.Word (λ z. absurd cc) (sw8 b)

sw6 : (b : ℕ) → s6 b ≡ is.Word → ⊥
sw6 b = neither (b == 60) is.Less (s7 b) is.Word (λ z. absurd cc) (sw7 b)

sw5 : (b : ℕ) → s5 b ≡ is.Word → ⊥
sw5 b = neither (b == 41) is.CloseParenthesis (s6 b) is.Word (λ z. absurd cc) (sw6 b)

sw4 : (b : ℕ) → s4 b ≡ is.Word → ⊥
sw4 b = neither (b == 40) is.OpenParenthesis (s5 b) is.Word (λ z. absurd cc) (sw5 b)

sw3 : (b : ℕ) → s3 b ≡ is.Word → ⊥
sw3 b = neither (b == 44) is.Comma (s4 b) is.Word (λ z. absurd cc) (sw4 b)

sw2 : (b : ℕ) → s2 b ≡ is.Word → ⊥
sw2 b = neither (b == 58) is.Colon (s3 b) is.Word (λ z. absurd cc) (sw3 b)

sw1 : (b : ℕ) → s1 b ≡ is.Word → ⊥
sw1 b = neither (b == 59) is.Semicolon (s2 b) is.Word (λ z. absurd cc) (sw2 b)

sn17 : (b : ℕ) → s17 b ≡ is.Number → ⊥
sn17 b = neither (b == 38) is.Ampersand is.Exclamation is.Number (λ z. absurd cc) (λ z. absurd cc)

sn16 : (b : ℕ) → s16 b ≡ is.Number → ⊥
sn16 b = neither (b == 47) is.Slash (s17 b) is.Number (λ z. absurd cc) (sn17 b)

sn15 : (b : ℕ) → s15 b ≡ is.Number → ⊥
sn15 b = neither (b == 42) is.Star (s16 b) is.Number (λ z. absurd cc) (sn16 b)

sn14 : (b : ℕ) → s14 b ≡ is.Number → ⊥
sn14 b = neither (b == 45) is.Minus (s15 b) is.Number (λ z. absurd cc) (sn15 b)

sn13 : (b : ℕ) → s13 b ≡ is.Number → ⊥
sn13 b = neither (b == 43) is.Plus (s14 b) is.Number (λ z. absurd cc) (sn14 b)

sn12 : (b : ℕ) → s12 b ≡ is.Number → ⊥
sn12 b = neither (b == 61) is.Equals (s13 b) is.Number (λ z. absurd cc) (sn13 b)

sn11 : (b : ℕ) → s11 b ≡ is.Number → ⊥
sn11 b = neither (b == 125) is.CloseBrace (s12 b) is.Number (λ z. absurd cc) (sn12 b)

sn10 : (b : ℕ) → s10 b ≡ is.Number → ⊥
sn10 b = neither (b == 123) is.OpenBrace (s11 b) is.Number (λ z. absurd cc) (sn11 b)

sn9 : (b : ℕ) → s9 b ≡ is.Number → ⊥
sn9 b = neither (b == 93) is.CloseBracket (s10 b) is.Number (λ z. absurd cc) (sn10 b)

sn8 : (b : ℕ) → s8 b ≡ is.Number → ⊥
sn8 b = neither (b == 91) is.OpenBracket (s9 b) is.Number (λ z. absurd cc) (sn9 b)

sn7 : (b : ℕ) → s7 b ≡ is.Number → ⊥
sn7 b = neither (b == 62) is.Greater (s8 b) is.Number (λ z. absurd cc) (sn8 b)

sn6 : (b : ℕ) → s6 b ≡ is.Number → ⊥
sn6 b = neither (b == 60) is.Less (s7 b) is.Number (λ z. absurd cc) (sn7 b)

sn5 : (b : ℕ) → s5 b ≡ is.Number → ⊥
sn5 b = neither (b == 41) is.CloseParenthesis (s6 b) is.Number (λ z. absurd cc) (sn6 b)

sn4 : (b : ℕ) → s4 b ≡ is.Number → ⊥
sn4 b = neither (b == 40) is.OpenParenthesis (s5 b) is.Number (λ z. absurd cc) (sn5 b)

sn3 : (b : ℕ) → s3 b ≡ is.Number → ⊥
sn3 b = neither (b == 44) is.Comma (s4 b) is.Number (λ z. absurd cc) (sn4 b)

sn2 : (b : ℕ) → s2 b ≡ is.Number → ⊥
sn2 b = neither (b == 58) is.Colon (s3 b) is.Number (λ z. absurd cc) (sn3 b)

sn1 : (b : ℕ) → s1 b ≡ is.Number → ⊥
sn1 b = neither (b == 59) is.Semicolon (s2 b) is.Number (λ z. absurd cc) (sn2 b)

pub symbol_no_word : (b : ℕ) → symbol_terminal b ≡ is.Word → ⊥
unfolding symbol_terminal
symbol_no_word b = sw1 b

pub symbol_no_number : (b : ℕ) → symbol_terminal b ≡ is.Number → ⊥
unfolding symbol_terminal
symbol_no_number b = sn1 b
