-- Numbers as digits: what is written with enough digits has its value, in decimal and in hexadecimal.
use Rattle.std.specs.Prelude.{◌≡◌, Bool, true, List, [], ◌∷◌, ◌++◌, ℕ, zero, suc, ◌+◌, ◌*◌, ◌/◌, ◌%◌, ◌^◌, ◌<◌, eqb, length}
use Rattle.std.proofs.Math.Path.{refl}
use Rattle.std.proofs.Common.{sym, ap, ◌∙◌, arith, mod-lt, div-add-mod', div-lt_iff_lt-mul, pow-suc, eqb-true}
use Rattle.std.proofs.Math.Nat.{pow-zero}
use Rattle.grammar.specs.Tokens.{number}
use Rattle.numerals.specs.Bytes.{bytes}
use Rattle.numerals.specs.Numerals.{glyph, digits}
use Rattle.grammar.specs.Spelling.{digit, capital, lower, hex, every, digit_value, value, Spells, decimal, hexadecimal}
use Rattle.grammar.proofs.Laws.Tables.{every_snoc, all_below, below}

-- ---- one digit

glyph_value : (d : ℕ) → d < 16 → digit_value (glyph d) ≡ d
glyph_value d n = eqb-true _ d (below (λ x. eqb (digit_value (glyph x)) x) 16 all d n)
  where
    all : all_below (λ x. eqb (digit_value (glyph x)) x) 16 ≡ true
    all = unfold digit_value digit lower capital in refl

glyph_hex : (d : ℕ) → d < 16 → hex (glyph d) ≡ true
glyph_hex d n = below (λ x. hex (glyph x)) 16 all d n
  where
    all : all_below (λ x. hex (glyph x)) 16 ≡ true
    all = unfold hex digit lower capital in refl

glyph_digit : (d : ℕ) → d < 10 → digit (glyph d) ≡ true
glyph_digit d n = below (λ x. digit (glyph x)) 10 all d n
  where
    all : all_below (λ x. digit (glyph x)) 10 ≡ true
    all = unfold digit in refl

-- ---- all digits

value_snoc : (base m : ℕ) (bs : List ℕ) (b : ℕ) → value base m (bs ++ b ∷ []) ≡ value base m bs * base + digit_value b
value_snoc base m [] b = refl
value_snoc base m (c ∷ bs) b = value_snoc base (m * base + digit_value c) bs b

pub digits_value : (base k n : ℕ) → 1 < base → base < 17 → n < base ^ k → value base 0 (digits base k n) ≡ n
digits_value base zero n l m h = let z = pow-zero base in omega arith
digits_value base (suc k) n l m h =
    let some : 0 < base = omega arith in
    let small : n / base < base ^ k = (div-lt_iff_lt-mul some).1 (rw (pow-suc base k) at h) in
    let last : n % base < base = mod-lt n some in
    value_snoc base 0 (digits base k (n / base)) (glyph (n % base))
    ∙ ap (λ (x : ℕ). x * base + digit_value (glyph (n % base))) (digits_value base k (n / base) l m small)
    ∙ ap (λ (x : ℕ). n / base * base + x) (glyph_value (n % base) (omega arith))
    ∙ div-add-mod' n base

pub digits_every : (test : ℕ → Bool) (base : ℕ) → 1 < base → ((d : ℕ) → d < base → test (glyph d) ≡ true) → (k n : ℕ) → every test (digits base k n) ≡ true
digits_every test base l h zero n = refl
digits_every test base l h (suc k) n = every_snoc test (digits base k (n / base)) (glyph (n % base)) (digits_every test base l h k (n / base)) (h (n % base) (mod-lt n (omega arith)))

-- ---- so digits spell their number

pub decimal_spells : (k n : ℕ) → n < 10 ^ suc k → Spells (number n) (digits 10 (suc k) n)
decimal_spells k n h =
    decimal (digits_every digit 10 (omega arith) glyph_digit (suc k) n) (ap number (sym (digits_value 10 (suc k) n (omega arith) (omega arith) h)))

pub hexadecimal_spells : (k n : ℕ) → n < 16 ^ suc k → Spells (number n) (bytes "0x" ++ digits 16 (suc k) n)
hexadecimal_spells k n h =
    go (digits 16 (suc k) n) (digits_every hex 16 (omega arith) glyph_hex (suc k) n) (digits_value 16 (suc k) n (omega arith) (omega arith) h) (longer (digits 16 k (n / 16)))
  where
    longer : (bs : List ℕ) → 0 < length (bs ++ glyph (n % 16) ∷ [])
    longer [] = omega arith
    longer (b ∷ bs) = omega arith

    go : (bs : List ℕ) → every hex bs ≡ true → value 16 0 bs ≡ n → 0 < length bs → Spells (number n) (bytes "0x" ++ bs)
    go [] e v l = absurd (omega arith)
    go (b ∷ bs) e v l = hexadecimal b bs refl e (ap number (sym v))
