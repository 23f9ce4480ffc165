-- How many of the words of 32 bits decode: exactly 2,118,434.
use Rattle.std.specs.Prelude.{◌≡◌, refl, Bool, true, false, cond, ◌&&◌, ℕ, zero, suc, ◌+◌, ◌*◌, ◌/◌, ◌%◌, ◌<◌, min, ltb, leb, eqb}
use Rattle.std.proofs.Common.{sym, ap, ◌∙◌, zero-mul, suc-mul, arith, leb-true, leb-false, le-ltb}
use Rattle.std.proofs.Math.Path.{fun_ext}
use Rattle.common.specs.Answers as answer
use Rattle.common.specs.Opcodes as is
use Rattle.common.specs.Words.{row, allowed, op_of, a_of, b_of, low_of, instruction, none, decode}
use Rattle.common.proofs.Laws.WordLaws.{row_small}

-- how many of the numbers below k pass the test
unfoldable pub passing : (ℕ → Bool) → ℕ → ℕ
passing test zero = 0
passing test (suc k) = passing test k + cond (test k) 1 0

-- f 0 + .. + f (k - 1)
unfoldable sum : (ℕ → ℕ) → ℕ → ℕ
sum f zero = 0
sum f (suc k) = sum f k + f k

-- where f is 0 from n on, the sum ends there
sum_ends : (f : ℕ → ℕ) (n k : ℕ) → ((j : ℕ) → f (n + j) ≡ 0) → sum f (n + k) ≡ sum f n
unfolding sum
sum_ends f n zero h = let e : n + 0 ≡ n = omega arith in ap (sum f) e
sum_ends f n (suc k) h =
    let e : n + suc k ≡ suc (n + k) = omega arith in
    let z : f (n + k) ≡ 0 = h k in
    let ih : sum f (n + k) ≡ sum f n = sum_ends f n k h in
    ap (sum f) e ∙ omega arith

-- ---- counting block by block

passing_on : (test : ℕ → Bool) (n k : ℕ) → passing test (n + k) ≡ passing test n + passing (λ x. test (n + x)) k
unfolding passing
passing_on test n zero =
    let e : n + 0 ≡ n = omega arith in
    let z : passing test n + 0 ≡ passing test n = omega arith in
    ap (passing test) e ∙ sym z
passing_on test n (suc k) =
    let e : n + suc k ≡ suc (n + k) = omega arith in
    let ih : passing test (n + k) ≡ passing test n + passing (λ x. test (n + x)) k = passing_on test n k in
    ap (passing test) e ∙ omega arith

passing_blocks : (test : ℕ → Bool) (k m : ℕ) → passing test (m * k) ≡ sum (λ i. passing (λ x. test (i * k + x)) k) m
unfolding sum passing
passing_blocks test k zero = ap (passing test) (zero-mul k)
passing_blocks test k (suc m) =
    ap (passing test) (suc-mul m k) ∙ passing_on test (m * k) k
    ∙ ap (λ (n : ℕ). n + passing (λ x. test (m * k + x)) k) (passing_blocks test k m)

-- ---- the tests of a block

passing_same : (test other : ℕ → Bool) (k : ℕ) → ((x : ℕ) → x < k → test x ≡ other x) → passing test k ≡ passing other k
unfolding passing
passing_same test other zero h = refl
passing_same test other (suc k) h =
    let ih : passing test k ≡ passing other k = passing_same test other k (λ x l. h x (omega arith)) in
    let e : test k ≡ other k = h k (omega arith) in
    simp (ih, e)

passing_none : (k : ℕ) → passing (λ x. false) k ≡ 0
unfolding passing
passing_none zero = refl
passing_none (suc k) = simp (passing_none k)

-- the numbers up to r
passing_most : (r k : ℕ) → passing (λ x. leb x r) k ≡ min k (suc r)
unfolding passing
passing_most r zero = omega arith
passing_most r (suc k) = go (leb k r) refl (passing_most r k)
  where
    go : (b : Bool) → leb k r ≡ b → passing (λ x. leb x r) k ≡ min k (suc r) → passing (λ x. leb x r) k + cond b 1 0 ≡ min (suc k) (suc r)
    go true e ih = let l = leb-true k r e in omega arith
    go false e ih = let l = leb-false k r e in omega arith

-- ---- words, by their upper 16 bits: opcode, field a and field b

abbrev decodes : ℕ → Bool
decodes word = eqb (decode word).answer answer.done

decodes_allowed : (word : ℕ) → decodes word ≡ allowed (op_of word) (a_of word) (b_of word) (low_of word)
unfolding decode
decodes_allowed word = go (allowed (op_of word) (a_of word) (b_of word) (low_of word)) (ltb (op_of word) is.count)
  where
    go : (b c : Bool) → eqb (cond b (instruction (op_of word) (a_of word) (b_of word) (low_of word)) (none (cond c answer.stray_bit answer.no_instruction))).answer answer.done ≡ b
    go true c = refl
    go false true = refl
    go false false = refl

-- whether the upper 16 bits are those of an instruction, and then how many low parts go with them
abbrev front : ℕ → Bool
front i = ltb (i / 256) is.count && leb (i / 16 % 16) (row (i / 256)).a && leb (i % 16) (row (i / 256)).b

unfoldable weight : ℕ → ℕ
weight i = cond (front i) (suc (row (i / 256)).low) 0

block : (i : ℕ) → passing (λ x. decodes (i * 65536 + x)) 65536 ≡ weight i
unfolding allowed weight
block i = passing_same _ (λ x. front i && leb x (row (i / 256)).low) 65536 same ∙ go (front i)
  where
    same : (x : ℕ) → x < 65536 → decodes (i * 65536 + x) ≡ (front i && leb x (row (i / 256)).low)
    same x l =
        let p : op_of (i * 65536 + x) ≡ i / 256 = omega arith in
        let q : a_of (i * 65536 + x) ≡ i / 16 % 16 = omega arith in
        let r : b_of (i * 65536 + x) ≡ i % 16 = omega arith in
        let t : low_of (i * 65536 + x) ≡ x = omega arith in
        decodes_allowed (i * 65536 + x) ∙ simp (p, q, r, t)

    go : (b : Bool) → passing (λ x. b && leb x (row (i / 256)).low) 65536 ≡ cond b (suc (row (i / 256)).low) 0
    go true = let s = (row_small (i / 256)).low in passing_most (row (i / 256)).low 65536 ∙ omega arith
    go false = passing_none 65536

-- from opcode 14 on there is none
weight_none : (k : ℕ) → weight (3584 + k) ≡ 0
unfolding weight
weight_none k = let e = le-ltb ((3584 + k) / 256) 14 (omega arith) in simp e

known : sum weight 3584 ≡ 2118434
unfolding sum weight row
known = refl

-- "Exactly 2,118,434 of the 2^32 words decode"
pub words_that_decode : passing (λ word. eqb (decode word).answer answer.done) 4294967296 ≡ 2118434
words_that_decode = passing_blocks decodes 65536 65536 ∙ ap (λ (f : ℕ → ℕ). sum f 65536) (fun_ext block) ∙ sum_ends weight 3584 61952 weight_none ∙ known
