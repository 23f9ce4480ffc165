-- Fields that are allowed make the word that an instruction means, read as they stand in a line.
use Rattle.std.specs.Prelude.{◌≡◌, refl, ℕ, ◌%◌, ◌<◌}
use Rattle.std.proofs.Common.{mod-eq_of_lt, arith}
use Rattle.common.specs.Words.{encode}
use Rattle.common.proofs.Laws.WordLaws.{Allowed, allowed_is}
use Rattle.sources.specs.Values.{Valued, is, unknown, outside, after}
use Rattle.sources.specs.Words.{fields, word_of}
use Rattle.values.specs.Refusals.{fitted_of}
use Rattle.assembler.specs.Holding.{coded, completed}

coded_means : (op a b low : ℕ) → Allowed op a b low → coded op a b low ≡ fitted_of (is (word_of (fields op a b low)))
unfolding coded encode
coded_means op a b low w = simp (allowed_is op a b low w)

-- the opcode is a token's number, of which the code takes four bits
pub coded_as : (op a b low o x y z : ℕ) → Allowed op a b low → o ≡ op → x ≡ a → y ≡ b → z ≡ low
    → coded (o % 16) x y z ≡ fitted_of (is (word_of (fields op a b low)))
coded_as op a b low o x y z w eo ex ey ez =
    let k = w.known in
    let s : op % 16 ≡ op = mod-eq_of_lt (omega arith) in
    rw (eo, s, ex, ey, ez) (coded_means op a b low w)

-- .. with a register and a value
pub completed_as : (op a o x : ℕ) (v : Valued ℕ) → op < 16 → ((n : ℕ) → v ≡ is n → Allowed op a 0 n) → o ≡ op → x ≡ a
    → completed (o % 16) x (fitted_of v) ≡ fitted_of (after (λ f. is (word_of f)) (after (λ n. is (fields op a 0 n)) v))
completed_as op a o x v l w eo ex = let s : op % 16 ≡ op = mod-eq_of_lt l in rw (eo, s, ex) (go v w)
  where
    go : (u : Valued ℕ) → ((n : ℕ) → u ≡ is n → Allowed op a 0 n)
        → completed op a (fitted_of u) ≡ fitted_of (after (λ f. is (word_of f)) (after (λ n. is (fields op a 0 n)) u))
    go (is n) h = coded_means op a 0 n (h n refl)
    go unknown h = refl
    go outside h = refl
