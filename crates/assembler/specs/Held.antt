-- The word that the code reads from a line's tokens is the word that the line means.
use Rattle.std.specs.Prelude.{◌≡◌, Bool, ◌≢◌, ℕ, ◌%◌, ◌<◌, ◌≤◌, ℤ}
use Rattle.std.proofs.Math.Path.{refl, sym, ap}
use Rattle.std.proofs.Common.{◌∙◌, arith, eq-eqb, ne_eqb}
use Rattle.std.proofs.Math.Bool.{true, false}
use mathlib.Core.List.{List, [], ◌∷◌, ◌++◌, append_assoc, append-nil}
use Rattle.std.proofs.Math.Option.{Option}
use Rattle.std.proofs.Math.Nat.{mod-eq_of_lt}
use Rattle.common.proofs.Laws.WordLaws.{Allowed}
use Rattle.grammar.specs.Tokens.{Token, mnemonic, register, comma, Nop, Halt, Const, Bnz, one, two, three, opcode}
use Rattle.grammar.specs.Trees.{Expr, product, negative, more, Product, factor, times, Factor, literal, label, here, group, Instruction, nop, halt, constant, moving, computing, jumping, branching, depth_e, depth_i}
use Rattle.grammar.specs.Grammar.{Choices, optional, write_e, write_p, write_f, write_i, deepest}
use Rattle.sources.specs.Values.{Valued, is, after, value_e}
use Rattle.sources.specs.Labels.{Site}
use Rattle.sources.specs.Words.{in_field, Fields, fields, fields_of, immediate, displacement, datum, instruction_word}
use Rattle.sources.proofs.Laws.Registers.{Registers}
use Rattle.sources.proofs.Theorems.Decodes.{fields_allowed}
use Rattle.grammar.specs.Reading.Kinds.{kind_of}
use Rattle.tokens.specs.Streams.{stream, token_at}
use Rattle.tokens.specs.Heads.{head}
use Rattle.values.specs.Refusals.{fit, fitted_of, fit_means}
use Rattle.expressions.specs.declared.Read.{Read}
use Rattle.expressions.specs.Readers.{Reading, expression_at}
use Rattle.expressions.specs.Completes.{NoStar, NoSign, numbers, ReadsTo, reads_expression}
use Rattle.assembler.specs.declared.word.Operand.{Operand}
use Rattle.assembler.specs.Holding.{completed, reads, register_at, past_comma, operand_at, one_at, two_at, three_at, constant_at, branch_at, datum_at, word_at}
use Rattle.assembler.specs.HoldingLaws.{word_plain, word_constant, word_branch, word_one, word_two, word_three, word_datum}
use Rattle.assembler.specs.Encodings.{coded_as, completed_as}

-- ---- the first token of an expression

record Leads (ts : List Token) : Type 0 where
  token : Token
  rest : List Token
  parts : ts ≡ token ∷ rest
  no_mnemonic : 6 < kind_of token
  no_comma : kind_of token ≢ 10

leads_on : (ts us : List Token) → Leads ts → Leads (ts ++ us)
leads_on ts us l =
    record {
      token = l.token;
      rest = l.rest ++ us;
      parts = ap (λ (vs : List Token). vs ++ us) l.parts;
      no_mnemonic = l.no_mnemonic;
      no_comma = l.no_comma;
    }

leads : (t : Token) (us : List Token) → 6 < kind_of t → kind_of t ≢ 10 → Leads (t ∷ us)
leads t us h k = record { token = t; rest = us; parts = refl; no_mnemonic = h; no_comma = k }

leads_factor : (f : Factor) → Leads (write_f f)
leads_factor (literal n) = leads _ _ (omega arith) (omega arith)
leads_factor (label x) = leads _ _ (omega arith) (omega arith)
leads_factor here = leads _ _ (omega arith) (omega arith)
leads_factor (group e) = leads _ _ (omega arith) (omega arith)

leads_product : (p : Product) → Leads (write_p p)
leads_product (factor f) = leads_factor f
leads_product (times p f) = leads_on (write_p p) _ (leads_product p)

leads_expression : (e : Expr) → Leads (write_e e)
leads_expression (product p) = leads_product p
leads_expression (negative p) = leads _ _ (omega arith) (omega arith)
leads_expression (more e s p) = leads_on (write_e e) _ (leads_expression e)

-- ---- operands

module _ (text : List ℕ) where
  -- a register was read, and these tokens follow
  record Takes (o : Operand) (n : ℕ) (us : List Token) : Type 0 where
    is_it : o.register ≡ n
    rest : stream text o.next ≡ us

  takes : (at n : ℕ) (us : List Token) → n < 16 → stream text at ≡ register n ∷ us → Takes (register_at text at) n us
  unfolding register_at
  takes at n us l e =
      let h = head text at (register n) us e in record { is_it = ap (λ (v : ℕ). v % 16) h.number ∙ mod-eq_of_lt l; rest = h.rest }

  past_comma_lem : (at : ℕ) (c : Bool) (t : Token) (us : List Token) → kind_of t ≢ 10 → stream text at ≡ optional c ++ t ∷ us → stream text (past_comma text at) ≡ t ∷ us
  unfolding past_comma
  past_comma_lem at true t us n e = let h = head text at comma (t ∷ us) e in simp (eq-eqb (token_at text at).kind 10 h.kind) h.rest
  past_comma_lem at false t us n e =
      let h = head text at t us e in simp (ne_eqb (token_at text at).kind 10 (λ k. n (sym h.kind ∙ k))) e

  takes_next : (at : ℕ) (c : Bool) (n : ℕ) (us : List Token) → n < 16 → stream text at ≡ optional c ++ register n ∷ us → Takes (operand_at text at) n us
  unfolding operand_at
  takes_next at c n us l e = takes (past_comma text at) n us l (past_comma_lem at c (register n) us (omega arith) e)

  -- ---- words

  module _ (labels : List ℕ → Option Site) (dot : ℕ) where
    -- an expression was read from a place on, and is put into a field
    fits : (below above size : ℕ) → size ≤ 4294967296 → (e : Expr) (at : ℕ) (us : List Token)
        → (r : ReadsTo text labels dot at (expression_at text labels dot deepest at) (value_e (numbers text labels dot) dot e) us)
        → fit r.val below above size ≡ fitted_of (after (in_field below above size) (value_e (numbers text labels dot) dot e))
    fits below above size h e at us r = fit_means below above size h r.val ∙ ap (λ (v : Valued ℤ). fitted_of (after (in_field below above size) v)) r.means

    -- the fields of an instruction that is read are allowed
    admits : (i : Instruction) → Registers i → (f : Fields) → fields_of (numbers text labels dot) dot i ≡ is f → Allowed f.op f.a f.b f.low
    admits = fields_allowed (numbers text labels dot) dot

    -- no operator follows an expression that a register follows
    stops : (c : Bool) (n : ℕ) → NoStar (optional c ++ register n ∷ []) × NoSign (optional c ++ register n ∷ [])
    stops true n = (refl, refl)
    stops false n = (refl, refl)

    pub word_means : (i : Instruction) → Registers i → (c : Choices) (at : ℕ) → depth_i i ≤ deepest → stream text at ≡ write_i i c
        → word_at text labels dot at ≡ fitted_of (instruction_word (numbers text labels dot) dot i)
    unfolding one_at two_at three_at constant_at branch_at
    word_means nop g c at d e =
        let h = head text at (mnemonic Nop) [] e in
        sym (word_plain text labels dot at _ refl _ h.kind refl) ∙ coded_as (opcode Nop) 0 0 0 _ 0 0 0 (admits nop g _ refl) h.number refl refl refl
    word_means halt g c at d e =
        let h = head text at (mnemonic Halt) [] e in
        sym (word_plain text labels dot at _ refl _ h.kind refl)
        ∙ coded_as (opcode Halt) 0 0 0 _ 0 0 0 (admits halt g _ refl) h.number refl refl refl
    word_means (constant x n) g c at d e =
        let h = head text at (mnemonic Const) _ e in
        let us = optional c.first ++ register n ∷ [] in
        let at' = (token_at text at).next in
        let r = reads_expression text labels dot x deepest at' us d (stops c.first n).0 (stops c.first n).1 (h.rest ∙ append_assoc (write_e x) (optional c.first) (register n ∷ [])) in
        let o = takes_next r.next c.first n [] g r.rest in
        let op = (token_at text at).value % 16 in
        sym (word_constant text labels dot at _ refl _ h.kind refl)
        ∙ ap (λ (y : Reading). reads y (λ e. completed op (operand_at text e.next).register (fit e.value 0 65535 65536))) r.came
        ∙ ap (completed op (operand_at text r.next).register) (fits 0 65535 65536 (omega arith) x at' us r)
        ∙ completed_as (opcode Const) n _ _ (immediate (numbers text labels dot) dot x) (omega arith)
        (λ k v. admits (constant x n) g _ (ap (after (λ i. is (fields (opcode Const) n 0 i))) v)) h.number o.is_it
    word_means (moving k a b) g c at d e =
        let h = head text at (mnemonic (two k)) _ e in
        let o = takes (token_at text at).next a _ g.0 h.rest in
        let q = takes_next (register_at text (token_at text at).next).next c.first b [] g.1 o.rest in
        sym (word_two text labels dot at _ refl _ h.kind refl)
        ∙ coded_as (opcode (two k)) a b 0 _ _ _ 0 (admits (moving k a b) g _ refl) h.number o.is_it q.is_it refl
    word_means (computing k a b n) g c at d e =
        let h = head text at (mnemonic (three k)) _ e in
        let o = takes (token_at text at).next a _ g.0 h.rest in
        let at' = (register_at text (token_at text at).next).next in
        let q = takes_next at' c.first b (optional c.second ++ register n ∷ []) g.1 (o.rest ∙ append_assoc (optional c.first) (register b ∷ optional c.second) (register n ∷ [])) in
        let w = takes_next (operand_at text at').next c.second n [] g.2 q.rest in
        sym (word_three text labels dot at _ refl _ h.kind refl)
        ∙ coded_as (opcode (three k)) a b n _ _ _ _ (admits (computing k a b n) g _ refl) h.number o.is_it q.is_it w.is_it
    word_means (jumping k a) g c at d e =
        let h = head text at (mnemonic (one k)) (register a ∷ []) e in
        let o = takes (token_at text at).next a [] g h.rest in
        sym (word_one text labels dot at _ refl _ h.kind refl)
        ∙ coded_as (opcode (one k)) a 0 0 _ _ 0 0 (admits (jumping k a) g _ refl) h.number o.is_it refl refl
    word_means (branching a x) g c at d e =
        let h = head text at (mnemonic Bnz) _ e in
        let o = takes (token_at text at).next a _ g h.rest in
        let l = leads_expression x in
        let at' = (register_at text (token_at text at).next).next in
        let p = past_comma_lem at' c.first l.token l.rest l.no_comma (o.rest ∙ ap (λ (ts : List Token). optional c.first ++ ts) l.parts) in
        let at'' = past_comma text at' in
        let r = reads_expression text labels dot x deepest at'' [] d refl refl (p ∙ sym l.parts ∙ sym (append-nil (write_e x))) in
        sym (word_branch text labels dot at _ refl _ h.kind refl)
        ∙ ap (λ (y : Reading). reads y (λ e. completed ((token_at text at).value % 16) (register_at text (token_at text at).next).register (fit e.value 32768 32767 65536))) r.came
        ∙ ap (completed ((token_at text at).value % 16) (register_at text (token_at text at).next).register) (fits 32768 32767 65536 (omega arith) x at'' [] r)
        ∙ completed_as (opcode Bnz) a _ _ (displacement (numbers text labels dot) dot x) (omega arith)
        (λ k v. admits (branching a x) g _ (ap (after (λ i. is (fields (opcode Bnz) a 0 i))) v)) h.number o.is_it

    pub datum_means : (x : Expr) (at : ℕ) → depth_e x ≤ deepest → stream text at ≡ write_e x → word_at text labels dot at ≡ fitted_of (datum (numbers text labels dot) dot x)
    unfolding datum_at
    datum_means x at d e =
        let l = leads_expression x in
        let h = head text at l.token l.rest (e ∙ l.parts) in
        let k = h.kind in
        let n = l.no_mnemonic in
        let r = reads_expression text labels dot x deepest at [] d refl refl (e ∙ sym (append-nil (write_e x))) in
        sym (word_datum text labels dot at _ refl _ (omega arith) (omega arith) (omega arith) (omega arith) (omega arith) (omega arith) refl)
        ∙ ap (λ (y : Reading). reads y (λ e. fit e.value 0 4294967295 4294967296)) r.came
        ∙ fits 0 4294967295 4294967296 (omega arith) x at [] r
