-- What is answered to the bytes of a line, exactly: a line, 54 or 50; and that no bytes are two lines.
use Rattle.std.specs.Prelude.{◌≡◌, List, [], ◌∷◌, ◌++◌, ◌↔◌, ℕ}
use Rattle.std.proofs.Math.Path.{refl}
use Rattle.std.proofs.Common.{sym, ap, ◌∙◌, arith}
use Rattle.grammar.specs.Tokens.{Token, left}
use Rattle.grammar.specs.Trees.{Line}
use Rattle.grammar.specs.Grammar.{Says, TooDeep}
use Rattle.grammar.specs.Spelling.{uncommented}
use Rattle.grammar.specs.Reading.Reader.{Answer, got, fault, deep, then, State, begin, step, final, run, read}
use Rattle.grammar.specs.Reading.Lexer.{lex, tokens}
use Rattle.grammar.proofs.Laws.Answers.{differ, run_fault, run_deep}
use Rattle.grammar.proofs.Laws.Verdicts.{reads_exactly, deep_exactly}
use Rattle.grammar.proofs.Laws.LexLaws.{Clean, text_lex, spelled_tokens, tokens_spelled}
use Rattle.grammar.proofs.Laws.Seams.{lex_bracket, Seam, seam_lex}
use Rattle.grammar.specs.Sources.{SourceSays, SourceTooDeep, answer}

clean_front : (ts us : List Token) → Clean (ts ++ us) → Clean ts
clean_front [] us c = tt
clean_front (t ∷ ts) us c = (c.0, clean_front ts us c.1)

module _ (limit : ℕ) where
  -- ---- no line has a stray token

  run_clean : (ts : List Token) (s u : State) → run limit ts (got s) ≡ got u → Clean ts
  run_clean [] s u e = tt
  run_clean (t ∷ ts) s u e = (
    λ z. differ fault (got u) (omega arith) (sym (run_fault limit ts) ∙ ap (λ (x : Token). run limit ts (step limit x s)) (sym z) ∙ e),
    go (step limit t s) (λ v. run_clean ts v u) e,
  )
    where
      go : (x : Answer State) → ((v : State) → run limit ts (got v) ≡ got u → Clean ts) → run limit ts x ≡ got u → Clean ts
      go (got v) ih k = ih v k
      go fault ih k = differ fault (got u) (omega arith) (sym (run_fault limit ts) ∙ k)
      go deep ih k = differ deep (got u) (omega arith) (sym (run_deep limit ts) ∙ k)

  says_clean : (ts : List Token) (t : Line) → Says limit ts t → Clean ts
  unfolding read
  says_clean ts t a = go (run limit ts (got begin)) refl ((reads_exactly limit ts t).1 a)
    where
      go : (x : Answer State) → run limit ts (got begin) ≡ x → then final x ≡ got t → Clean ts
      go (got s) k h = run_clean ts begin s k
      go fault k h = differ fault (got t) (omega arith) h
      go deep k h = differ deep (got t) (omega arith) h

  -- ---- a line

  pub source_exactly : (bs : List ℕ) (t : Line) → (answer limit bs ≡ got t) ↔ SourceSays limit bs t
  source_exactly bs t = (
    λ e.
        let a = (reads_exactly limit (tokens bs) t).0 e in
        record { tokens = tokens bs; spelled = tokens_spelled bs (says_clean (tokens bs) t a); says = a },
    λ a. ap (read limit) (spelled_tokens bs a.tokens a.spelled) ∙ (reads_exactly limit a.tokens t).1 a.says,
  )

  pub one_line : (bs : List ℕ) (t u : Line) → SourceSays limit bs t → SourceSays limit bs u → t ≡ u
  one_line bs t u a b =
      let p = (source_exactly bs t).1 a in
      let q = (source_exactly bs u).1 b in
      cc

  -- ---- one bracket too many

  deep_source : (bs : List ℕ) → answer limit bs ≡ deep → SourceTooDeep limit bs
  deep_source bs e =
      let a = (deep_exactly limit (tokens bs)).0 e in
      let c : Clean a.before = clean_front a.before a.rest (says_clean (a.before ++ a.rest) a.begins.line a.begins.says) in
      let m : Seam a.before (uncommented bs) = seam_lex (uncommented bs) [] refl a.before a.after c a.parts in
      record {
        before = m.before;
        after = m.after;
        tokens = a.before;
        rest = a.rest;
        parts = m.parts;
        spelled = m.spelled;
        full = a.full;
        begins = a.begins;
      }

  source_deep_at : (bs : List ℕ) → SourceTooDeep limit bs → TooDeep limit (tokens bs)
  source_deep_at bs a = record {
    before = a.tokens;
    after = lex [] a.after;
    rest = a.rest;
    parts = ap (lex []) a.parts ∙ lex_bracket a.before [] a.after ∙ ap (λ (ts : List Token). ts ++ left ∷ lex [] a.after) (text_lex a.spelled);
    full = a.full;
    begins = a.begins;
  }

  pub source_deep : (bs : List ℕ) → (answer limit bs ≡ deep) ↔ SourceTooDeep limit bs
  source_deep bs = (deep_source bs, λ a. (deep_exactly limit (tokens bs)).1 (source_deep_at bs a))

  -- ---- neither

  pub source_fault : (bs : List ℕ) → (answer limit bs ≡ fault) ↔ (((t : Line) → SourceSays limit bs t → ⊥) × (SourceTooDeep limit bs → ⊥))
  source_fault bs = (
    λ e. (
      λ t a. differ fault (got t) (omega arith) (sym e ∙ (source_exactly bs t).1 a),
      λ a. differ fault deep (omega arith) (sym e ∙ (source_deep bs).1 a),
    ),
    λ n. go n (answer limit bs) refl,
  )
    where
      go : ((t : Line) → SourceSays limit bs t → ⊥) × (SourceTooDeep limit bs → ⊥) → (x : Answer Line) → answer limit bs ≡ x → answer limit bs ≡ fault
      go n (got t) e = absurd (n.0 t ((source_exactly bs t).0 e))
      go n fault e = e
      go n deep e = absurd (n.1 ((source_deep bs).0 e))
