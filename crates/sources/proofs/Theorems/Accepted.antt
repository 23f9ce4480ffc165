-- The image of an accepted text is one that the loader accepts, with a word for each word line; and it depends on the text alone.
use Rattle.std.specs.Prelude.{◌≡◌, refl, Bool, true, false, List, ℕ, ◌^◌, ◌≤◌, ◌<◌, leb, length, get_or, take, drop}
use Rattle.std.proofs.Common.{sym, ap, ◌∙◌, subst, arith, leb-true, leb-false}
use Rattle.std.proofs.lemmas.List.{get_or-replicate}
use Rattle.std.proofs.Math.Seq.{take-append_seam, drop-append_seam}
use Rattle.common.specs.Answers as answer
use Rattle.rules.specs.State.{State}
use Rattle.rules.specs.Images.{Loaded, fresh, loaded, load}
use Rattle.images.specs.RoundTrip.{read_again}
use Rattle.images.specs.Sections.{written}
use Rattle.sources.specs.Texts.{readings}
use Rattle.sources.specs.Labels.{words_in}
use Rattle.sources.specs.Meaning.{says, meaning, Assembled, no_registers, assemble}
use Rattle.sources.proofs.Theorems.TextNumbers.{says_exactly, says_most}
use Rattle.sources.proofs.Theorems.TextDecodes.{words_small}
use Rattle.sources.proofs.Theorems.Assembling.{image_for, Fits, refusal, accepted, Result, fits, no_words, too_short, faulty, result, assemble_fits, assemble_no_words, assemble_short, assemble_fault, answer_0, answer_31}

-- ---- loading what was assembled

-- the bytes written, for either mode, over any memories of one length that have room for a word of each word line
pub record Room (m : Bool) (text : List ℕ) (old : State) : Type 0 where
  pub words : words_in (readings text) ≤ length old.words
  pub owners : length old.owners ≡ length old.words
  pub jumpers : length old.jumpers ≡ length old.words
  pub writers : length old.writers ≡ length old.words
  pub readers : m ≡ true → length old.readers ≡ length old.words

-- the loader accepts them: the words that the text says, registers 0, and pc 0
pub record Loads (m : Bool) (text out : List ℕ) (old : State) : Type 0 where
  pub words : List ℕ
  pub said : meaning text ≡ says words
  pub loads : load m (take (assemble text out).length (assemble text out).out) old ≡ record { answer = answer.done; state = loaded m words no_registers 0 old }
  pub cpu : (load m (take (assemble text out).length (assemble text out).out) old).state.cpu ≡ fresh m (words_in (readings text)) no_registers 0

pub assembled_loads : (m : Bool) (text out : List ℕ) → (assemble text out).answer ≡ answer.done → (old : State) → Room m text old → Loads m text out old
unfolding loaded
assembled_loads m text out h old room =
    let f = (answer_0 text out).0 h in
    let ws = f.words in
    let count = ((says_exactly text ws).0 f.said).count in
    let enough : length ws ≤ length old.words = let r = room.words in omega arith in
    let whole = assemble_fits text out f in
    let most = says_most text ws f.said in
    let again = read_again m ws no_registers 0 out old f.some most (words_small text ws f.said) refl (λ i b. zeros i b) f.some f.room enough room.owners room.jumpers room.writers room.readers in
    let w = written ws no_registers 0 out f.some most f.some f.room in
    let l : load m (take (assemble text out).length (assemble text out).out) old ≡ record { answer = answer.done; state = loaded m ws no_registers 0 old } = rw whole (rw w at again.1) in
    record { words = ws; said = f.said; loads = l; cpu = ap (λ (x : Loaded). x.state.cpu) l ∙ ap (λ (n : ℕ). fresh m n no_registers 0) count }
  where
    zeros : (i : ℕ) → i < length no_registers → get_or no_registers i 0 < 2 ^ 32
    zeros i b = let z : get_or no_registers i 0 ≡ 0 = get_or-replicate 16 i 0 0 b in omega arith

-- ---- assembling is a function of the text alone

-- the same answer, line and length, and the same bytes at the front
pub record Alike (a b : Assembled) : Type 0 where
  pub answers : a.answer ≡ b.answer
  pub lines : a.line ≡ b.line
  pub lengths : a.length ≡ b.length
  pub images : take a.length a.out ≡ take b.length b.out

refused_alike : (n k : ℕ) (old older : List ℕ) → Alike (refusal n k old) (refusal n k older)
refused_alike n k old older = record { answers = refl; lines = refl; lengths = refl; images = refl }

accepted_alike : (ws old older : List ℕ) → Alike (accepted ws old) (accepted ws older)
accepted_alike ws old older = record {
  answers = refl;
  lines = refl;
  lengths = refl;
  images = take-append_seam (image_for ws) (drop (length (image_for ws)) old) ∙ sym (take-append_seam (image_for ws) (drop (length (image_for ws)) older));
}

-- whatever the two buffers hold, if neither is too short
pub assembled_alike : (text old older : List ℕ) → ((assemble text old).answer ≡ answer.short_buffer → ⊥) → ((assemble text older).answer ≡ answer.short_buffer → ⊥)
    → Alike (assemble text old) (assemble text older)
assembled_alike text old older h k = go (result text old)
  where
    same : (a b : Assembled) → assemble text old ≡ a → assemble text older ≡ b → Alike a b → Alike (assemble text old) (assemble text older)
    same a b d e x = subst (λ (y : Assembled). Alike y (assemble text older)) (sym d) (subst (Alike a) (sym e) x)

    room : (f : Fits text old) (b : Bool) → leb (length (image_for f.words)) (length older) ≡ b → Alike (assemble text old) (assemble text older)
    room f true e =
        let g : Fits text older = record { words = f.words; said = f.said; some = f.some; room = leb-true _ _ e } in
        same _ _ (assemble_fits text old f) (assemble_fits text older g) (accepted_alike f.words old older)
    room f false e = absurd (k ((answer_31 text older).1 (record { words = f.words; said = f.said; some = f.some; short = leb-false _ _ e })))

    go : Result text old → Alike (assemble text old) (assemble text older)
    go (fits f) = room f (leb (length (image_for f.words)) (length older)) refl
    go (no_words e) = same _ _ (assemble_no_words text old e) (assemble_no_words text older e) (refused_alike answer.bad_size 0 old older)
    go (too_short f) = absurd (h ((answer_31 text old).1 f))
    go (faulty n j f) = same _ _ (assemble_fault text old n j f) (assemble_fault text older n j f) (refused_alike n j old older)

-- beyond the length written a buffer keeps its contents
pub rest_kept : (text out : List ℕ) → drop (assemble text out).length (assemble text out).out ≡ drop (assemble text out).length out
rest_kept text out = go (result text out)
  where
    refused : (n k : ℕ) → assemble text out ≡ refusal n k out → drop (assemble text out).length (assemble text out).out ≡ drop (assemble text out).length out
    refused n k e = rw e refl

    go : Result text out → drop (assemble text out).length (assemble text out).out ≡ drop (assemble text out).length out
    go (fits f) = rw (assemble_fits text out f) (drop-append_seam (image_for f.words) (drop (length (image_for f.words)) out))
    go (no_words e) = refused answer.bad_size 0 (assemble_no_words text out e)
    go (too_short f) = refused answer.short_buffer 0 (assemble_short text out f)
    go (faulty n k f) = refused n k (assemble_fault text out n k f)
