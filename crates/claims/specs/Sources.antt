-- Request 2026-02: what is promised of sources, each statement in full and proved by citation.
use Rattle.std.specs.Prelude.{◌≡◌, Bool, List, [], ◌↔◌, ℕ, ◌^◌, ◌*◌, ◌≤◌, ◌<◌, ℤ, pos, length, get_or, drop}
use Rattle.std.proofs.Math.Option.{Option, some}
use Rattle.rules.specs.State.{State}
use Rattle.grammar.specs.Trees.{Expr, Instruction, Line, instruction, value}
use Rattle.grammar.specs.Grammar.{Choices, write, deepest}
use Rattle.grammar.specs.Reading.Reader.{got}
use Rattle.grammar.specs.Sources.{SourceSays, SourceTooDeep}
use Rattle.grammar.proofs.Laws.Verdicts as verdicts
use Rattle.grammar.proofs.Laws.SourceVerdicts as readings-of
use Rattle.sources.specs.Values.{is, unknown, outside, value_e}
use Rattle.sources.specs.Texts.{lines, Reading, reading, readings}
use Rattle.sources.specs.Labels.{words_in, address}
use Rattle.sources.specs.Meaning.{at_fault, outcome, says, refused, meaning, assemble}
use Rattle.sources.specs.Listing.{listing}
use Rattle.sources.specs.Laws.OnTheWay.{Known, Unknown, Stays, Leaves, plain_e}
use Rattle.sources.proofs.Laws.ValueLaws as values
use Rattle.sources.proofs.Laws.LabelLaws as labels
use Rattle.sources.proofs.Laws.LineNumbers as line
use Rattle.sources.proofs.Theorems.TextNumbers as text
use Rattle.sources.proofs.Theorems.Assembling as assembling
use Rattle.sources.proofs.Theorems.Decodes.{Decodes}
use Rattle.sources.proofs.Theorems.TextDecodes as decodes
use Rattle.sources.proofs.Theorems.Accepted as accepted
use Rattle.sources.proofs.Listings.ListingBack as back
use Rattle.sources.proofs.Listings.ListingLengths as lengths

-- ---- the grammar

-- no tokens spell two lines, of any depth and with any commas
pub unambiguous : (t u : Line) (c d : Choices) → write t c ≡ write u d → t ≡ u
unambiguous = verdicts.unambiguous

-- no bytes are two lines
pub one_line : (bs : List ℕ) (t u : Line) → SourceSays deepest bs t → SourceSays deepest bs u → t ≡ u
one_line = readings-of.one_line deepest

-- a line is read as the line that it is, exactly where it is one
pub read_exactly : (bs : List ℕ) (t : Line) → (reading bs ≡ got t) ↔ SourceSays deepest bs t
read_exactly = line.bytes_line

-- ---- values: for any labels and any own address

module _ (labels : List ℕ → Option ℕ) (dot : ℕ) where
  -- a value is told exactly where each name has a number, and then it is the plain one, and each on the way is within its bounds
  pub value_is : (e : Expr) (z : ℤ) → (value_e labels dot e ≡ is z) ↔ (Known labels e × Stays labels dot e × (plain_e labels dot e ≡ z))
  value_is = values.value_is labels dot

  pub value_unknown : (e : Expr) → (value_e labels dot e ≡ unknown) ↔ Unknown labels e
  value_unknown = values.value_unknown labels dot

  pub value_outside : (e : Expr) → (value_e labels dot e ≡ outside) ↔ (Known labels e × Leaves labels dot e)
  value_outside = values.value_outside labels dot

-- a label is the number of words on the good lines before its first definition, and nothing where no line defines it
pub label_is : (x : List ℕ) (ls : List Reading) (n : ℕ) → (address ls x ≡ some n) ↔ labels.FirstAt x ls n
label_is = labels.address_exactly

-- ---- each number of a line exactly on its condition

module _ (all before : List Reading) where
  pub number_50 : (bs : List ℕ) → (outcome all before (reading bs) ≡ at_fault 50) ↔ (((t : Line) → SourceSays deepest bs t → ⊥) × (SourceTooDeep deepest bs → ⊥))
  number_50 = line.bytes_50 all before

  pub number_51 : (l : Reading) → (outcome all before l ≡ at_fault 51) ↔ line.UnknownLabel all before l
  number_51 = line.line_51 all before

  pub number_52 : (l : Reading) → (outcome all before l ≡ at_fault 52) ↔ line.LabelTwice all before l
  number_52 = line.line_52 all before

  pub number_53 : (l : Reading) → (outcome all before l ≡ at_fault 53) ↔ line.ValueOutside all before l
  number_53 = line.line_53 all before

  pub number_54 : (bs : List ℕ) → (outcome all before (reading bs) ≡ at_fault 54) ↔ SourceTooDeep deepest bs
  number_54 = line.bytes_54 all before

  pub number_55 : (l : Reading) → (outcome all before l ≡ at_fault 55) ↔ line.ManyWords all before l
  number_55 = line.line_55 all before

  pub no_other_number : (l : Reading) (n : ℕ) → outcome all before l ≡ at_fault n → (50 ≤ n) × (n ≤ 55)
  no_other_number = line.fault_range all before

-- ---- texts

-- a text is refused exactly at its first line at fault, with that line's number
pub refused_exactly : (source : List ℕ) (n k : ℕ) → (meaning source ≡ refused n k) ↔ text.FirstFault source n k
refused_exactly = text.refused_exactly

-- else it says the words of its word lines, each at its line's own address
pub says_exactly : (source ws : List ℕ) → (meaning source ≡ says ws) ↔ text.Spelled source ws
says_exactly = text.says_exactly

-- ---- assembling: each answer exactly on its condition, and what it leaves

module _ (source out : List ℕ) where
  pub answer_0 : ((assemble source out).answer ≡ 0) ↔ assembling.Fits source out
  answer_0 = assembling.answer_0 source out

  pub answer_21 : ((assemble source out).answer ≡ 21) ↔ (meaning source ≡ says [])
  answer_21 = assembling.answer_21 source out

  pub answer_31 : ((assemble source out).answer ≡ 31) ↔ assembling.TooShort source out
  answer_31 = assembling.answer_31 source out

  pub answer_line : (n k : ℕ) → 50 ≤ n → (((assemble source out).answer ≡ n) × ((assemble source out).line ≡ k)) ↔ text.FirstFault source n k
  answer_line = assembling.answer_line source out

  -- every text gets one of these
  pub some_answer : assembling.Result source out
  some_answer = assembling.result source out

  pub refusal_keeps : ((assemble source out).answer ≡ 0 → ⊥) → ((assemble source out).length ≡ 0) × ((assemble source out).out ≡ out)
  refusal_keeps = assembling.refusal_keeps source out

  pub rest_kept : drop (assemble source out).length (assemble source out).out ≡ drop (assemble source out).length out
  rest_kept = accepted.rest_kept source out

  -- the loader accepts the image in either mode, with N the number of word lines, registers 0 and pc 0
  pub image_loads : (m : Bool) → (assemble source out).answer ≡ 0 → (old : State) → accepted.Room m source old → accepted.Loads m source out old
  image_loads m = accepted.assembled_loads m source out

-- the image is a function of the text alone: two buffers with room get the same answer, line, length and bytes
pub text_alone : (source old older : List ℕ) → ((assemble source old).answer ≡ 31 → ⊥) → ((assemble source older).answer ≡ 31 → ⊥) → accepted.Alike (assemble source old) (assemble source older)
text_alone = accepted.assembled_alike

-- ---- "the image decodes to what the text says"

module _ (source ws : List ℕ) (said : meaning source ≡ says ws) (k : ℕ) (least : 1 ≤ k) (there : k ≤ length (lines source)) where
  -- an instruction line's word decodes to its opcode and fields as valued
  pub instruction_decodes : (i : Instruction) → SourceSays deepest (text.bytes_at source k) (instruction i)
      → Decodes (address (readings source)) (words_in (text.lines_before source k)) i (get_or ws (words_in (text.lines_before source k)) 0)
  instruction_decodes = decodes.instruction_line source ws said k least there

  -- a data line's word is its value
  pub data_is : (e : Expr) → SourceSays deepest (text.bytes_at source k) (value e)
      → (plain_e (address (readings source)) (words_in (text.lines_before source k)) e ≡ pos (get_or ws (words_in (text.lines_before source k)) 0))
      × (get_or ws (words_in (text.lines_before source k)) 0 < 2 ^ 32)
  data_is = decodes.data_line source ws said k least there

-- ---- the listing of words assembles to them

pub listing_back : (ws : List ℕ) → back.Small ws → length ws ≤ 2048 → meaning (listing ws) ≡ says ws
listing_back = back.listing_back

pub listing_fits : (ws : List ℕ) → length (listing ws) ≤ 16 * length ws
listing_fits = lengths.listing_fits
