-- The loader's returns, in the form in which the code comes to them.
use Rattle.std.specs.Prelude.{◌≡◌, Bool, true, false, cond, ◌++◌, List, ℕ, ◌-◌, ◌*◌, ◌≤◌, length, take, drop, replicate, Ok, Err}
use Rattle.std.proofs.Common.{sym, ap, ap₂, ◌∙◌, arith, length-take-le}
use Rattle.std.proofs.lemmas.List.{length-replicate, drop_all, append-nil}
use Rattle.common.specs.Answers as answer
use Rattle.common.specs.Tables.{first_of}
use Rattle.rules.specs.Compartments.{empty, service_numbers}
use Rattle.rules.specs.State.{Processor, State}
use Rattle.rules.specs.Laws.Tested.{same_lengths}
use Rattle.rules.proofs.Laws.TestedRows.{lengths_row}
use Rattle.rules.specs.Images.{fields, image_verdict, load_checks, load_verdict, fresh, blank, over, loaded, not_loaded, load}
use Rattle.images.specs.Accepted.{refuses, load_accepted}
use Rattle.images.specs.Filling.{length_fields}
use Rattle.form.specs.Form.{lengths_by}
use Rattle.answers.specs.declared.Refusal.{Refusal}
use Rattle.answers.specs.Numbers.{number, answer_of}
use Rattle.answers.specs.Results.{number-not-0}
use Rattle.machine.specs.Views.{cpu_of}
use Rattle.reader.specs.declared.Image.{Image}
use Rattle.reader.specs.Views.{refused, read_of, image_of}
use Rattle.reader.specs.Reading.{told, Says, said}
use Rattle.loader.specs.declared.Loaded.{Loaded}
use Rattle.loader.specs.Views.{lent, loaded_of}

-- a refusal, and the blank record
abbrev pub Refused : Bool → Refusal → Loaded → Type 0
Refused strict e r = (cpu_of r.cpu ≡ blank strict) × (r.answer ≡ Err e)

-- one number in the first n places of a memory
pub fills : (n one : ℕ) (old filled : List ℕ) → n ≤ length old → filled ≡ replicate (length (take n old)) one → filled ++ drop n old ≡ over (replicate n one) old
fills n one old filled h e = simp (e, length-take-le n old h, length-replicate)

-- the readers, filled in strict mode alone
pub filled_when_strict : (strict : Bool) (a b r : List ℕ) → strict ≡ true → r ≡ a → r ≡ cond strict a b
filled_when_strict strict a b r t e = e ∙ simp t

pub kept_when_not : (strict : Bool) (a b r : List ℕ) → strict ≡ false → r ≡ b → r ≡ cond strict a b
kept_when_not strict a b r t e = e ∙ simp t

-- the image's words, read into the first n places
pub over_words : (bytes words : List ℕ) (n : ℕ) → n ≤ length words → over (fields bytes 4 n) (take n words) ++ drop n words ≡ over (fields bytes 4 n) words
over_words bytes words n h =
    let e = length-take-le n words h in
    simp (length_fields, drop_all n (take n words) (omega arith), append-nil)

pub front : (n : ℕ) (old : List ℕ) → n ≤ length old → n ≡ length (take n old)
front n old h = sym (length-take-le n old h)

-- what the fills of n places ask
pub record Ready (strict : Bool) (bytes words owners jumpers writers readers : List ℕ) (n : ℕ) : Type 0 where
  pub in_words : n ≤ length words
  pub in_owners : n ≤ length owners
  pub in_jumpers : n ≤ length jumpers
  pub in_writers : n ≤ length writers
  pub in_readers : strict ≡ true → n ≤ length readers
  pub in_bytes : 4 * n ≤ length bytes - 4

module _ (strict : Bool) (bytes words owners jumpers writers readers : List ℕ) where
  abbrev old : State
  old = lent words owners jumpers writers readers

  abbrev agree : Bool
  agree = lengths_by strict (length words) (length owners) (length jumpers) (length writers) (length readers)

  differing : agree ≡ false → load_verdict strict bytes old ≡ answer.lengths_differ
  unfolding load_verdict load_checks same_lengths first_of
  differing h = simp (lengths_row, h)

  agreeing : agree ≡ true → load_verdict strict bytes old ≡ image_verdict (length words) bytes
  unfolding load_verdict load_checks image_verdict same_lengths first_of
  agreeing h = simp (lengths_row, h)

  refusing : (e : Refusal) → number e ≡ load_verdict strict bytes old → (r : Loaded) → Refused strict e r
      → loaded_of r words owners jumpers writers readers ≡ load strict bytes old
  unfolding not_loaded
  refusing e v r h =
      ap₂ (λ (a : ℕ) (c : Processor). record { answer = a; state = record { cpu = c; words = words; owners = owners; jumpers = jumpers; writers = writers; readers = readers } }) (ap answer_of h.1) h.0
      ∙ refuses strict bytes old (number e) v (number-not-0 e)

  -- 27
  pub lengths_differ : agree ≡ false → (r : Loaded) → Refused strict Refusal.LengthsDiffer r → loaded_of r words owners jumpers writers readers ≡ load strict bytes old
  lengths_differ h r q = refusing Refusal.LengthsDiffer (sym (differing h)) r q

  module _ (h : agree ≡ true) where
    pub image_refused : (e : Refusal) → refused (number e) ≡ image_of (length words) bytes → (r : Loaded) → Refused strict e r
        → loaded_of r words owners jumpers writers readers ≡ load strict bytes old
    image_refused e i r q = refusing e (told (length words) bytes e i ∙ sym (agreeing h)) r q

    module _ (image : Image) (i : read_of (Ok image) ≡ image_of (length words) bytes) where
      says : Says (length words) bytes image
      says = said (length words) bytes image i

      done : load_verdict strict bytes old ≡ answer.done
      done = agreeing h ∙ says.verdict

      pub ready : Ready strict bytes words owners jumpers writers readers image.size
      unfolding load
      ready =
          let f = load_accepted strict bytes old done in
          let l = f.image.length_is in
          let m = f.image.size_lent in
          let o = f.owners in
          let j = f.jumpers in
          let w = f.writers in
          let s = says.size in
          record {
            in_words = omega arith;
            in_owners = omega arith;
            in_jumpers = omega arith;
            in_writers = omega arith;
            in_readers = λ t. let r = f.readers t in omega arith;
            in_bytes = omega arith;
          }

      pub loads : (words' owners' jumpers' writers' readers' : List ℕ)
          → words' ≡ over (fields bytes 4 image.size) words → owners' ≡ over (replicate image.size 0) owners
          → jumpers' ≡ over (replicate image.size (service_numbers strict)) jumpers → writers' ≡ over (replicate image.size empty) writers
          → readers' ≡ cond strict (over (replicate image.size empty) readers) readers
          → (cpu : Processor) → cpu ≡ fresh strict image.size image.regs image.entry
          → record { answer = answer.done; state = record { cpu = cpu; words = words'; owners = owners'; jumpers = jumpers'; writers = writers'; readers = readers' } } ≡ load strict bytes old
      unfolding load loaded fields
      loads words' owners' jumpers' writers' readers' hw ho hj hd hr cpu c =
          let s = says in
          simp (c, hw, ho, hj, hd, hr, done, s.size, s.regs, s.entry, length_fields)
