-- The number of each refusal, and what a call answers: 0, or the number of its refusal.
use Rattle.std.specs.Prelude.{ℕ, Result, Ok, Err}
use Rattle.common.specs.Answers as answer
use Rattle.answers.specs.declared.Refusal.{Refusal}
use Rattle.answers.specs.declared.Refusal.TheVariants.{NoPlace, NoInstruction, NoArrival, LoadOutside, StoreOutside, StoreForbidden, BadSet, EmptySet, NotWithin, NotOwned, NoReturn, NoNumber, BadForm, BadOwner, StrayBit, LoadForbidden, BadRows, NotWhole, BadSize, ManyRegisters, LastZero, BadEntryCount, BadEntry, BytesLeft, LengthsDiffer, ShortMemory, NoWord, ShortBuffer, NoLine, UnknownLabel, LabelTwice, ValueOutside, TooDeep, ManyWords, BadRecord, BadSum, OtherType, BeyondMemory, ByteTwice, NoEnd, AfterEnd, PartWord, NoData}

abbrev pub number : Refusal → ℕ
number NoPlace = answer.no_place
number NoInstruction = answer.no_instruction
number NoArrival = answer.no_arrival
number LoadOutside = answer.load_outside
number StoreOutside = answer.store_outside
number StoreForbidden = answer.store_forbidden
number BadSet = answer.bad_set
number EmptySet = answer.empty_set
number NotWithin = answer.not_within
number NotOwned = answer.not_owned
number NoReturn = answer.no_return
number NoNumber = answer.no_number
number BadForm = answer.bad_form
number BadOwner = answer.bad_owner
number StrayBit = answer.stray_bit
number LoadForbidden = answer.load_forbidden
number BadRows = answer.bad_rows
number NotWhole = answer.not_whole
number BadSize = answer.bad_size
number ManyRegisters = answer.many_registers
number LastZero = answer.last_zero
number BadEntryCount = answer.bad_entry_count
number BadEntry = answer.bad_entry
number BytesLeft = answer.bytes_left
number LengthsDiffer = answer.lengths_differ
number ShortMemory = answer.short_memory
number NoWord = answer.no_word
number ShortBuffer = answer.short_buffer
number NoLine = answer.no_line
number UnknownLabel = answer.unknown_label
number LabelTwice = answer.label_twice
number ValueOutside = answer.value_outside
number TooDeep = answer.too_deep
number ManyWords = answer.many_words
number BadRecord = answer.bad_record
number BadSum = answer.bad_sum
number OtherType = answer.other_type
number BeyondMemory = answer.beyond_memory
number ByteTwice = answer.byte_twice
number NoEnd = answer.no_end
number AfterEnd = answer.after_end
number PartWord = answer.part_word
number NoData = answer.no_data

-- what a call answers
abbrev pub answer_of : {A : Type 0} → Result A Refusal → ℕ
answer_of (Ok _) = answer.done
answer_of (Err refusal) = number refusal
