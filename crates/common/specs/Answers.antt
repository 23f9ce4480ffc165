-- The answers: each number of the sheet has one name, here and in the code (crate `answers`).
use Rattle.std.specs.Prelude.{ℕ}

-- ---- a step or a run: 0 and 1 end well, 2 to 13, 16 and 17 are stops, 14 and 15 refuse the state

-- the step ran, the budget is used, or the call is done
abbrev pub done : ℕ
done = 0

-- the instruction is Halt
abbrev pub halt : ℕ
halt = 1

-- pc is neither below N nor a service
abbrev pub no_place : ℕ
no_place = 2

-- the word has none of the fourteen opcodes; also the decoder's own refusal
abbrev pub no_instruction : ℕ
no_instruction = 3

-- arrival: pc's owner is not the pc number, and no jump by a number in I came here
abbrev pub no_arrival : ℕ
no_arrival = 4

-- a Load from an address that is not below N
abbrev pub load_outside : ℕ
load_outside = 5

-- a Store to an address that is not below N
abbrev pub store_outside : ℕ
store_outside = 6

-- a Store to a word that the instruction's owner neither owns nor may write
abbrev pub store_forbidden : ℕ
store_forbidden = 7

-- isolate: a set is not wholly inside memory, or has first >= past, or in strict mode has a word that the caller may not read
abbrev pub bad_set : ℕ
bad_set = 8

-- isolate: A' is empty
abbrev pub empty_set : ℕ
empty_set = 9

-- isolate: A' is not within A, J' not within A or J, S' not within A or S, or in strict mode R' not within A or R of the caller
abbrev pub not_within : ℕ
not_within = 10

-- add jump target, add store target, add read target: the caller does not own the address
abbrev pub not_owned : ℕ
not_owned = 11

-- a service: r15 is not the caller's to return to
abbrev pub no_return : ℕ
no_return = 12

-- isolate: all 64 compartment numbers are used
abbrev pub no_number : ℕ
no_number = 13

-- the form of the state: the lengths, N, next or the pc number
abbrev pub bad_form : ℕ
bad_form = 14

-- the owner of the word at pc is a service's number or not below next
abbrev pub bad_owner : ℕ
bad_owner = 15

-- the word has one of the fourteen opcodes, with a bit set that it does not use; also the decoder's own refusal
abbrev pub stray_bit : ℕ
stray_bit = 16

-- strict mode: a Load from a word that the instruction's owner neither owns nor may read
abbrev pub load_forbidden : ℕ
load_forbidden = 17

-- the table of rows does not have 64 of them; the loader has it too
abbrev pub bad_rows : ℕ
bad_rows = 18

-- ---- the loader; the writer has bad-size and bad-entry too

-- a field is not whole
abbrev pub not_whole : ℕ
not_whole = 20

-- N is not 1 to 2,048
abbrev pub bad_size : ℕ
bad_size = 21

-- the register count is above 16
abbrev pub many_registers : ℕ
many_registers = 22

-- the last listed register is 0
abbrev pub last_zero : ℕ
last_zero = 23

-- the entry count is not 1
abbrev pub bad_entry_count : ℕ
bad_entry_count = 24

-- the entry is not below N
abbrev pub bad_entry : ℕ
bad_entry = 25

-- bytes are left over
abbrev pub bytes_left : ℕ
bytes_left = 26

-- the lent memories differ in length
abbrev pub lengths_differ : ℕ
lengths_differ = 27

-- N is above the lent length
abbrev pub short_memory : ℕ
short_memory = 28

-- ---- the encoder and the writer

-- opcode above 13, a field out of range, or an unused field not 0
abbrev pub no_word : ℕ
no_word = 30

-- the out buffer is too short
abbrev pub short_buffer : ℕ
short_buffer = 31

-- ---- the assembler, of a line; it has bad-size and short-buffer too

-- the line is not in the grammar
abbrev pub no_line : ℕ
no_line = 50

-- a label that no line defines
abbrev pub unknown_label : ℕ
unknown_label = 51

-- a label that a line before defines
abbrev pub label_twice : ℕ
label_twice = 52

-- a value outside its bounds
abbrev pub value_outside : ℕ
value_outside = 53

-- a seventeenth open bracket
abbrev pub too_deep : ℕ
too_deep = 54

-- more than 2,048 words
abbrev pub many_words : ℕ
many_words = 55

-- ---- Intel HEX, of a record; an import has bad-entry and short-buffer too, an export bad-size and short-buffer

-- a bad character or length, also a line without its LF, data in type 01, other than two bytes in type 04
abbrev pub bad_record : ℕ
bad_record = 60

-- the checksum
abbrev pub bad_sum : ℕ
bad_sum = 61

-- a record type other than 00, 01 and 04
abbrev pub other_type : ℕ
other_type = 62

-- an address beyond 2,048 words
abbrev pub beyond_memory : ℕ
beyond_memory = 63

-- a byte given twice
abbrev pub byte_twice : ℕ
byte_twice = 64

-- anything after the end record
abbrev pub after_end : ℕ
after_end = 66

-- ---- Intel HEX, at the end

-- no end record
abbrev pub no_end : ℕ
no_end = 65

-- one past the highest byte address is not a multiple of four
abbrev pub part_word : ℕ
part_word = 67

-- no data
abbrev pub no_data : ℕ
no_data = 68
