-- What is seen of the step that is asked about, of what it does, and of what a call tells.
use Rattle.std.specs.Prelude.{ℕ, Result, Ok, Err}
use Rattle.rules.specs.State.{State}
use Rattle.reasons.specs.Why as reasons
use Rattle.answers.specs.declared.Refusal.{Refusal}
use Rattle.answers.specs.Numbers.{number}
use Rattle.common.specs.Answers as answer
use Rattle.memory.specs.declared.Memories.{Memories}
use Rattle.machine.specs.declared.Processor.{Processor}
use Rattle.machine.specs.Views.{state_of}
use Rattle.reach.specs.declared.Caller.{Caller}
use Rattle.why.specs.declared.Reason.{Reason}
use Rattle.why.specs.declared.next_step.NextStep.{NextStep}
use Rattle.why.specs.declared.next_step.NewSet.{NewSet}
use Rattle.why.specs.declared.next_step.NewSet.TheVariants.{Owned, Jump, Store, Read}
use Rattle.why.specs.declared.sets.SetFault.{SetFault}
use Rattle.why.specs.declared.sets.SetFault.TheVariants.{Outside, Disordered, Unreadable}
use Rattle.why.specs.declared.places.ReturnFault.{ReturnFault}
use Rattle.why.specs.declared.places.ReturnFault.TheVariants.{NotOwn, Taken}
use Rattle.why.specs.declared.form_fault.FormFault.{FormFault}
use Rattle.why.specs.declared.form_fault.FormFault.TheVariants.{Lengths, Size, Numbering, Number, Seat}
use Rattle.why.specs.declared.verdict.Outcome.{Outcome}
use Rattle.why.specs.declared.verdict.Outcome.TheVariants.{Done, Halt}

-- the record with the memories lent to a call
abbrev pub state_by : Processor → Memories → State
state_by cpu lent = state_of cpu lent.words.now lent.owners.now lent.jumpers.now lent.writers.now lent.readers.now

-- the state before the step
abbrev pub before : NextStep → State
before step = state_by step.cpu step.lent

-- who asks: the compartment that ran last
abbrev pub caller_of : NextStep → Caller
caller_of step = record { strict = step.cpu.strict; n = step.cpu.n; number = step.cpu.prev }

abbrev pub why_of : Reason → reasons.Why
why_of r = record { answer = r.answer; set = r.set; fault = r.fault; place = r.place; owner = r.owner; value = r.value; bits = r.bits }

-- ---- the numbers that are told

abbrev pub set_number : NewSet → ℕ
set_number Owned = 1
set_number Jump = 2
set_number Store = 3
set_number Read = 4

abbrev pub fault_number : SetFault → ℕ
fault_number Outside = reasons.outside
fault_number Disordered = reasons.disordered
fault_number Unreadable = reasons.unreadable

abbrev pub return_number : ReturnFault → ℕ
return_number NotOwn = reasons.not_own
return_number Taken = reasons.taken

abbrev pub form_number : FormFault → ℕ
form_number Lengths = reasons.lengths
form_number Size = reasons.size
form_number Numbering = reasons.numbering
form_number Number = reasons.number
form_number Seat = reasons.seat

-- the number that a step answers
abbrev pub outcome_number : Outcome → ℕ
outcome_number Done = answer.done
outcome_number Halt = answer.halt

abbrev pub verdict_of : Result Outcome Refusal → ℕ
verdict_of (Ok outcome) = outcome_number outcome
verdict_of (Err refusal) = number refusal
