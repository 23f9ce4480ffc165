-- Each arm stores what the definition has for its opcodes.
use mathlib.Core.Logic.{inl, inr}
use mathlib.Core.Path.{ap}
use native.Mathlib.Omega.{arith}
use lib.ListN.{length}
use Rattle.instructions.specs.Views.{standing}
use Rattle.disassembler.specs.Stores.{stored_none}
use Rattle.disassembler.specs.Operands.{no_operands, number_register, register_offset, one_register, three_registers, two_registers}
use Rattle.disassembler.proofs.operands.store_operands.Goals as goal
use Rattle.disassembler.proofs.operands.store_operands.Goals.{in_default-via-then-op-lt3, in_default-via-else-op-lt3+else-op-lt8+then-op-lt10, in_default-via-else-op-lt3+else-op-lt8+else-op-lt10+else-op-lt12}

pub store_constant-requires : goal.store_constant-requires
store_constant-requires c = let e = ap length (number_register (standing c.args.i) c.in-1.is) in omega arith

pub store_branch-requires : goal.store_branch-requires
store_branch-requires c = let e = ap length (register_offset (standing c.args.i) c.in-12.is) in (c.requires.0, omega arith)

pub store_three-requires : goal.store_three-requires
store_three-requires c = let e = ap length (three_registers (standing c.args.i) (λ e. omega arith) (λ e. omega arith) (λ e. omega arith) (omega arith) (omega arith)) in omega arith

pub store_register-requires : goal.store_register-requires
store_register-requires c = let e = ap length (one_register (standing c.args.i) (λ e. omega arith) (λ e. omega arith) (λ e. omega arith) (omega arith) (omega arith)) in omega arith

pub store_two-requires : goal.store_two-requires
store_two-requires c = let e = ap length (two_registers (standing c.args.i) (λ e. omega arith) (λ e. omega arith) (λ e. omega arith)
    (elim c.in_default.branch [
      | in_default-via-then-op-lt3 w ↦ inl (omega arith)
      | in_default-via-else-op-lt3+else-op-lt8+then-op-lt10 w ↦ inr (inl (omega arith, omega arith))
      | in_default-via-else-op-lt3+else-op-lt8+else-op-lt10+else-op-lt12 w ↦ inr (inr (omega arith))
    ])) in omega arith

pub returns-in-0 : goal.returns-in-0
returns-in-0 c = rw (no_operands (standing c.args.i) c.in-0.is) (stored_none _ _)

pub returns-in-1 : goal.returns-in-1
returns-in-1 c = rw (number_register (standing c.args.i) c.in-1.is) c.store_constant.ensures

pub returns-in-12 : goal.returns-in-12
returns-in-12 c = rw (register_offset (standing c.args.i) c.in-12.is) c.store_branch.ensures

pub returns-in-3-to-7 : goal.returns-in-3-to-7
returns-in-3-to-7 c = rw (three_registers (standing c.args.i) (λ e. omega arith) (λ e. omega arith) (λ e. omega arith) (omega arith) (omega arith)) c.store_three.ensures

pub returns-in-10 : goal.returns-in-10
returns-in-10 c = rw (one_register (standing c.args.i) (λ e. omega arith) (λ e. omega arith) (λ e. omega arith) (omega arith) (omega arith)) c.store_register.ensures

pub returns-in_default : goal.returns-in_default
returns-in_default c = rw (two_registers (standing c.args.i) (λ e. omega arith) (λ e. omega arith) (λ e. omega arith)
    (elim c.in_default.branch [
      | in_default-via-then-op-lt3 w ↦ inl (omega arith)
      | in_default-via-else-op-lt3+else-op-lt8+then-op-lt10 w ↦ inr (inl (omega arith, omega arith))
      | in_default-via-else-op-lt3+else-op-lt8+else-op-lt10+else-op-lt12 w ↦ inr (inr (omega arith))
    ])) c.store_two.ensures
