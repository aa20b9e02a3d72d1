-- A body that was read before is read again by the number of its open blocks alone.
use Rattle.std.specs.Prelude.{ℕ, ◌+◌, ◌-◌, true, [], replicate}
use Rattle.definition.specs.Syntax.{Instr, opens, elses, ends, indirect, plain}
use Rattle.definition.specs.Instructions.{Inside}

-- `k` open blocks, and in each of them an else may come; no operand is due
unfoldable pub deep : ℕ → Inside
deep k = record { blocks = replicate k true; due = [] }

-- how many are open after an instruction
unfoldable pub depth_after : {I : Type 0} → Instr I → ℕ → ℕ
depth_after (opens op l t) k = k + 1
depth_after (elses l) k = k
depth_after (ends l) k = k - 1
depth_after (indirect x t) k = k
depth_after (plain p) k = k
