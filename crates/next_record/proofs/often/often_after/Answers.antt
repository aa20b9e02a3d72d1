use mathlib.Core.Path.{ap}
use Rattle.definition.specs.Basic.{between}
use Rattle.definition.specs.Instructions.{form_of, form_in, opcodes}
use Rattle.next_record.specs.Often.{sort, OftenIs}
use Rattle.next_record.proofs.Frequent.{numeric, told-nothing}
use Rattle.next_record.proofs.often.often_after.Goals as goal

pub returns-then-opcode-lt197 : goal.returns-then-opcode-lt197
returns-then-opcode-lt197 c = search numeric

pub returns-then-opcode-gt68 : goal.returns-then-opcode-gt68
returns-then-opcode-gt68 c = search told-nothing

pub returns-in-12 : goal.returns-in-12
unfolding OftenIs form_of form_in opcodes between
returns-in-12 c = ap sort c.in-12.is

pub returns-in-13 : goal.returns-in-13
unfolding OftenIs form_of form_in opcodes between
returns-in-13 c = ap sort c.in-13.is

pub returns-in-15 : goal.returns-in-15
unfolding OftenIs form_of form_in opcodes between
returns-in-15 c = ap sort c.in-15.is

pub returns-in-16 : goal.returns-in-16
unfolding OftenIs form_of form_in opcodes between
returns-in-16 c = ap sort c.in-16.is

pub returns-in-26 : goal.returns-in-26
unfolding OftenIs form_of form_in opcodes between
returns-in-26 c = ap sort c.in-26.is

pub returns-in-27 : goal.returns-in-27
unfolding OftenIs form_of form_in opcodes between
returns-in-27 c = ap sort c.in-27.is

pub returns-in-32 : goal.returns-in-32
unfolding OftenIs form_of form_in opcodes between
returns-in-32 c = ap sort c.in-32.is

pub returns-in-33 : goal.returns-in-33
unfolding OftenIs form_of form_in opcodes between
returns-in-33 c = ap sort c.in-33.is

pub returns-in-34 : goal.returns-in-34
unfolding OftenIs form_of form_in opcodes between
returns-in-34 c = ap sort c.in-34.is

pub returns-in-35 : goal.returns-in-35
unfolding OftenIs form_of form_in opcodes between
returns-in-35 c = ap sort c.in-35.is

pub returns-in-36 : goal.returns-in-36
unfolding OftenIs form_of form_in opcodes between
returns-in-36 c = ap sort c.in-36.is

pub returns-in-40 : goal.returns-in-40
unfolding OftenIs form_of form_in opcodes between
returns-in-40 c = ap sort c.in-40.is

pub returns-in-41 : goal.returns-in-41
unfolding OftenIs form_of form_in opcodes between
returns-in-41 c = ap sort c.in-41.is

pub returns-in-42 : goal.returns-in-42
unfolding OftenIs form_of form_in opcodes between
returns-in-42 c = ap sort c.in-42.is

pub returns-in-43 : goal.returns-in-43
unfolding OftenIs form_of form_in opcodes between
returns-in-43 c = ap sort c.in-43.is

pub returns-in-44 : goal.returns-in-44
unfolding OftenIs form_of form_in opcodes between
returns-in-44 c = ap sort c.in-44.is

pub returns-in-45 : goal.returns-in-45
unfolding OftenIs form_of form_in opcodes between
returns-in-45 c = ap sort c.in-45.is

pub returns-in-46 : goal.returns-in-46
unfolding OftenIs form_of form_in opcodes between
returns-in-46 c = ap sort c.in-46.is

pub returns-in-47 : goal.returns-in-47
unfolding OftenIs form_of form_in opcodes between
returns-in-47 c = ap sort c.in-47.is

pub returns-in-48 : goal.returns-in-48
unfolding OftenIs form_of form_in opcodes between
returns-in-48 c = ap sort c.in-48.is

pub returns-in-49 : goal.returns-in-49
unfolding OftenIs form_of form_in opcodes between
returns-in-49 c = ap sort c.in-49.is

pub returns-in-50 : goal.returns-in-50
unfolding OftenIs form_of form_in opcodes between
returns-in-50 c = ap sort c.in-50.is

pub returns-in-51 : goal.returns-in-51
unfolding OftenIs form_of form_in opcodes between
returns-in-51 c = ap sort c.in-51.is

pub returns-in-52 : goal.returns-in-52
unfolding OftenIs form_of form_in opcodes between
returns-in-52 c = ap sort c.in-52.is

pub returns-in-53 : goal.returns-in-53
unfolding OftenIs form_of form_in opcodes between
returns-in-53 c = ap sort c.in-53.is

pub returns-in-54 : goal.returns-in-54
unfolding OftenIs form_of form_in opcodes between
returns-in-54 c = ap sort c.in-54.is

pub returns-in-55 : goal.returns-in-55
unfolding OftenIs form_of form_in opcodes between
returns-in-55 c = ap sort c.in-55.is

pub returns-in-56 : goal.returns-in-56
unfolding OftenIs form_of form_in opcodes between
returns-in-56 c = ap sort c.in-56.is

pub returns-in-57 : goal.returns-in-57
unfolding OftenIs form_of form_in opcodes between
returns-in-57 c = ap sort c.in-57.is

pub returns-in-58 : goal.returns-in-58
unfolding OftenIs form_of form_in opcodes between
returns-in-58 c = ap sort c.in-58.is

pub returns-in-59 : goal.returns-in-59
unfolding OftenIs form_of form_in opcodes between
returns-in-59 c = ap sort c.in-59.is

pub returns-in-60 : goal.returns-in-60
unfolding OftenIs form_of form_in opcodes between
returns-in-60 c = ap sort c.in-60.is

pub returns-in-61 : goal.returns-in-61
unfolding OftenIs form_of form_in opcodes between
returns-in-61 c = ap sort c.in-61.is

pub returns-in-62 : goal.returns-in-62
unfolding OftenIs form_of form_in opcodes between
returns-in-62 c = ap sort c.in-62.is

pub returns-in-65 : goal.returns-in-65
unfolding OftenIs form_of form_in opcodes between
returns-in-65 c = ap sort c.in-65.is

pub returns-in_default : goal.returns-in_default
returns-in_default c = search told-nothing
