-- Each call of the assembler allows one answer.
use Prim.Native.Nat.{ℕ}
use mathlib.Core.List.{List}
use Rattle.definition.specs.Assemble.{call, call_names, call_strict, call_strict_names}
use Rattle.assembler.specs.Run.{Assembles, AssemblesNames, AssemblesStrict, AssemblesStrictNames}
use Rattle.promises.specs.Promise.{OneAnswer}
use Rattle.promises.proofs.OneAnswer.{answer-one}

pub assemble-one : (s work old : List ℕ) → OneAnswer (Assembles s work old)
assemble-one = answer-one call

pub assemble-names-one : (s work old : List ℕ) → OneAnswer (AssemblesNames s work old)
assemble-names-one = answer-one call_names

pub assemble-strict-one : (s work old : List ℕ) → OneAnswer (AssemblesStrict s work old)
assemble-strict-one = answer-one call_strict

pub assemble-strict-names-one : (s work old : List ℕ) → OneAnswer (AssemblesStrictNames s work old)
assemble-strict-names-one = answer-one call_strict_names
