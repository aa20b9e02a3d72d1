-- One promise allows one answer: two answers that keep a promise on the same input are equal.
use Rattle.std.specs.Prelude.{Ok, Err, if◌then◌else◌}
use Prim.Native.Nat.{ℕ, ◌+◌, ◌<◌, ◌^◌}
use mathlib.Core.Path.{◌≡◌, refl, sym, ◌∙◌, ap}
use lib.Dec.{eqb}
use mathlib.Core.List.{List}
use lib.ListN.{length}
use native.Mathlib.Omega.{arith}
use Rattle.definition.specs.Reader.{Step}
use Rattle.definition.specs.Assemble.{call, call_names, call_strict, call_strict_names}
use Rattle.emit.specs.Put.{Put}
use Rattle.syntax.specs.Reads.{Read, step, same}
use Rattle.syntax.specs.Refusals.{number, refusal_of, Resolved}
use Rattle.syntax.specs.declared.Fault.{Fault}
use Rattle.syntax.specs.declared.Fault.TheVariants as F
use Rattle.syntax.specs.Numbers.{u32_at, u64_at}
use Rattle.stream.specs.Pass.{counted, Reads}
use Rattle.stream.specs.Export.{Told}
use Rattle.assembler.specs.Run.{Call, AssemblesBy}
use Rattle.assembler.specs.Export.{ExportsBy, Exports, ExportsNames, ExportsStrict, ExportsStrictNames}
use Rattle.promises.specs.Promise.{OneAnswer, OneExport}

-- ## The assembler

-- an outcome says all of an answer (of each call: OneAnswerCalls.antt)
pub answer-one : (f : Call) (s work old : List ℕ) → OneAnswer (AssemblesBy f s work old)
answer-one f s work old r r' out out' w w' k k' =
    let e = k ∙ sym k' in
    (λ i. record { number = (e i).number; rec = (e i).rec; first = (e i).first; len = (e i).written }, λ i. (e i).output, λ i. (e i).work)

-- and so does what is handed over
handed-one : (f : Call) (s work old : List ℕ) → OneExport (ExportsBy f s work old)
handed-one f s work old r r' a a' out out' w w' k k' =
    let e = k ∙ sym k' in
    (λ i. (e i).number, λ i. (e i).answer, λ i. (e i).output, λ i. (e i).work)

-- the exported calls
pub export_one : (s work old : List ℕ) → OneExport (Exports s work old)
export_one = handed-one call

pub export_names_one : (s work old : List ℕ) → OneExport (ExportsNames s work old)
export_names_one = handed-one call_names

pub export_strict_one : (s work old : List ℕ) → OneExport (ExportsStrict s work old)
export_strict_one = handed-one call_strict

pub export_strict_names_one : (s work old : List ℕ) → OneExport (ExportsStrictNames s work old)
export_strict_names_one = handed-one call_strict_names

-- ## The reading pass

-- the fault of a number
abbrev fault_of : ℕ → Fault
fault_of n =
    if eqb n 1 then F.TooLong else
    if eqb n 2 then F.Ended else
    if eqb n 3 then F.TooLarge else
    if eqb n 4 then F.UnknownByte else
    if eqb n 5 then F.BadIdentifier else
    if eqb n 6 then F.BadString else
    if eqb n 7 then F.TooMany else
    if eqb n 8 then F.BrokenBlocks else
    if eqb n 9 then F.SecondStart else
    if eqb n 10 then F.WorkTooShort else
    if eqb n 11 then F.LateImport else
    if eqb n 12 then F.TooManyTypes else
    if eqb n 13 then F.NameTaken else
    if eqb n 14 then F.NoSuchName else
    if eqb n 15 then F.NoSuchType else
    if eqb n 16 then F.TypeDiffers else
    if eqb n 17 then F.OtherLabel else
    if eqb n 18 then F.OutputTooShort else
    if eqb n 19 then F.Padded else F.PointsNowhere

fault-number : (f : Fault) → fault_of (number f) ≡ f
fault-number F.TooLong = refl
fault-number F.Ended = refl
fault-number F.TooLarge = refl
fault-number F.UnknownByte = refl
fault-number F.BadIdentifier = refl
fault-number F.BadString = refl
fault-number F.TooMany = refl
fault-number F.BrokenBlocks = refl
fault-number F.SecondStart = refl
fault-number F.WorkTooShort = refl
fault-number F.LateImport = refl
fault-number F.TooManyTypes = refl
fault-number F.NameTaken = refl
fault-number F.NoSuchName = refl
fault-number F.NoSuchType = refl
fault-number F.TypeDiffers = refl
fault-number F.OtherLabel = refl
fault-number F.OutputTooShort = refl
fault-number F.Padded = refl
fault-number F.PointsNowhere = refl

-- no two faults have one number
number-one : (f g : Fault) → number f ≡ number g → f ≡ g
number-one f g e = sym (fault-number f) ∙ ap fault_of e ∙ fault-number g

counted-one : (a b : Resolved ℕ) → counted a ≡ counted b → a ≡ b
counted-one (Ok n) (Ok m) e = let x : n ≡ m = cc in rw x refl
counted-one (Ok n) (Err q) e = let z : ◌≡◌ {A = ℕ} 0 1 = cc in absurd (omega arith)
counted-one (Err p) (Ok m) e = let z : ◌≡◌ {A = ℕ} 0 1 = cc in absurd (omega arith)
counted-one (Err p) (Err q) e =
    let x : refusal_of p ≡ refusal_of q = cc in
    let f = number-one p.fault q.fault (λ i. (x i).number) in
    λ i. Err (record { fault = f i; rec = (x i).rec; first = (x i).first })

pub read-all-one : (s work : List ℕ) (r r' : Resolved ℕ) (w w' : List ℕ) → Reads s work r w → Reads s work r' w' → (r ≡ r') × (w ≡ w')
read-all-one s work r r' w w' k k' = (counted-one r r' (sym k.says ∙ k'.says), k.leaves ∙ sym k'.leaves)

-- `barrizuppa_read`
pub read_one : (s work words : List ℕ) (r r' : ℕ) (w w' a a' : List ℕ) → Told s work words r w a → Told s work words r' w' a' → (r ≡ r') × (w ≡ w') × (a ≡ a')
read_one s work words r r' w w' a a' k k' = (k.number ∙ sym k'.number, k.leaves ∙ sym k'.leaves, k.answer ∙ sym k'.answer)

-- ## Numbers in groups

step-one : (a b : Read ℕ) → step same a ≡ step same b → a ≡ b
step-one (Ok (v, n)) (Ok (v', n')) e = let y : v ≡ v' = cc in let z : n ≡ n' = cc in rw (y, z) refl
step-one (Ok (v, n)) (Err q) e = let z : ◌≡◌ {A = ℕ} 0 1 = cc in absurd (omega arith)
step-one (Err p) (Ok (v, n)) e = let z : ◌≡◌ {A = ℕ} 0 1 = cc in absurd (omega arith)
step-one (Err p) (Err q) e = let y : number p ≡ number q = cc in rw (number-one p q y) refl

-- `leb::read_u32`
pub read-u32-one : (x : Step ℕ) (r r' : Read ℕ) → x ≡ u32_at r → x ≡ u32_at r' → r ≡ r'
read-u32-one x r r' k k' = step-one r r' (sym k ∙ k')

-- `leb::read_u64`
pub read-u64-one : (x : Step ℕ) (r r' : Read ℕ) → x ≡ u64_at r → x ≡ u64_at r' → r ≡ r'
read-u64-one x r r' k k' = step-one r r' (sym k ∙ k')

-- ## Emitters

-- the place is one in any case; the bytes are where the place after them has not saturated
pub put-one-place : (old bs : List ℕ) (at r r' : ℕ) (new new' : List ℕ) → Put old at bs r new → Put old at bs r' new' → r ≡ r'
put-one-place old bs at r r' new new' k k' = k.place ∙ sym k'.place

pub put_one : (old bs : List ℕ) (at r r' : ℕ) (new new' : List ℕ) → at + length bs < 2 ^ 63 → Put old at bs r new → Put old at bs r' new' → (r ≡ r') × (new ≡ new')
put_one old bs at r r' new new' h k k' = (put-one-place old bs at r r' new new' k k', k.bytes h ∙ sym (k'.bytes h))
