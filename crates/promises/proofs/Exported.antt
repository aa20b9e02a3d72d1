-- An exported call says what a call on the part that is lent says; beyond that part the output goes on.
use Prim.Native.Nat.{ℕ, ◌≤◌}
use mathlib.Core.Path.{◌≡◌, sym, ◌∙◌, ap}
use mathlib.Core.Bool.{false}
use mathlib.Core.List.{List, ◌++◌}
use lib.ListN.{length, take, drop}
use lib.Seq.{take-append-le}
use Rattle.definition.specs.Basic.{same_bytes}
use Rattle.definition.specs.Syntax.{Bytes}
use Rattle.definition.specs.Assemble.{module_in, named_module_in, Outcome, call, call_names}
use Rattle.renaming.specs.Renamed.{SaysTheSame, SaysTheSameBefore}
use Rattle.assembler.specs.Run.{Call}
use Rattle.assembler.specs.Export.{answer_of, handed_on, lent, exported_by, ExportsBy}
use Rattle.assembler.proofs.Exported.{written-within}
use Rattle.promises.specs.Promise.{outcome_in, NamesAfter}

-- an outcome, where the output goes on
abbrev pub going_on : Outcome → Bytes → Outcome
going_on o beyond = record { number = o.number; rec = o.rec; first = o.first; written = o.written; output = o.output ++ beyond; work = o.work }

module _ (f : Call) (s : Bytes) (work : List ℕ) (old : Bytes) (r : ℕ) (a : List ℕ) (out : Bytes) (w : List ℕ) (k : ExportsBy f s work old r a out w) where
  pub export_says : outcome_in r a out w ≡ going_on (f s work (take (lent old) old)) (drop (lent old) old)
  unfolding exported_by handed_on
  export_says = ap (λ h. outcome_in h.number h.answer h.output h.work) k

  -- the answer's words: number, record, length, and where a name was first used
  pub export_answer : a ≡ answer_of (outcome_in r a out w)
  unfolding exported_by handed_on
  export_answer = ap (λ h. h.answer) k ∙ ap answer_of (sym export_says)

-- ## What is written lies in the output, so nothing beyond it matters

pub call-within : (s work old : List ℕ) → (call s work old).written ≤ length (call s work old).output
unfolding call
call-within s work old = written-within (module_in false same_bytes) s work old

pub names-within : (s work old : List ℕ) → (call_names s work old).written ≤ length (call_names s work old).output
unfolding call_names
names-within s work old = written-within (named_module_in false) s work old

module _ (a b : Outcome) (h : a.written ≤ length a.output) (h' : b.written ≤ length b.output) (x y : Bytes) where
  pub same-beyond : SaysTheSame a b → SaysTheSame (going_on a x) (going_on b y)
  same-beyond z = record {
    number = z.number;
    rec = z.rec;
    first = z.first;
    written = z.written;
    bytes = take-append-le _ _ x h ∙ z.bytes ∙ sym (take-append-le _ _ y h');
  }

  pub before-beyond : (p q : Bytes) → SaysTheSameBefore p q a b → SaysTheSameBefore p q (going_on a x) (going_on b y)
  before-beyond p q z = record {
    number = z.number;
    rec = z.rec;
    first = z.first;
    nothing = z.nothing;
    something = λ n. let v = z.something n in
        record { before = v.before; bytes = take-append-le _ _ x h ∙ v.bytes; bytes' = take-append-le _ _ y h' ∙ v.bytes' };
  }

  pub after-beyond : (p : Bytes) → NamesAfter p a b → NamesAfter p (going_on a x) (going_on b y)
  after-beyond p z = record {
    number = z.number;
    number' = z.number';
    rec = z.rec;
    first = z.first;
    bytes = take-append-le _ _ x h ∙ z.bytes ∙ ap (λ bs. bs ++ p) (sym (take-append-le _ _ y h'));
  }
