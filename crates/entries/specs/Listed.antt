-- What an emitter of entries says.
use Rattle.std.specs.Prelude.{ℕ, Ok, Err, ◌≡◌, List, length}
use Rattle.definition.specs.Basic.{Answer, ok}
use Rattle.definition.specs.Syntax.{Bytes}
use Rattle.definition.specs.Binary.{joined}
use Rattle.syntax.specs.Refusals.{Resolved, refused_by}
use Rattle.emit.specs.Put.{Put}
use Rattle.import_export.specs.declared.export.Ends.{Ends}
use Rattle.deinline.specs.Entry.{section_no}
use Rattle.syntax.specs.declared.Entry.{Entry}

-- the definition's answer is some entries: they were put, and counted
pub record Listed (a : Answer (List Bytes)) (old : List ℕ) (at to n : ℕ) (new : List ℕ) : Type 0 where
  pub entries : List Bytes
  pub is : a ≡ ok entries
  pub put : Put old at (joined entries) to new
  pub number : n ≡ length entries

-- `r` is the definition's answer: entries were put and counted, and a refusal is the same
unfoldable pub Answers : Answer (List Bytes) → List ℕ → ℕ → Resolved Ends → List ℕ → Type 0
Answers a old at (Ok r) new = Listed a old at r.to r.count new
Answers a old at (Err q) new = a ≡ refused_by q

-- one entry, where there is one
abbrev pub one_end : Resolved ℕ → Resolved Ends
one_end (Ok o) = Ok (record { to = o; count = 1 })
one_end (Err q) = Err q

-- a function's code needs places of its own in the work area, and is emitted elsewhere
pub record NotCode (e : Entry) : Type 0 where
  pub other : section_no e ≡ 10 → ⊥
