-- What the pass makes of type uses, one after the other.
use Rattle.std.specs.Prelude.{ℕ, ◌+◌, ◌-◌, ◌≤◌, ◌<◌, ◌≡◌, false, List, [], ◌∷◌, ◌++◌, get_or, Ok, Err}
use Rattle.std.proofs.Math.Option.{Option, some}
use Rattle.definition.specs.Basic.{ok}
use Rattle.definition.specs.Syntax as Syntax
use Rattle.definition.specs.Syntax.{Bytes, Identifier, FuncType}
use Rattle.definition.specs.Instructions.{Inside}
use Rattle.definition.specs.Read.{own_body}
use Rattle.definition.specs.Types.{Uses, used_at, body_uses, extern_uses, own_uses, type_at, intern}
use Rattle.syntax.specs.Refusals.{Resolved, refused_by}
use Rattle.syntax.specs.declared.Refusal.{Refusal}
use Rattle.area.specs.Layout.{NAMED, TYPES, USES}
use Rattle.syntax.specs.declared.Instr.{Instr}
use Rattle.syntax.specs.declared.Instr.TheVariants as I
use Rattle.area.specs.Kept.{Kept}
use Rattle.type_table.specs.Table.{type_table, Indexed}
use Rattle.instr.specs.Bodies.{Stretch}
use Rattle.walk.specs.Walk.{body_in, after_field, uses_in}
use Rattle.walk.specs.declared.Stop.{Stop}

-- ## The uses of a record, read on the fly

-- an own item, whose body begins at `here`
unfoldable pub uses_own : ℕ → Syntax.Own Identifier → Bytes → ℕ → Uses
uses_own r o s here = used_at r (own_uses o) ++ body_uses (body_in (own_body o) (r + 1) s here)

unfoldable pub uses_source : ℕ → Syntax.Source Identifier → Bytes → ℕ → Uses
uses_source r (Syntax.own o) s here = uses_own r o s here
uses_source r (Syntax.imported n d) s here = used_at r (extern_uses d)
uses_source r (Syntax.table_of w xs) s here = []
uses_source r (Syntax.mem_of w d) s here = []

unfoldable pub uses_field : ℕ → Syntax.FieldRec Identifier → Bytes → ℕ → Uses
uses_field r (Syntax.type_r i t) s here = []
uses_field r (Syntax.import_r n i d) s here = used_at r (extern_uses d)
uses_field r (Syntax.item_r i es x) s here = uses_source r x s here
uses_field r (Syntax.export_r n k x) s here = []
uses_field r (Syntax.start_r x) s here = []
uses_field r (Syntax.elem_r i m xs) s here = []
uses_field r (Syntax.data_r i m d) s here = []

-- the record after a field, its body included
abbrev pub end_after : Option Inside → ℕ → Bytes → ℕ → ℕ
end_after b r s here = (after_field b (r + 1) s here).rec

-- the body of an own function has no uses, where the work area says so
pub record Skips (w : List ℕ) (own : ℕ) (us : Uses) : Type 0 where
  pub unused : uses_in w own ≡ false → us ≡ []

-- ## Open blocks

abbrev pub nested : Instr → ℕ → ℕ
nested (I.Opens op l t) k = k + 1
nested (I.Elses l) k = k
nested (I.Ends l) k = k - 1
nested (I.Indirect x t) k = k
nested (I.Plain p) k = k

-- a block opens where few enough are open, and an end stands where one is
abbrev pub Nests : Instr → ℕ → Type 0
Nests (I.Opens op l t) k = k < 128
Nests (I.Elses l) k = Unit {0}
Nests (I.Ends l) k = 0 < k
Nests (I.Indirect x t) k = Unit {0}
Nests (I.Plain p) k = Unit {0}

-- ## Uses that were handled

-- each use is of a record below `high`, and that record's word has the number of its type
unfoldable pub Known : ℕ → List ℕ → List FuncType → Uses → Type 0
Known high w ts [] = Unit {0}
Known high w ts ((r, t) ∷ us) = (r < high) × (type_at t ts ≡ some (get_or w (USES + r) 0)) × Known high w ts us

-- each use is of a record from `low` on
unfoldable pub From : ℕ → Uses → Type 0
From low [] = Unit {0}
From low ((r, t) ∷ us) = (low ≤ r) × From low us

-- `us` were taken or added: `k` types became `k'`. The words of records before `low` and from `high` on are as they were, and so are those of the
-- names
pub record Handled (low high : ℕ) (s : Bytes) (us : Uses) (w : List ℕ) (k : ℕ) (w' : List ℕ) (k' : ℕ) : Type 0 where
  pub types : intern (type_table k s w TYPES) us ≡ ok (type_table k' s w' TYPES)
  pub indexed : Indexed s w' k'
  pub known : Known high w' (type_table k' s w' TYPES) us
  pub from : From low us
  pub kept : Kept TYPES w w'
  pub before : (i : ℕ) → i < low → get_or w' (USES + i) 0 ≡ get_or w (USES + i) 0
  pub beyond : (i : ℕ) → high ≤ i → i < 4096 → get_or w' (USES + i) 0 ≡ get_or w (USES + i) 0
  pub above : (i : ℕ) → NAMED ≤ i → get_or w' i 0 ≡ get_or w i 0

-- one of them was refused
pub record Stopped (s : Bytes) (us : Uses) (w : List ℕ) (k : ℕ) (q : Refusal) (w' : List ℕ) : Type 0 where
  pub says : intern (type_table k s w TYPES) us ≡ refused_by q
  pub kept : Kept TYPES w w'

unfoldable pub Handles : ℕ → ℕ → Bytes → Uses → List ℕ → ℕ → Resolved ℕ → List ℕ → Type 0
Handles low high s us w k (Ok k') w' = Handled low high s us w k w' k'
Handles low high s us w k (Err q) w' = Stopped s us w k q w'

-- the uses of a stretch of a body, whose first record is `low`, were handled, and it was passed
pub record HandledTo (low : ℕ) (s : Bytes) (t : Stretch) (w : List ℕ) (k : ℕ) (w' : List ℕ) (k' : ℕ) (stop : Stop) : Type 0 where
  pub handled : Handled low t.rec s (body_uses t.body) w k w' k'
  pub at : stop.at ≡ t.at
  pub rec : stop.rec ≡ t.rec

unfoldable pub HandlesTo : ℕ → Bytes → Stretch → List ℕ → ℕ → Resolved (ℕ × Stop) → List ℕ → Type 0
HandlesTo low s t w k (Ok (k', stop)) w' = HandledTo low s t w k w' k' stop
HandlesTo low s t w k (Err q) w' = Stopped s (body_uses t.body) w k q w'
