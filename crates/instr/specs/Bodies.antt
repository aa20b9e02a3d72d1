-- What stands in a body that was read before: total, whatever the stream is. Only how many blocks are open is known, so an else may come in any of
-- them.
use Rattle.std.specs.Prelude.{ℕ, zero, suc, ◌+◌, ◌-◌, Bool, true, false, ◌&&◌, [], ◌∷◌, ◌++◌, eqb, leb, if◌then◌else◌}
use Rattle.definition.specs.Syntax as Syntax
use Rattle.definition.specs.Syntax.{Bytes, Identifier, Body, Rec, field, instr, folded, body_end}
use Rattle.definition.specs.Reader.{Step, got, fault, Reader, ◌>>◌, byte}
use Rattle.definition.specs.Instructions.{Form, form_of, admits, instruction, formed, fold}
use Rattle.laws.specs.Depths.{deep, depth_after}

-- ## One record

-- an instruction where `k` blocks are open
unfoldable pub deep_instr : ℕ → ℕ → Form → Reader (Syntax.Instr Identifier)
deep_instr k op form = admits (deep k) form >> instruction op form

-- an instruction or the body's end with the place after it; F0; or nothing that can be read
pub data Head : Type 0 where
  one : Syntax.Instr Identifier → ℕ → Head
  folding : Head
  ended : ℕ → Head
  unread : Head

abbrev pub on_byte : {B : Type 0} → Step ℕ → (ℕ → ℕ → B) → B → B
on_byte (got b next) f z = f b next
on_byte (fault n) f z = z

abbrev pub one_of : Step (Syntax.Instr Identifier) → Head
one_of (got x next) = one x next
one_of (fault n) = unread

-- what stands at a place where `k` blocks are open
unfoldable pub head_at : ℕ → Bytes → ℕ → Head
head_at k s here =
    on_byte (byte s here)
    (λ b a.
    if eqb b 0xF0 then folding else
    if eqb b 0xFF then (if eqb k 0 then ended a else unread) else
    one_of (formed (deep k) b (form_of b) s a))
    unread

abbrev pub on_head : {B : Type 0} → Head → (Syntax.Instr Identifier → ℕ → B) → B → (ℕ → B) → B → B
on_head (one x next) f y g z = f x next
on_head folding f y g z = y
on_head (ended next) f y g z = g next
on_head unread f y g z = z

-- ## Stretches of a body

-- the instructions in flat order, each with its record; the place and the record after them; and whether all could be read
pub record Stretch : Type 0 where
  pub body : Body Identifier
  pub at : ℕ
  pub rec : ℕ
  pub whole : Bool

-- nothing at a place where the next record has the number `r`, and what is left off there
abbrev pub nothing : ℕ → ℕ → Stretch
nothing r here = record { body = []; at = here; rec = r; whole = true }

abbrev pub stopped : ℕ → ℕ → Stretch
stopped r here = record { body = []; at = here; rec = r; whole = false }

-- one stretch and then another
abbrev pub joined : Stretch → Stretch → Stretch
joined t u = record { body = t.body ++ u.body; at = u.at; rec = u.rec; whole = t.whole && u.whole }

-- an instruction before a stretch, and an operator after its operands
abbrev pub before : ℕ → Syntax.Instr Identifier → Stretch → Stretch
before r x t = record { body = (r, x) ∷ t.body; at = t.at; rec = t.rec; whole = t.whole }

abbrev pub operator_last : ℕ → Syntax.Instr Identifier → Stretch → Stretch
operator_last r x t = record { body = t.body ++ ((r, x) ∷ []); at = t.at; rec = t.rec; whole = t.whole }

-- ## Folded records (document 02, §4)

abbrev pub on_fold : {B : Type 0} → Step (Rec Identifier) → (Syntax.Instr Identifier → ℕ → ℕ → B) → B → B
on_fold (got (field f) next) k z = z
on_fold (got (instr x) next) k z = z
on_fold (got (folded x n) next) k z = k x n next
on_fold (got body_end next) k z = z
on_fold (fault n) k z = z

-- F0, which was looked at before, and what stands after it
unfoldable pub fold_here : Reader (Rec Identifier)
fold_here = byte >> fold

-- so many operands, one after the other, each by `f`
unfoldable pub operands_by : (ℕ → ℕ → Stretch) → ℕ → ℕ → ℕ → Stretch
operands_by f zero r here = nothing r here
operands_by f (suc n) r here = joined (f r here) (operands_by f n (f r here).rec (f r here).at)

-- a folded record in which so many are nested at most, itself included: its operands from left to right and then its operator
unfoldable pub tree_at : ℕ → Bytes → ℕ → ℕ → Stretch
tree_at zero s r here = stopped r here
tree_at (suc left) s r here =
    if leb 4096 r then stopped r here else
    on_fold (fold_here s here) (λ x n next. operator_last r x (operands_by (tree_at left s) n (r + 1) next)) (stopped (r + 1) here)

-- ## Bodies

-- a body from a place on, in so many turns at most; `k` blocks are open
unfoldable pub body_turns : ℕ → ℕ → ℕ → Bytes → ℕ → Stretch
body_turns zero k r s here = stopped r here
body_turns (suc turns) k r s here =
    if leb 4096 r then stopped r here else
    on_head (head_at k s here)
    (λ x next. before r x (body_turns turns (depth_after x k) (r + 1) s next))
    (joined (tree_at 32 s r here) (body_turns turns k (tree_at 32 s r here).rec s (tree_at 32 s r here).at))
    (λ next. nothing (r + 1) next)
    (stopped r here)

-- each turn passes a record at least
unfoldable pub body_from : ℕ → ℕ → Bytes → ℕ → Stretch
body_from k r s here = body_turns (4096 - r) k r s here
