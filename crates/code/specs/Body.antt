-- Stretches of a body and all of it, resolved and written.
use Rattle.std.specs.Prelude.{ℕ, Option, Ok, Err, Some, None, ◌-◌, ◌≤◌, ◌<◌, ◌≡◌, true, false, List, [], ◌++◌}
use Rattle.syntax.specs.Refusals.{Resolved, refused_by}
use Rattle.definition.specs.Basic.{Answer, ok, ◌>>=◌, concat_map}
use Rattle.definition.specs.Syntax.{Op}
use Rattle.definition.specs.Instructions.{form_of, operator_of}
use Rattle.definition.specs.Types.{body_uses}
use Rattle.definition.specs.Names.{body}
use Rattle.definition.specs.Binary.{instruction}
use Rattle.syntax.specs.declared.Place.{Place}
use Rattle.syntax.specs.declared.Refusal.{Refusal}
use Rattle.emit.specs.Put.{Put}
use Rattle.area.specs.Layout.{LABELS}
use Rattle.area.specs.Kept.{Kept}
use Rattle.type_table.specs.Table.{types_in, Recalled}
use Rattle.instr.specs.Bodies.{Stretch, body_from}
use Rattle.scope.specs.Scope.{scope_in, locals_in, labels_in}
use Rattle.scope.specs.declared.Locals.{Locals}
use Rattle.binary.specs.Emits.{Emits}
use Rattle.plain.specs.Turns.{record_of, Turned}

-- a stretch that may be resolved: its type uses have their numbers, and all of it can be read
pub record Resolvable (s w : List ℕ) (t : Stretch) : Type 0 where
  pub recalled : Recalled w (types_in s w) (body_uses t.body)
  pub whole : t.whole ≡ true

-- ## A folded record with its operands, or some operands

-- a place in a body, where there may be no record more
pub record Within (p : Place) : Type 0 where
  pub deep : 1 ≤ p.depth
  pub few : p.depth ≤ 129
  pub low : p.rec ≤ 4096

-- what the definition makes of a stretch in which no block opens or closes
unfoldable pub stretch_answer : List ℕ → List ℕ → Locals → ℕ → Stretch → Answer (List Op)
stretch_answer s w l depth t = body (scope_in s w) (locals_in s w l) (labels_in s w (depth - 1)) t.body

-- it was written, and the place moved on after it
pub record Unfolded (s w : List ℕ) (l : Locals) (depth : ℕ) (t : Stretch) (old : List ℕ) (at o : ℕ) (p : Place) (new : List ℕ) : Type 0 where
  pub emits : Emits (concat_map instruction) (stretch_answer s w l depth t) old at (Ok o) new
  pub ends : p.at ≡ t.at
  pub next : p.rec ≡ t.rec
  pub level : p.depth ≡ depth

unfoldable pub StretchTurned : List ℕ → List ℕ → Locals → ℕ → Stretch → List ℕ → ℕ → Resolved (Option (ℕ × Place)) → List ℕ → Type 0
StretchTurned s w l depth t old at (Ok (Some (o, p))) new = Unfolded s w l depth t old at o p new
StretchTurned s w l depth t old at (Ok None) new = t.whole ≡ false
StretchTurned s w l depth t old at (Err q) new = Emits (concat_map instruction) (stretch_answer s w l depth t) old at (Err q) new

-- an operator after operands, of which a turn came: where they were written, it comes after them, and the place stays the one after them; it is known
-- by its opcode, and what stands after that is at the place `p`
abbrev pub last_turn : Place → Resolved (Option (ℕ × Place)) → (Resolved (Option (ℕ × Place)))
last_turn end (Ok (Some (o, p))) = Ok (Some (o, end))
last_turn end (Ok None) = Ok None
last_turn end (Err q) = Err q

pub record Last (s w : List ℕ) (l : Locals) (p : Place) (op o : ℕ) (end : Place) (old : List ℕ) (r : Resolved (Option (ℕ × Place))) (new : List ℕ) : Type 0 where
  pub turn : Resolved (Option (ℕ × Place))
  pub turned : Turned s w (locals_in s w l) (p.depth - 1) p.rec (record_of (operator_of op (form_of op) s p.at)) old o turn w new
  pub is : r ≡ last_turn end turn

unfoldable pub OperatorTurned : List ℕ → List ℕ → Locals → Place → ℕ → Resolved (Option (ℕ × Place)) → List ℕ → Resolved (Option (ℕ × Place)) → List ℕ → Type 0
OperatorTurned s w l p op (Ok (Some (o, end))) old r new = Last s w l p op o end old r new
OperatorTurned s w l p op (Ok None) old r new = r ≡ Ok None
OperatorTurned s w l p op (Err q) old r new = r ≡ Err q

-- ## One turn of a body

-- what the definition makes of the body from a place on, where the area has these labels
unfoldable pub body_answer : List ℕ → List ℕ → Locals → List ℕ → Place → Answer (List Op)
body_answer s w l w' p = body (scope_in s w) (locals_in s w l) (labels_in s w' (p.depth - 1)) (body_from (p.depth - 1) p.rec s p.at).body

-- some of it was written, and the rest decides
pub record Advanced (s w : List ℕ) (l : Locals) (p : Place) (old : List ℕ) (at o : ℕ) (q : Place) (w' new : List ℕ) : Type 0 where
  pub ops : List Op
  pub put : Put old at (concat_map instruction ops) o new
  pub same : body_answer s w l w p ≡ (body_answer s w l w' q >>= λ os. ok (ops ++ os))
  pub resolvable : Resolvable s w (body_from (q.depth - 1) q.rec s q.at)
  pub within : Within q
  pub later : p.rec < q.rec
  pub kept : Kept LABELS w w'

-- nothing is left
pub record Over (s w : List ℕ) (l : Locals) (p : Place) (old w' new : List ℕ) : Type 0 where
  pub none : body_answer s w l w p ≡ ok []
  pub area : w' ≡ w
  pub bytes : new ≡ old

pub record Halts (s w : List ℕ) (l : Locals) (p : Place) (q : Refusal) (w' : List ℕ) : Type 0 where
  pub says : body_answer s w l w p ≡ refused_by q
  pub area : w' ≡ w

unfoldable pub BodyTurned : List ℕ → List ℕ → Locals → Place → List ℕ → ℕ → Resolved (Option (ℕ × Place)) → List ℕ → List ℕ → Type 0
BodyTurned s w l p old at (Ok (Some (o, q))) w' new = Advanced s w l p old at o q w' new
BodyTurned s w l p old at (Ok None) w' new = Over s w l p old w' new
BodyTurned s w l p old at (Err q) w' new = Halts s w l p q w'

-- ## All of it

-- the body is what the definition makes of it, and only labels were written into the work area
pub record EmitsBody (s w : List ℕ) (l : Locals) (rec here : ℕ) (old : List ℕ) (at : ℕ) (r : Resolved ℕ) (w' new : List ℕ) : Type 0 where
  pub emits : Emits (concat_map instruction) (body (scope_in s w) (locals_in s w l) [] (body_from 0 rec s here).body) old at r new
  pub kept : Kept LABELS w w'
