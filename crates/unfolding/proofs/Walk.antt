-- The parts of a stream that is read, in flat order: where each may stand, and how it is met among the records.
use mathlib.Core.Path.{◌≡◌, refl, ◌∙◌, sym, ap, subst}
use Prim.Native.Nat.{ℕ, zero, suc, ◌+◌, ◌-◌}
use mathlib.Core.Bool.{Bool, false, false≢true}
use mathlib.Core.List.{List, [], ◌∷◌, ◌++◌, map}
use mathlib.Core.Option.{Option, none, some}
use lib.Seq.{slice}
use borrow.Author.Tests.{lt-leb}
use native.Mathlib.Omega.{arith}
use Rattle.definition.specs.Basic.{ok, concat_map}
use Rattle.definition.specs.Syntax.{Bytes, Identifier, Space, Instr, own_func, own_table, own_mem, own_global, own, imported, table_of, mem_of}
use Rattle.definition.specs.Syntax.{FieldRec, type_r, import_r, item_r, export_r, start_r, elem_r, data_r, Rec, field, instr, folded, body_end}
use Rattle.definition.specs.Reader.{got, fault, byte}
use Rattle.definition.specs.Instructions.{Inside, inside_after, complete, awaiting, folded_after, body_rec}
use Rattle.definition.specs.Records as Records
use Rattle.definition.specs.Read as Read
use Rattle.definition.specs.Read.{Seen, seen_after, own_body, source_body, field_body, body_after, items_after, started_after, record_in, one_record, records}
use Rattle.laws.proofs.Backwards.{came}
use Rattle.laws.proofs.Bodies.{no_field, end_not_due, instr_not_due}
use Rattle.unfolding.specs.FlatStream.{operands_of, unfolded, unfolded_bytes, Part, part_of, parts, groups, is_folded}
use Rattle.unfolding.proofs.Local.{Spells, spells}
use Rattle.unfolding.proofs.LocalReaders.{local_record}
use Rattle.unfolding.proofs.NextRecord.{first, last}
use Rattle.unfolding.proofs.FlatOrder.{Waits, followed, waiting, fill, fill_first}
use Rattle.unfolding.proofs.Operators.{level, Folding, folding}

-- ## What a walk in flat order is

-- a part is read there as its record, wherever its bytes stand
abbrev pub Stands : Seen → Part → Type 0
Stands seen p = Spells (one_record seen) p.bytes p.rec

-- it is an operator, and leaves everything as it is: so operators stand in any order
pub record Operates (seen : Seen) (x : Instr Identifier) (p : Part) : Type 0 where
  pub is : p.rec ≡ instr x
  pub stands : Stands seen p
  pub stays : seen_after seen (instr x) ≡ seen

-- from a place where no operand is due but those of the parts that wait: the records that follow, and the parts in flat order
pub data Walk : Seen → Waits → List (Rec Identifier) → List Part → Type 0 where
  done : {seen : Seen} → seen.body ≡ none → Walk seen [] [] []
  other : {seen : Seen} {x : Rec Identifier} {p : Part} {rs : List (Rec Identifier)} {ps : List Part}
      → is_folded x ≡ false → p.rec ≡ x → Stands seen p → Walk (seen_after seen x) [] rs ps → Walk seen [] (x ∷ rs) (p ∷ ps)
  leaf : {seen : Seen} {ws : Waits} {x : Instr Identifier} {p : Part} {rs : List (Rec Identifier)} {ps : List Part}
      → Operates seen x p → Walk seen (waiting ws) rs ps → Walk seen ws (folded x 0 ∷ rs) (p ∷ (followed ws ++ ps))
  node : {seen : Seen} {ws : Waits} {x : Instr Identifier} {n : ℕ} {p : Part} {rs : List (Rec Identifier)} {ps : List Part}
      → Operates seen x p → Walk seen ((n, p) ∷ ws) rs ps → Walk seen ws (folded x (suc n) ∷ rs) ps

-- ## Where no operand is due

-- the operands that are due
abbrev due_in : Option Inside → List ℕ
due_in none = []
due_in (some i) = i.due

-- the same place with none due
abbrev flat_in : Option Inside → Option Inside
flat_in none = none
flat_in (some i) = some (level i.blocks)

abbrev flat : Seen → Seen
flat seen = record { items = seen.items; body = flat_in seen.body; started = seen.started }

-- those that the parts that wait are waiting for
abbrev dues : Waits → List ℕ
dues ws = map (λ w. suc w.0) ws

-- where none is due it is the same place
flat_in_lem : (body : Option Inside) → due_in body ≡ [] → flat_in body ≡ body
flat_in_lem none e = refl
flat_in_lem (some i) e = λ j. some (record { blocks = i.blocks; due = sym e j })

flat_is : (seen : Seen) → due_in seen.body ≡ [] → flat seen ≡ seen
flat_is seen e = λ j. record { items = seen.items; body = flat_in_lem seen.body e j; started = seen.started }

-- an operand is complete, for both
dues_complete : (ws : Waits) → complete (dues ws) ≡ dues (waiting ws)
unfolding complete
dues_complete [] = refl
dues_complete ((zero, p) ∷ ws) = dues_complete ws
dues_complete ((suc n, p) ∷ ws) = let m : (suc (suc n) - 1) ≡ suc n = omega arith in rw (lt-leb (suc (suc n)) 1 (omega arith), m) refl

-- none is due where anything but a folded record stands
other-due : (free : Records.Room) (body : Option Inside) (s : Bytes) (here : ℕ) (x : Rec Identifier) (next : ℕ) → record_in free body s here ≡ got x next → is_folded x ≡ false → due_in body ≡ []
unfolding is_folded
other-due free none s here x next e f = refl
other-due free (some i) s here (field x) next e f = absurd (no_field i s here x next e)
other-due free (some i) s here (instr x) next e f = instr_not_due i s here x next e
other-due free (some i) s here (folded x n) next e f = absurd (false≢true (sym f))
other-due free (some i) s here body_end next e f = end_not_due i s here next e

-- a body begins with none due
field-due : (f : FieldRec Identifier) → due_in (field_body f) ≡ []
unfolding field_body source_body own_body
field-due (type_r i t) = refl
field-due (import_r n i d) = refl
field-due (item_r i es (own (own_func t ls))) = refl
field-due (item_r i es (own (own_table t))) = refl
field-due (item_r i es (own (own_mem l))) = refl
field-due (item_r i es (own (own_global t c))) = refl
field-due (item_r i es (imported n d)) = refl
field-due (item_r i es (table_of w xs)) = refl
field-due (item_r i es (mem_of w d)) = refl
field-due (export_r n k x) = refl
field-due (start_r x) = refl
field-due (elem_r i m xs) = refl
field-due (data_r i m d) = refl

-- nor after it
after-due : (body : Option Inside) (x : Rec Identifier) → is_folded x ≡ false → due_in body ≡ [] → due_in (body_after body x) ≡ []
unfolding body_after is_folded inside_after
after-due body (field f) n e = field-due f
after-due none (instr x) n e = refl
after-due (some i) (instr x) n e = e
after-due body (folded x k) n e = absurd (false≢true (sym n))
after-due body body_end n e = refl

-- ## One record

none_waits : (ws : Waits) → [] ≡ dues ws → ws ≡ []
none_waits [] e = refl
none_waits (w ∷ ws) e = let z : ◌≡◌ {A = ℕ} 0 1 = cc in absurd (omega arith)

-- an empty stream has no record
empty_faults : (free : Records.Room) (body : Option Inside) → record_in free body [] 0 ≡ fault 2
unfolding Records.field_rec body_rec byte
empty_faults free none = refl
empty_faults free (some i) = refl

-- a record that was read is read wherever its bytes stand
stands : (seen : Seen) (s : Bytes) (here : ℕ) (x : Rec Identifier) (next : ℕ) → one_record seen s here ≡ got x next → Spells (one_record seen) (slice here next s) x
stands seen s here x next e = spells (local_record seen) 2 (unfold one_record in empty_faults (Read.room seen) seen.body) s here x next e

-- the part of one that is not folded is all of it
abbrev pub whole : Bytes → ℕ → ℕ → Rec Identifier → Part
whole s here next x = record { operands = 0; rec = x; bytes = slice here next s }

pub other-part : (s : Bytes) (here next : ℕ) (x : Rec Identifier) → is_folded x ≡ false → part_of x s here next ≡ whole s here next x
unfolding part_of operands_of unfolded unfolded_bytes is_folded
other-part s here next (field f) n = refl
other-part s here next (instr x) n = refl
other-part s here next (folded x k) n = absurd (false≢true (sym n))
other-part s here next body_end n = refl

module _ (s : Bytes) (here next : ℕ) (rs : List (Rec Identifier)) (ps : List Part) where
  -- where no operand is due
  walk_other : (seen : Seen) (x : Rec Identifier) → is_folded x ≡ false → one_record seen s here ≡ got x next
      → ((ws : Waits) → due_in (seen_after seen x).body ≡ dues ws → Walk (flat (seen_after seen x)) ws rs (fill ws (groups ps)))
      → (ws : Waits) → due_in seen.body ≡ dues ws → Walk (flat seen) ws (x ∷ rs) (fill ws (groups (part_of x s here next ∷ ps)))
  unfolding one_record seen_after groups concat_map
  walk_other seen x n e f ws d =
      let a = other-due (Read.room seen) seen.body s here x next e n in
      let b = after-due seen.body x n a in
      let w : Walk (seen_after seen x) [] rs (fill [] (groups ps)) = subst (λ z. Walk z [] rs (fill [] (groups ps))) (flat_is (seen_after seen x) b) (f [] b) in
      let v : Walk seen [] (x ∷ rs) (whole s here next x ∷ fill [] (groups ps)) = other n refl (stands seen s here x next e) w in
      let u : Walk (flat seen) [] (x ∷ rs) (whole s here next x ∷ fill [] (groups ps)) = subst (λ z. Walk z [] (x ∷ rs) (whole s here next x ∷ fill [] (groups ps))) (sym (flat_is seen a)) v in
      rw (other-part s here next x n, none_waits ws (sym a ∙ d)) u

  -- a folded one, where others may wait
  module _ (items : List Space) (started : Bool) (i : Inside) (x : Instr Identifier) where
    abbrev flat_here : Seen
    flat_here = record { items = items; body = some (level i.blocks); started = started }

    operates : (n : ℕ) → Folding s here x next → Operates flat_here x (part_of (folded x n) s here next)
    unfolding part_of operands_of unfolded unfolded_bytes one_record seen_after items_after body_after started_after inside_after
    operates n f = record {
      is = refl;
      stands = f.spells i.blocks;
      stays = λ j. record { items = items; body = some (record { blocks = f.stays i.blocks j; due = [] }); started = started };
    }

    walk_folded : (n : ℕ) → body_rec i s here ≡ got (folded x n) next
        → ((ws : Waits) → awaiting n i.due ≡ dues ws → Walk flat_here ws rs (fill ws (groups ps)))
        → (ws : Waits) → i.due ≡ dues ws → Walk flat_here ws (folded x n ∷ rs) (fill ws (groups (part_of (folded x n) s here next ∷ ps)))
    unfolding awaiting groups part_of operands_of unfolded unfolded_bytes concat_map
    walk_folded zero e f ws d =
        rw (fill_first ws (part_of (folded x 0) s here next ∷ []) (groups ps))
        (leaf (operates 0 (folding i s here x 0 next e)) (f (waiting ws) (ap complete d ∙ dues_complete ws)))
    walk_folded (suc n) e f ws d =
        node (operates (suc n) (folding i s here x (suc n) next e))
        (f ((n, part_of (folded x (suc n)) s here next) ∷ ws) (ap (λ ns. suc n ∷ ns) d))

-- ## All records

walk_one : (s : Bytes) (here next : ℕ) (rs : List (Rec Identifier)) (ps : List Part) (seen : Seen) (x : Rec Identifier) → one_record seen s here ≡ got x next
    → ((ws : Waits) → due_in (seen_after seen x).body ≡ dues ws → Walk (flat (seen_after seen x)) ws rs (fill ws (groups ps)))
    → (ws : Waits) → due_in seen.body ≡ dues ws → Walk (flat seen) ws (x ∷ rs) (fill ws (groups (part_of x s here next ∷ ps)))
unfolding is_folded
walk_one s here next rs ps seen (field f) e = walk_other s here next rs ps seen (field f) refl e
walk_one s here next rs ps seen (instr x) e = walk_other s here next rs ps seen (instr x) refl e
walk_one s here next rs ps seen body_end e = walk_other s here next rs ps seen body_end refl e
walk_one s here next rs ps seen (folded x n) e = go seen.body (unfold one_record in e)
  where
    at : Option Inside → Seen
    at body = record { items = seen.items; body = body; started = seen.started }

    go : (body : Option Inside) → record_in (Read.room seen) body s here ≡ got (folded x n) next
        → ((ws : Waits) → due_in (seen_after (at body) (folded x n)).body ≡ dues ws → Walk (flat (seen_after (at body) (folded x n))) ws rs (fill ws (groups ps)))
        → (ws : Waits) → due_in body ≡ dues ws → Walk (flat (at body)) ws (folded x n ∷ rs) (fill ws (groups (part_of (folded x n) s here next ∷ ps)))
    go none e = let d = (came (Records.field_rec (Read.room seen) s here) e).rest in let z : ◌≡◌ {A = ℕ} 0 1 = cc in absurd (omega arith)
    go (some i) e = unfold seen_after items_after body_after started_after folded_after in walk_folded s here next rs ps seen.items seen.started i x n e

-- the parts of a stream that is read
pub walk : (rs : List (Rec Identifier)) (left r : ℕ) (seen : Seen) (s : Bytes) (here : ℕ) → records left r seen s here ≡ ok rs
    → (ws : Waits) → due_in seen.body ≡ dues ws → Walk (flat seen) ws rs (fill ws (groups (parts seen s here rs)))
unfolding parts
walk [] left r seen s here e ws d =
    let b = (last left r seen s here e).0 in
    let z = none_waits ws (sym (ap due_in b) ∙ d) in
    rw z (unfold groups concat_map in done (ap flat_in b))
walk (x ∷ rs) left r seen s here e ws d =
    let f = first left r seen s here x rs e in
    rw f.reads (walk_one s here f.next rs (parts (seen_after seen x) s f.next rs) seen x f.reads (walk rs f.fewer (r + 1) (seen_after seen x) s f.next f.goes_on) ws d)
