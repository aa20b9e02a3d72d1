-- Laws of element and data segments.
use Rattle.std.specs.Prelude.{Ok, Err, Option as Optional, Some, None}
use Rattle.syntax.specs.Refusals.{Resolved}
use Rattle.std.specs.Prelude.{if◌then◌else◌}
use Prim.Native.Nat.{ℕ}
use mathlib.Core.Path.{◌≡◌, refl, ◌∙◌}
use mathlib.Core.Bool.{Bool, true, false}
use mathlib.Core.List.{List, [], ◌∷◌, ◌++◌, append_assoc}
use mathlib.Core.Option.{Option, none, some}
use lib.Dec.{eqb}
use borrow.Author.Tests.{eq-eqb, ne_eqb}
use Rattle.definition.specs.Basic.{Answer, ok, ◌>>=◌, each}
use Rattle.definition.specs.Syntax as Syntax
use Rattle.definition.specs.Syntax.{Bytes, Identifier, Op, Mode, passive, active, funcs, tables, mems}
use Rattle.definition.specs.Deinline.{zero_offset}
use Rattle.definition.specs.Names.{Scope, item_no, const_op, table_no, resolve, is_absent}
use Rattle.definition.specs.Names as Names
use Rattle.definition.specs.Binary.{u, vec, sized, expr, elem, data', entries}
use Rattle.syntax.specs.Reads.{same, maybe}
use Rattle.syntax.specs.Refusals.{refused_by}
use Rattle.syntax.specs.declared.Refusal.{Refusal}
use Rattle.emit.specs.Put.{Put}
use Rattle.emit.proofs.Laws.{put_then, put_is}
use Rattle.syntax.specs.Tokens.{index_of}
use Rattle.syntax.specs.declared.Part.{Part}
use Rattle.syntax.specs.declared.Index.{Index}
use Rattle.syntax.specs.declared.Index.TheVariants as X
use Rattle.syntax.specs.Plain.{constant_at}
use Rattle.syntax.specs.Fields.{mode_of}
use Rattle.syntax.specs.declared.Mode as Code
use Rattle.syntax.specs.declared.Mode.TheVariants as M
use Rattle.binary.specs.Emits.{Wrote, Emits}
use Rattle.binary.proofs.Emitting.{wrote, halts, was_wrote, has_halted, emits-is, emits-map, emits_not, emits_then, emits-put}
use Rattle.import_export.specs.Entry.{entry_of}
use Rattle.segments.specs.Segments.{at_table, elem_mode, at_memory, data_mode}
use Rattle.operands.specs.Operands.{const_bytes, zero_op}

-- ## Bytes around a value's

module _ {A : Type 0} (f g : A → Bytes) (a : Answer A) (old : List ℕ) (at : ℕ) where
  -- before them
  before : (bs : Bytes) (o : ℕ) (mid : List ℕ) (q : Resolved ℕ) (new : List ℕ) → ((x : A) → bs ++ f x ≡ g x) → Put old at bs o mid → Emits f a mid o q new → Emits g a old at q new
  unfolding Emits
  before bs o mid (Ok q) new s p w = record { value = w.value; is = w.is; put = put_is (put_then p w.put) (s w.value) }
  before bs o mid (Err r) new s p w = w

  -- after them
  behind : (bs : Bytes) (q : Resolved ℕ) (o : ℕ) (mid : List ℕ) (r : ℕ) (new : List ℕ) → ((x : A) → f x ++ bs ≡ g x) → Emits f a old at q mid → q ≡ Ok o → Put mid o bs r new → Emits g a old at (Ok r) new
  unfolding Emits
  behind bs q o mid r new s w d p =
      let v : Wrote f a old at o mid = was_wrote f a old at mid q o w d in
      record { value = v.value; is = v.is; put = put_is (put_then v.put p) (s v.value) }

-- ## The table

module _ (Γ : Scope Identifier) (s : Bytes) (rec : ℕ) (x : Index) where
  module _ (n : ℕ) (told : item_no Γ tables rec (index_of s x) ≡ ok n) where
    table_is : table_no Γ rec (index_of s x) ≡ ok (if is_absent (index_of s x) then none else some n)
    unfolding table_no ◌>>=◌
    table_is = rw told

    pub table-absent : x ≡ X.Absent → table_no Γ rec (index_of s x) ≡ ok none
    unfolding is_absent
    table-absent d = table_is ∙ rw d

    pub table-number : (m : ℕ) → x ≡ X.Number m → table_no Γ rec (index_of s x) ≡ ok (some n)
    unfolding is_absent
    table-number m d = table_is ∙ rw d

    pub table-named : (p : Part) → x ≡ X.Named p → table_no Γ rec (index_of s x) ≡ ok (some n)
    unfolding is_absent
    table-named p d = table_is ∙ rw d

  pub table_not : (r : Refusal) → item_no Γ tables rec (index_of s x) ≡ refused_by r → table_no Γ rec (index_of s x) ≡ refused_by r
  unfolding table_no ◌>>=◌
  table_not r e = rw e

pub ruleset table-nos = (table-absent, table-number, table-named, table_not)

-- ## The mode of a segment: the table or the memory, and the offset

module _ (a : Answer Op) (old : List ℕ) (at o : ℕ) (mid : List ℕ) where
  pub no_table : (q : Resolved ℕ) (new : List ℕ) → Put old at (0 ∷ []) o mid → Emits const_bytes a mid o q new → Emits (at_table none) a old at q new
  unfolding at_table const_bytes
  no_table q new p w = before const_bytes (at_table none) a old at (0 ∷ []) o mid q new (λ x. refl) p w

  module _ (n : ℕ) (p : Put old at (2 ∷ u n) o mid) (q : Resolved ℕ) (b : List ℕ) (w : Emits const_bytes a mid o q b) where
    pub with_table : (e r : ℕ) (new : List ℕ) → q ≡ Ok e → Put b e (0 ∷ []) r new → Emits (at_table (some n)) a old at (Ok r) new
    unfolding at_table const_bytes
    with_table e r new d z =
        behind (λ x. 2 ∷ u n ++ expr (x ∷ [])) (at_table (some n)) a old at (0 ∷ []) q e b r new (λ x. refl)
        (before const_bytes (λ x. 2 ∷ u n ++ expr (x ∷ [])) a old at (2 ∷ u n) o mid q b (λ x. refl) p w) d z

    pub with_table_not : (r : Refusal) → q ≡ Err r → Emits (at_table (some n)) a old at (Err r) b
    with_table_not r d = halts (at_table (some n)) a old at b r (has_halted const_bytes a mid o b q r w d)

  pub with_memory : (m : ℕ) (q : Resolved ℕ) (new : List ℕ) → Put old at (if eqb m 0 then 0 ∷ [] else 2 ∷ u m) o mid → Emits const_bytes a mid o q new → Emits (at_memory m) a old at q new
  unfolding at_memory const_bytes
  with_memory m q new p w = before const_bytes (at_memory m) a old at (if eqb m 0 then 0 ∷ [] else 2 ∷ u m) o mid q new (λ x. refl) p w

module _ {X : Type 0} (Γ : Scope Identifier) (f : ℕ → Syntax.Index Identifier → Answer X) (bytes : Mode X Op → Bytes) (rec : ℕ) (x : Syntax.Index Identifier) (c : Syntax.Plain Identifier) (old : List ℕ) (at : ℕ) where
  abbrev Active : Answer (Mode X Op)
  Active = Names.mode_of Γ f rec (active x c)

  mode_on : (t : X) (g : Op → Bytes) (q : Resolved ℕ) (new : List ℕ) → ((o : Op) → g o ≡ bytes (active t o)) → f rec x ≡ ok t → Emits g (const_op Γ rec c) old at q new → Emits bytes Active old at q new
  unfolding Names.mode_of ◌>>=◌
  mode_on t g q new s e w =
      emits-is bytes (const_op Γ rec c >>= λ o. ok (active t o)) Active old at q new (rw e)
      (emits-map g bytes (λ o. active t o) (const_op Γ rec c) old at q new s w)

  mode_not : (r : Refusal) (new : List ℕ) → f rec x ≡ refused_by r → Emits bytes Active old at (Err r) new
  unfolding Names.mode_of ◌>>=◌
  mode_not r new e = halts bytes Active old at new r (rw e)

module _ (Γ : Scope Identifier) (rec : ℕ) (x : Syntax.Index Identifier) (c : Syntax.Plain Identifier) (old : List ℕ) (at : ℕ) (new : List ℕ) where
  module _ (y : Optional ℕ) (told : table_no Γ rec x ≡ ok (maybe same y)) where
    pub at_no_table : (q : Resolved ℕ) → y ≡ None → Emits (at_table none) (const_op Γ rec c) old at q new → Emits elem_mode (Names.mode_of Γ (table_no Γ) rec (active x c)) old at q new
    unfolding elem_mode
    at_no_table q d w = mode_on Γ (table_no Γ) elem_mode rec x c old at none (at_table none) q new (λ o. refl) (rw d at told) w

    pub at_table_lem : (n : ℕ) (q : Resolved ℕ) → y ≡ Some n → Emits (at_table (some n)) (const_op Γ rec c) old at q new → Emits elem_mode (Names.mode_of Γ (table_no Γ) rec (active x c)) old at q new
    unfolding elem_mode
    at_table_lem n q d w = mode_on Γ (table_no Γ) elem_mode rec x c old at (some n) (at_table (some n)) q new (λ o. refl) (rw d at told) w

  pub at-table_not : (r : Refusal) → table_no Γ rec x ≡ refused_by r → Emits elem_mode (Names.mode_of Γ (table_no Γ) rec (active x c)) old at (Err r) new
  at-table_not r d = mode_not Γ (table_no Γ) elem_mode rec x c old at r new d

  pub at_memory_lem : (m : ℕ) (q : Resolved ℕ) → item_no Γ mems rec x ≡ ok m → Emits (at_memory m) (const_op Γ rec c) old at q new → Emits data_mode (Names.mode_of Γ (item_no Γ mems) rec (active x c)) old at q new
  unfolding data_mode
  at_memory_lem m q d w = mode_on Γ (item_no Γ mems) data_mode rec x c old at m (at_memory m) q new (λ o. refl) d w

  pub at_memory_not : (r : Refusal) → item_no Γ mems rec x ≡ refused_by r → Emits data_mode (Names.mode_of Γ (item_no Γ mems) rec (active x c)) old at (Err r) new
  at_memory_not r d = mode_not Γ (item_no Γ mems) data_mode rec x c old at r new d

-- passive or active
module _ (Γ : Scope Identifier) (s : Bytes) (rec : ℕ) (m : Code.Mode) (old : List ℕ) (at : ℕ) (new : List ℕ) where
  pub elem-passive : (r : ℕ) → m ≡ M.Passive → Put old at (1 ∷ 0 ∷ []) r new → Emits elem_mode (Names.mode_of Γ (table_no Γ) rec (mode_of s m)) old at (Ok r) new
  unfolding elem_mode Names.mode_of
  elem-passive r d p = wrote elem_mode (Names.mode_of Γ (table_no Γ) rec (mode_of s m)) old at new passive r p (rw d)

  pub elem-active : (x : Index) (c : ℕ) (q : Resolved ℕ) → m ≡ M.Active x c → Emits elem_mode (Names.mode_of Γ (table_no Γ) rec (active (index_of s x) (constant_at s c))) old at q new → Emits elem_mode (Names.mode_of Γ (table_no Γ) rec (mode_of s m)) old at q new
  elem-active x c q d w = rw d w

  pub data_passive : (r : ℕ) → m ≡ M.Passive → Put old at (1 ∷ []) r new → Emits data_mode (Names.mode_of Γ (item_no Γ mems) rec (mode_of s m)) old at (Ok r) new
  unfolding data_mode Names.mode_of
  data_passive r d p = wrote data_mode (Names.mode_of Γ (item_no Γ mems) rec (mode_of s m)) old at new passive r p (rw d)

  pub data_active : (x : Index) (c : ℕ) (q : Resolved ℕ) → m ≡ M.Active x c → Emits data_mode (Names.mode_of Γ (item_no Γ mems) rec (active (index_of s x) (constant_at s c))) old at q new → Emits data_mode (Names.mode_of Γ (item_no Γ mems) rec (mode_of s m)) old at q new
  data_active x c q d w = rw d w

-- ## Segments

-- the mode, and then the functions
elem-bytes : (m : Mode (Option ℕ) Op) (ns : List ℕ) → elem_mode m ++ vec u ns ≡ entry_of (Syntax.elem_i m ns)
unfolding elem_mode at_table entry_of entries elem
elem-bytes passive ns = refl
elem-bytes (active none o) ns = refl
elem-bytes (active (some t) o) ns = append_assoc (2 ∷ u t ++ expr (o ∷ [])) (0 ∷ []) (vec u ns)

-- the mode, and then the bytes
data_bytes : (bs : Bytes) (m : Mode ℕ Op) → data_mode m ++ sized bs ≡ entry_of (Syntax.data_i m bs)
unfolding data_mode at_memory entry_of entries data'
data_bytes bs passive = refl
data_bytes bs (active m o) = refl

module _ (Γ : Scope Identifier) (rec : ℕ) (m : Mode (Syntax.Index Identifier) (Syntax.Plain Identifier)) (old : List ℕ) (at : ℕ) (q : Resolved ℕ) (mid : List ℕ) where
  module _ (xs : List (Syntax.Index Identifier)) (first : Emits elem_mode (Names.mode_of Γ (table_no Γ) rec m) old at q mid) where
    pub elem_to : (o : ℕ) (r : Resolved ℕ) (new : List ℕ) → q ≡ Ok o → Emits (vec u) (each (item_no Γ funcs rec) xs) mid o r new → Emits entry_of (resolve Γ rec (Syntax.elem_f none m xs)) old at r new
    unfolding resolve
    elem_to o r new d w = emits_then elem_mode (vec u) entry_of (λ y ns. Syntax.elem_i y ns) (Names.mode_of Γ (table_no Γ) rec m) (each (item_no Γ funcs rec) xs) old at q o mid r new elem-bytes first d w

    pub elem_not : (r : Refusal) → q ≡ Err r → Emits entry_of (resolve Γ rec (Syntax.elem_f none m xs)) old at (Err r) mid
    unfolding resolve
    elem_not r d = emits_not elem_mode entry_of (λ y. each (item_no Γ funcs rec) xs >>= λ ns. ok (Syntax.elem_i y ns)) (Names.mode_of Γ (table_no Γ) rec m) old at q r mid first d

  module _ (bs : Bytes) (first : Emits data_mode (Names.mode_of Γ (item_no Γ mems) rec m) old at q mid) where
    pub data_to : (o r : ℕ) (new : List ℕ) → q ≡ Ok o → Put mid o (sized bs) r new → Emits entry_of (resolve Γ rec (Syntax.data_f none m bs)) old at (Ok r) new
    unfolding resolve
    data_to o r new d p = emits-put data_mode entry_of (λ y. Syntax.data_i y bs) (Names.mode_of Γ (item_no Γ mems) rec m) old at (sized bs) q o mid r new (data_bytes bs) first d p

    pub data_not : (r : Refusal) → q ≡ Err r → Emits entry_of (resolve Γ rec (Syntax.data_f none m bs)) old at (Err r) mid
    unfolding resolve
    data_not r d = emits_not data_mode entry_of (λ y. ok (Syntax.data_i y bs)) (Names.mode_of Γ (item_no Γ mems) rec m) old at q r mid first d

-- ## Offset 0

-- the table, offset 0 and the kind
pub put-table : {a b c e : List ℕ} {at p q r : ℕ} (n : ℕ) (o : Op) → Put a at (2 ∷ u n) p b → Put b p (const_bytes o) q c → Put c q (0 ∷ []) r e → Put a at (at_table (some n) o) r e
unfolding at_table const_bytes
put-table n o x y z = put_then (put_then x y) z

module _ (Γ : Scope Identifier) (rec n : ℕ) where
  zero_mode : (wide : Bool) → Names.mode_of Γ (table_no Γ) rec (active (Syntax.own_index n) (zero_offset wide)) ≡ ok (active (some n) (zero_op wide))
  unfolding Names.mode_of table_no const_op Names.plain_op Names.immediate ◌>>=◌ zero_offset zero_op item_no Names.number_in is_absent
  zero_mode true = refl
  zero_mode false = refl

  pub inline_elem : (wide : Bool) (xs : List (Syntax.Index Identifier)) (old : List ℕ) (at o : ℕ) (mid : List ℕ) (q : Resolved ℕ) (new : List ℕ) → Put old at (at_table (some n) (zero_op wide)) o mid
      → Emits (vec u) (each (item_no Γ funcs rec) xs) mid o q new → Emits entry_of (resolve Γ rec (Syntax.elem_f none (active (Syntax.own_index n) (zero_offset wide)) xs)) old at q new
  unfolding elem_mode
  inline_elem wide xs old at o mid q new p w =
      let first : Emits elem_mode (Names.mode_of Γ (table_no Γ) rec (active (Syntax.own_index n) (zero_offset wide))) old at (Ok o) mid =
      wrote elem_mode (Names.mode_of Γ (table_no Γ) rec (active (Syntax.own_index n) (zero_offset wide))) old at mid (active (some n) (zero_op wide)) o p (zero_mode wide)
      in
      elem_to Γ rec (active (Syntax.own_index n) (zero_offset wide)) old at (Ok o) mid xs first o q new refl w

-- form 0 or form 2
module _ (m : ℕ) (old : List ℕ) (at r : ℕ) (new : List ℕ) where
  pub memory_0 : m ≡ 0 → Put old at (0 ∷ []) r new → Put old at (if eqb m 0 then 0 ∷ [] else 2 ∷ u m) r new
  memory_0 d p = rw (eq-eqb m 0 d) p

  pub memory_other : (m ≡ 0 → ⊥) → Put old at (2 ∷ u m) r new → Put old at (if eqb m 0 then 0 ∷ [] else 2 ∷ u m) r new
  memory_other d p = rw (ne_eqb m 0 d) p

-- the memory, offset 0 and the bytes
pub put_inline_lem : {a b c e : List ℕ} {at p q r : ℕ} (m : ℕ) (o : Op) (bs : Bytes) → Put a at (if eqb m 0 then 0 ∷ [] else 2 ∷ u m) p b → Put b p (const_bytes o) q c → Put c q (sized bs) r e → Put a at (data' (active m o) bs) r e
unfolding data' const_bytes
put_inline_lem m o bs x y z = put_then (put_then x y) z
