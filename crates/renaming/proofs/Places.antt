-- From a shape to its places: `places` puts in the place of each identifier how many stand before it. Any records that have the shape come
-- back from it by a naming of the places.
use mathlib.Core.Path.{◌≡◌, refl, ap, ◌∙◌, ap₂}
use Prim.Native.Nat.{ℕ, suc, ◌+◌}
use mathlib.Core.List.{List, [], ◌∷◌, ◌++◌, map, append_assoc, append-nil}
use mathlib.Core.Option.{Option, none, some}
use lib.ListN.{get_or}
use native.Mathlib.Nat.{add-zero, zero-add, add-suc, suc-add}
use Rattle.definition.specs.Syntax.{Space, ExternType, func, table, mem, global, Mode, passive, active, Index, absent, number, named, own_index, Local, TypeUse}
use Rattle.definition.specs.Syntax.{Operand, nothing, label, labels, local, item, items, access, int32, int64, raw, Plain, Instr, opens, elses, ends, indirect, plain}
use Rattle.definition.specs.Syntax.{Own, own_func, own_table, own_mem, own_global, Source, own, imported, table_of, mem_of}
use Rattle.definition.specs.Syntax.{FieldRec, type_r, import_r, item_r, export_r, start_r, elem_r, data_r, Rec, field, instr, folded, body_end}
use Rattle.renaming.specs.Shape.{map_id, map_index, map_pair, map_local, map_type_use, map_operand, map_plain, map_instr, map_extern, map_own, map_source, map_mode, map_field_rec, map_rec, shape}

-- ## Numbering

-- a thing whose places are numbered from a number on, and the number after them
abbrev Count : Type 0 → Type 0
Count A = ℕ → A × ℕ

-- with no part that has places, with one, with two, and a list of such parts
abbrev zero_of : {A : Type 0} → A → Count A
zero_of a n = (a, n)

abbrev one_of : {A C : Type 0} → (A → C) → Count A → Count C
one_of c u n = let a = u n in (c a.0, a.1)

abbrev two_of : {A B C : Type 0} → (A → B → C) → Count A → Count B → Count C
two_of c u v n = let a = u n in let b = v a.1 in (c a.0 b.0, b.1)

abbrev list_of : {A B : Type 0} → (A → Count B) → List A → Count (List B)
list_of p [] = zero_of []
list_of p (x ∷ xs) = two_of ◌∷◌ (p x) (list_of p xs)

abbrev U : Type 0
U = Unit {0}

abbrev number_id : Option U → Count (Option ℕ)
number_id none = zero_of none
number_id (some i) = λ n. (some n, suc n)

abbrev number_index : Index U → Count (Index ℕ)
number_index absent = zero_of absent
number_index (number n) = zero_of (number n)
number_index (named i) = λ n. (named n, suc n)
number_index (own_index n) = zero_of (own_index n)

abbrev number_pair : Space × Index U → Count (Space × Index ℕ)
number_pair x = one_of (λ y. (x.0, y)) (number_index x.1)

abbrev number_local : Local U → Count (Local ℕ)
number_local l = one_of (λ i. record { id = i; type = l.type }) (number_id l.id)

abbrev number_use : TypeUse U → Count (TypeUse ℕ)
number_use t = two_of (λ x ps. record { index = x; params = ps; results = t.results }) (number_index t.index) (list_of number_local t.params)

abbrev number_operand : Operand U → Count (Operand ℕ)
number_operand nothing = zero_of nothing
number_operand (label x) = one_of label (number_index x)
number_operand (labels xs x) = two_of labels (list_of number_index xs) (number_index x)
number_operand (local x) = one_of local (number_index x)
number_operand (item k x) = one_of (item k) (number_index x)
number_operand (items b xs) = one_of (items b) (list_of number_pair xs)
number_operand (access e o x) = one_of (access e o) (number_index x)
number_operand (int32 n) = zero_of (int32 n)
number_operand (int64 n) = zero_of (int64 n)
number_operand (raw bs) = zero_of (raw bs)

abbrev number_plain : Plain U → Count (Plain ℕ)
number_plain p = one_of (λ o. record { opcode = p.opcode; operand = o }) (number_operand p.operand)

abbrev number_instr : Instr U → Count (Instr ℕ)
number_instr (opens op l t) = two_of (opens op) (number_id l) (number_use t)
number_instr (elses l) = one_of elses (number_id l)
number_instr (ends l) = one_of ends (number_id l)
number_instr (indirect x t) = two_of indirect (number_index x) (number_use t)
number_instr (plain p) = one_of plain (number_plain p)

abbrev number_extern : ExternType (TypeUse U) → Count (ExternType (TypeUse ℕ))
number_extern (func t) = one_of func (number_use t)
number_extern (table t) = zero_of (table t)
number_extern (mem l) = zero_of (mem l)
number_extern (global g) = zero_of (global g)

abbrev number_own : Own U → Count (Own ℕ)
number_own (own_func t ls) = two_of own_func (number_use t) (list_of number_local ls)
number_own (own_table t) = zero_of (own_table t)
number_own (own_mem l) = zero_of (own_mem l)
number_own (own_global t c) = one_of (own_global t) (number_plain c)

abbrev number_source : Source U → Count (Source ℕ)
number_source (own o) = one_of own (number_own o)
number_source (imported n d) = one_of (imported n) (number_extern d)
number_source (table_of w xs) = one_of (table_of w) (list_of number_index xs)
number_source (mem_of w d) = zero_of (mem_of w d)

abbrev number_mode : Mode (Index U) (Plain U) → Count (Mode (Index ℕ) (Plain ℕ))
number_mode passive = zero_of passive
number_mode (active x c) = two_of active (number_index x) (number_plain c)

abbrev pair : {A B : Type 0} → A → B → A × B
pair a b = (a, b)

abbrev segment : {I : Type 0} → Option I → Mode (Index I) (Plain I) × List (Index I) → FieldRec I
segment i s = elem_r i s.0 s.1

abbrev number_field : FieldRec U → Count (FieldRec ℕ)
number_field (type_r i t) = one_of (λ i. type_r i t) (number_id i)
number_field (import_r n i d) = two_of (import_r n) (number_id i) (number_extern d)
number_field (item_r i es x) = two_of (λ i. item_r i es) (number_id i) (number_source x)
number_field (export_r n k x) = one_of (export_r n k) (number_index x)
number_field (start_r x) = one_of start_r (number_index x)
number_field (elem_r i m xs) = two_of segment (number_id i) (two_of pair (number_mode m) (list_of number_index xs))
number_field (data_r i m d) = two_of (λ i m. data_r i m d) (number_id i) (number_mode m)

abbrev number_rec : Rec U → Count (Rec ℕ)
number_rec (field x) = one_of field (number_field x)
number_rec (instr x) = one_of instr (number_instr x)
number_rec (folded x n) = one_of (λ y. folded y n) (number_instr x)
number_rec body_end = zero_of body_end

-- the places of some records, numbered from 0
pub places : List (Rec U) → List (Rec ℕ)
places rs = (list_of number_rec rs 0).0

-- ## Naming

module _ {I : Type 0} where
  -- `f` names the places from n on as a list says
  abbrev Reads : (ℕ → I) → ℕ → List I → Type 0
  Reads f n [] = Unit {0}
  Reads f n (i ∷ is) = (f n ≡ i) × Reads f (suc n) is

  -- x comes back from its shape, which u numbers: with `ids`, its identifiers in their order, as the names of the places, `put` makes it x again
  record Back {Z X : Type 0} (u : Count Z) (put : (ℕ → I) → Z → X) (x : X) : Type 0 where
    ids : List I
    back : (f : ℕ → I) (n : ℕ) (js : List I) → Reads f n (ids ++ js) → (put f (u n).0 ≡ x) × Reads f (u n).1 js

  back_zero : {Z X : Type 0} {put : (ℕ → I) → Z → X} {z : Z} {x : X} → ((f : ℕ → I) → put f z ≡ x) → Back (zero_of z) put x
  back_zero e = record { ids = []; back = λ f n js h. (e f, h) }

  back_one : {A C X Z : Type 0} (c : A → C) (d : X → Z) {u : Count A} {p : (ℕ → I) → A → X} {q : (ℕ → I) → C → Z} {x : X}
      → ((f : ℕ → I) (a : A) → q f (c a) ≡ d (p f a)) → Back u p x → Back (one_of c u) q (d x)
  back_one c d {u} e a = record { ids = a.ids; back = λ f n js h. let g = a.back f n js h in (e f (u n).0 ∙ ap d g.0, g.1) }

  back_two : {A B C X Y Z : Type 0} (c : A → B → C) (d : X → Y → Z) {u : Count A} {v : Count B}
      {p : (ℕ → I) → A → X} {q : (ℕ → I) → B → Y} {r : (ℕ → I) → C → Z} {x : X} {y : Y}
      → ((f : ℕ → I) (a : A) (b : B) → r f (c a b) ≡ d (p f a) (q f b)) → Back u p x → Back v q y → Back (two_of c u v) r (d x y)
  back_two c d {u} {v} e a b = record {
    ids = a.ids ++ b.ids;
    back = λ f n js h.
        let g = a.back f n (b.ids ++ js) (rw (append_assoc a.ids b.ids js) at h) in
        let k = b.back f (u n).1 js g.1 in
        (e f (u n).0 (v (u n).1).0 ∙ ap₂ d g.0 k.0, k.1);
  }

  back_id : (i : Option I) → Back (number_id (map_id (λ _. tt) i)) map_id i
  back_id none = back_zero (λ f. refl)
  back_id (some i) = record { ids = i ∷ []; back = λ f n js h. (ap some h.0, h.1) }

  back_index : (x : Index I) → Back (number_index (map_index (λ _. tt) x)) map_index x
  back_index absent = back_zero (λ f. refl)
  back_index (number n) = back_zero (λ f. refl)
  back_index (named i) = record { ids = i ∷ []; back = λ f n js h. (ap named h.0, h.1) }
  back_index (own_index n) = back_zero (λ f. refl)

  back_list : {X Y Z : Type 0} (p : Y → Count Z) (m : X → Y) {put : (ℕ → I) → Z → X}
      → ((x : X) → Back (p (m x)) put x) → (xs : List X) → Back (list_of p (map m xs)) (λ f. map (put f)) xs
  back_list p m b [] = back_zero (λ f. refl)
  back_list p m b (x ∷ xs) = back_two ◌∷◌ ◌∷◌ (λ f a b. refl) (b x) (back_list p m b xs)

  back_indices : (xs : List (Index I)) → Back (list_of number_index (map (map_index (λ _. tt)) xs)) (λ f. map (map_index f)) xs
  back_indices = back_list number_index (map_index (λ _. tt)) back_index

  back_pair : (x : Space × Index I) → Back (number_pair (map_pair (λ _. tt) x)) map_pair x
  back_pair x = back_one (λ y. (x.0, y)) (λ y. (x.0, y)) (λ f a. refl) (back_index x.1)

  back_local : (l : Local I) → Back (number_local (map_local (λ _. tt) l)) map_local l
  back_local l = back_one (λ i. record { id = i; type = l.type }) (λ i. record { id = i; type = l.type }) (λ f a. refl) (back_id l.id)

  back_locals : (ls : List (Local I)) → Back (list_of number_local (map (map_local (λ _. tt)) ls)) (λ f. map (map_local f)) ls
  back_locals = back_list number_local (map_local (λ _. tt)) back_local

  back_use : (t : TypeUse I) → Back (number_use (map_type_use (λ _. tt) t)) map_type_use t
  back_use t =
      back_two (λ x ps. record { index = x; params = ps; results = t.results }) (λ x ps. record { index = x; params = ps; results = t.results })
      (λ f a b. refl) (back_index t.index) (back_locals t.params)

  back_operand : (o : Operand I) → Back (number_operand (map_operand (λ _. tt) o)) map_operand o
  back_operand nothing = back_zero (λ f. refl)
  back_operand (label x) = back_one label label (λ f a. refl) (back_index x)
  back_operand (labels xs x) = back_two labels labels (λ f a b. refl) (back_indices xs) (back_index x)
  back_operand (local x) = back_one local local (λ f a. refl) (back_index x)
  back_operand (item k x) = back_one (item k) (item k) (λ f a. refl) (back_index x)
  back_operand (items b xs) = back_one (items b) (items b) (λ f a. refl) (back_list number_pair (map_pair (λ _. tt)) back_pair xs)
  back_operand (access e o x) = back_one (access e o) (access e o) (λ f a. refl) (back_index x)
  back_operand (int32 n) = back_zero (λ f. refl)
  back_operand (int64 n) = back_zero (λ f. refl)
  back_operand (raw bs) = back_zero (λ f. refl)

  back_plain : (p : Plain I) → Back (number_plain (map_plain (λ _. tt) p)) map_plain p
  back_plain p =
      back_one (λ o. record { opcode = p.opcode; operand = o }) (λ o. record { opcode = p.opcode; operand = o }) (λ f a. refl) (back_operand p.operand)

  back_instr : (x : Instr I) → Back (number_instr (map_instr (λ _. tt) x)) map_instr x
  back_instr (opens op l t) = back_two (opens op) (opens op) (λ f a b. refl) (back_id l) (back_use t)
  back_instr (elses l) = back_one elses elses (λ f a. refl) (back_id l)
  back_instr (ends l) = back_one ends ends (λ f a. refl) (back_id l)
  back_instr (indirect x t) = back_two indirect indirect (λ f a b. refl) (back_index x) (back_use t)
  back_instr (plain p) = back_one plain plain (λ f a. refl) (back_plain p)

  back_extern : (d : ExternType (TypeUse I)) → Back (number_extern (map_extern (λ _. tt) d)) map_extern d
  back_extern (func t) = back_one func func (λ f a. refl) (back_use t)
  back_extern (table t) = back_zero (λ f. refl)
  back_extern (mem l) = back_zero (λ f. refl)
  back_extern (global g) = back_zero (λ f. refl)

  back_own : (o : Own I) → Back (number_own (map_own (λ _. tt) o)) map_own o
  back_own (own_func t ls) = back_two own_func own_func (λ f a b. refl) (back_use t) (back_locals ls)
  back_own (own_table t) = back_zero (λ f. refl)
  back_own (own_mem l) = back_zero (λ f. refl)
  back_own (own_global t c) = back_one (own_global t) (own_global t) (λ f a. refl) (back_plain c)

  back_source : (x : Source I) → Back (number_source (map_source (λ _. tt) x)) map_source x
  back_source (own o) = back_one own own (λ f a. refl) (back_own o)
  back_source (imported n d) = back_one (imported n) (imported n) (λ f a. refl) (back_extern d)
  back_source (table_of w xs) = back_one (table_of w) (table_of w) (λ f a. refl) (back_indices xs)
  back_source (mem_of w d) = back_zero (λ f. refl)

  back_mode : (m : Mode (Index I) (Plain I)) → Back (number_mode (map_mode (λ _. tt) m)) map_mode m
  back_mode passive = back_zero (λ f. refl)
  back_mode (active x c) = back_two active active (λ f a b. refl) (back_index x) (back_plain c)

  back_field : (x : FieldRec I) → Back (number_field (map_field_rec (λ _. tt) x)) map_field_rec x
  back_field (type_r i t) = back_one (λ i. type_r i t) (λ i. type_r i t) (λ f a. refl) (back_id i)
  back_field (import_r n i d) = back_two (import_r n) (import_r n) (λ f a b. refl) (back_id i) (back_extern d)
  back_field (item_r i es x) = back_two (λ i. item_r i es) (λ i. item_r i es) (λ f a b. refl) (back_id i) (back_source x)
  back_field (export_r n k x) = back_one (export_r n k) (export_r n k) (λ f a. refl) (back_index x)
  back_field (start_r x) = back_one start_r start_r (λ f a. refl) (back_index x)
  back_field (elem_r i m xs) =
      back_two segment segment (λ f a b. refl) (back_id i)
      (back_two pair pair {r = λ f s. (map_mode f s.0, map (map_index f) s.1)} (λ f a b. refl) (back_mode m) (back_indices xs))
  back_field (data_r i m d) = back_two (λ i m. data_r i m d) (λ i m. data_r i m d) (λ f a b. refl) (back_id i) (back_mode m)

  back_rec : (x : Rec I) → Back (number_rec (map_rec (λ _. tt) x)) map_rec x
  back_rec (field x) = back_one field field (λ f a. refl) (back_field x)
  back_rec (instr x) = back_one instr instr (λ f a. refl) (back_instr x)
  back_rec (folded x n) = back_one (λ y. folded y n) (λ y. folded y n) (λ f a. refl) (back_instr x)
  back_rec body_end = back_zero (λ f. refl)

  back_recs : (rs : List (Rec I)) → Back (list_of number_rec (map (map_rec (λ _. tt)) rs)) (λ f. map (map_rec f)) rs
  back_recs = back_list number_rec (map_rec (λ _. tt)) back_rec

  -- ## The naming of some records

  -- a list says how it names the places
  reads : (d : I) (f : ℕ → I) (n : ℕ) (is : List I) → ((k : ℕ) → f (n + k) ≡ get_or is k d) → Reads f n is
  reads d f n [] h = tt
  reads d f n (i ∷ is) h = (rw add-zero at (h 0), reads d f (suc n) is (λ k. rw (suc-add, ← add-suc) (h (suc k))))

  -- the n-th identifier of some records; d where there is none
  pub naming : I → List (Rec I) → ℕ → I
  naming d rs n = get_or (back_recs rs).ids n d

  -- records come back from the places of their shape by their naming
  pub named_back : (d : I) (rs : List (Rec I)) → map (map_rec (naming d rs)) (places (shape rs)) ≡ rs
  unfolding places shape naming
  named_back d rs =
      ((back_recs rs).back (naming d rs) 0 [] (rw append-nil (reads d (naming d rs) 0 (back_recs rs).ids (λ k. rw zero-add)))).0
