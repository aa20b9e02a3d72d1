-- What a field's names mean under two namings of its places, `f` and `g`. `M k p` says that the place p is of the kind k, and the namings agree
-- on which places of one kind are equal.
use Rattle.std.specs.Prelude.{if◌then◌else◌}
use mathlib.Core.Path.{◌≡◌, refl, ap}
use Prim.Native.Nat.{ℕ, zero, suc, ◌+◌}
use mathlib.Core.Bool.{Bool, true, false, ◌&&◌, not}
use mathlib.Core.List.{List, [], ◌∷◌, ◌++◌, map, map-append}
use mathlib.Core.Option.{Option, none, some}
use lib.ListN.{replicate, length, length-map}
use Rattle.definition.specs.Basic.{Answer, ◌>>=◌, each, first_at, is_some, at, concat_map}
use Rattle.definition.specs.Syntax.{Space, funcs, tables, mems, types, FuncType, ExternType, func, table, mem, global, Mode, passive, active}
use Rattle.definition.specs.Syntax.{Index, absent, number, named, own_index, Local, TypeUse, TypeNo, Own, own_func, own_table, own_mem, own_global}
use Rattle.definition.specs.Syntax.{Operand, nothing, label, labels, local, item, items, access, int32, int64, raw, Plain, Instr, opens, elses, ends, indirect, plain}
use Rattle.definition.specs.Syntax.{Body, Field, type_f, import_f, own_f, export_f, start_f, elem_f, data_f}
use Rattle.definition.specs.Types.{is_inline, signature}
use Rattle.definition.specs.Names.{Namespace, Items, Scope, carries, find, taken, distinct, space, definers, defined_at, holder, found_at, number_in, count_in, param_count, param_names, locals_of, blocks_after}
use Rattle.definition.specs.Names.{item_no, checked, type_no_of, type_no, block_type, local_no, depth_of, immediate, plain_op, const_op, closes, instr_op, body}
use Rattle.definition.specs.Names.{distinct_locals, own_item, extern_no, table_no, mode_of, resolve}
use Rattle.renaming.specs.Shape.{map_id, map_index, map_pair, map_type_use, map_operand, map_plain, map_instr, map_extern, map_own, map_mode}
use Rattle.renaming.specs.Kinds.{Kind, in_space, local_of, label_of, Names, id_names, index_names, indices_names, items_names, local_names, type_names, operand_names, instr_names, extern_names, own_names, mode_names}
use Rattle.renaming.proofs.Every.{Every, parts, only, nothing_said, All, all_append}
use Rattle.renaming.proofs.Maps.{map_body, map_field, map_all, map_items, types-map, signature-map, is_inline-map, is_short-map, is_absent-map, space-map, locals_of-map, blocks_after-map}

-- two sequences are equal if both their halves are
pub bind_same : {A B : Type 0} {m n : Answer A} {k l : A → Answer B} → m ≡ n → ((a : A) → k a ≡ l a) → (m >>= k) ≡ (n >>= l)
bind_same e h = λ i. e i >>= λ a. h a i

-- the names of a function's body, and those that a field at record r uses
module _ {P : Type 0} where
  unfoldable pub body_names : ℕ → Body P → Names P
  body_names r xs = concat_map (λ x. instr_names r x.1) xs

  unfoldable pub used_names : ℕ → Field P → Names P
  used_names r (type_f i t) = []
  used_names r (import_f n i d) = extern_names d
  used_names r (own_f i o b) = own_names r o ++ body_names r b
  used_names r (export_f n k x) = index_names (in_space k) x
  used_names r (start_f x) = index_names (in_space funcs) x
  used_names r (elem_f i m xs) = mode_names r tables m ++ indices_names (in_space funcs) xs
  used_names r (data_f i m d) = mode_names r mems m

-- the namespace of a function's parameters and locals is of its kind, and so is that of its open blocks
module _ {P : Type 0} (M : Kind → P → Type 0) where
  nameless : (k : Kind) (n : ℕ) → All M k (replicate n none)
  unfolding id_names
  nameless k zero = tt
  nameless k (suc n) = (nothing_said, nameless k n)

  ids_all : (q : ℕ) (ls : List (Local P)) → Every M (local_names q ls) → All M (local_of q) (map (λ l. l.id) ls)
  unfolding local_names concat_map
  ids_all q [] h = tt
  ids_all q (l ∷ ls) h = (search parts, ids_all q ls (search parts))

  either_all : (k : Kind) (t : Bool) (ms ns : Namespace P) → All M k ms → All M k ns → All M k (if t then ms else ns)
  either_all k true ms ns h w = h
  either_all k false ms ns h w = w

  params-all : (q : ℕ) (ts : List FuncType) (n : TypeNo) (t : TypeUse P) → Every M (local_names q t.params) → All M (local_of q) (param_names ts n t)
  unfolding param_names
  params-all q ts n t h = either_all (local_of q) (is_inline t) _ _ (ids_all q t.params h) (nameless (local_of q) (param_count (at ts n.type_no)))

  locals-all : (q : ℕ) (ts : List FuncType) (n : TypeNo) (t : TypeUse P) (ls : List (Local P)) → Every M (own_names q (own_func t ls))
      → All M (local_of q) (locals_of ts n t ls)
  unfolding locals_of own_names
  locals-all q ts n t ls h =
      all_append M (local_of q) (param_names ts n t) (map (λ l. l.id) ls) (params-all q ts n t (search parts)) (ids_all q ls (search parts))

  blocks-after : (q : ℕ) (blocks : Namespace P) (x : Instr P) → All M (label_of q) blocks → Every M (instr_names q x)
      → All M (label_of q) (blocks_after blocks x)
  unfolding blocks_after instr_names
  blocks-after q blocks (opens op l t) w h = (search parts, w)
  blocks-after q blocks (elses l) w h = w
  blocks-after q [] (ends l) w h = w
  blocks-after q (b ∷ blocks) (ends l) w h = w.1
  blocks-after q blocks (indirect x t) w h = w
  blocks-after q blocks (plain p) w h = w

module _ {P I : Type 0} (eq : I → I → Bool) (f g : P → I) (M : Kind → P → Type 0)
    (same : (k : Kind) (p q : P) → M k p → M k q → eq (f p) (f q) ≡ eq (g p) (g q)) where
  -- ## Lookups

  carries_same : (k : Kind) (p : P) (x : Option P) → M k p → Every M (id_names k x) → carries eq (f p) (map_id f x) ≡ carries eq (g p) (map_id g x)
  unfolding id_names
  carries_same k p none m h = refl
  carries_same k p (some q) m h = same k p q m (only h)

  find-same : (k : Kind) (p : P) (ns : Namespace P) → M k p → All M k ns → find eq (f p) (map_all f ns) ≡ find eq (g p) (map_all g ns)
  unfolding find first_at
  find-same k p [] m h = refl
  find-same k p (x ∷ ns) m h = rw (carries_same k p x m h.0, find-same k p ns m h.1)

  number_in-same : (strict : Bool) (k : Kind) (ns : Namespace P) (limit r : ℕ) (x : Index P) → All M k ns → Every M (index_names k x)
      → number_in strict eq (map_all f ns) limit r (map_index f x) ≡ number_in strict eq (map_all g ns) limit r (map_index g x)
  unfolding number_in index_names
  number_in-same strict k ns limit r absent w h = refl
  number_in-same strict k ns limit r (number n) w h = refl
  number_in-same strict k ns limit r (named p) w h = ap (found_at r) (find-same k p ns (only h) w)
  number_in-same strict k ns limit r (own_index n) w h = refl

  taken-same : (k : Kind) (x : Option P) (ns : Namespace P) → Every M (id_names k x) → All M k ns
      → taken eq (map_id f x) (map_all f ns) ≡ taken eq (map_id g x) (map_all g ns)
  unfolding taken id_names
  taken-same k none ns h w = refl
  taken-same k (some p) ns h w = ap is_some (find-same k p ns (only h) w)

  pub holder-same : (k : Kind) (x : Option P) (ns : Namespace P) (rs : List ℕ) → Every M (id_names k x) → All M k ns
      → holder eq (map_id f x) (map_all f ns) rs ≡ holder eq (map_id g x) (map_all g ns) rs
  unfolding holder id_names
  holder-same k none ns rs h w = refl
  holder-same k (some p) ns rs h w = ap (defined_at rs) (find-same k p ns (only h) w)

  distinct-same : (k : Kind) (earlier ns : Namespace P) → All M k earlier → All M k ns
      → distinct eq (map_all f earlier) (map_all f ns) ≡ distinct eq (map_all g earlier) (map_all g ns)
  unfolding distinct
  distinct-same k earlier [] w h = refl
  distinct-same k earlier (x ∷ ns) w h =
      rw (taken-same k x earlier h.0 w, ← map-append (map_id f) earlier (x ∷ []), ← map-append (map_id g) earlier (x ∷ []))
      (ap (λ t. not (taken eq (map_id g x) (map_all g earlier)) && t)
      (distinct-same k (earlier ++ (x ∷ [])) ns (all_append M k earlier (x ∷ []) w (h.0, tt)) h.1))

  -- several indices
  each_same : {A : Type 0} (k : Kind) (u v : Index I → Answer A) → ((x : Index P) → Every M (index_names k x) → u (map_index f x) ≡ v (map_index g x))
      → (xs : List (Index P)) → Every M (indices_names k xs) → each u (map (map_index f) xs) ≡ each v (map (map_index g) xs)
  unfolding each indices_names concat_map
  each_same k u v e [] h = refl
  each_same k u v e (x ∷ xs) h = bind_same (e x (search parts)) (λ y. bind_same (each_same k u v e xs (search parts)) (λ ys. refl))

  -- ## In a module whose items are `xs` and whose types are `ts`

  module _ (strict : Bool) (xs : Items P) (ts : List FuncType) (well : (k : Space) → All M (in_space k) (space k xs)) where
    abbrev Γ₁ : Scope I
    Γ₁ = record { strict = strict; eq = eq; names = λ k. space k (map_items f xs); definers = λ k. definers k (map_items f xs); all_types = ts }

    abbrev Γ₂ : Scope I
    Γ₂ = record { strict = strict; eq = eq; names = λ k. space k (map_items g xs); definers = λ k. definers k (map_items g xs); all_types = ts }

    item_no-same : (k : Space) (r : ℕ) (x : Index P) → Every M (index_names (in_space k) x) → item_no Γ₁ k r (map_index f x) ≡ item_no Γ₂ k r (map_index g x)
    unfolding item_no count_in
    item_no-same k r x h = rw (space-map f k xs, space-map g k xs, length-map (space k xs) (map_id f), length-map (space k xs) (map_id g)) (number_in-same strict (in_space k) (space k xs) _ r x (well k) h)

    item_nos_same : (r : ℕ) (xs : List (Space × Index P)) → Every M (items_names xs)
        → each (λ x. item_no Γ₁ x.0 r x.1) (map (map_pair f) xs) ≡ each (λ x. item_no Γ₂ x.0 r x.1) (map (map_pair g) xs)
    unfolding each items_names concat_map
    item_nos_same r [] h = refl
    item_nos_same r ((k, x) ∷ xs) h = bind_same (item_no-same k r x (search parts)) (λ y. bind_same (item_nos_same r xs (search parts)) (λ ys. refl))

    checked-same : (r : ℕ) (t : Bool) (s : FuncType) (n : ℕ) → checked Γ₁ r t s n ≡ checked Γ₂ r t s n
    unfolding checked
    checked-same r t s n = refl

    type_no_of-same : (r : ℕ) (t : Bool) (s : FuncType) (x : Index P) → Every M (index_names (in_space types) x)
        → type_no_of Γ₁ r t s (map_index f x) ≡ type_no_of Γ₂ r t s (map_index g x)
    unfolding type_no_of
    type_no_of-same r t s absent h = refl
    type_no_of-same r t s (number n) h = bind_same (item_no-same types r (number n) h) (checked-same r t s)
    type_no_of-same r t s (named p) h = bind_same (item_no-same types r (named p) h) (checked-same r t s)
    type_no_of-same r t s (own_index n) h = bind_same (item_no-same types r (own_index n) h) (checked-same r t s)

    type_no-same : (r : ℕ) (t : TypeUse P) → Every M (type_names t) → type_no Γ₁ r (map_type_use f t) ≡ type_no Γ₂ r (map_type_use g t)
    unfolding type_no type_names
    type_no-same r t h =
        rw (is_inline-map f t, is_inline-map g t, signature-map f t, signature-map g t) (type_no_of-same r (is_inline t) (signature t) t.index h)

    block_type-same : (r : ℕ) (t : TypeUse P) → Every M (type_names t) → block_type Γ₁ r (map_type_use f t) ≡ block_type Γ₂ r (map_type_use g t)
    unfolding block_type
    block_type-same r t h =
        rw (is_absent-map f t.index, is_absent-map g t.index, is_short-map f t, is_short-map g t, type_no-same r t h)

    -- ## In the function at record q, whose parameters and locals are `locals`

    module _ (q : ℕ) (locals : Namespace P) (named-locals : All M (local_of q) locals) where
      local_no-same : (r : ℕ) (x : Index P) → Every M (index_names (local_of q) x)
          → local_no Γ₁ (map_all f locals) r (map_index f x) ≡ local_no Γ₂ (map_all g locals) r (map_index g x)
      unfolding local_no
      local_no-same r x h = rw (length-map locals (map_id f), length-map locals (map_id g)) (bind_same (number_in-same strict (local_of q) locals (length locals) r x named-locals h) (λ n. refl))

      depth_of-same : (blocks : Namespace P) → All M (label_of q) blocks → (r : ℕ) (x : Index P) → Every M (index_names (label_of q) x)
          → depth_of Γ₁ (map_all f blocks) r (map_index f x) ≡ depth_of Γ₂ (map_all g blocks) r (map_index g x)
      unfolding depth_of
      depth_of-same blocks w r x h = rw (length-map blocks (map_id f), length-map blocks (map_id g)) (bind_same (number_in-same strict (label_of q) blocks (length blocks + 1) r x w h) (λ n. refl))

      immediate-same : (blocks : Namespace P) → All M (label_of q) blocks → (r : ℕ) (o : Operand P) → Every M (operand_names q o)
          → immediate Γ₁ (map_all f locals) (map_all f blocks) r (map_operand f o) ≡ immediate Γ₂ (map_all g locals) (map_all g blocks) r (map_operand g o)
      unfolding immediate operand_names
      immediate-same blocks w r nothing h = refl
      immediate-same blocks w r (label x) h = bind_same (depth_of-same blocks w r x h) (λ d. refl)
      immediate-same blocks w r (labels xs x) h =
          bind_same (each_same (label_of q) _ _ (depth_of-same blocks w r) xs (search parts)) λ ds.
          bind_same (depth_of-same blocks w r x (search parts)) λ d. refl
      immediate-same blocks w r (local x) h = bind_same (local_no-same r x h) (λ n. refl)
      immediate-same blocks w r (item k x) h = bind_same (item_no-same k r x h) (λ n. refl)
      immediate-same blocks w r (items b xs) h = bind_same (item_nos_same r xs h) (λ ns. refl)
      immediate-same blocks w r (access e o x) h = bind_same (item_no-same mems r x h) (λ n. refl)
      immediate-same blocks w r (int32 n) h = refl
      immediate-same blocks w r (int64 n) h = refl
      immediate-same blocks w r (raw bs) h = refl

      plain_op-same : (blocks : Namespace P) → All M (label_of q) blocks → (r : ℕ) (p : Plain P) → Every M (operand_names q p.operand)
          → plain_op Γ₁ (map_all f locals) (map_all f blocks) r (map_plain f p) ≡ plain_op Γ₂ (map_all g locals) (map_all g blocks) r (map_plain g p)
      unfolding plain_op
      plain_op-same blocks w r p h = bind_same (immediate-same blocks w r p.operand h) (λ i. refl)

      closes-same : (blocks : Namespace P) → All M (label_of q) blocks → (r : ℕ) (l : Option P) → Every M (id_names (label_of q) l)
          → closes Γ₁ r (map_id f l) (map_all f blocks) ≡ closes Γ₂ r (map_id g l) (map_all g blocks)
      unfolding closes id_names
      closes-same blocks w r none h = refl
      closes-same [] w r (some p) h = refl
      closes-same (x ∷ blocks) w r (some p) h = rw (carries_same (label_of q) p x (only h) w.0)

      instr_op-same : (blocks : Namespace P) → All M (label_of q) blocks → (r : ℕ) (x : Instr P) → Every M (instr_names q x)
          → instr_op Γ₁ (map_all f locals) (map_all f blocks) r (map_instr f x) ≡ instr_op Γ₂ (map_all g locals) (map_all g blocks) r (map_instr g x)
      unfolding instr_op instr_names
      instr_op-same blocks w r (opens op l t) h = bind_same (block_type-same r t (search parts)) (λ b. refl)
      instr_op-same blocks w r (elses l) h = bind_same (closes-same blocks w r l h) (λ _. refl)
      instr_op-same blocks w r (ends l) h = bind_same (closes-same blocks w r l h) (λ _. refl)
      instr_op-same blocks w r (indirect x t) h =
          bind_same (item_no-same tables r x (search parts)) λ n. bind_same (type_no-same r t (search parts)) λ y. refl
      instr_op-same blocks w r (plain p) h = plain_op-same blocks w r p h

      body_same : (blocks : Namespace P) → All M (label_of q) blocks → (xs : Body P) → Every M (body_names q xs)
          → body Γ₁ (map_all f locals) (map_all f blocks) (map_body f xs) ≡ body Γ₂ (map_all g locals) (map_all g blocks) (map_body g xs)
      unfolding body body_names concat_map
      body_same blocks w [] h = refl
      body_same blocks w ((r, x) ∷ xs) h =
          rw (blocks_after-map f blocks x, blocks_after-map g blocks x)
          (bind_same (instr_op-same blocks w r x (search parts)) λ o.
          bind_same (body_same (blocks_after blocks x) (blocks-after M q blocks x w (search parts)) xs (search parts)) λ os. refl)

    const_op-same : (q r : ℕ) (c : Plain P) → Every M (operand_names q c.operand) → const_op Γ₁ r (map_plain f c) ≡ const_op Γ₂ r (map_plain g c)
    unfolding const_op
    const_op-same q r c h = plain_op-same q [] tt [] tt r c h

    -- ## Fields

    distinct_locals-same : (r : ℕ) (k : Kind) (ns : Namespace P) → All M k ns → distinct_locals Γ₁ r (map_all f ns) ≡ distinct_locals Γ₂ r (map_all g ns)
    unfolding distinct_locals
    distinct_locals-same r k ns h = rw (distinct-same k [] ns tt h)

    own_item-same : (r : ℕ) (o : Own P) (b : Body P) → Every M (own_names r o) → Every M (body_names r b)
        → own_item Γ₁ r (map_own f o) (map_body f b) ≡ own_item Γ₂ r (map_own g o) (map_body g b)
    unfolding own_item
    own_item-same r (own_func t ls) b h w =
        bind_same (type_no-same r t (unfold own_names in search parts)) λ n.
        let locals = locals_of ts n t ls in
        let named-locals = locals-all M r ts n t ls h in
        rw (locals_of-map f ts n t ls, locals_of-map g ts n t ls, types-map f ls, types-map g ls)
        (bind_same (distinct_locals-same r (local_of r) locals named-locals) λ _.
        bind_same (body_same r locals named-locals [] tt b w) λ os. refl)
    own_item-same r (own_table t) b h w = refl
    own_item-same r (own_mem l) b h w = refl
    own_item-same r (own_global t c) b h w = bind_same (const_op-same r r c (unfold own_names in h)) (λ o. refl)

    extern_no-same : (r : ℕ) (d : ExternType (TypeUse P)) → Every M (extern_names d) → extern_no Γ₁ r (map_extern f d) ≡ extern_no Γ₂ r (map_extern g d)
    unfolding extern_no extern_names
    extern_no-same r (func t) h = bind_same (type_no-same r t h) (λ n. refl)
    extern_no-same r (table t) h = refl
    extern_no-same r (mem l) h = refl
    extern_no-same r (global t) h = refl

    table_no-same : (r : ℕ) (x : Index P) → Every M (index_names (in_space tables) x) → table_no Γ₁ r (map_index f x) ≡ table_no Γ₂ r (map_index g x)
    unfolding table_no
    table_no-same r x h = rw (is_absent-map f x, is_absent-map g x) (bind_same (item_no-same tables r x h) (λ n. refl))

    mode_of-same : {X : Type 0} (k : Space) (u v : ℕ → Index I → Answer X)
        → ((r : ℕ) (x : Index P) → Every M (index_names (in_space k) x) → u r (map_index f x) ≡ v r (map_index g x))
        → (r : ℕ) (m : Mode (Index P) (Plain P)) → Every M (mode_names r k m) → mode_of Γ₁ u r (map_mode f m) ≡ mode_of Γ₂ v r (map_mode g m)
    unfolding mode_of mode_names
    mode_of-same k u v e r passive h = refl
    mode_of-same k u v e r (active x c) h = bind_same (e r x (search parts)) λ n. bind_same (const_op-same r r c (search parts)) λ o. refl

    pub resolve_same : (r : ℕ) (x : Field P) → Every M (used_names r x) → resolve Γ₁ r (map_field f x) ≡ resolve Γ₂ r (map_field g x)
    unfolding resolve used_names
    resolve_same r (type_f i t) h = refl
    resolve_same r (import_f n i d) h = bind_same (extern_no-same r d h) (λ e. refl)
    resolve_same r (own_f i o b) h = own_item-same r o b (search parts) (search parts)
    resolve_same r (export_f n k x) h = bind_same (item_no-same k r x h) (λ m. refl)
    resolve_same r (start_f x) h = bind_same (item_no-same funcs r x h) (λ m. refl)
    resolve_same r (elem_f i m xs) h =
        bind_same (mode_of-same tables (table_no Γ₁) (table_no Γ₂) table_no-same r m (search parts)) λ y.
        bind_same (each_same (in_space funcs) _ _ (item_no-same funcs r) xs (search parts)) λ ns. refl
    resolve_same r (data_f i m d) h = bind_same (mode_of-same mems (item_no Γ₁ mems) (item_no Γ₂ mems) (item_no-same mems) r m h) (λ y. refl)
