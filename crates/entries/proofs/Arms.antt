-- The entries, one kind after the other: what its emitter says is what the definition makes of it.
use Rattle.std.specs.Prelude.{Ok, Err}
use Rattle.syntax.specs.Refusals.{Resolved}
use Prim.Native.Nat.{ℕ, ◌*◌, ◌≤◌, ◌<◌, ◌^◌}
use mathlib.Core.Path.{◌≡◌, refl, sym, ap}
use mathlib.Core.Bool.{Bool, true, false}
use mathlib.Core.List.{List, [], ◌∷◌, append-nil}
use mathlib.Core.Option.{none}
use lib.ListN.{length}
use native.Mathlib.Omega.{arith}
use Rattle.definition.specs.Basic.{Answer, ok, ◌>>=◌, concat_map}
use Rattle.definition.specs.Syntax as Syntax
use Rattle.definition.specs.Syntax.{Bytes, Identifier, FuncType, number, own_index, active, import_f, own_f, own_global, export_f, start_f, elem_f, data_f}
use Rattle.definition.specs.Token as Token
use Rattle.definition.specs.Deinline.{exactly, pages, zero_offset}
use Rattle.definition.specs.Types as Types
use Rattle.definition.specs.Types.{used_at}
use Rattle.definition.specs.Names.{Scope, number_in, item_no, type_no, immediate, plain_op, const_op, mode_of, resolve}
use Rattle.definition.specs.Binary.{limits, table_type, data', joined, entries}
use Rattle.emit.specs.Put.{Put}
use Rattle.emit.proofs.Laws.{put_is, put-none}
use Rattle.syntax.specs.Tokens.{part_of, index_of, space_of}
use Rattle.syntax.specs.declared.Part.{Part}
use Rattle.syntax.specs.declared.Space.{Space}
use Rattle.syntax.specs.declared.Index.{Index}
use Rattle.syntax.specs.CoreTypes.{limits_is, table_type_is, global_type_is}
use Rattle.syntax.specs.declared.Limits.{Limits}
use Rattle.syntax.specs.declared.TableType.{TableType}
use Rattle.syntax.specs.declared.GlobalType.{GlobalType}
use Rattle.syntax.specs.TypeUses.{list_of, use_of}
use Rattle.syntax.specs.declared.List as Code
use Rattle.syntax.specs.declared.TypeUse.{TypeUse}
use Rattle.syntax.specs.Plain.{constant_at}
use Rattle.syntax.specs.Items.{name_of, extern_is}
use Rattle.syntax.specs.declared.ImportName.{ImportName}
use Rattle.syntax.specs.declared.Extern.{Extern}
use Rattle.syntax.specs.Fields as Fields
use Rattle.syntax.specs.declared.Mode.{Mode}
use Rattle.type_table.specs.Table.{Recalled}
use Rattle.binary.specs.Emits.{Emits}
use Rattle.import_export.specs.Entry.{entry_of, export_entries, Lists}
use Rattle.operands.specs.Operands.{zero_op}
use Rattle.import_export.specs.declared.export.Ends.{Ends}
use Rattle.deinline.specs.Entry.{section_no, one_of, type_bytes, answer_of, uses_of}
use Rattle.entries.specs.Listed.{Answers, one_end, NotCode}
use Rattle.syntax.specs.declared.Entry.{Entry}
use Rattle.syntax.specs.declared.Entry.TheVariants as E

-- ## Answers

one-joined : (bs : Bytes) → bs ≡ joined (bs ∷ [])
unfolding joined concat_map
one-joined bs = sym (append-nil bs)

-- an entry that was put
one-put : (a : Answer (List Bytes)) (bs : Bytes) (old : List ℕ) (at o : ℕ) (new : List ℕ) → a ≡ ok (bs ∷ []) → Put old at bs o new → Answers a old at (Ok (record { to = o; count = 1 })) new
unfolding Answers
one-put a bs old at o new e p = record { entries = bs ∷ []; is = e; put = put_is p (one-joined bs); number = refl }

-- no entry
no_put : (a : Answer (List Bytes)) (old : List ℕ) (at : ℕ) → a ≡ ok [] → length old * 1 < 2 ^ 63 → Answers a old at (Ok (record { to = at; count = 0 })) old
unfolding Answers joined concat_map
no_put a old at e h = record { entries = []; is = e; put = put-none at (omega arith); number = refl }

-- an entry that was resolved and put, or refused
one-emits : {A : Type 0} (bytes : A → Bytes) (a : Answer A) (old : List ℕ) (at : ℕ) (q : Resolved ℕ) (x : Resolved Ends) (new : List ℕ) → Emits bytes a old at q new → x ≡ one_end q → Answers (one_of bytes a) old at x new
unfolding Emits Answers one_of
one-emits bytes a old at (Ok o) x new w e =
    rw e (one-put (one_of bytes a) (bytes w.value) old at o new (ap (one_of bytes) w.is) w.put)
one-emits bytes a old at (Err r) x new w e = rw e (ap (one_of bytes) w)

-- ## Each kind

module _ (Γ : Scope Identifier) (s : Bytes) (r : ℕ) (e : Entry) (old : List ℕ) (at : ℕ) where
  abbrev Arm : Resolved Ends → List ℕ → Type 0
  Arm x new = Answers (answer_of Γ s r e) old at x new

  pub arm_nothing : e ≡ E.Nothing → length old * 1 < 2 ^ 63 → Arm (Ok (record { to = at; count = 0 })) old
  unfolding answer_of
  arm_nothing d h = no_put (answer_of Γ s r e) old at (rw d) h

  module _ (o : ℕ) (x : Resolved Ends) (new : List ℕ) where
    pub arm_table : (t : TableType) → e ≡ E.Table t → Put old at (table_type (table_type_is t)) o new → x ≡ one_end (Ok o) → Arm x new
    unfolding answer_of
    arm_table t d p g = rw g (one-put (answer_of Γ s r e) _ old at o new (rw d) p)

    pub arm_inline_table : (w : Bool) (xs : Code.List) → e ≡ E.InlineTable w xs
        → Put old at (table_type (record { element = 0x70; limits = exactly w (length (list_of Token.present s xs)) })) o new → x ≡ one_end (Ok o) → Arm x new
    unfolding answer_of
    arm_inline_table w xs d p g = rw g (one-put (answer_of Γ s r e) _ old at o new (rw d) p)

    pub arm_mem : (l : Limits) → e ≡ E.Mem l → Put old at (limits (limits_is l)) o new → x ≡ one_end (Ok o) → Arm x new
    unfolding answer_of
    arm_mem l d p g = rw g (one-put (answer_of Γ s r e) _ old at o new (rw d) p)

    pub arm_inline_mem : (w : Bool) (b : Part) → e ≡ E.InlineMem w b → Put old at (limits (exactly w (pages (length (part_of s b))))) o new → x ≡ one_end (Ok o) → Arm x new
    unfolding answer_of
    arm_inline_mem w b d p g = rw g (one-put (answer_of Γ s r e) _ old at o new (rw d) p)

    -- an inline segment's offset needs no name, nor does its item's number
    inline_data : (w : Bool) (n : ℕ) (b : Bytes) → resolve Γ r (data_f none (active (own_index n) (zero_offset w)) b) ≡ ok (Syntax.data_i (active n (zero_op w)) b)
    unfolding resolve mode_of item_no number_in const_op plain_op immediate ◌>>=◌ zero_offset zero_op
    inline_data true n b = refl
    inline_data false n b = refl

    pub arm_inline_data : (w : Bool) (n : ℕ) (b : Part) → e ≡ E.InlineData w n b → Put old at (data' (active n (zero_op w)) (part_of s b)) o new → x ≡ one_end (Ok o) → Arm x new
    unfolding answer_of one_of entry_of entries
    arm_inline_data w n b d p g = rw g (one-put (answer_of Γ s r e) _ old at o new (rw (d, inline_data w n (part_of s b))) p)

  pub arm_exports : (es : Code.List) (k : Space) (n : ℕ) (q : Ends) (new : List ℕ) → e ≡ E.Exports es k n → Lists (export_entries (space_of k) n (list_of Token.string s es)) old at q new → Arm (Ok q) new
  unfolding answer_of Answers
  arm_exports es k n q new d l = rw d (record { entries = export_entries (space_of k) n (list_of Token.string s es); is = refl; put = l.put; number = l.number })

  module _ (q : Resolved ℕ) (x : Resolved Ends) (new : List ℕ) where
    pub arm_import : (n : ImportName) (i : Extern) → e ≡ E.Import n i → Emits entry_of (resolve Γ r (import_f (name_of s n) none (extern_is s i))) old at q new → x ≡ one_end q → Arm x new
    unfolding answer_of
    arm_import n i d w g = rw d (one-emits entry_of _ old at q x new w g)

    pub arm_func : (t : TypeUse) → e ≡ E.Func t → Emits type_bytes (type_no Γ r (use_of s t)) old at q new → x ≡ one_end q → Arm x new
    unfolding answer_of
    arm_func t d w g = rw d (one-emits type_bytes _ old at q x new w g)

    pub arm_global : (t : GlobalType) (c : ℕ) → e ≡ E.Global t c → Emits entry_of (resolve Γ r (own_f none (own_global (global_type_is t) (constant_at s c)) [])) old at q new → x ≡ one_end q → Arm x new
    unfolding answer_of
    arm_global t c d w g = rw d (one-emits entry_of _ old at q x new w g)

    pub arm_export : (n : Part) (k : Space) (y : Index) → e ≡ E.Export n k y → Emits entry_of (resolve Γ r (export_f (part_of s n) (space_of k) (index_of s y))) old at q new → x ≡ one_end q → Arm x new
    unfolding answer_of
    arm_export n k y d w g = rw d (one-emits entry_of _ old at q x new w g)

    pub arm_start : (y : Index) → e ≡ E.Start y → Emits entry_of (resolve Γ r (start_f (index_of s y))) old at q new → x ≡ one_end q → Arm x new
    unfolding answer_of
    arm_start y d w g = rw d (one-emits entry_of _ old at q x new w g)

    pub arm_elem : (m : Mode) (xs : Code.List) → e ≡ E.Elem m xs → Emits entry_of (resolve Γ r (elem_f none (Fields.mode_of s m) (list_of Token.present s xs))) old at q new → x ≡ one_end q → Arm x new
    unfolding answer_of
    arm_elem m xs d w g = rw d (one-emits entry_of _ old at q x new w g)

    pub arm_inline_elem : (b : Bool) (n : ℕ) (xs : Code.List) → e ≡ E.InlineElem b n xs → Emits entry_of (resolve Γ r (elem_f none (active (own_index n) (zero_offset b)) (list_of Token.present s xs))) old at q new → x ≡ one_end q → Arm x new
    unfolding answer_of
    arm_inline_elem b n xs d w g = rw d (one-emits entry_of _ old at q x new w g)

    pub arm_data : (m : Mode) (b : Part) → e ≡ E.Data m b → Emits entry_of (resolve Γ r (data_f none (Fields.mode_of s m) (part_of s b))) old at q new → x ≡ one_end q → Arm x new
    unfolding answer_of
    arm_data m b d w g = rw d (one-emits entry_of _ old at q x new w g)

-- ## Which are left

-- after an arm for each entry of the sections 2 to 6
pub late : (e : Entry)
    → (e ≡ E.Nothing → ⊥)
    → ((n : ImportName) (x : Extern) → e ≡ E.Import n x → ⊥)
    → ((t : TypeUse) → e ≡ E.Func t → ⊥)
    → ((t : TableType) → e ≡ E.Table t → ⊥)
    → ((w : Bool) (xs : Code.List) → e ≡ E.InlineTable w xs → ⊥)
    → ((l : Limits) → e ≡ E.Mem l → ⊥)
    → ((w : Bool) (d : Part) → e ≡ E.InlineMem w d → ⊥)
    → ((t : GlobalType) (c : ℕ) → e ≡ E.Global t c → ⊥)
    → 7 ≤ section_no e
late E.Nothing h _ _ _ _ _ _ _ = absurd (h refl)
late (E.Import n x) _ h _ _ _ _ _ _ = absurd (h n x refl)
late (E.Func t) _ _ h _ _ _ _ _ = absurd (h t refl)
late (E.Table t) _ _ _ h _ _ _ _ = absurd (h t refl)
late (E.InlineTable w xs) _ _ _ _ h _ _ _ = absurd (h w xs refl)
late (E.Mem l) _ _ _ _ _ h _ _ = absurd (h l refl)
late (E.InlineMem w d) _ _ _ _ _ _ h _ = absurd (h w d refl)
late (E.Global t c) _ _ _ _ _ _ _ h = absurd (h t c refl)
late (E.Export n k x) _ _ _ _ _ _ _ _ = omega arith
late (E.Exports es k n) _ _ _ _ _ _ _ _ = omega arith
late (E.Start x) _ _ _ _ _ _ _ _ = omega arith
late (E.Elem m xs) _ _ _ _ _ _ _ _ = omega arith
late (E.InlineElem w n xs) _ _ _ _ _ _ _ _ = omega arith
late (E.Code t ls here) _ _ _ _ _ _ _ _ = omega arith
late (E.Data m d) _ _ _ _ _ _ _ _ = omega arith
late (E.InlineData w n d) _ _ _ _ _ _ _ _ = omega arith

-- after an arm for each of the others but code
none_left : (e : Entry) → NotCode e → 7 ≤ section_no e
    → ((n : Part) (k : Space) (x : Index) → e ≡ E.Export n k x → ⊥)
    → ((es : Code.List) (k : Space) (n : ℕ) → e ≡ E.Exports es k n → ⊥)
    → ((x : Index) → e ≡ E.Start x → ⊥)
    → ((m : Mode) (xs : Code.List) → e ≡ E.Elem m xs → ⊥)
    → ((w : Bool) (n : ℕ) (xs : Code.List) → e ≡ E.InlineElem w n xs → ⊥)
    → ((m : Mode) (d : Part) → e ≡ E.Data m d → ⊥)
    → ((w : Bool) (n : ℕ) (d : Part) → e ≡ E.InlineData w n d → ⊥)
    → ⊥
none_left E.Nothing q l _ _ _ _ _ _ _ = omega arith
none_left (E.Import n x) q l _ _ _ _ _ _ _ = omega arith
none_left (E.Func t) q l _ _ _ _ _ _ _ = omega arith
none_left (E.Table t) q l _ _ _ _ _ _ _ = omega arith
none_left (E.InlineTable w xs) q l _ _ _ _ _ _ _ = omega arith
none_left (E.Mem l) q m _ _ _ _ _ _ _ = omega arith
none_left (E.InlineMem w d) q l _ _ _ _ _ _ _ = omega arith
none_left (E.Global t c) q l _ _ _ _ _ _ _ = omega arith
none_left (E.Export n k x) q l h _ _ _ _ _ _ = h n k x refl
none_left (E.Exports es k n) q l _ h _ _ _ _ _ = h es k n refl
none_left (E.Start x) q l _ _ h _ _ _ _ = h x refl
none_left (E.Elem m xs) q l _ _ _ h _ _ _ = h m xs refl
none_left (E.InlineElem w n xs) q l _ _ _ _ h _ _ = h w n xs refl
none_left (E.Code t ls here) q l _ _ _ _ _ _ _ = q.other refl
none_left (E.Data m d) q l _ _ _ _ _ h _ = h m d refl
none_left (E.InlineData w n d) q l _ _ _ _ _ _ h = h w n d refl

pub arm_left : (Γ : Scope Identifier) (s : Bytes) (r : ℕ) (e : Entry) (old : List ℕ) (at : ℕ) (new : List ℕ) → NotCode e → 7 ≤ section_no e
    → ((n : Part) (k : Space) (x : Index) → e ≡ E.Export n k x → ⊥)
    → ((es : Code.List) (k : Space) (n : ℕ) → e ≡ E.Exports es k n → ⊥)
    → ((x : Index) → e ≡ E.Start x → ⊥)
    → ((m : Mode) (xs : Code.List) → e ≡ E.Elem m xs → ⊥)
    → ((w : Bool) (n : ℕ) (xs : Code.List) → e ≡ E.InlineElem w n xs → ⊥)
    → ((m : Mode) (d : Part) → e ≡ E.Data m d → ⊥)
    → ((w : Bool) (n : ℕ) (d : Part) → e ≡ E.InlineData w n d → ⊥)
    → Answers (answer_of Γ s r e) old at (Ok (record { to = at; count = 0 })) new
arm_left Γ s r e old at new q l a b d f g i j = absurd (none_left e q l a b d f g i j)

-- ## Their uses

module _ (w : List ℕ) (ts : List FuncType) (s : Bytes) (r : ℕ) (e : Entry) (all : Recalled w ts (uses_of s r e)) where
  pub uses_import : (n : ImportName) (i : Extern) → e ≡ E.Import n i → Recalled w ts (used_at r (Types.extern_uses (extern_is s i)))
  unfolding uses_of
  uses_import n i d = rw d at all

  pub uses-func : (t : TypeUse) → e ≡ E.Func t → Recalled w ts (used_at r (Types.use_of (use_of s t)))
  unfolding uses_of
  uses-func t d = rw d at all
