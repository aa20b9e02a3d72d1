-- De-inlining (the crate's deinline_import_export.rs; the abbreviations of the standard, 6.6): from records to fields, each with the number
-- of its record. Exports come before their item, in their order; then inline data or elements at offset 0; then the item. After it the rule
-- that imports come first (refusal 11).
use Rattle.std.specs.Prelude.{ℕ, ◌+◌, ◌-◌, ◌/◌, Bool, true, false, List, [], ◌∷◌, ◌++◌, map, length, if◌then◌else◌}
use Rattle.std.proofs.Math.Option.{Option, none, some}
use Rattle.definition.specs.Basic.{Answer, ok, refused}
use Rattle.definition.specs.Syntax.{Space, Limits, active, own_index, own_table, own_mem, Plain, int32, int64}
use Rattle.definition.specs.Syntax.{Source, own, imported, table_of, mem_of, FieldRec, type_r, import_r, item_r, export_r, start_r, elem_r, data_r, Rec, field, instr, folded, body_end}
use Rattle.definition.specs.Syntax.{Body, Field, type_f, import_f, own_f, export_f, start_f, elem_f, data_f}
use Rattle.definition.specs.Spaces.{source_space, brings, count}
use Rattle.definition.specs.Folded.{body_of}

-- minimum and maximum alike
unfoldable pub exactly : Bool → ℕ → Limits
exactly wide n = record { is64 = wide; minimum = n; maximum = some n }

-- the pages of 65,536 bytes that hold so many bytes
unfoldable pub pages : ℕ → ℕ
pages n = (n + 65536 - 1) / 65536

-- offset 0: i64.const where the item is 64-bit, else i32.const
unfoldable pub zero_offset : {I : Type 0} → Bool → Plain I
zero_offset wide = if wide then record { opcode = 0x42; operand = int64 0 } else record { opcode = 0x41; operand = int32 0 }

-- the fields of an item that has the number `n` in its space; `b` is the body that follows
unfoldable pub source_fields : {I : Type 0} → Option I → ℕ → Source I → Body I → List (Field I)
source_fields i n (own o) b = own_f i o b ∷ []
source_fields i n (imported m d) b = import_f m i d ∷ []
source_fields i n (table_of wide xs) b =
    elem_f none (active (own_index n) (zero_offset wide)) xs
    ∷ own_f i (own_table (record { element = 0x70; limits = exactly wide (length xs) })) []
    ∷ []
source_fields i n (mem_of wide d) b =
    data_f none (active (own_index n) (zero_offset wide)) d
    ∷ own_f i (own_mem (exactly wide (pages (length d)))) []
    ∷ []

-- the fields of a record; `next` is the number of the next item of each space
unfoldable pub fields_of : {I : Type 0} → (Space → ℕ) → FieldRec I → Body I → List (Field I)
fields_of next (type_r i t) b = type_f i t ∷ []
fields_of next (import_r n i d) b = import_f n i d ∷ []
fields_of next (item_r i es x) b =
    let n = next (source_space x) in
    map (λ e. export_f e (source_space x) (own_index n)) es ++ source_fields i n x b
fields_of next (export_r n k x) b = export_f n k x ∷ []
fields_of next (start_r x) b = start_f x ∷ []
fields_of next (elem_r i m xs) b = elem_f i m xs ∷ []
fields_of next (data_r i m d) b = data_f i m d ∷ []

abbrev pub Numbered : Type 0 → Type 0
Numbered I = List (ℕ × Field I)

-- `seen` are the spaces of the items before
unfoldable pub deinline_from : {I : Type 0} → ℕ → List Space → List (Rec I) → Numbered I
deinline_from r seen [] = []
deinline_from r seen (field f ∷ rs) =
    map (λ x. (r, x)) (fields_of (λ k. count k seen) f (body_of (r + 1) rs)) ++ deinline_from (r + 1) (brings f ++ seen) rs
deinline_from r seen (instr x ∷ rs) = deinline_from (r + 1) seen rs
deinline_from r seen (folded x n ∷ rs) = deinline_from (r + 1) seen rs
deinline_from r seen (body_end ∷ rs) = deinline_from (r + 1) seen rs

unfoldable pub deinline : {I : Type 0} → List (Rec I) → Numbered I
deinline rs = deinline_from 0 [] rs

-- ## Import order (document 01's module 4; the crate's resolve/mod.rs)

-- `late`: an own function, table, memory or global has come
unfoldable pub imports_from : {I : Type 0} → Bool → Numbered I → Answer (Unit {0})
imports_from late [] = ok tt
imports_from late ((r, import_f n i d) ∷ fs) = if late then refused 11 r else imports_from late fs
imports_from late ((r, own_f i o b) ∷ fs) = imports_from true fs
imports_from late ((r, type_f i t) ∷ fs) = imports_from late fs
imports_from late ((r, export_f n k x) ∷ fs) = imports_from late fs
imports_from late ((r, start_f x) ∷ fs) = imports_from late fs
imports_from late ((r, elem_f i m xs) ∷ fs) = imports_from late fs
imports_from late ((r, data_f i m d) ∷ fs) = imports_from late fs

unfoldable pub import_order : {I : Type 0} → Numbered I → Answer (Unit {0})
import_order fs = imports_from false fs
