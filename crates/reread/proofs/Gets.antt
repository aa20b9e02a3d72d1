-- What the record of a function, or of its import, tells when it is known to be readable.
use Rattle.std.specs.Prelude.{if◌then◌else◌}
use mathlib.Core.Path.{◌≡◌, refl}
use mathlib.Core.Bool.{Bool, true, false}
use mathlib.Core.List.{List, []}
use mathlib.Core.Option.{Option}
use Prim.Native.Nat.{ℕ}
use lib.Dec.{eqb}
use borrow.Author.Tests.{ne_eqb, eqb-true}
use native.Mathlib.Omega.{arith}
use Rattle.definition.specs.Syntax.{Bytes, Identifier, Local, TypeUse, ImportName, func, funcs, import_r, item_r, imported, own, own_func}
use Rattle.definition.specs.Reader.{got, fault, onward, byte, choose}
use Rattle.definition.specs.Token.{identifier, string, counted, param, type_use}
use Rattle.definition.specs.Records.{Room, import_name, func_extern, import_of, import_rec, import_form, own_func_form, item_rec, func_rec, field_recs, field_rec}
use Rattle.token.specs.Known.{Gets}
use Rattle.token.proofs.Gets.{gets_first, gets_rest, gets_passed, gets_after}
use Rattle.syntax.specs.Reads.{Read}
use Rattle.syntax.specs.declared.Field.{Field}
use Rattle.syntax.proofs.Ways.{fault_handed}
use Rattle.sources.specs.Readers.{func_forms}
use Rattle.reread.specs.Known.{imported_item, ReadableField}
use Rattle.syntax.specs.Fields.{field_at}
use Rattle.item_records.specs.Readers.{own_item, imported_func}
use Rattle.reread.proofs.Gives.{other_record_lem, other_import}
use Rattle.reread.proofs.Heads.{other-field}

-- ## The form: a type use, and the locals

module _ (s : Bytes) (at : ℕ) where
  pub own_use : Gets (own_func_form s at) → Gets (type_use s at)
  unfolding own_func_form
  own_use g = gets_first _ (type_use s at) g

  pub own_locals : (t : TypeUse Identifier) (a : ℕ) → type_use s at ≡ got t a → Gets (own_func_form s at) → Gets (counted 64 param s a)
  unfolding own_func_form
  own_locals t a e g = gets_first _ (counted 64 param s a) (gets_rest _ (type_use s at) g t a e)

module _ (i : Option Identifier) (es : List Bytes) (s : Bytes) (at : ℕ) where
  module _ (t : TypeUse Identifier) (a : ℕ) (e : type_use s at ≡ got t a) where
    pub own_is : (ls : List (Local Identifier)) (n : ℕ) → counted 64 param s a ≡ got ls n → own_item i es s at ≡ got (item_r i es (own (own_func t ls))) n
    unfolding own_item own_func_form
    own_is ls n d = rw (e, d)

    pub own_cut : (k : ℕ) → counted 64 param s a ≡ fault k → own_item i es s at ≡ fault k
    unfolding own_item own_func_form
    own_cut k d = rw (e, d)

  pub own_not : (k : ℕ) → type_use s at ≡ fault k → own_item i es s at ≡ fault k
  unfolding own_item own_func_form
  own_not k e = rw e

pub ruleset known_owns = (own_use, own_locals, own_is, own_cut, own_not, fault_handed)

-- ## A function: an identifier, exports, a form

module _ (room : Room) (s : Bytes) (at : ℕ) (g : Gets (func_rec room s at)) where
  func_room : room.item funcs ≡ true
  unfolding func_rec item_rec
  func_room = gets_passed _ 7 (room.item funcs) s at g

  pub func_id : Gets (identifier s at)
  unfolding func_rec item_rec
  func_id = gets_first _ (identifier s at) (gets_after _ 7 (room.item funcs) s at g)

  pub func_unnamed : (k : ℕ) → identifier s at ≡ fault k → func_rec room s at ≡ fault k
  unfolding func_rec item_rec
  func_unnamed k e = rw (func_room, e)

  module _ (i : Option Identifier) (a : ℕ) (e : identifier s at ≡ got i a) where
    pub func_exports : Gets (counted 8 string s a)
    unfolding func_rec item_rec
    func_exports = gets_first _ (counted 8 string s a) (gets_rest _ (identifier s at) (gets_after _ 7 (room.item funcs) s at g) i a e)

    pub func_no_exports : (k : ℕ) → counted 8 string s a ≡ fault k → func_rec room s at ≡ fault k
    unfolding func_rec item_rec
    func_no_exports k f = rw (func_room, e, f)

    module _ (es : List Bytes) (b : ℕ) (f : counted 8 string s a ≡ got es b) where
      -- what follows the exports
      formed : Gets (onward (λ form n. onward (λ x m. got (item_r i es x) m) (choose form func_forms s n)) (byte s b))
      unfolding func_rec item_rec
      formed = gets_rest _ (counted 8 string s a) (gets_rest _ (identifier s at) (gets_after _ 7 (room.item funcs) s at g) i a e) es b f

      pub func_no_form : (k : ℕ) → byte s b ≡ fault k → func_rec room s at ≡ fault k
      unfolding func_rec item_rec
      func_no_form k h = rw (func_room, e, f, h)

      module _ (form n : ℕ) (h : byte s b ≡ got form n) where
        -- form 0 is an own function
        pub func_own : form ≡ 0 → Gets (own_func_form s n)
        func_own z = gets_first _ (own_func_form s n) (rw z at (gets_rest _ (byte s b) formed form n h))

        pub func_is : form ≡ 0 → func_rec room s at ≡ own_item i es s n
        unfolding func_rec item_rec own_item
        func_is z = rw (func_room, e, f, h, z)

        -- no other but form 1 can be read: an imported function
        module _ (z : form ≡ 0 → ⊥) where
          form_one : form ≡ 1
          form_one = go (eqb form 1) refl (rw (ne_eqb form 0 z) at (gets_rest _ (byte s b) formed form n h))
            where
              go : (u : Bool) → eqb form 1 ≡ u → Gets (onward (λ x m. got (item_r i es x) m) ((if u then import_form func_extern else choose form []) s n)) → form ≡ 1
              go true e g = eqb-true form 1 e
              go false e g = absurd (let d = g.is in let z : ◌≡◌ {A = ℕ} 0 1 = cc in omega arith)

          pub func_imported : Gets (import_form func_extern s n)
          func_imported = gets_first _ (import_form func_extern s n) (rw form_one at (gets_rest _ (byte s b) formed form n h))

          pub func_other : func_rec room s at ≡ imported_item i es s n
          unfolding func_rec item_rec imported_item
          func_other = rw (func_room, e, f, h, form_one)

pub ruleset known_funcs = (func_id, func_unnamed, func_exports, func_no_exports, func_no_form, func_own, func_is, func_imported, func_other, fault_handed)

-- ## One that is imported where it stands: two strings, a type use

module _ (s : Bytes) (at : ℕ) (g : Gets (import_form func_extern s at)) where
  pub inline_name : Gets (import_name s at)
  unfolding import_form
  inline_name = gets_first _ (import_name s at) g

  pub inline_use : (m : ImportName) (a : ℕ) → import_name s at ≡ got m a → Gets (type_use s a)
  unfolding import_form func_extern
  inline_use m a e = gets_first _ (type_use s a) (gets_first _ (func_extern s a) (gets_rest _ (import_name s at) g m a e))

module _ (i : Option Identifier) (es : List Bytes) (s : Bytes) (at : ℕ) where
  module _ (m : ImportName) (a : ℕ) (e : import_name s at ≡ got m a) where
    pub inline_is : (t : TypeUse Identifier) (b : ℕ) → type_use s a ≡ got t b → imported_item i es s at ≡ got (item_r i es (imported m (func t))) b
    unfolding imported_item import_form func_extern
    inline_is t b f = rw (e, f)

    pub inline_not : (k : ℕ) → type_use s a ≡ fault k → imported_item i es s at ≡ fault k
    unfolding imported_item import_form func_extern
    inline_not k f = rw (e, f)

  pub inline_unnamed : (k : ℕ) → import_name s at ≡ fault k → imported_item i es s at ≡ fault k
  unfolding imported_item import_form
  inline_unnamed k e = rw e

pub ruleset known_inlines = (inline_name, inline_use, inline_is, inline_not, inline_unnamed, fault_handed)

-- ## An imported function: an identifier, a type use

module _ (m : ImportName) (s : Bytes) (at : ℕ) where
  pub import_id : Gets (imported_func m s at) → Gets (identifier s at)
  unfolding imported_func
  import_id g = gets_first _ (identifier s at) g

  module _ (i : Option Identifier) (a : ℕ) (e : identifier s at ≡ got i a) where
    pub import_use : Gets (imported_func m s at) → Gets (type_use s a)
    unfolding imported_func func_extern
    import_use g = gets_first _ (type_use s a) (gets_first _ (func_extern s a) (gets_rest _ (identifier s at) g i a e))

    -- what both make, or the refusal of the type use
    pub imported_is : (t : TypeUse Identifier) (b : ℕ) → type_use s a ≡ got t b → imported_func m s at ≡ got (import_r m i (func t)) b
    unfolding imported_func func_extern
    imported_is t b f = rw (e, f)

    pub imported_not : (k : ℕ) → type_use s a ≡ fault k → imported_func m s at ≡ fault k
    unfolding imported_func func_extern
    imported_not k f = rw (e, f)

  -- or that of the identifier
  pub imported_unnamed : (k : ℕ) → identifier s at ≡ fault k → imported_func m s at ≡ fault k
  unfolding imported_func
  imported_unnamed k e = rw e

pub ruleset known_externs = (import_id, import_use, imported_is, imported_not, imported_unnamed, fault_handed)

-- ## An import: two strings, a kind

-- both strings of a name are readable
module _ (s : Bytes) (at : ℕ) (g : Gets (import_name s at)) where
  pub import_module : Gets (string s at)
  unfolding import_name
  import_module = gets_first _ (string s at) g

  pub import_item : (m : Bytes) (a : ℕ) → string s at ≡ got m a → Gets (string s a)
  unfolding import_name
  import_item m a e = gets_first _ (string s a) (gets_rest _ (string s at) g m a e)

pub ruleset known_names = (import_module, import_item)

module _ (room : Room) (s : Bytes) (at : ℕ) where
  pub import_unnamed : (k : ℕ) → import_name s at ≡ fault k → import_rec room s at ≡ fault k
  unfolding import_rec
  import_unnamed k e = rw e

  module _ (m : ImportName) (a : ℕ) (e : import_name s at ≡ got m a) where
    pub import_no_kind : (k : ℕ) → byte s a ≡ fault k → import_rec room s at ≡ fault k
    unfolding import_rec
    import_no_kind k h = rw (e, h)

  module _ (g : Gets (import_rec room s at)) where
    pub import_name_lem : Gets (import_name s at)
    unfolding import_rec
    import_name_lem = gets_first _ (import_name s at) g

    module _ (m : ImportName) (a : ℕ) (e : import_name s at ≡ got m a) (kind n : ℕ) (h : byte s a ≡ got kind n) where
      -- one that is not of kind 0 is of no function
      pub import_other : (kind ≡ 0 → ⊥) → (y : Read Field) → import_rec room s at ≡ field_at s y → ReadableField s y
      unfolding import_rec
      import_other z y p = other-field s y (import_rec room s at) p (λ x q k. other_import room s x m kind n q z (rw (e, h) at k))

      module _ (z : kind ≡ 0) where
        -- kind 0 is a function
        of_func : Gets (import_of room m funcs func_extern s n)
        unfolding import_rec
        of_func = rw z at (gets_rest _ (byte s a) (gets_rest _ (import_name s at) g m a e) kind n h)

        import_room : room.item funcs ≡ true
        unfolding import_of
        import_room = gets_passed _ 7 (room.item funcs) s n of_func

        pub import_func : Gets (imported_func m s n)
        unfolding import_of imported_func
        import_func = gets_after _ 7 (room.item funcs) s n of_func

        pub import_is : import_rec room s at ≡ imported_func m s n
        unfolding import_rec import_of imported_func
        import_is = rw (e, h, z, import_room)

pub ruleset known_imports = (import_unnamed, import_no_kind, import_name_lem, import_func, import_is, import_other, fault_handed)

-- ## A field record: 02 is an import, 03 is a function

module _ (room : Room) (s : Bytes) (at : ℕ) where
  pub field_none : (k : ℕ) → byte s at ≡ fault k → field_rec room s at ≡ fault k
  unfolding field_rec
  field_none k e = rw e

  module _ (b n : ℕ) (e : byte s at ≡ got b n) where
    -- what follows the byte
    chosen : Gets (field_rec room s at) → Gets (choose b (field_recs room) s n)
    unfolding field_rec
    chosen g = gets_rest _ (byte s at) g b n e

    pub field_import : b ≡ 0x02 → Gets (field_rec room s at) → Gets (import_rec room s n)
    unfolding field_recs
    field_import z g = rw z at (chosen g)

    pub field_func : b ≡ 0x03 → Gets (field_rec room s at) → Gets (func_rec room s n)
    unfolding field_recs
    field_func z g = rw z at (chosen g)

    pub field_import_is : b ≡ 0x02 → field_rec room s at ≡ import_rec room s n
    unfolding field_rec field_recs
    field_import_is z = rw (e, z)

    pub field_func_is : b ≡ 0x03 → field_rec room s at ≡ func_rec room s n
    unfolding field_rec field_recs
    field_func_is z = rw (e, z)

    -- after another byte there is no function
    pub field_other : (b ≡ 0x02 → ⊥) → (b ≡ 0x03 → ⊥) → (y : Read Field) → field_rec room s at ≡ field_at s y → ReadableField s y
    field_other h g y p = other-field s y (field_rec room s at) p (λ f q k. other_record_lem room s f at b n q e h g k)

pub ruleset known_fields = (field_none, field_import, field_func, field_import_is, field_func_is, field_other, fault_handed)
