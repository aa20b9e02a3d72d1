-- Laws of the walk over declared types.
use Rattle.std.specs.Prelude.{Some, None}
use Prim.Native.Nat.{ℕ, ◌+◌, ◌-◌, ◌*◌, ◌≤◌, ◌<◌}
use mathlib.Core.Path.{◌≡◌, refl, sym, ◌∙◌, ap}
use mathlib.Core.List.{List, [], ◌∷◌, ◌++◌, map, append-nil, append_assoc}
use lib.ListN.{length, get_or, length-set, length-append}
use lib.Seq.{get_or-set_same, get_or-set_other}
use borrow.Author.Tests.{ltb-true, lt-ltb}
use native.Mathlib.Omega.{arith}
use Rattle.definition.specs.Syntax as Syntax
use Rattle.definition.specs.Syntax.{Bytes, Identifier, Space, tables, mems, types, elems, datas, code, FuncType, ExternType, Body, Own, Source}
use Rattle.definition.specs.Reader.{got}
use Rattle.definition.specs.Token.{val_type, string}
use Rattle.definition.specs.Records.{field_rec}
use Rattle.definition.specs.Spaces.{extern_space, own_space, source_space, segments, brings}
use Rattle.definition.specs.Deinline.{Numbered, fields_of}
use Rattle.definition.specs.Types.{declared_by, declared}
use Rattle.area.specs.Layout.{DECLARED, HEADS, TYPES}
use Rattle.syntax.specs.TypeUses.{list_of}
use Rattle.syntax.specs.declared.List as Code
use Rattle.syntax.specs.Tokens.{id_of}
use Rattle.syntax.specs.Items.{count_of, room_of, extern_is, source_of}
use Rattle.syntax.specs.declared.Seen.{Seen}
use Rattle.syntax.specs.Fields.{field_of}
use Rattle.syntax.specs.declared.Field.{Field}
use Rattle.syntax.specs.declared.Field.TheVariants as F
use Rattle.counting.specs.Counting.{up, one_more}
use Rattle.area.specs.Kept.{Kept}
use Rattle.area.specs.Lent.{Lent}
use Rattle.area.proofs.Kept.{kept_same, kept_then, kept_less, kept_word}
use Rattle.type_table.specs.Table.{types_of, signature_of, type_table, Indexed, Emptied, Adds}
use Rattle.type_table.proofs.Indexed.{index-none}
use Rattle.type_table.proofs.Types.{table-length}
use Rattle.walk.specs.Walk.{counting, seen_with, begin, cursor_after, visit_in, visit_of, fields_here, fields_ahead, fields_in, Ahead}
use Rattle.walk.specs.declared.Cursor.{Cursor}
use Rattle.walk.specs.declared.Met.{Met}
use Rattle.walk.proofs.Steps.{visit_done, visit_read, visit_next, visit_fields, visit_ahead, ahead-kept}
use Rattle.laws.proofs.Declared.{declared-append, item-declares}
use Rattle.interning.specs.Declaring.{listed, declared_in, HasRoom, Declares, DeclaredAll}
use Rattle.interning.proofs.Room.{type-room}

-- ## One field

module _ (s w : List ℕ) (count : ℕ) (f : Field) (v : Indexed s w count) where
  pub room-type : (i : _) (ps rs : Code.List) → HasRoom count f → f ≡ F.Type i ps rs → count < 256
  room-type i ps rs h e = rw e at h

  pub declare_type_lem : (i : _) (ps rs : Code.List) (w' : List ℕ) → f ≡ F.Type i ps rs → Adds s w count (listed ps rs) w' → Declares s w count f (count + 1) w'
  declare_type_lem i ps rs w' e a = record { types = rw e a.types; indexed = a.indexed; kept = kept_less TYPES (TYPES + 5 * count) (omega arith) a.inside.kept }

  nothing : declared_in s f ≡ [] → Declares s w count f count w
  nothing e = record { indexed = v; types = rw (e, append-nil (type_table count s w TYPES)); kept = kept_same TYPES w }

  pub declare_import : (n : _) (i : _) (x : _) → f ≡ F.Import n i x → Declares s w count f count w
  declare_import n i x e = nothing (ap (declared_in s) e)

  pub declare_item : (i : _) (es : _) (x : _) → f ≡ F.Item i es x → Declares s w count f count w
  declare_item i es x e = nothing (ap (declared_in s) e)

  pub declare_export : (n : _) (k : _) (x : _) → f ≡ F.Export n k x → Declares s w count f count w
  declare_export n k x e = nothing (ap (declared_in s) e)

  pub declare_start : (x : _) → f ≡ F.Start x → Declares s w count f count w
  declare_start x e = nothing (ap (declared_in s) e)

  pub declare_elem : (i : _) (m : _) (xs : _) → f ≡ F.Elem i m xs → Declares s w count f count w
  declare_elem i m xs e = nothing (ap (declared_in s) e)

  pub declare_data : (i : _) (m : _) (d : _) → f ≡ F.Data i m d → Declares s w count f count w
  declare_data i m d e = nothing (ap (declared_in s) e)

pub ruleset declares = (declare_type_lem, declare_import, declare_item, declare_export, declare_start, declare_elem, declare_data)

-- ## The fields of a record

field-declares : (s : Bytes) (r : ℕ) (next : Space → ℕ) (f : Field) (b : Body Identifier) → declared (map (λ z. (r, z)) (fields_of next (field_of s f) b)) ≡ declared_in s f
unfolding declared declared_by fields_of signature_of types_of
field-declares s r next (F.Type i ps rs) b = refl
field-declares s r next (F.Import n i x) b = refl
field-declares s r next (F.Item i es x) b = item-declares r (id_of s i) b (source_space (source_of s x)) (next (source_space (source_of s x))) (list_of string s es) (source_of s x)
field-declares s r next (F.Export n k x) b = refl
field-declares s r next (F.Start x) b = refl
field-declares s r next (F.Elem i m xs) b = refl
field-declares s r next (F.Data i m d) b = refl

-- ## The count of types

counting-long : (seen : Seen) (ks : List Space) → length (counting seen ks).counts ≡ length seen.counts
unfolding counting one_more
counting-long seen [] = refl
counting-long seen (k ∷ ks) = length-set (counting seen ks).counts (code k) _ ∙ counting-long seen ks

-- an item of another space
other-space : (seen : Seen) (k : Space) → (code k ≡ 4 → ⊥) → count_of (one_more seen k) types ≡ count_of seen types
unfolding one_more
other-space seen k h = get_or-set_other seen.counts (code k) 4 _ 0 (λ e. h (sym e))

extern_other : {T : Type 0} (d : ExternType T) → code (extern_space d) ≡ 4 → ⊥
unfolding extern_space
extern_other (Syntax.func t) e = omega arith
extern_other (Syntax.table t) e = omega arith
extern_other (Syntax.mem l) e = omega arith
extern_other (Syntax.global g) e = omega arith

own-other : (o : Own Identifier) → code (own_space o) ≡ 4 → ⊥
unfolding own_space
own-other (Syntax.own_func t ls) e = omega arith
own-other (Syntax.own_table t) e = omega arith
own-other (Syntax.own_mem l) e = omega arith
own-other (Syntax.own_global t c) e = omega arith

source-count : (seen : Seen) (x : Source Identifier) → count_of (counting seen (source_space x ∷ segments x)) types ≡ count_of seen types
unfolding counting source_space segments
source-count seen (Syntax.own o) = other-space seen (own_space o) (own-other o)
source-count seen (Syntax.imported n d) = other-space seen (extern_space d) (extern_other d)
source-count seen (Syntax.table_of w xs) = other-space (one_more seen elems) tables (λ e. omega arith) ∙ other-space seen elems (λ e. omega arith)
source-count seen (Syntax.mem_of w d) = other-space (one_more seen datas) mems (λ e. omega arith) ∙ other-space seen datas (λ e. omega arith)

field-count : (s : Bytes) (seen : Seen) (f : Field) → length seen.counts ≡ 7 → HasRoom (count_of seen types) f
    → count_of (seen_with seen (field_of s f)) types ≡ count_of seen types + length (declared_in s f)
unfolding seen_with counting brings one_more up
field-count s seen (F.Type i ps rs) l h = get_or-set_same seen.counts 4 _ 0 (omega arith) ∙ rw (lt-ltb (get_or seen.counts 4 0) 256 h)
field-count s seen (F.Import n i x) l h = other-space seen (extern_space (extern_is s x)) (extern_other (extern_is s x)) ∙ omega arith
field-count s seen (F.Item i es x) l h = source-count seen (source_of s x) ∙ omega arith
field-count s seen (F.Export n k x) l h = omega arith
field-count s seen (F.Start x) l h = omega arith
field-count s seen (F.Elem i m xs) l h = other-space seen elems (λ e. omega arith) ∙ omega arith
field-count s seen (F.Data i m d) l h = other-space seen datas (λ e. omega arith) ∙ omega arith

-- ## The loop

-- the types so far, and those that are ahead
pub record Declaring (s : Bytes) (w₀ w : List ℕ) (c : Cursor) (count : ℕ) : Type 0 where
  pub same : type_table count s w TYPES ++ declared (fields_ahead c s) ≡ declared (fields_in s)
  pub number : count ≡ count_of c.seen types
  pub seven : length c.seen.counts ≡ 7
  pub indexed : Indexed s w count
  pub kept : Kept TYPES w₀ w
  pub ahead : Ahead s w c
  pub long : length w ≡ length w₀

pub declaring_begin : (s w : List ℕ) (c : Cursor) → c ≡ begin → Indexed s w 0 → Ahead s w begin → Declaring s w w c 0
unfolding type_table fields_in begin
declaring_begin s w c e i a = record { same = rw e; number = rw e; seven = rw e; indexed = i; kept = kept_same TYPES w; ahead = rw e a; long = refl }

module _ (s : Bytes) (w₀ w : List ℕ) (c : Cursor) (count : ℕ) (v : Declaring s w₀ w c count) where
  -- nothing that is ahead declares a type
  done : declared (fields_ahead c s) ≡ [] → DeclaredAll s w₀ count w
  done e = record {
    types = sym (append-nil (type_table count s w TYPES)) ∙ ap (λ (l : List FuncType). type_table count s w TYPES ++ l) (sym e) ∙ v.same;
    indexed = v.indexed;
    kept = v.kept;
  }

  -- all that were counted are there
  pub declaring_found : (total : ℕ) → total ≡ get_or w₀ DECLARED 0 → get_or w₀ DECLARED 0 ≡ length (declared (fields_in s)) → total ≤ count → DeclaredAll s w₀ count w
  declaring_found total e f h =
      let a = length-append (type_table count s w TYPES) (declared (fields_ahead c s)) in
      let b = ap length v.same in
      let t = table-length count s w TYPES in
      done (nothing_left (declared (fields_ahead c s)) (omega arith))
    where
      nothing_left : (ts : List FuncType) → length ts ≡ 0 → ts ≡ []
      nothing_left [] h = refl
      nothing_left (t ∷ ts) h = absurd (omega arith)

  module _ (m : Met) (told : visit_in c.left c s ≡ visit_of s m) where
    pub declaring_done : m.what ≡ None → DeclaredAll s w₀ count w
    unfolding declared
    declaring_done d = done (ap (λ (l : Numbered Identifier). declared l) (visit_done s c m told d))

    module _ (f : Field) (here : ℕ) (is : m.what ≡ Some (f, here)) where
      pub has_room : HasRoom count f
      unfolding room_of
      has_room = go f (visit_read s c m told f here is)
        where
          go : (f : Field) → field_rec (room_of c.seen) s c.at ≡ got (field_of s f) here → HasRoom count f
          go (F.Type i ps rs) e =
              let n = v.number in
              rw n (ltb-true (count_of c.seen types) 256 (type-room (room_of c.seen) s c.at (id_of s i) (record { params = list_of val_type s ps; results = list_of val_type s rs }) here e))
          go (F.Import n i x) e = tt
          go (F.Item i es x) e = tt
          go (F.Export n k x) e = tt
          go (F.Start x) e = tt
          go (F.Elem i j xs) e = tt
          go (F.Data i j d) e = tt

      pub declaring_again : (n : ℕ) (w' : List ℕ) → Declares s w count f n w' → Declaring s w₀ w' m.next n
      unfolding fields_here cursor_after seen_with
      declaring_again n w' a =
          let room = has_room in
          let num = v.number in
          let long : n ≡ count + length (declared_in s f) =
          sym (table-length n s w' TYPES) ∙ ap length a.types ∙ length-append (type_table count s w TYPES) (declared_in s f) ∙ ap (λ z. z + length (declared_in s f)) (table-length count s w TYPES) in
          let next = visit_next s c m told f here is in
          let split : declared (fields_ahead c s) ≡ declared_in s f ++ declared (fields_ahead m.next s) =
          ap declared (visit_fields s c m told f here is) ∙ declared-append _ (fields_ahead m.next s)
          ∙ ap (λ (l : List FuncType). l ++ declared (fields_ahead m.next s)) (field-declares s c.rec (count_of c.seen) f _) in
          record {
            same = ap (λ (l : List FuncType). l ++ declared (fields_ahead m.next s)) a.types ∙ append_assoc (type_table count s w TYPES) (declared_in s f) (declared (fields_ahead m.next s))
                ∙ ap (λ (l : List FuncType). type_table count s w TYPES ++ l) (sym split) ∙ v.same;
            number = long ∙ ap (λ z. z + length (declared_in s f)) num ∙ sym (field-count s c.seen f v.seven (rw num at room)) ∙ ap (λ (z : Cursor). count_of z.seen types) (sym next);
            seven = ap (λ (z : Cursor). length z.seen.counts) next ∙ counting-long c.seen (brings (field_of s f)) ∙ v.seven;
            indexed = a.indexed;
            kept = kept_then v.kept a.kept;
            ahead = ahead-kept s w w' m.next a.kept (visit_ahead s c m told f here is w v.ahead);
            long = a.kept.long ∙ v.long;
          }

-- ## All of them

-- the index is emptied first
module _ (s w w₁ : List ℕ) (e : Emptied w w₁) where
  emptied_kept : Kept TYPES w w₁
  emptied_kept = kept_less TYPES HEADS (omega arith) e.heads.inside.kept

  pub emptied_lent : Lent s w → Lent s w₁
  emptied_lent l = record { stream = l.stream; area = omega (arith, l.area, emptied_kept.long) }

  pub emptied_indexed : Indexed s w₁ 0
  emptied_indexed = index-none s w w₁ e

  pub emptied_ahead : Ahead s w begin → Ahead s w₁ begin
  emptied_ahead a = ahead-kept s w w₁ begin emptied_kept a

  pub emptied_count : (n : ℕ) → get_or w DECLARED 0 ≡ n → get_or w₁ DECLARED 0 ≡ n
  emptied_count n d = kept_word emptied_kept 4 (omega arith) ∙ d

  pub emptied_declared : (n : ℕ) (w' : List ℕ) → DeclaredAll s w₁ n w' → DeclaredAll s w n w'
  emptied_declared n w' a = record { types = a.types; indexed = a.indexed; kept = kept_then emptied_kept a.kept }
