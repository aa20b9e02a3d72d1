-- The functions that fields bring: of one field, of all.
use Rattle.std.specs.Prelude.{Some, None}
use Prim.Native.Nat.{ℕ, suc, ◌+◌, ◌*◌, ◌^◌, ◌≤◌, ◌<◌}
use mathlib.Core.Path.{◌≡◌, refl, sym, ◌∙◌, ap, subst}
use mathlib.Core.List.{List, [], ◌∷◌, ◌++◌, map, append_assoc, append-nil}
use lib.ListN.{length, length-append}
use native.Mathlib.Omega.{arith}
use Rattle.definition.specs.Basic.{concat_map}
use Rattle.definition.specs.Syntax as Syntax
use Rattle.definition.specs.Syntax.{Bytes, Identifier, Space, FuncType, number, own_index, export_f}
use Rattle.definition.specs.Token as Token
use Rattle.definition.specs.Deinline.{Numbered, fields_of, source_fields}
use Rattle.definition.specs.Types as Types
use Rattle.definition.specs.Types.{uses, used_at}
use Rattle.definition.specs.Names.{Namespace, Scope}
use Rattle.emit.proofs.Laws.{put-none}
use Rattle.area.specs.Layout.{WORDS}
use Rattle.syntax.specs.TypeUses.{list_of, use_of}
use Rattle.syntax.specs.declared.List as Code
use Rattle.syntax.specs.declared.TypeUse.{TypeUse}
use Rattle.syntax.specs.declared.Extern.TheVariants as X
use Rattle.syntax.specs.declared.Own.{Own}
use Rattle.syntax.specs.declared.Own.TheVariants as O
use Rattle.syntax.specs.declared.Source.{Source}
use Rattle.syntax.specs.declared.Source.TheVariants as S
use Rattle.syntax.specs.Fields.{field_of}
use Rattle.syntax.specs.declared.Field.{Field}
use Rattle.syntax.specs.declared.Field.TheVariants as F
use Rattle.type_table.specs.Table.{types_in, Recalled}
use Rattle.walk.specs.Walk.{Ahead, begin, fields_in, fields_ahead, fields_here, visit_in, visit_of}
use Rattle.walk.specs.declared.Cursor.{Cursor}
use Rattle.walk.specs.declared.Met.{Met}
use Rattle.walk.proofs.Steps.{visit_done, visit_less, visit_fields, visit_ahead}
use Rattle.laws.proofs.Uses.{uses-append}
use Rattle.scope.specs.Scope.{scope_in}
use Rattle.scope.proofs.Frames.{recalled-left, recalled_right}
use Rattle.deinline.specs.Entry.{uses_of, item_in, second_of, three}
use Rattle.deinline.proofs.Uses.{RecalledThree, recalled-here}
use Rattle.deinline.specs.Surveyed.{Surveyed}
use Rattle.definition.specs.NameSection as Definition
use Rattle.definition.specs.NameSection.{NameMap, named_from, imported_function, function_in, functions, unless_empty, local_names_from, indirect_name_assoc}
use Rattle.name_maps.specs.Maps.{first, Adds, LocalNames, Few, function_of_own, function_of_source, function_of, own_locals, brought_locals, RecalledOf}
use Rattle.name_maps.specs.declared.map.Reached.{Reached}
use Rattle.name_maps.specs.declared.functions.Function.{Function}
use Rattle.name_maps.specs.declared.functions.Function.TheVariants as N
use Rattle.name_maps.proofs.Maps.{concat_append, adds_none, adds_then}

-- ## Which function a field brings: a case at a time, as a match gives it

pub is-own : (o x : Own) (r : Function) → o ≡ x → r ≡ function_of_own x → r ≡ function_of_own o
is-own o x r d h = rw d h

pub is-source : (o x : Source) (r : Function) → o ≡ x → r ≡ function_of_source x → r ≡ function_of_source o
is-source o x r d h = rw d h

pub is_field : (o x : Field) (r : Function) → o ≡ x → r ≡ function_of x → r ≡ function_of o
is_field o x r d h = rw d h

-- ## The function of a field

module _ (Γ : Scope Identifier) (s : Bytes) (r : ℕ) (f : Function) (x : Reached) (old : Bytes) where
  pub function_none : f ≡ N.Nothing → length old * 1 < 2 ^ 63 → LocalNames (brought_locals Γ s r f) x old x old
  unfolding local_names_from
  function_none e g = rw e (adds_none indirect_name_assoc x old g)

  pub function_imported : f ≡ N.Imported → length old * 1 < 2 ^ 63 → LocalNames (brought_locals Γ s r f) x old (record { at = x.at; number = x.number + 1; count = x.count }) old
  unfolding local_names_from named_from concat_map
  function_imported e g = rw e (record { put = put-none x.at (omega arith); number = refl; count = omega arith })

  pub function_own : (t : TypeUse) (ls : Code.List) (y : Reached) (new : Bytes) → f ≡ N.Own t ls → LocalNames (own_locals Γ s r t ls ∷ []) x old y new → LocalNames (brought_locals Γ s r f) x old y new
  function_own t ls y new e v = rw e v

pub function_uses : (s w : List ℕ) (ts : List FuncType) (r : ℕ) (f : Function) (t : TypeUse) (ls : Code.List) → f ≡ N.Own t ls → RecalledOf s w ts r f → Recalled w ts (used_at r (Types.use_of (use_of s t)))
function_uses s w ts r f t ls e v = rw e at v

-- ## All functions

names-append : (n : ℕ) (ls ms : List (Namespace Identifier)) → local_names_from n (ls ++ ms) ≡ local_names_from n ls ++ local_names_from (n + length ls) ms
unfolding local_names_from
names-append n [] ms = let e : n + 0 ≡ n = omega arith in rw e refl
names-append n (l ∷ ls) ms =
    let e : n + suc (length ls) ≡ n + 1 + length ls = omega arith in
    rw (e, names-append (n + 1) ls ms) (sym (append_assoc (unless_empty n (named_from 0 l)) (local_names_from (n + 1) ls) (local_names_from (n + 1 + length ls) ms)))

names-few : (n : ℕ) (ls : List (Namespace Identifier)) → length (local_names_from n ls) ≤ length ls
unfolding local_names_from
names-few n [] = omega arith
names-few n (l ∷ ls) = go (named_from 0 l) (names-few (n + 1) ls)
  where
    go : (m : NameMap) → length (local_names_from (n + 1) ls) ≤ length ls → length (unless_empty n m ++ local_names_from (n + 1) ls) ≤ suc (length ls)
    go [] h = omega arith
    go (a ∷ m) h = omega arith

locals_then : (ls ms : List (Namespace Identifier)) {x y z : Reached} {a b c : Bytes} → LocalNames ls x a y b → LocalNames ms y b z c → LocalNames (ls ++ ms) x a z c
locals_then ls ms {x} {y} {z} {a} {b} {c} v w =
    let e = v.number in
    let w' : Adds indirect_name_assoc (local_names_from (x.number + length ls) ms) (length ms) y b z c = rw (← e) w in
    rw (names-append x.number ls ms, length-append ls ms) (adds_then v w')

brought-few : (Γ : Scope Identifier) (s : Bytes) (r : ℕ) (f : Function) → length (brought_locals Γ s r f) ≤ 1
brought-few Γ s r N.Nothing = omega arith
brought-few Γ s r N.Imported = omega arith
brought-few Γ s r (N.Own t ls) = omega arith

-- the functions of a record's fields: exports bring none
module _ (Γ : Scope Identifier) where
  exports_bring : (r : ℕ) (k : Space) (n : ℕ) (es : List Bytes) (fs : List (Syntax.Field Identifier))
      → functions Γ (map (λ x. (r, x)) (map (λ e. export_f e k (own_index n)) es ++ fs)) ≡ functions Γ (map (λ x. (r, x)) fs)
  unfolding functions concat_map function_in
  exports_bring r k n [] fs = refl
  exports_bring r k n (e ∷ es) fs = exports_bring r k n es fs

  module _ (s : Bytes) (c next : Cursor) where
    functions-here : (f : Field) (here : ℕ) → functions Γ (fields_here c s (record { field = field_of s f; head_end = here; next = next })) ≡ brought_locals Γ s c.rec (function_of f)
    unfolding fields_here fields_of source_fields functions concat_map function_in imported_function Definition.own_function own_locals
    functions-here (F.Type i ps rs) here = refl
    functions-here (F.Import n i (X.Func t)) here = refl
    functions-here (F.Import n i (X.Table t)) here = refl
    functions-here (F.Import n i (X.Mem l)) here = refl
    functions-here (F.Import n i (X.Global t)) here = refl
    functions-here (F.Export n k x) here = refl
    functions-here (F.Start x) here = refl
    functions-here (F.Elem i m xs) here = refl
    functions-here (F.Data i m d) here = refl
    functions-here (F.Item i es (S.Own (O.Func t ls))) here = exports_bring _ _ _ (list_of Token.string s es) _
    functions-here (F.Item i es (S.Own (O.Table t))) here = exports_bring _ _ _ (list_of Token.string s es) _
    functions-here (F.Item i es (S.Own (O.Mem l))) here = exports_bring _ _ _ (list_of Token.string s es) _
    functions-here (F.Item i es (S.Own (O.Global t k))) here = exports_bring _ _ _ (list_of Token.string s es) _
    functions-here (F.Item i es (S.Imported n (X.Func t))) here = exports_bring _ _ _ (list_of Token.string s es) _
    functions-here (F.Item i es (S.Imported n (X.Table t))) here = exports_bring _ _ _ (list_of Token.string s es) _
    functions-here (F.Item i es (S.Imported n (X.Mem l))) here = exports_bring _ _ _ (list_of Token.string s es) _
    functions-here (F.Item i es (S.Imported n (X.Global t))) here = exports_bring _ _ _ (list_of Token.string s es) _
    functions-here (F.Item i es (S.TableOf w xs)) here = exports_bring _ _ _ (list_of Token.string s es) _
    functions-here (F.Item i es (S.MemOf w d)) here = exports_bring _ _ _ (list_of Token.string s es) _

-- the number of its type use
uses_of_lem : (s w : List ℕ) (ts : List FuncType) (c : Cursor) (f : Field) (here : ℕ) → RecalledThree w ts s c.rec (three f c.seen here) → RecalledOf s w ts c.rec (function_of f)
unfolding uses_of three item_in second_of
uses_of_lem s w ts c (F.Type i ps rs) here v = tt
uses_of_lem s w ts c (F.Import n i (X.Func t)) here v = tt
uses_of_lem s w ts c (F.Import n i (X.Table t)) here v = tt
uses_of_lem s w ts c (F.Import n i (X.Mem l)) here v = tt
uses_of_lem s w ts c (F.Import n i (X.Global t)) here v = tt
uses_of_lem s w ts c (F.Export n k x) here v = tt
uses_of_lem s w ts c (F.Start x) here v = tt
uses_of_lem s w ts c (F.Elem i m xs) here v = tt
uses_of_lem s w ts c (F.Data i m d) here v = tt
uses_of_lem s w ts c (F.Item i es (S.Own (O.Func t ls))) here v = v.second
uses_of_lem s w ts c (F.Item i es (S.Own (O.Table t))) here v = tt
uses_of_lem s w ts c (F.Item i es (S.Own (O.Mem l))) here v = tt
uses_of_lem s w ts c (F.Item i es (S.Own (O.Global t k))) here v = tt
uses_of_lem s w ts c (F.Item i es (S.Imported n (X.Func t))) here v = tt
uses_of_lem s w ts c (F.Item i es (S.Imported n (X.Table t))) here v = tt
uses_of_lem s w ts c (F.Item i es (S.Imported n (X.Mem l))) here v = tt
uses_of_lem s w ts c (F.Item i es (S.Imported n (X.Global t))) here v = tt
uses_of_lem s w ts c (F.Item i es (S.TableOf b xs)) here v = tt
uses_of_lem s w ts c (F.Item i es (S.MemOf b d)) here v = tt

functions-append : (Γ : Scope Identifier) (fs gs : Numbered Identifier) → functions Γ (fs ++ gs) ≡ functions Γ fs ++ functions Γ gs
unfolding functions
functions-append Γ fs gs = concat_append (λ x. function_in Γ x.0 x.1) fs gs

-- the functions before the cursor are done
pub record Walking (s w old : List ℕ) (here : ℕ) (c : Cursor) (x : Reached) (out : List ℕ) : Type 0 where
  pub room : WORDS ≤ length w
  pub ahead : Ahead s w c
  pub recalled : Recalled w (types_in s w) (uses (fields_ahead c s))
  pub sum : x.number + c.left ≤ 4096
  pub fewer : x.count ≤ x.number
  pub done : List (Namespace Identifier)
  pub so_far : LocalNames done (first here 0) old x out
  pub same : done ++ functions (scope_in s w) (fields_ahead c s) ≡ functions (scope_in s w) (fields_in s)

begin-left : 0 + begin.left ≤ 4096
unfolding begin
begin-left = omega arith

pub walking_begin : (s w old : List ℕ) (here : ℕ) (c : Cursor) (x : Reached) → c ≡ begin → x ≡ first here 0 → Surveyed s w → length old * 1 < 2 ^ 63 → Walking s w old here c x old
unfolding fields_in local_names_from
walking_begin s w old here c x e d v h = rw (e, d) (record {
  room = v.room;
  ahead = v.ahead;
  recalled = v.recalled;
  sum = begin-left;
  fewer = omega arith;
  done = [];
  so_far = adds_none indirect_name_assoc (first here 0) old h;
  same = refl;
})

module _ (s w old : List ℕ) (here : ℕ) (c : Cursor) (x : Reached) (out : List ℕ) (v : Walking s w old here c x out) where
  pub walking_few : Few 4096 x
  walking_few = record { low = omega (arith, v.sum); fewer = v.fewer }

  pub walking_long : length out ≡ length old
  walking_long = v.so_far.put.long

  module _ (m : Met) (told : visit_in c.left c s ≡ visit_of s m) where
    pub walking_done : m.what ≡ None → LocalNames (functions (scope_in s w) (fields_in s)) (first here 0) old x out
    unfolding functions concat_map
    walking_done is =
        let e = visit_done s c m told is in
        let d : v.done ≡ functions (scope_in s w) (fields_in s) = sym (append-nil v.done) ∙ ap (λ fs. v.done ++ functions (scope_in s w) fs) (sym e) ∙ v.same in
        rw (← d) v.so_far

    module _ (f : Field) (end : ℕ) (is : m.what ≡ Some (f, end)) where
      abbrev now : Numbered Identifier
      now = fields_here c s (record { field = field_of s f; head_end = end; next = m.next })

      used : Recalled w (types_in s w) (uses now ++ uses (fields_ahead m.next s))
      used = subst (Recalled w (types_in s w)) (ap uses (visit_fields s c m told f end is) ∙ uses-append now (fields_ahead m.next s)) v.recalled

      -- its functions, and the others
      parts : functions (scope_in s w) (fields_ahead c s) ≡ brought_locals (scope_in s w) s c.rec (function_of f) ++ functions (scope_in s w) (fields_ahead m.next s)
      parts =
          ap (functions (scope_in s w)) (visit_fields s c m told f end is)
          ∙ functions-append (scope_in s w) now (fields_ahead m.next s)
          ∙ ap (λ z. z ++ functions (scope_in s w) (fields_ahead m.next s)) (functions-here (scope_in s w) s c m.next f end)

      module _ (g : Function) (by : g ≡ function_of f) where
        pub walking_uses : RecalledOf s w (types_in s w) c.rec g
        walking_uses = rw by (uses_of_lem s w (types_in s w) c f end (recalled-here w (types_in s w) s c m.next f end
            (recalled-left w (types_in s w) (uses now) (uses (fields_ahead m.next s)) used)))

        pub walking_again : (y : Reached) (new : List ℕ) → LocalNames (brought_locals (scope_in s w) s c.rec g) x out y new → Walking s w old here m.next y new
        walking_again y new q =
            let brought : List (Namespace Identifier) = brought_locals (scope_in s w) s c.rec (function_of f) in
            let q' : LocalNames brought x out y new = rw (← by) q in
            let less = visit_less s c m told f end is in
            let one = brought-few (scope_in s w) s c.rec (function_of f) in
            record {
              room = v.room;
              ahead = visit_ahead s c m told f end is w v.ahead;
              recalled = recalled_right w (types_in s w) (uses now) (uses (fields_ahead m.next s)) used;
              sum = omega (arith, v.sum, q'.number);
              fewer = omega (arith, v.fewer, q'.number, q'.count, names-few x.number brought);
              done = v.done ++ brought;
              so_far = locals_then v.done brought v.so_far q';
              same = append_assoc v.done brought (functions (scope_in s w) (fields_ahead m.next s)) ∙ ap (λ z. v.done ++ z) (sym parts) ∙ v.same;
            }
